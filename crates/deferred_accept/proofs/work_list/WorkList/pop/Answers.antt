use Rattle.std.proofs.Common.{◌≡◌, ◌<◌, Bool, true, false, List, length, slice_set, ap, subst, ℕ}
use Rattle.deferred_accept.specs.Work.{is_on}
use Rattle.deferred_accept.proofs.Listed.{first_on, first_there, listed_less, listed_none, none_left}
use Rattle.deferred_accept.proofs.work_list.WorkList.pop.Goals as goal

pub returns-in_err-group : goal.returns-in_err-group
returns-in_err-group c =
    let s = c.self.inside in
    let empty = none_left s.groups.items c.pop_front.new.self.items c.in_err-group.ensures.items c.in_err-group.ensures.rest in
    rw c.from_residual.ensures (subst (λ (on : List Bool). (h : ℕ) → h < length on → is_on on h ≡ false) c.self.view_is (listed_none s.groups.items s.is_on.items empty c.self.invariant))

pub invariant_of-self-2 : goal.invariant_of-self-2
invariant_of-self-2 c = listed_less c.self.inside.groups.items c.pop_front.new.self.items c.self.inside.is_on.items c.in_ok-group.group c.in_ok-group.ensures.items c.self.invariant

pub returns : goal.returns
returns c =
    let s = c.self.inside in
    let g = c.in_ok-group.group in (
      subst (λ (on : List Bool). g.0 < length on) c.self.view_is (first_there s.groups.items c.pop_front.new.self.items s.is_on.items g c.in_ok-group.ensures.items c.self.invariant),
      subst (λ (on : List Bool). is_on on g.0 ≡ true) c.self.view_is (first_on s.groups.items c.pop_front.new.self.items s.is_on.items g c.in_ok-group.ensures.items c.self.invariant),
      ap (λ (on : List Bool). slice_set on g.0 false) c.self.view_is,
    )
