-- A repaired map is determined by the old instance, the old map and the new instance.
use Rattle.std.proofs.Common.{◌≡◌, ℕ, ◌<◌, Bool, true, false, List, length, slice_index, slice_index_or, sym, ap, ◌∙◌, subst, inl, inr}
use Rattle.std.proofs.lemmas.Bool.{cases_Bool}
use Rattle.map_model.specs.declared.lines.MapLine.{MapLine}
use Rattle.map_model.specs.declared.lines.NameLine.{NameLine}
use Rattle.map_model.specs.Market.{Market}
use Rattle.map_model.specs.Allocation.{IsGood, IsStable, names_of}
use Rattle.map_model.specs.Progress.{IsReached, tree_of}
use Rattle.evict.specs.Standing.{IsPastWanted, Standing}
use Rattle.best_laws.specs.Ahead.{IsRightMap}
use Rattle.reopen.specs.Rolling.{IsRolledBack}
use Rattle.deferred_accept.proofs.Many.{ready_many}
use Rattle.map_laws.specs.Below.{IsBestBelow}
use Rattle.map_laws.proofs.Backs.{MarkSame, back_lines_one, backs_one, past_one}
use Rattle.map_laws.proofs.Cuts.{cut_one}
use Rattle.map_laws.proofs.Ends.{best_below, best_below_from, best_below_one, right_of}
use Rattle.map_laws.proofs.Best.{best_below_if_best}
use Rattle.map_repair.specs.Determined.{IsRepairedOf}
use Rattle.map_repair.proofs.Back.{rolled_back_exists}
use Rattle.map_repair.proofs.Below.{within_back}
use Rattle.map_repair.specs.Resumed.{HasRepaired, HasResumed}

both_true : (b c : Bool) → (b ≡ true → c ≡ true) → (c ≡ true → b ≡ true) → b ≡ c
both_true b c there back = elim (cases_Bool b) [
  | inl e ↦ e ∙ sym (there e)
  | inr e ↦ elim (cases_Bool c) [ inl f ↦ back f ∙ sym f | inr f ↦ e ∙ sym f ]
]

-- two lists that mark the reached trees mark the same
marks_one : (old : Market) (lines : List MapLine) (new m : Market) (marks others : List Bool) → ((root : ℕ) → slice_index_or marks root false ≡ true → IsReached old lines new root) → ((root : ℕ) → IsReached old lines new root → slice_index_or marks root false ≡ true)
    → ((root : ℕ) → slice_index_or others root false ≡ true → IsReached old lines new root) → ((root : ℕ) → IsReached old lines new root → slice_index_or others root false ≡ true) → MarkSame m marks others
marks_one old lines new m marks others reached all also also_all g k =
    both_true (slice_index_or marks (tree_of m g k) false) (slice_index_or others (tree_of m g k) false) (λ e. also_all (tree_of m g k) (reached (tree_of m g k) e)) (λ e. all (tree_of m g k) (also (tree_of m g k) e))

-- the repaired map is one
pub repaired_of_one : (old : Market) (lines : List MapLine) (new : Market) (a b : List MapLine) → length new.groups ≡ length old.groups → IsRepairedOf old lines new a → IsRepairedOf old lines new b → a ≡ b
repaired_of_one old lines new a b groups x y = best_below_one new y.rolled_back.ready.market y.back.lines y.back.pointers a b moved y.best
  where
    held : x.begun.from.lines ≡ y.begun.from.lines
    held = x.begun.holds ∙ sym y.begun.holds

    places : (g : ℕ) → g < length new.groups → slice_index x.begun.cut.pointers g ≡ slice_index y.begun.cut.pointers g
    places g l =
        let there : g < length old.groups = subst (λ n. g < n) groups l in
        let was : IsPastWanted old y.begun.from.lines g (slice_index x.begun.from.pointers g) = subst (λ (ls : List MapLine). IsPastWanted old ls g (slice_index x.begun.from.pointers g)) held (x.begun.of_map.pointers g there) in
        ap (λ ps. slice_index ps g) x.begun.is_cut.less.pointers
        ∙ past_one old y.begun.from.lines g (slice_index x.begun.from.pointers g) (slice_index y.begun.from.pointers g) there was (y.begun.of_map.pointers g there)
        ∙ sym (ap (λ ps. slice_index ps g) y.begun.is_cut.less.pointers)

    marks : MarkSame new x.begun.marks y.begun.marks
    marks = marks_one old lines new new x.begun.marks y.begun.marks x.begun.reached x.begun.all_reached y.begun.reached y.begun.all_reached

    cut : x.begun.cut.lines ≡ y.begun.cut.lines
    cut = cut_one new y.rolled_back.ready.market x.begun.from y.begun.from x.begun.cut y.begun.cut held x.begun.is_cut y.begun.is_cut

    moved : IsBestBelow new y.back.lines y.back.pointers a
    moved = best_below_from new x.back.lines y.back.lines x.back.pointers y.back.pointers a (back_lines_one new x.begun.marks y.begun.marks x.begun.cut y.begun.cut x.back y.back marks cut places x.rolled_back y.rolled_back) (backs_one new x.begun.marks y.begun.marks x.begun.cut y.begun.cut x.back y.back marks places x.rolled_back y.rolled_back) x.best

-- What a resumed state holds is that map: a group-best one is the best of those within the state that groups would go back to.
pub resumed_is : (old : Market) (lines : List MapLine) (new : Market) (to : Standing) (before tried after : ℕ) → HasResumed old lines new to before tried after → IsStable new to.lines → IsRepairedOf old lines new to.lines
resumed_is old lines new to before tried after r stable = elim r.way [
  | inl w ↦ is_of w.back w.rolled_back (best_below new w.proposed.count w.back to w.rolled_back.ready w.proposed.proposals stable)
  | inr w ↦
      let b : (back : Standing) × IsRolledBack new r.begun.marks r.begun.cut back = rolled_back_exists new r.begun.marks r.begun.cut r.can_go_back in
      let right : IsRightMap new to.lines = right_of new to (ready_many new w.tried.proposed.count w.tried.moved to w.tried.ready w.tried.proposed.proposals) stable in
      is_of b.0 b.1 (best_below_if_best new b.0.lines b.0.pointers to.lines right (within_back new r.begun.marks r.begun.cut w.tried.moved b.0 w.tried.is_moved b.1 to tried after w.tried.ready w.tried.proposed) w.best)
]
  where
    is_of : (back : Standing) → IsRolledBack new r.begun.marks r.begun.cut back → IsBestBelow new back.lines back.pointers to.lines → IsRepairedOf old lines new to.lines
    is_of back rolled_back best = record { begun = r.begun; back = back; rolled_back = rolled_back; best = best }

-- what a repair comes to is that map
pub repaired_is : (old : Market) (lines : List MapLine) (new : Market) (repaired : List MapLine) (before after : ℕ) → HasRepaired old lines new repaired before after → IsStable new repaired → IsRepairedOf old lines new repaired
repaired_is old lines new repaired before after x stable =
    let to : IsStable new x.to.lines = subst (λ (ls : List MapLine). IsStable new ls) (sym x.makes) stable in
    subst (λ (ls : List MapLine). IsRepairedOf old lines new ls) x.makes (resumed_is old lines new x.to before x.tried after x.resumed to)

-- so two repairs of one map for the same numbers, in whatever order offers were made, come to the same lines and names
pub repaired_one : (old : Market) (lines : List MapLine) (new : Market) (a b : List MapLine) (of_a of_b : List NameLine) (before after was now : ℕ) → length new.groups ≡ length old.groups → HasRepaired old lines new a before after → HasRepaired old lines new b was now
    → IsGood new a of_a → IsGood new b of_b → (a ≡ b) × (of_a ≡ of_b)
repaired_one old lines new a b of_a of_b before after was now groups x y good_a good_b =
    let e : a ≡ b = repaired_of_one old lines new a b groups (repaired_is old lines new a before after x good_a.stable) (repaired_is old lines new b was now y good_b.stable) in
    (e, good_a.named ∙ ap (names_of new) e ∙ sym good_b.named)
