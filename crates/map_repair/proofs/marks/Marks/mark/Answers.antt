use Rattle.std.proofs.Common.{◌≡◌, ◌<◌, true, false, List, length, slice_set, ap, sym, ◌∙◌, subst, arith}
use Rattle.std.proofs.lemmas.List.{get_or_default}
use Rattle.map_model.specs.declared.instance.NodeId.{NodeId}
use Rattle.map_repair.specs.Marks.{IsMarking, Marking, is_on}
use Rattle.map_repair.proofs.Marking.{marking_one}
use Rattle.map_repair.proofs.marks.Marks.mark.Goals as goal

pub returns-clause-marking : goal.returns-clause-marking
returns-clause-marking c =
    let on = c.self.inside.on.items in
    let r = c.args.root in
    let there : r.0 < length on = omega (arith, ap (λ (x : Marking). length x.on) c.self.view_is, c.requires) in
    let off : is_on on r.0 ≡ false = sym (c.index.ensures ∙ get_or_default on r.0 c.index.result.now false there) ∙ c.if-index.false in
    let made = marking_one (record { on = on; pending = c.self.inside.pending.items }) r there off in
    subst (λ (x : Marking). IsMarking x (record { on = slice_set on r.0 true; pending = c.push.new.self.items })) c.self.view_is
    (subst (λ (ps : List NodeId). IsMarking (record { on = on; pending = c.self.inside.pending.items }) (record { on = slice_set on r.0 true; pending = ps })) (sym c.in_ok-push.ensures.items) made)
