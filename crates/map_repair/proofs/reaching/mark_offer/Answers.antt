use Rattle.std.proofs.Common.{true, false, slice_set, get_or-set_same, inl, inr, sym, ap, ◌∙◌, arith}
use Rattle.map_model.specs.Progress.{tree_of}
use Rattle.map_repair.specs.Marks.{is_on}
use Rattle.move_up.proofs.InTrees.{tree_in}
use Rattle.map_repair.proofs.Marking.{on_from_set}
use Rattle.map_repair.proofs.reaching.mark_offer.Goals as goal

pub mark-requires : goal.mark-requires
mark-requires c =
    let at = tree_in c.args.old.now c.args.state.now c.requires.ready.market c.requires.ready.shape c.args.offer.group.0 c.args.offer.place c.pool_at.result c.root-root.result.0 c.requires.offer c.pool_at.ensures c.root-root.ensures in
    omega (arith, at.1, c.requires.size)

pub returns-in_ok-mark-clause-held : goal.returns-in_ok-mark-clause-held
returns-in_ok-mark-clause-held c = λ some.
    let root = tree_of c.args.old.now c.args.offer.group.0 c.args.offer.place in
    let at = tree_in c.args.old.now c.args.state.now c.requires.ready.market c.requires.ready.shape c.args.offer.group.0 c.args.offer.place c.pool_at.result c.root-root.result.0 c.requires.offer c.pool_at.ensures c.root-root.ensures in
    ap (λ ms. is_on ms root) c.in_ok-mark.ensures.on ∙ ap (λ r. is_on (slice_set c.args.marks.now.on r true) root) at.0 ∙ get_or-set_same c.args.marks.now.on root true false (omega (arith, at.0, at.1, c.requires.size))

pub returns-in_ok-mark-clause-within : goal.returns-in_ok-mark-clause-within
returns-in_ok-mark-clause-within c = λ trees gives within n on.
    let at = tree_in c.args.old.now c.args.state.now c.requires.ready.market c.requires.ready.shape c.args.offer.group.0 c.args.offer.place c.pool_at.result c.root-root.result.0 c.requires.offer c.pool_at.ensures c.root-root.ensures in
    elim (on_from_set c.args.marks.now.on c.root-root.result.0 n (sym (ap (λ ms. is_on ms n) c.in_ok-mark.ensures.on) ∙ on)) [
      | inl e ↦ ap trees (e ∙ at.0) ∙ gives (omega (arith, c.if-units-gt0.true, c.units.ensures))
      | inr was ↦ within n was
    ]
