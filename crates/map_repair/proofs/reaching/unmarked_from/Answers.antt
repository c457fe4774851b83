use Rattle.std.proofs.Common.{◌<◌, length, inl, inr, sym, ap, ◌∙◌, arith}
use Rattle.std.proofs.lemmas.Bool.{cases_eq}
use Rattle.map_model.specs.Progress.{root_of}
use Rattle.map_repair.specs.Marks.{is_on}
use Rattle.move_up.proofs.InTrees.{root_in}
use Rattle.map_repair.proofs.reaching.unmarked_from.Goals as goal

pub is_on-requires : goal.is_on-requires
is_on-requires c =
    let there : c.loop-n.n < length c.args.old.now.nodes = omega (arith, c.loop-n-test.true, c.nodes-n-end.ensures.count) in
    let at = root_in c.args.old.now c.args.state.now c.requires.ready.market c.requires.ready.shape c.loop-n.n c.root.result.0 there c.root.ensures in
    omega (arith, at.1, c.requires.size)

pub loop-n-preserved : goal.loop-n-preserved
loop-n-preserved c = record {
  marked = λ n l. elim (cases_eq n c.loop-n.n) [
    | inl same ↦
        let there : c.loop-n.n < length c.args.old.now.nodes = omega (arith, c.loop-n-test.true, c.nodes-n-end.ensures.count) in
        let at = root_in c.args.old.now c.args.state.now c.requires.ready.market c.requires.ready.shape c.loop-n.n c.root.result.0 there c.root.ensures in
        ap (λ x. is_on c.args.marks.now.on (root_of c.args.old.now x)) same ∙ ap (is_on c.args.marks.now.on) (sym at.0) ∙ sym c.is_on.ensures ∙ c.if-not-is_on.false
    | inr apart ↦ c.loop-n.invariant.marked n (omega (arith, l, apart))
  ];
}
