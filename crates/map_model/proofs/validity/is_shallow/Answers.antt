use Rattle.std.proofs.Common.{◌<◌, length, refl, subst, arith}
use Rattle.std.specs.Option.{IfSome}
use Rattle.map_model.proofs.RowTests.{there_up, deep_up, deep_none, deep_done}
use Rattle.map_model.proofs.validity.is_shallow.Goals as goal

pub returns-in-None : goal.returns-in-None
returns-in-None c = (λ _. omega (arith, deep_none c.args.nodes.now c.loop-step._step _ _ c.loop-step.at c.in-None.is c.loop-step.invariant.deep), λ _. refl)

pub loop-step-preserved : goal.loop-step-preserved
loop-step-preserved c = record {
  there = there_up c.args.nodes.now c.requires.nodes c.in-Some.node (subst (λ x. IfSome x (λ p. p.0 < length c.args.nodes.now)) c.in-Some.is c.loop-step.invariant.there);
  deep = deep_up c.args.nodes.now c.loop-step._step _ c.in-Some.node c.loop-step.at (omega arith) c.in-Some.is c.loop-step.invariant.deep;
}

pub returns : goal.returns
returns c = deep_done c.args.nodes.now c.loop-step._step _ c.loop-step.at c.is_none.result c.loop-step-test.false c.loop-step.auto._step-end c.is_none.ensures c.loop-step.invariant.deep
