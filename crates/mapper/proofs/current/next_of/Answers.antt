use Rattle.std.proofs.Common.{sym, subst}
use Rattle.std.proofs.lemmas.Result.{IfOk-weaker}
use Rattle.map_model.specs.Market.{Market}
use Rattle.map_model.specs.Batch.{IsApplied}
use Rattle.map_model.proofs.Shapes.{shape_trans}
use Rattle.map_repair.specs.Repaired.{IsWithinTwiceSpread}
use Rattle.map_repair.proofs.Agree.{repaired_is}
use Rattle.mapper.proofs.Nexts.{both, makes}
use Rattle.mapper.proofs.current.next_of.Goals as goal

pub dressed-requires-clause-shape : goal.dressed-requires-clause-shape
dressed-requires-clause-shape g c = shape_trans c.args.topology.now.market c.args.old.now.instance c.args.instance c.requires.shape.0 c.requires.shape.1

pub returns-clause-makes : goal.returns-clause-makes
returns-clause-makes g c = λ changes applied.
    both c.dressed.result c.dressed.ensures.parts c.dressed.ensures.current (λ new parts current.
    makes c.args.topology.now c.args.old.now new changes
    (subst (λ (m : Market). IsApplied c.args.old.now.instance changes m) (sym parts.0) applied)
    (rw (parts.0, parts.1) c.in_ok-map.ensures.good) (rw (parts.0, parts.1) c.in_ok-map.ensures.kept) (rw (parts.0, parts.1) c.in_ok-map.ensures.local)
    (rw (parts.0, parts.1) (repaired_is c.args.old.now.instance c.args.old.now.map.lines.items c.args.instance c.in_ok-map.map.lines.items c.args.steps.now c.repaired.new.steps c.in_ok-map.ensures.counted c.in_ok-map.ensures.good.stable)) current)

pub returns-clause-counted : goal.returns-clause-counted
returns-clause-counted g c = IfOk-weaker c.dressed.result _ _ (λ new parts. rw (parts.0, parts.1) c.in_ok-map.ensures.counted) c.dressed.ensures.parts

pub returns-clause-steps : goal.returns-clause-steps
returns-clause-steps g c = IfOk-weaker c.dressed.result _ _ (λ new parts. subst (λ (m : Market). IsWithinTwiceSpread c.args.old.now.instance c.args.old.now.map.lines.items m c.args.steps.now c.repaired.new.steps) (sym parts.0) c.in_ok-map.ensures.steps) c.dressed.ensures.parts
