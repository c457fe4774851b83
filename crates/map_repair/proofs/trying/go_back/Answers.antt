use Rattle.std.proofs.lemmas.Result.{on_ok_weaker}
use Rattle.map_repair.proofs.Middle.{IsMiddle, can_roll_back}
use Rattle.map_repair.proofs.Ways.{can_cut, resumed_back, run_out}
use Rattle.map_repair.proofs.trying.go_back.Given.{Over}
use Rattle.map_repair.proofs.trying.go_back.Goals.{After-cut_and_trim}
use Rattle.map_repair.proofs.trying.go_back.Goals as goal

middle : (g : Over) (c : After-cut_and_trim g) → IsMiddle c.args.old.now c.args.new.now c.args.state.now c.cut_and_trim.new.state c.args.marks.now
middle g c = record { market = c.groups-groups.ensures.market; shape = c.requires.shape; of = c.requires.of_map; reached = c.requires.marks; cut = c.cut_and_trim.ensures }

pub cut_and_trim-requires : goal.cut_and_trim-requires
cut_and_trim-requires g c = can_cut c.args.old.now c.args.new.now c.args.state.now c.groups-groups.ensures.market c.requires.shape c.requires.of_map

pub roll_back-requires : goal.roll_back-requires
roll_back-requires g c = can_roll_back _ _ _ _ _ (middle g (goal.at.roll_back-requires g c).After-cut_and_trim)

pub returns-clause-resumed : goal.returns-clause-resumed
returns-clause-resumed g c =
    let run = c.run.ensures in
    on_ok_weaker c.run.result
    (λ out. resumed_back c.args.old.now c.args.new.now c.args.state.now c.cut_and_trim.new.state c.args.marks.now (middle g (goal.at.returns-clause-resumed g c).After-cut_and_trim) c.run.new.state c.args.steps.now c.run.new.steps c.roll_back.new.state c.roll_back.ensures out)
    (run_out c.run.result c.args.new.now c.roll_back.new.state c.run.new.state c.args.steps.now c.run.new.steps run.run run.ended run.wanted run.counted run.inside)
