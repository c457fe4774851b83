use Rattle.map_repair.specs.Ways.{IsCutAndMoved}
use Rattle.map_repair.proofs.Middle.{IsMiddle}
use Rattle.map_repair.proofs.Ways.{resumed_moved, thrown_moved}
use Rattle.map_repair.proofs.trying.try_moves.Goals as goal

pub run_to_best-requires-clause-wanted : goal.run_to_best-requires-clause-wanted
run_to_best-requires-clause-wanted g c = c.in_ok-is_resumable.ensures.wanted c.if-not-branch.false

pub returns-then-not-branch-2-clause-tried : goal.returns-then-not-branch-2-clause-tried
returns-then-not-branch-2-clause-tried g c =
    let m : IsCutAndMoved c.args.change.now.new.now c.args.marks.now c.args.state.now c.moved.new.state = c.in_ok-turns.ensures.moved in
    let ready = c.in_ok-is_resumable.ensures in
    let middle : IsMiddle c.args.change.now.old.now c.args.change.now.new.now c.args.state.now m.cut c.args.marks.now = record { market = m.is_moved.is_open.market; shape = c.requires.shape; of = c.requires.of_map; reached = c.requires.marks; cut = m.is_cut } in
    thrown_moved c.args.change.now.old.now c.args.change.now.new.now c.args.state.now m.cut c.args.marks.now middle c.run_to_best.new.state c.args.steps.now c.run_to_best.new.steps c.moved.new.state m.is_moved
    (ready.ready c.if-not-branch.false) (ready.wanted c.if-not-branch.false) c.in_ok-run_to_best.ensures.run

pub returns-clause-tried : goal.returns-clause-tried
returns-clause-tried g c =
    let m : IsCutAndMoved c.args.change.now.new.now c.args.marks.now c.args.state.now c.moved.new.state = c.in_ok-turns.ensures.moved in
    let ready = c.in_ok-is_resumable.ensures in
    let run = c.in_ok-run_to_best.ensures in
    let middle : IsMiddle c.args.change.now.old.now c.args.change.now.new.now c.args.state.now m.cut c.args.marks.now = record { market = m.is_moved.is_open.market; shape = c.requires.shape; of = c.requires.of_map; reached = c.requires.marks; cut = m.is_cut } in
    resumed_moved c.args.change.now.old.now c.args.change.now.new.now c.args.state.now m.cut c.args.marks.now middle c.run_to_best.new.state c.args.steps.now c.run_to_best.new.steps c.moved.new.state m.is_moved
    (ready.ready c.if-not-branch.false) (ready.wanted c.if-not-branch.false) run.run (run.best c.if-not-branch-2.false)
