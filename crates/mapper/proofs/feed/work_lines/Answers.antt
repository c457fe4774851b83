use Rattle.mapper.proofs.Together.{ended_all, fault_all, keeps_all, whole_all}
use Rattle.mapper.proofs.feed.work_lines.Goals as goal

pub returns-clause-keeps : goal.returns-clause-keeps
returns-clause-keeps g c =
    let run = c.run_lines.ensures.run in
    keeps_all g.K.Sink.told g.M.Pace.told c.run_lines.result c.args.topology.now c.args.turns run.0 (g.S.Source.told c.args.feed.now).past (g.S.Source.told c.run_lines.new.feed).past c.args.desk.now c.run_lines.new.to run.2

pub returns-clause-run : goal.returns-clause-run
returns-clause-run g c =
    let run = c.run_lines.ensures.run in
    (run.0, run.1, ended_all g.K.Sink.told g.M.Pace.told c.run_lines.result c.args.topology.now c.args.turns run.0 (g.S.Source.told c.args.feed.now).past (g.S.Source.told c.run_lines.new.feed).past c.args.desk.now c.run_lines.new.to run.2)

pub returns-clause-sink : goal.returns-clause-sink
returns-clause-sink g c = λ is.
    let run = rw is at c.run_lines.ensures.run in
    fault_all g.K.Sink.told g.M.Pace.told c.args.topology.now c.args.turns run.0 (g.S.Source.told c.args.feed.now).past (g.S.Source.told c.run_lines.new.feed).past c.args.desk.now c.run_lines.new.to run.2

pub returns-clause-whole : goal.returns-clause-whole
returns-clause-whole g c = λ whole.
    let run = c.run_lines.ensures.run in
    whole_all g.K.Sink.told g.M.Pace.told c.run_lines.result c.args.topology.now c.args.turns run.0 (g.S.Source.told c.args.feed.now).past (g.S.Source.told c.run_lines.new.feed).past c.args.desk.now c.run_lines.new.to whole run.2
