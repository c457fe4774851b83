use Rattle.feed_queue.proofs.Sendings.{run_keeps, run_sent, run_whole}
use Rattle.feed_queue.proofs.run.send_lines.Goals as goal

pub returns-clause-keeps : goal.returns-clause-keeps
returns-clause-keeps g c =
    let run = c.run_lines.ensures.run in
    run_keeps c.run_lines.result c.args.topology.now c.args.turns run.0 (g.S.Source.told c.args.feed.now).past (g.S.Source.told c.run_lines.new.feed).past c.args.sender.now c.run_lines.new.to run.2

pub returns-clause-run : goal.returns-clause-run
returns-clause-run g c =
    let run = c.run_lines.ensures.run in
    (run.0, run.1, run_sent c.run_lines.result c.args.topology.now c.args.turns run.0 (g.S.Source.told c.args.feed.now).past (g.S.Source.told c.run_lines.new.feed).past c.args.sender.now c.run_lines.new.to run.2)

pub returns-clause-whole : goal.returns-clause-whole
returns-clause-whole g c =
    let run = c.run_lines.ensures.run in
    run_whole c.run_lines.result c.args.topology.now c.args.turns run.0 (g.S.Source.told c.args.feed.now).past (g.S.Source.told c.run_lines.new.feed).past c.args.sender.now c.run_lines.new.to run.2
