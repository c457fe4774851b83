use Rattle.std.proofs.Common.{refl, ap}
use Rattle.feed_queue.proofs.Lists.{few_more}
use Rattle.feed_queue.proofs.Sendings.{has_sent_run, room_left}
use Rattle.feed_queue.proofs.run.send_all.Goals as goal

pub send_next-requires-clause-number : goal.send_next-requires-clause-number
send_next-requires-clause-number g c = room_left c.args.sender.now c.send_lines-end.new.sender c.requires.unused c.send_lines-end.ensures.keeps

pub send_next-requires-clause-few : goal.send_next-requires-clause-few
send_next-requires-clause-few g c = few_more g.N.Numbers.groups g.N.Numbers.nodes _ _ c.has_room.ensures.may refl

pub returns-clause-sent : goal.returns-clause-sent
returns-clause-sent g c =
    let e = c.send_lines-end in
    has_sent_run c.args.topology.now c.args.turns e.result (g.S.Source.told c.args.feed.now).past (g.S.Source.told e.new.feed).past c.args.sender.now.feeder.now.sent e.new.sender.feeder.now.sent c.send_next.new.self.sent c.requires.unused e.ensures.run e.ensures.whole
    (ap (λ f. f.sent) c.send_next.ensures)
