use Rattle.std.proofs.Common.{◌≢◌, true≢false, sym, ◌∙◌}
use Rattle.outside.specs.declared.sink.Put.TheVariants as put
use Rattle.mapper.proofs.Several.{count_next, serial_left}
use Rattle.mapper.proofs.Together.{joins, whole_joins}
use Rattle.mapper.proofs.feeds.work_all.Goals as goal

pub work_next-put-requires-clause-serial : goal.work_next-put-requires-clause-serial
work_next-put-requires-clause-serial g c = serial_left g.N.Numbers.groups g.N.Numbers.nodes c.loop.taker.feeders c.loop.taker.taken _ _ c.feeders.ensures.taken c.requires.serial c.loop.invariant.serial

pub loop-preserved : goal.loop-preserved
loop-preserved g c =
    let t = c.work_next-put.ensures in
    let inv = c.loop.invariant in
    let ok : c.work_next-put.result ≢ put.Failed = λ e. true≢false (sym (c.has_failed.ensures.1 e) ∙ c.if-has_failed.false) in record {
      queue = (t.queue.0 ∙ inv.queue.0, t.queue.1 ∙ inv.queue.1);
      noted = t.noted;
      count = count_next c.loop.ends.count c.loop.taker.feeders c.from.result c.work_next-put.new.ends.count c.work_next-put.new.taker.feeders inv.count c.if-ends-from.false (c.from.ensures ∙ c.feeders.ensures.count) t.count t.queue.1;
      worked = t.goes_on ok _ inv.worked;
      serial = t.serial _ inv.serial;
      keeps = joins g.K.Sink.told c.args.desk.now c.loop.desk c.work_next-put.new.desk inv.keeps t.keeps;
      whole = whole_joins g.K.Sink.told c.args.desk.now c.loop.desk c.work_next-put.new.desk inv.whole (t.stays ok);
    }
