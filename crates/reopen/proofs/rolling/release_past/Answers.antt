use Rattle.std.proofs.Common.{◌+◌, arith}
use Rattle.map_model.specs.Market.{Market}
use Rattle.map_model.specs.Allocation.{IsOffer}
use Rattle.reopen.proofs.Removing.{releasing_end, releasing_start, releasing_step}
use Rattle.reopen.proofs.rolling.release_past.Goals as goal

pub loop-past-init : goal.loop-past-init
loop-past-init c = record { so_far = releasing_start c.args.instance.now c.args.state.now c.args.group.0 c.args.place (c.args.place + 1) c.requires.can (omega arith); later = omega arith }

pub loop-past-preserved : goal.loop-past-preserved
loop-past-preserved c =
    let m : Market = c.args.instance.now in
    let o : IsOffer m c.args.group.0 c.loop-past.past = record { group = c.requires.group; place = omega (arith, c.loop-past-test.true, c.list_len-past-end.ensures) } in
    record {
      so_far = releasing_step m c.args.state.now c.loop-past.state c.release.new.self c.args.group.0 c.args.place c.loop-past.past c.units-units.result c.loop-past.invariant.so_far c.loop-past.invariant.later o c.units-units.ensures c.release.ensures;
      later = omega (arith, c.loop-past.invariant.later);
    }

pub returns : goal.returns
returns c = releasing_end c.args.instance.now c.args.state.now c.loop-past.state c.args.group.0 c.args.place c.loop-past.past c.requires.can.form c.loop-past.invariant.so_far (omega (arith, c.loop-past-test.false, c.list_len-past-end.ensures))
