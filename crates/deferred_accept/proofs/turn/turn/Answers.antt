use Rattle.std.proofs.Common.{sym, subst}
use Rattle.evict.specs.Standing.{CanShift, IsShifted}
use Rattle.deferred_accept.specs.declared.circle.Hop.{Hop}
use Rattle.deferred_accept.specs.Turning.{displaced}
use Rattle.deferred_accept.proofs.Shifts.{no_hop, pass_can, pass_more}
use Rattle.std.specs.Prelude.{slice_index_or}
use Rattle.deferred_accept.proofs.turn.turn.Goals as goal

pub shift-requires : goal.shift-requires
shift-requires c =
    let hop : Hop = slice_index_or c.args.hops.now c.loop-hop.hop-index no_hop in
    subst (λ place. CanShift c.loop-hop.state (displaced hop) hop.rival.offer.place place c.args.units) (sym c.pointer-place.ensures) (pass_can c.args.state.now c.loop-hop.state c.args.hops.now c.args.units c.loop-hop.hop-index no_hop c.requires c.loop-hop.invariant c.loop-hop-test.true)

pub loop-hop-preserved : goal.loop-hop-preserved
loop-hop-preserved c =
    let hop : Hop = slice_index_or c.args.hops.now c.loop-hop.hop-index no_hop in
    pass_more c.args.state.now c.loop-hop.state c.shift.new.self c.args.hops.now c.args.units c.loop-hop.hop-index no_hop c.loop-hop.invariant c.loop-hop-test.true
    (subst (λ place. IsShifted c.loop-hop.state c.shift.new.self (displaced hop) hop.rival.offer.place place c.args.units) c.pointer-place.ensures c.in_ok-shift.ensures)
