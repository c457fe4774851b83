use Rattle.dns_wire.proofs.Only.{goes_on, no_record, refused, is_done}
use Rattle.std.specs.Option.{option_map}
use Rattle.dns_wire.specs.View.{extension, record_view}
use Rattle.std.proofs.Common.{sym}
use Rattle.dns_wire.proofs.record.read_opt.Goals as goal

pub returns-in_err-record : goal.returns-in_err-record
returns-in_err-record c =
    rw c.from_residual.ensures (sym (no_record (option_map extension c.loop.found) c.args.count c.loop.counter c.loop.rest.now _ c.loop-test.true (sym c.in_err-record.ensures) c.loop.invariant))

pub returns-in_err-found : goal.returns-in_err-found
returns-in_err-found c =
    let read = c.in_ok-record.ensures in
    let kept = c.in_err-found.ensures in
    rw c.from_residual-in_err-found.ensures (sym (refused (option_map extension c.loop.found) c.args.count c.loop.counter c.loop.rest.now c.in_ok-record.after.now (record_view c.in_ok-record.record) _ c.loop-test.true (sym read) (sym kept) c.loop.invariant))

pub loop-preserved : goal.loop-preserved
loop-preserved c = let h = c.in_ok-record.ensures in let k = c.in_ok-found.ensures in
    goes_on (option_map extension c.loop.found) (option_map extension c.in_ok-found.found) c.args.count c.loop.counter c.loop.rest.now c.in_ok-record.after.now (record_view c.in_ok-record.record) _ c.loop-test.true (sym h) (sym k) c.loop.invariant

pub returns : goal.returns
returns c = is_done (option_map extension c.loop.found) c.args.count c.loop.counter c.loop.rest.now _ c.loop-test.false c.loop.invariant
