use Rattle.std.proofs.Common.{length, ap, arith}
use Rattle.std.specs.Option.{option_map}
use Rattle.dns_wire.specs.View.{extension}
use Rattle.answer_core.specs.View.{outcome_view, request_view}
use Rattle.answer_core.proofs.Bound.{bound, bound_cut_as, limit_least}
use Rattle.answer_core.proofs.replying.write_reply.Goals as goal

pub write_full-requires-clause-room : goal.write_full-requires-clause-room
write_full-requires-clause-room c =
    let request = c.read_request-request.result in
    let outcome = c.decide-outcome.result in
    let long = bound c.zone.result.now (request_view request) (outcome_view outcome) c.zone.ensures.form c.read_request-request.ensures.name.fits c.decide-outcome.ensures.short in omega (arith, long)

pub returns-else-len-limit_of-clause-room : goal.returns-else-len-limit_of-clause-room
returns-else-len-limit_of-clause-room c =
    let request = c.read_request-request.result in
    let outcome = c.decide-outcome.result in
    let long = bound c.zone.result.now (request_view request) (outcome_view outcome) c.zone.ensures.form c.read_request-request.ensures.name.fits c.decide-outcome.ensures.short in omega (arith, ap length c.write_full.ensures, long)

pub write_full-requires-then-len-limit_of-clause-room : goal.write_full-requires-then-len-limit_of-clause-room
write_full-requires-then-len-limit_of-clause-room c =
    let cut = bound_cut_as c.zone-then-len-limit_of.result.now (request_view c.read_request-request.result) (outcome_view c.decide-outcome.result) (outcome_view c.cut_short.result) c.cut_short.ensures c.zone-then-len-limit_of.ensures.form c.read_request-request.ensures.name.fits in omega (arith, cut)

pub returns-then-len-limit_of-clause-short : goal.returns-then-len-limit_of-clause-short
returns-then-len-limit_of-clause-short c =
    let cut = bound_cut_as c.zone-then-len-limit_of.result.now (request_view c.read_request-request.result) (outcome_view c.decide-outcome.result) (outcome_view c.cut_short.result) c.cut_short.ensures c.zone-then-len-limit_of.ensures.form c.read_request-request.ensures.name.fits in
    omega (arith, ap length c.write_full-then-len-limit_of.ensures, cut, limit_least c.args.way (option_map extension c.args.query.opt))

pub returns-then-len-limit_of-clause-room : goal.returns-then-len-limit_of-clause-room
returns-then-len-limit_of-clause-room c =
    let cut = bound_cut_as c.zone-then-len-limit_of.result.now (request_view c.read_request-request.result) (outcome_view c.decide-outcome.result) (outcome_view c.cut_short.result) c.cut_short.ensures c.zone-then-len-limit_of.ensures.form c.read_request-request.ensures.name.fits in omega (arith, ap length c.write_full-then-len-limit_of.ensures, cut)
