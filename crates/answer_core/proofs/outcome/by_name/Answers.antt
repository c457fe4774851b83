use Rattle.std.proofs.Common.{◌≡◌, length, Some, rules}
use Rattle.answer_core.specs.Outcome.{service_of}
use Rattle.answer_core.proofs.Labels.{service_len}
use Rattle.answer_core.proofs.outcome.by_name.Goals as goal

pub returns-clause-short : goal.returns-clause-short
returns-clause-short c =
    let name = c.args.request.now.query.now.name.now in
    let is : service_of c.zone-zone.result.now name ≡ Some c.in-Some.service = search rules in c.at_service.ensures.short (length name) (service_len c.zone-zone.result.now name c.in-Some.service c.zone-zone.ensures.form is)
