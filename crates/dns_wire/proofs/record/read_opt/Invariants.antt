use Rattle.std.proofs.Common.{◌≡◌, ◌-◌}
use Rattle.std.specs.Option.{option_map}
use Rattle.dns_wire.specs.View.{extension}
use Rattle.dns_wire.proofs.Only.{opt_after}
use Rattle.std.proofs.Common.{None}
use Rattle.dns_wire.proofs.record.read_opt.Given as goal

abbrev pub invariant-loop : goal.invariant-loop
invariant-loop l = opt_after (option_map extension l.found) (l.count - l.counter) l.rest ≡ opt_after None l.count l.octets
