use Rattle.std.proofs.Common.{◌≡◌, Bool, false, Some, sym, ap, subst, ◌∙◌, arith}
use Rattle.name_text.specs.Wire.{IsName}
use Rattle.dns_wire.specs.Wire.{name_len}
use Rattle.dns_wire.proofs.Spelled.{is_name}
use Rattle.dns_wire.proofs.name.read_name.Goals as goal

pub returns-clause-name : goal.returns-clause-name
returns-clause-name c not_pointers =
    let octets = c.args.octets.now in
    let size = c.in_ok-length.length in
    let read : name_len false 0 octets ≡ Some size = ap (λ (p : Bool). name_len p 0 octets) (sym not_pointers) ∙ sym c.in_ok-length.ensures.exact in
    subst IsName (sym c.split_at.ensures.front) (is_name octets size read (omega arith))
