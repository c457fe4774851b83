use Rattle.std.proofs.Common.{◌++◌, List, ℕ, Some, length, ap, sym, ◌∙◌}
use Rattle.addr_text.specs.Written.{dotted}
use Rattle.addr_text.proofs.Bases.{length-digits}
use Rattle.addr_text.proofs.Again.{v4_again, v6_again}
use Rattle.addr_text.proofs.write.write_addr.Goals as goal

pub push_groups-requires-clause-eight : goal.push_groups-requires-clause-eight
push_groups-requires-clause-eight c = ap length (c.as_slice-in-V6.ensures.value ∙ c.groups_of.ensures.groups) ∙ length-digits 65536 8 c.in-V6.n

pub returns-in-V4-clause-again : goal.returns-in-V4-clause-again
returns-in-V4-clause-again c =
    v4_again c.in-V4.n c.push_dotted.new.out.items c.numbers_of.ensures.fits
    (c.push_dotted.ensures ∙ ap (λ (l : List ℕ). l ++ dotted c.as_slice.result.now) c.clear.ensures ∙ ap dotted (c.as_slice.ensures.value ∙ c.numbers_of.ensures.numbers))
    ∙ ap Some (sym c.in-V4.is)

pub returns-in-V6-clause-again : goal.returns-in-V6-clause-again
returns-in-V6-clause-again c =
    v6_again c.in-V6.n c.push_groups.new.out.items c.groups_of.ensures.fits c.push_groups.ensures.no_dot (c.push_groups.ensures.again ∙ ap Some (c.as_slice-in-V6.ensures.value ∙ c.groups_of.ensures.groups))
    ∙ ap Some (sym c.in-V6.is)
