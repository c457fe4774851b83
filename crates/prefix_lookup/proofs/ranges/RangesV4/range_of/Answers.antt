use Rattle.std.proofs.Common.{◌≡◌, List, ℕ, arith, subst, sym}
use Rattle.map_model.specs.declared.instance.GroupId.{GroupId}
use Rattle.prefix_lookup.specs.declared.family.Family.TheVariants as family
use Rattle.prefix_lookup.specs.Ranges.{AreRanges, IsRangeOf}
use Rattle.prefix_lookup.proofs.ranges.RangesV4.range_of.Goals as goal

pub returns-clause-range : goal.returns-clause-range
returns-clause-range g c = λ table are.
    let number : c.from.result ≡ c.args.number = c.from.ensures in
    subst (λ (n : ℕ). IsRangeOf family.V4 table n c.range_in.result) number
    (c.range_in.ensures.range family.V4 table (subst (λ (groups : List GroupId). AreRanges family.V4 table c.args.self.now.starts.items groups) (sym c.as_slice.ensures.value) are) (omega (arith, number, c.ranges.number.fits)))
