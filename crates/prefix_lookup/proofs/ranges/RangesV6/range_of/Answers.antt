use Rattle.std.proofs.Common.{List, subst, sym}
use Rattle.map_model.specs.declared.instance.GroupId.{GroupId}
use Rattle.prefix_lookup.specs.declared.family.Family.TheVariants as family
use Rattle.prefix_lookup.specs.Ranges.{AreRanges}
use Rattle.prefix_lookup.proofs.ranges.RangesV6.range_of.Goals as goal

pub returns-clause-range : goal.returns-clause-range
returns-clause-range g c = λ table are.
    c.range_in.ensures.range family.V6 table (subst (λ (groups : List GroupId). AreRanges family.V6 table c.args.self.now.starts.items groups) (sym c.as_slice.ensures.value) are) c.ranges.number.fits
