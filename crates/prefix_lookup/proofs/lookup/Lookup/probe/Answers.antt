use Rattle.std.proofs.Common.{◌-◌, List, sym, subst, arith}
use Rattle.addr_text.specs.declared.address.Addr.{Addr}
use Rattle.prefix_lookup.specs.declared.family.Family.TheVariants as family
use Rattle.prefix_lookup.specs.Longest.{HasLongest}
use Rattle.prefix_lookup.specs.Ranges.{AreRanges}
use Rattle.prefix_lookup.specs.Search.{IsFew}
use Rattle.prefix_lookup.specs.Table.{IsTable}
use Rattle.prefix_lookup.proofs.Answered.{has_longest}
use Rattle.prefix_lookup.proofs.Longest.{Entry}
use Rattle.prefix_lookup.proofs.lookup.Lookup.probe.Goals as goal

pub returns-in-V4-clause-longest : goal.returns-in-V4-clause-longest
returns-in-V4-clause-longest g c =
    let are = subst (λ (l : List Entry). AreRanges family.V4 l c.self.inside.v4.starts.items c.self.inside.v4.groups.items) c.self.view_is c.self.invariant.v4 in
    subst (λ (a : Addr). HasLongest c.args.self.now a c.range_of.result.group) (sym c.in-V4.is) (has_longest family.V4 c.args.self.now c.in-V4.number c.range_of.result.group c.range_of.ensures.fits (subst IsTable c.self.view_is c.self.invariant.prefixes) (c.range_of.ensures.range c.args.self.now are).group)

pub returns-in-V4-clause-few : goal.returns-in-V4-clause-few
returns-in-V4-clause-few g c =
    let are = subst (λ (l : List Entry). AreRanges family.V4 l c.self.inside.v4.starts.items c.self.inside.v4.groups.items) c.self.view_is c.self.invariant.v4 in
    subst (λ (a : Addr). IsFew c.args.self.now a (c.range_of.new.tally - c.args.steps.now)) (sym c.in-V4.is) (omega (arith, c.range_of.ensures.few, are.few c.in-V4.number))

pub returns-in-V6-clause-longest : goal.returns-in-V6-clause-longest
returns-in-V6-clause-longest g c =
    let are = subst (λ (l : List Entry). AreRanges family.V6 l c.self.inside.v6.starts.items c.self.inside.v6.groups.items) c.self.view_is c.self.invariant.v6 in
    subst (λ (a : Addr). HasLongest c.args.self.now a c.range_of-in-V6.result.group) (sym c.in-V6.is) (has_longest family.V6 c.args.self.now c.in-V6.number c.range_of-in-V6.result.group c.range_of-in-V6.ensures.fits (subst IsTable c.self.view_is c.self.invariant.prefixes) (c.range_of-in-V6.ensures.range c.args.self.now are).group)

pub returns-in-V6-clause-few : goal.returns-in-V6-clause-few
returns-in-V6-clause-few g c =
    let are = subst (λ (l : List Entry). AreRanges family.V6 l c.self.inside.v6.starts.items c.self.inside.v6.groups.items) c.self.view_is c.self.invariant.v6 in
    subst (λ (a : Addr). IsFew c.args.self.now a (c.range_of-in-V6.new.tally - c.args.steps.now)) (sym c.in-V6.is) (omega (arith, c.range_of-in-V6.ensures.few, are.few c.in-V6.number))
