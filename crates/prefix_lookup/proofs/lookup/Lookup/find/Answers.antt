use Rattle.std.proofs.Common.{◌≡◌, ℕ, List, sym, subst}
use Rattle.addr_text.specs.declared.address.Addr.{Addr}
use Rattle.prefix_lookup.specs.declared.family.Family.TheVariants as family
use Rattle.prefix_lookup.specs.Family.{address_in}
use Rattle.prefix_lookup.specs.Longest.{HasLongest}
use Rattle.prefix_lookup.specs.Ranges.{AreRanges, IsIn, IsRangeOf}
use Rattle.prefix_lookup.specs.Scope.{IsScope, scope_of}
use Rattle.prefix_lookup.specs.Table.{IsTable}
use Rattle.prefix_lookup.proofs.Answered.{has_longest, scope_found}
use Rattle.prefix_lookup.proofs.Longest.{Entry}
use Rattle.prefix_lookup.proofs.lookup.Lookup.find.Goals as goal

pub scope_in-requires-clause-inside : goal.scope_in-requires-clause-inside
scope_in-requires-clause-inside c = let is = c.range_of-range.ensures.range c.args.self.now (subst (λ (l : List Entry). AreRanges family.V4 l c.self.inside.v4.starts.items c.self.inside.v4.groups.items) c.self.view_is c.self.invariant.v4) in subst (λ (n : ℕ). IsIn family.V4 n c.range_of-range.result) (sym c.from.ensures) is.inside

pub returns-in-V4-clause-longest : goal.returns-in-V4-clause-longest
returns-in-V4-clause-longest c =
    let is = c.range_of-range.ensures.range c.args.self.now (subst (λ (l : List Entry). AreRanges family.V4 l c.self.inside.v4.starts.items c.self.inside.v4.groups.items) c.self.view_is c.self.invariant.v4) in
    subst (λ (a : Addr). HasLongest c.args.self.now a c.range_of-range.result.group) (sym c.in-V4.is) (has_longest family.V4 c.args.self.now c.in-V4.number c.range_of-range.result.group c.range_of-range.ensures.fits (subst IsTable c.self.view_is c.self.invariant.prefixes) is.group)

pub returns-in-V4-clause-least : goal.returns-in-V4-clause-least
returns-in-V4-clause-least c =
    let is = c.range_of-range.ensures.range c.args.self.now (subst (λ (l : List Entry). AreRanges family.V4 l c.self.inside.v4.starts.items c.self.inside.v4.groups.items) c.self.view_is c.self.invariant.v4) in
    subst (λ (a : Addr). IsScope c.args.self.now a c.scope_in.result) (sym c.in-V4.is) (subst (λ (n : ℕ). IsScope c.args.self.now (address_in family.V4 n) c.scope_in.result) c.from.ensures (c.scope_in.ensures c.args.self.now (subst (λ (n : ℕ). IsRangeOf family.V4 c.args.self.now n c.range_of-range.result) (sym c.from.ensures) is)))

pub returns-in-V4-clause-within : goal.returns-in-V4-clause-within
returns-in-V4-clause-within c = (returns-in-V4-clause-least c).within

pub returns-in-V4-clause-scope : goal.returns-in-V4-clause-scope
returns-in-V4-clause-scope c =
    let is = c.range_of-range.ensures.range c.args.self.now (subst (λ (l : List Entry). AreRanges family.V4 l c.self.inside.v4.starts.items c.self.inside.v4.groups.items) c.self.view_is c.self.invariant.v4) in
    subst (λ (a : Addr). c.scope_in.result ≡ scope_of c.args.self.now a) (sym c.in-V4.is) (scope_found family.V4 c.args.self.now c.in-V4.number c.scope_in.result c.range_of-range.ensures.fits (subst IsTable c.self.view_is c.self.invariant.prefixes) (subst (λ (n : ℕ). IsScope c.args.self.now (address_in family.V4 n) c.scope_in.result) c.from.ensures (c.scope_in.ensures c.args.self.now (subst (λ (n : ℕ). IsRangeOf family.V4 c.args.self.now n c.range_of-range.result) (sym c.from.ensures) is))))

pub scope_in-requires-in-V6-clause-inside : goal.scope_in-requires-in-V6-clause-inside
scope_in-requires-in-V6-clause-inside c = let is = c.range_of-range-in-V6.ensures.range c.args.self.now (subst (λ (l : List Entry). AreRanges family.V6 l c.self.inside.v6.starts.items c.self.inside.v6.groups.items) c.self.view_is c.self.invariant.v6) in is.inside

pub returns-in-V6-clause-longest : goal.returns-in-V6-clause-longest
returns-in-V6-clause-longest c =
    let is = c.range_of-range-in-V6.ensures.range c.args.self.now (subst (λ (l : List Entry). AreRanges family.V6 l c.self.inside.v6.starts.items c.self.inside.v6.groups.items) c.self.view_is c.self.invariant.v6) in
    subst (λ (a : Addr). HasLongest c.args.self.now a c.range_of-range-in-V6.result.group) (sym c.in-V6.is) (has_longest family.V6 c.args.self.now c.in-V6.number c.range_of-range-in-V6.result.group c.range_of-range-in-V6.ensures.fits (subst IsTable c.self.view_is c.self.invariant.prefixes) is.group)

pub returns-in-V6-clause-least : goal.returns-in-V6-clause-least
returns-in-V6-clause-least c =
    let is = c.range_of-range-in-V6.ensures.range c.args.self.now (subst (λ (l : List Entry). AreRanges family.V6 l c.self.inside.v6.starts.items c.self.inside.v6.groups.items) c.self.view_is c.self.invariant.v6) in
    subst (λ (a : Addr). IsScope c.args.self.now a c.scope_in-in-V6.result) (sym c.in-V6.is) (c.scope_in-in-V6.ensures c.args.self.now is)

pub returns-in-V6-clause-within : goal.returns-in-V6-clause-within
returns-in-V6-clause-within c = (returns-in-V6-clause-least c).within

pub returns-in-V6-clause-scope : goal.returns-in-V6-clause-scope
returns-in-V6-clause-scope c =
    let is = c.range_of-range-in-V6.ensures.range c.args.self.now (subst (λ (l : List Entry). AreRanges family.V6 l c.self.inside.v6.starts.items c.self.inside.v6.groups.items) c.self.view_is c.self.invariant.v6) in
    subst (λ (a : Addr). c.scope_in-in-V6.result ≡ scope_of c.args.self.now a) (sym c.in-V6.is) (scope_found family.V6 c.args.self.now c.in-V6.number c.scope_in-in-V6.result c.range_of-range-in-V6.ensures.fits (subst IsTable c.self.view_is c.self.invariant.prefixes) (c.scope_in-in-V6.ensures c.args.self.now is))
