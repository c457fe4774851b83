use Rattle.std.proofs.Common.{◌≡◌, ℕ, sym, subst, arith, below_more}
use Rattle.addr_text.specs.Addresses.{bits_of}
use Rattle.prefix_lookup.specs.Scope.{scope_of, IsScope}
use Rattle.prefix_lookup.proofs.Scopes.{scope_is, scope_at}
use Rattle.prefix_lookup_tests.proofs.tests.plain.scope.Goals as goal

pub returns-then-is_undivided-clause-exact : goal.returns-then-is_undivided-clause-exact
returns-then-is_undivided-clause-exact c =
    let bits : c.width-bits.result ≡ bits_of c.args.addr = c.width-bits.ensures.bits in
    scope_at c.args.addr c.loop-len.len c.args.table.now (omega arith) c.loop-len.invariant (λ lt. sym c.if-is_undivided.ensures)

pub returns-then-is_undivided-clause-least : goal.returns-then-is_undivided-clause-least
returns-then-is_undivided-clause-least c =
    let bits : c.width-bits.result ≡ bits_of c.args.addr = c.width-bits.ensures.bits in
    let exact : c.loop-len.len ≡ scope_of c.args.table.now c.args.addr = scope_at c.args.addr c.loop-len.len c.args.table.now (omega arith) c.loop-len.invariant (λ lt. sym c.if-is_undivided.ensures) in
    subst (λ (s : ℕ). IsScope c.args.table.now c.args.addr s) (sym exact) (scope_is c.args.addr c.args.table.now c.width-bits.ensures.fits c.requires)

pub loop-len-preserved : goal.loop-len-preserved
loop-len-preserved c = below_more _ _ c.loop-len.invariant (sym c.if-is_undivided.ensures)

pub returns-clause-exact : goal.returns-clause-exact
returns-clause-exact c =
    let bits : c.width-bits.result ≡ bits_of c.args.addr = c.width-bits.ensures.bits in
    scope_at c.args.addr c.width-bits.result c.args.table.now (omega arith) (λ t lt. c.loop-len.invariant t (omega arith)) (λ lt. absurd (omega arith))

pub returns-clause-least : goal.returns-clause-least
returns-clause-least c =
    let bits : c.width-bits.result ≡ bits_of c.args.addr = c.width-bits.ensures.bits in
    let exact : c.width-bits.result ≡ scope_of c.args.table.now c.args.addr = scope_at c.args.addr c.width-bits.result c.args.table.now (omega arith) (λ t lt. c.loop-len.invariant t (omega arith)) (λ lt. absurd (omega arith)) in
    subst (λ (s : ℕ). IsScope c.args.table.now c.args.addr s) (sym exact) (scope_is c.args.addr c.args.table.now c.width-bits.ensures.fits c.requires)
