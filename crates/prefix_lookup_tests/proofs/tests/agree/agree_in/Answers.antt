use Rattle.std.proofs.Common.{◌≡◌, ℕ, ◌-◌, ◌/◌, ◌^◌, ◌<◌, sym, subst, ◌∙◌, arith, eq-eqb, eqb}
use Rattle.std.proofs.Math.Nat.{div-eq_of_lt}
use Rattle.prefix_lookup_tests.proofs.tests.agree.agree_in.Goals as goal

-- numbers within so many bits have no bits above them
none_above : (bits len a b : ℕ) → len ≡ 0 → a < 2 ^ bits → b < 2 ^ bits → eqb len 0 ≡ eqb (a / 2 ^ (bits - len)) (b / 2 ^ (bits - len))
none_above bits len a b none a_fits b_fits =
    let width : bits ≡ bits - len = omega arith in
    let both : a / 2 ^ bits ≡ b / 2 ^ bits = div-eq_of_lt a_fits ∙ sym (div-eq_of_lt b_fits) in
    eq-eqb len 0 none ∙ sym (eq-eqb _ _ (subst (λ (n : ℕ). a / 2 ^ n ≡ b / 2 ^ n) width both))

pub returns-then-len-eq0 : goal.returns-then-len-eq0
returns-then-len-eq0 c = none_above c.args.bits c.args.len c.args.a c.args.b c.if-len-eq0.true c.requires.a c.requires.b
