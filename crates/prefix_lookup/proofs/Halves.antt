-- A search by halves: each comparison halves what is left.
use Rattle.std.proofs.Common.{◌≡◌, ℕ, ◌+◌, ◌-◌, ◌*◌, ◌/◌, ◌^◌, ◌<◌, ◌≤◌, List, length, subst, arith, mul-le-mul_left}
use Rattle.std.proofs.Math.Pow.{pow_mono}
use Rattle.std.proofs.lemmas.Nat.{pow-add}
use Rattle.prefix_lookup.specs.Ranges.{start_at}

-- a count that rises by one at most
one_more : (from t u : ℕ) → from ≤ t → u ≤ t + 1 → 2 ^ (u - from) ≤ 2 ^ (t - from) * 2
one_more from t u le up =
    let more : 2 ^ (u - from) ≤ 2 ^ ((t - from) + 1) = pow_mono (omega arith) in
    omega (arith, pow-add 2 (t - from) 1)

halved : (from t u width next all : ℕ) → from ≤ t → u ≤ t + 1 → 2 * next ≤ width → 2 ^ (t - from) * width ≤ all → 2 ^ (u - from) * next ≤ all
halved from t u width next all le up half so_far =
    let q : ℕ = 2 ^ (t - from) in
    let one : q * (2 * next) ≤ q * width = mul-le-mul_left q half in
    let two : next * 2 ^ (u - from) ≤ next * (q * 2) = mul-le-mul_left next (one_more from t u le up) in
    omega arith

few : (from t u width all : ℕ) → from ≤ t → u ≤ t + 1 → 1 ≤ width → 2 ^ (t - from) * width ≤ all - 1 → 2 ^ (u - from) ≤ 2 * all
few from t u width all le up some so_far =
    let q : ℕ = 2 ^ (t - from) in
    let one : q * 1 ≤ q * width = mul-le-mul_left q some in
    omega (arith, one_more from t u le up)

-- The last start up to a number is among `size` starts from `low` on; so many comparisons were told since `from`.
pub record Halving (starts : List ℕ) (number from low size steps : ℕ) : Type 0 where
  pub some : 0 < size
  pub within : low + size ≤ length starts
  pub reached : start_at starts low ≤ number
  pub passed : low + size < length starts → number < start_at starts (low + size)
  pub risen : from ≤ steps
  pub halved_so : 2 ^ (steps - from) * (size - 1) ≤ length starts - 1
  pub few_so : 2 ^ (steps - from) ≤ 2 * length starts

passed_at : (starts : List ℕ) (i j n : ℕ) → i ≡ j → (i < length starts → n < start_at starts i) → j < length starts → n < start_at starts j
passed_at starts i j n e to lt = subst (λ (k : ℕ). n < start_at starts k) e (to (omega arith))

-- it goes on in the upper half
pub upper : (starts : List ℕ) (number from low size steps next : ℕ) → 1 < size → steps ≤ next → next ≤ steps + 1 → start_at starts (low + size / 2) ≤ number
    → Halving starts number from low size steps → Halving starts number from (low + size / 2) (size - size / 2) next
upper starts number from low size steps next some risen up reached i =
    record {
      some = omega arith;
      within = omega (arith, i.within);
      reached = reached;
      passed = λ lt. passed_at starts (low + size) (low + size / 2 + (size - size / 2)) number (omega arith) i.passed lt;
      risen = omega (arith, i.risen, risen);
      halved_so = halved from steps next (size - 1) _ (length starts - 1) i.risen up (omega arith) i.halved_so;
      few_so = few from steps next (size - 1) (length starts) i.risen up (omega arith) i.halved_so;
    }

-- it goes on in the lower half
pub lower : (starts : List ℕ) (number from low size steps next : ℕ) → 1 < size → steps ≤ next → next ≤ steps + 1 → number < start_at starts (low + size / 2)
    → Halving starts number from low size steps → Halving starts number from low (size / 2) next
lower starts number from low size steps next some risen up passed i =
    record {
      some = omega arith;
      within = omega (arith, i.within);
      reached = i.reached;
      passed = λ _. passed;
      risen = omega (arith, i.risen, risen);
      halved_so = halved from steps next (size - 1) _ (length starts - 1) i.risen up (omega arith) i.halved_so;
      few_so = few from steps next (size - 1) (length starts) i.risen up (omega arith) i.halved_so;
    }
