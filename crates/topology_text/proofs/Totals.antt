-- How many prefixes stand in the first tables of a walk.
use Rattle.std.proofs.Common.{◌≡◌, ℕ, ◌+◌, ◌<◌, ◌≤◌, Bool, true, false, not, ◌&&◌, nat_lt, List, [], ◌∷◌, length, get_or, map, take, drop, Some, option_map, ap, sym, ◌∙◌, subst, arith}
use Rattle.std.proofs.lemmas.Bool.Decides.{nat_tests}
use Rattle.std.proofs.lemmas.List.Sums.{sum_by-append}
use Rattle.std.proofs.lemmas.List.{get_or-map, length-map, take_more}
use Rattle.topology_text.specs.Code.{visit}
use Rattle.topology_text.specs.Prefixes.{count_at, is_past, passing, total}
use Rattle.topology_text.specs.Walk.{Visit, first, items_at, marked, marked_from}
use Rattle.topology_text.specs.declared.schema.At.TheVariants.{Whole}
use Rattle.topology_text.specs.declared.schema.Key.TheVariants.{Prefixes}
use Rattle.topology_text.specs.declared.visited.TableAt.{TableAt}
use Rattle.topology_text.proofs.Firsts.{first-map}
use Rattle.topology_text.proofs.Repeats.{marked_here, marked_on}

-- the total passes its limit with table number i
abbrev pub passes : List Visit → ℕ → Visit → Bool
passes visits i v = is_past visits (i + 1) && not (is_past visits i)

abbrev count : Visit → ℕ
count v = count_at v.spot (items_at v.members Prefixes)

-- so far so many, and not past the limit
pub record IsWithin (visits : List Visit) (i : ℕ) (n : ℕ) : Type 0 where
  pub counted : n ≡ total (take i visits)
  pub within : n ≤ 262144
  pub rest : first (marked_from (passes visits) i (drop i visits)) ≡ first (marked (passes visits) visits)

total_more : (visits : List Visit) (i : ℕ) (v : Visit) → i < length visits → total (take (i + 1) visits) ≡ total (take i visits) + count (get_or visits i v)
total_more visits i v h =
    ap total (take_more visits i v h) ∙ sum_by-append count (take i visits) (get_or visits i v ∷ []) ∙ omega arith

-- a table with which the total doesn't pass its limit
pub within_on : (visits : List Visit) (i n : ℕ) (v : Visit) → IsWithin visits i n → i < length visits → n + count (get_or visits i v) ≤ 262144 → IsWithin visits (i + 1) (n + count (get_or visits i v))
within_on visits i n v s h few =
    let c = s.counted in
    let more = total_more visits i v h in
    let under : is_past visits (i + 1) ≡ false = not_past (omega arith) in
    record {
      counted = omega arith;
      within = few;
      rest = sym (marked_on (passes visits) i visits v h (ap (λ b. b && not (is_past visits i)) under)) ∙ s.rest;
    }
  where
    not_past : total (take (i + 1) visits) ≤ 262144 → nat_lt 262144 (total (take (i + 1) visits)) ≡ false
    not_past few = grind (arith, nat_tests)

-- one with which it does
pub within_here : (visits : List Visit) (i n : ℕ) (v : Visit) → IsWithin visits i n → i < length visits → 262144 < n + count (get_or visits i v)
    → Some (record { spot = (get_or visits i v).spot; key = Some Prefixes; at = Whole }) ≡ first (passing visits)
within_here visits i n v s h many =
    let c = s.counted in
    let w = s.within in
    let more = total_more visits i v h in
    let over : is_past visits (i + 1) ≡ true = past (omega arith) in
    let under : is_past visits i ≡ false = not_past (omega arith) in
    let here : passes visits i (get_or visits i v) ≡ true = ap (λ b. b && not (is_past visits i)) over ∙ ap not under in
    let at : first (marked (passes visits) visits) ≡ Some (i, get_or visits i v) = sym s.rest ∙ marked_here (passes visits) i visits v h here in
    sym (first-map (λ p. record { spot = p.1.spot; key = Some Prefixes; at = Whole }) (marked (passes visits) visits) ∙ ap (option_map (λ (p : ℕ × Visit). record { spot = p.1.spot; key = Some Prefixes; at = Whole })) at)
  where
    past : 262144 < total (take (i + 1) visits) → nat_lt 262144 (total (take (i + 1) visits)) ≡ true
    past many = grind (arith, nat_tests)

    not_past : total (take i visits) ≤ 262144 → nat_lt 262144 (total (take i visits)) ≡ false
    not_past few = grind (arith, nat_tests)

-- the same over the code's tables
at_view : (ts : List TableAt) (i : ℕ) (t : TableAt) → i < length ts → t ≡ get_or ts i t → get_or (map visit ts) i (visit t) ≡ visit t
at_view ts i t h is = get_or-map visit ts i t (visit t) h ∙ ap visit (sym is)

pub within_on_view : (ts : List TableAt) (i n c : ℕ) (t : TableAt) → IsWithin (map visit ts) i n → i < length ts → t ≡ get_or ts i t → c ≡ count (visit t) → n + c ≤ 262144 → IsWithin (map visit ts) (i + 1) (n + c)
within_on_view ts i n c t s h is counted few =
    let same : c ≡ count (get_or (map visit ts) i (visit t)) = counted ∙ ap count (sym (at_view ts i t h is)) in
    subst (λ m. IsWithin (map visit ts) (i + 1) (n + m)) (sym same) (within_on (map visit ts) i n (visit t) s (omega (arith, length-map ts visit)) (omega arith))

pub within_here_view : (ts : List TableAt) (i n c : ℕ) (t : TableAt) → IsWithin (map visit ts) i n → i < length ts → t ≡ get_or ts i t → c ≡ count (visit t) → 262144 < n + c
    → Some (record { spot = t.spot; key = Some Prefixes; at = Whole }) ≡ first (passing (map visit ts))
within_here_view ts i n c t s h is counted many =
    let same : c ≡ count (get_or (map visit ts) i (visit t)) = counted ∙ ap count (sym (at_view ts i t h is)) in
    ap (λ (v : Visit). Some (record { spot = v.spot; key = Some Prefixes; at = Whole })) (sym (at_view ts i t h is))
    ∙ within_here (map visit ts) i n (visit t) s (omega (arith, length-map ts visit)) (omega arith)
