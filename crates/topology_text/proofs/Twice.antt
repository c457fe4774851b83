-- Prefixes that stand for the second time.
use Rattle.std.proofs.Common.{◌≡◌, ℕ, ◌+◌, ◌<◌, ◌≤◌, Bool, true, false, not, ◌||◌, List, [], ◌∷◌, ◌++◌, length, get_or, map, take, drop, Some, option_map, if◌then◌else◌, refl, ap, sym, ◌∙◌}
use Rattle.std.proofs.lemmas.List.{take_more, map-append}
use Rattle.std.specs.List.{list_any}
use Rattle.std.proofs.lemmas.Bool.{not-true, not-false}
use Rattle.addr_text.specs.contracts.address.PrefixPartialEq.TheImpl.{eq-value}
use Rattle.addr_text.specs.declared.address.Addr.{Addr}
use Rattle.addr_text.specs.declared.address.Addr.TheVariants.{V4, V6}
use Rattle.addr_text.specs.declared.address.Prefix.{Prefix}
use Rattle.topology_text.specs.Prefixes.{duplicate_prefixes, has_prefix, is_same_prefix, place_of}
use Rattle.topology_text.specs.Walk.{first, marked, marked_from}
use Rattle.topology_text.specs.declared.prefixes.PrefixAt.{PrefixAt}
use Rattle.topology_text.specs.declared.schema.Place.{Place}
use Rattle.topology_text.proofs.Firsts.{first-map}
use Rattle.topology_text.proofs.Repeats.{list_any-map, marked_here, marked_on}

-- the entry's prefix stands before number i
abbrev pub is_later : List PrefixAt → ℕ → PrefixAt → Bool
is_later es i e = has_prefix (take i es) e.prefix

-- so far the noted prefixes are those of the entries, and no entry repeats one
pub record AreNoted (es : List PrefixAt) (i : ℕ) (keys : List Prefix) : Type 0 where
  pub noted : keys ≡ map (λ e. e.prefix) (take i es)
  pub rest : first (marked_from (is_later es) i (drop i es)) ≡ first (marked (is_later es) es)

-- the prefixes' own test is that of the definition
same_parts : (a b : Addr) (m n : ℕ) → eq-value.it (record { addr = a; len = m }) (record { addr = b; len = n }) ≡ is_same_prefix (record { addr = a; len = m }) (record { addr = b; len = n })
same_parts (V4 x) (V4 y) m n = refl
same_parts (V4 x) (V6 y) m n = refl
same_parts (V6 x) (V4 y) m n = refl
same_parts (V6 x) (V6 y) m n = refl

any_same : (p : Prefix) (qs : List Prefix) → list_any (eq-value.it p) qs ≡ list_any (is_same_prefix p) qs
any_same p [] = refl
any_same p (q ∷ qs) = ap (λ b. b || list_any (eq-value.it p) qs) (same_parts p.addr q.addr p.len q.len) ∙ ap (λ b. is_same_prefix p q || b) (any_same p qs)

-- the prefix is among the noted ones
pub noted_has : (es : List PrefixAt) (i : ℕ) (keys : List Prefix) (p : Prefix) → keys ≡ map (λ e. e.prefix) (take i es) → list_any (eq-value.it p) keys ≡ has_prefix (take i es) p
noted_has es i keys p noted = any_same p keys ∙ ap (list_any (is_same_prefix p)) noted ∙ list_any-map (λ e. e.prefix) (is_same_prefix p) (take i es)

-- an entry whose prefix is new
pub noted_on : (es : List PrefixAt) (i : ℕ) (d : PrefixAt) (old new : List Prefix) (fresh : Bool) → AreNoted es i old → i < length es
    → fresh ≡ not (list_any (eq-value.it (get_or es i d).prefix) old) → fresh ≡ true
    → new ≡ (if list_any (eq-value.it (get_or es i d).prefix) old then old else old ++ (get_or es i d).prefix ∷ []) → AreNoted es (i + 1) new
noted_on es i d old new fresh s h told new_one put =
    let e = get_or es i d in
    let other : list_any (eq-value.it e.prefix) old ≡ false = not-true (list_any (eq-value.it e.prefix) old) (sym told ∙ new_one) in
    let none : is_later es i e ≡ false = sym (noted_has es i old e.prefix s.noted) ∙ other in
    let more : map (λ e. e.prefix) (take (i + 1) es) ≡ map (λ e. e.prefix) (take i es) ++ e.prefix ∷ [] = ap (map (λ e. e.prefix)) (take_more es i d h) ∙ map-append (λ e. e.prefix) (take i es) (e ∷ []) in
    record {
      noted = put ∙ ap (λ b. if b then old else old ++ e.prefix ∷ []) other ∙ ap (λ ks. ks ++ e.prefix ∷ []) s.noted ∙ sym more;
      rest = sym (marked_on (is_later es) i es d h none) ∙ s.rest;
    }

-- an entry whose prefix was noted
pub noted_here : (es : List PrefixAt) (i : ℕ) (d : PrefixAt) (old : List Prefix) (fresh : Bool) (place : Place) → AreNoted es i old → i < length es
    → fresh ≡ not (list_any (eq-value.it (get_or es i d).prefix) old) → fresh ≡ false → place ≡ place_of (get_or es i d) → Some place ≡ first (duplicate_prefixes es)
noted_here es i d old fresh place s h told old_one at_place =
    let e = get_or es i d in
    let there : list_any (eq-value.it e.prefix) old ≡ true = not-false (list_any (eq-value.it e.prefix) old) (sym told ∙ old_one) in
    let some : is_later es i e ≡ true = sym (noted_has es i old e.prefix s.noted) ∙ there in
    let at : first (marked (is_later es) es) ≡ Some (i, e) = sym s.rest ∙ marked_here (is_later es) i es d h some in
    ap Some at_place ∙ sym (first-map (λ p. place_of p.1) (marked (is_later es) es) ∙ ap (option_map (λ (p : ℕ × PrefixAt). place_of p.1)) at)
