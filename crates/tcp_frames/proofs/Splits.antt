-- Any octets split into messages and a rest that has none.
use Rattle.std.proofs.Common.{◌≡◌, ◌⊎◌, ℕ, zero, suc, ◌+◌, ◌*◌, ◌/◌, ◌%◌, ◌<◌, ◌≤◌, List, [], ◌∷◌, ◌++◌, All, length, take, drop, refl, sym, ap, ◌∙◌, arith, append_assoc, inl, inr, length-append}
use Rattle.std.specs.List.{flat_map}
use Rattle.std.proofs.lemmas.Bool.{cases_lt}
use Rattle.std.proofs.lemmas.List.{length-take-le, take-append-drop}
use Rattle.std.proofs.lemmas.List.Elements.{All-append, All-cons, All-nil, All-tail}
use Rattle.std.proofs.lemmas.Nat.{div-add-mod'}
use Rattle.outside.specs.Limits.{largest_datagram}
use Rattle.std.proofs.lemmas.Grind.{flat_map-append}
use Rattle.tcp_frames.specs.Laws.{OctetsSplitOnce, WholeMessagesJoin}
use Rattle.tcp_frames.specs.Split.{HasNoMessage, IsSplit, framed}

-- a message stands whole at the front, or none does
abbrev IsAtFront : List ℕ → Type 0
IsAtFront octets = (message : List ℕ) × (behind : List ℕ) × (length message ≤ largest_datagram) × (octets ≡ framed message ++ behind)

none_short : (octets : List ℕ) → length octets < 2 → HasNoMessage octets
none_short octets lt message behind small is =
    let l : length octets ≡ length (framed message ++ behind) = ap length is in
    let m = length-append (framed message) behind in
    absurd (omega (arith, l, m, lt))

heads : (x y : ℕ) (xs ys : List ℕ) → x ∷ xs ≡ y ∷ ys → (x ≡ y) × (xs ≡ ys)
heads x y xs ys e = (cc e, cc e)

pub none_by : (high low : ℕ) (body : List ℕ) → ((n : ℕ) → n ≤ largest_datagram → n ≤ length body → high ≡ n / 256 → low ≡ n % 256 → ⊥) → HasNoMessage (high ∷ low ∷ body)
none_by high low body never message behind small is =
    let a = heads high (length message / 256) (low ∷ body) (length message % 256 ∷ (message ++ behind)) is in
    let b = heads low (length message % 256) body (message ++ behind) a.1 in
    let l : length body ≡ length (message ++ behind) = ap length b.1 in
    never (length message) small (omega (arith, l, length-append message behind)) a.0 b.0

pub length_is : (high low n : ℕ) → high ≡ n / 256 → low ≡ n % 256 → n ≡ high * 256 + low
length_is high low n a b = omega (arith, a, b, div-add-mod' n 256)

high_is : (high low : ℕ) → low < 256 → high ≡ (high * 256 + low) / 256
high_is high low lt = omega (arith, lt)

low_is : (high low : ℕ) → low < 256 → low ≡ (high * 256 + low) % 256
low_is high low lt = omega (arith, lt)

framed_is : (high low : ℕ) (m behind : List ℕ) (n : ℕ) → length m ≡ n → high ≡ n / 256 → low ≡ n % 256 → high ∷ low ∷ (m ++ behind) ≡ framed m ++ behind
framed_is high low m behind n is a b = ap (λ h. h ∷ low ∷ (m ++ behind)) (a ∙ ap (λ k. k / 256) (sym is)) ∙ ap (λ l. (length m / 256) ∷ l ∷ (m ++ behind)) (b ∙ ap (λ k. k % 256) (sym is))

front_whole : (high low : ℕ) (body : List ℕ) → low < 256 → high * 256 + low ≤ largest_datagram → high * 256 + low ≤ length body → IsAtFront (high ∷ low ∷ body)
front_whole high low body lt small fits =
    let n = high * 256 + low in
    let is = length-take-le n body fits in (
      take n body,
      drop n body,
      omega (arith, is, small),
      ap (λ l. high ∷ low ∷ l) (sym (take-append-drop n body)) ∙ framed_is high low (take n body) (drop n body) n is (high_is high low lt) (low_is high low lt),
    )

front_fits : (high low : ℕ) (body : List ℕ) → low < 256 → high * 256 + low ≤ largest_datagram → ((length body < high * 256 + low) ⊎ (high * 256 + low ≤ length body)) → IsAtFront (high ∷ low ∷ body) ⊎ HasNoMessage (high ∷ low ∷ body)
front_fits high low body lt small (inl more) = inr (none_by high low body (λ n le fit a b. let is = length_is high low n a b in absurd (omega (arith, is, more, fit))))
front_fits high low body lt small (inr fit) = inl (front_whole high low body lt small fit)

front_small : (high low : ℕ) (body : List ℕ) → low < 256 → ((largest_datagram < high * 256 + low) ⊎ (high * 256 + low ≤ largest_datagram)) → IsAtFront (high ∷ low ∷ body) ⊎ HasNoMessage (high ∷ low ∷ body)
front_small high low body lt (inl large) = inr (none_by high low body (λ n le fit a b. let is = length_is high low n a b in absurd (omega (arith, is, large, le))))
front_small high low body lt (inr small) = front_fits high low body lt small (cases_lt (length body) (high * 256 + low))

front_low : (high low : ℕ) (body : List ℕ) → ((low < 256) ⊎ (256 ≤ low)) → IsAtFront (high ∷ low ∷ body) ⊎ HasNoMessage (high ∷ low ∷ body)
front_low high low body (inl lt) = front_small high low body lt (cases_lt largest_datagram (high * 256 + low))
front_low high low body (inr le) = inr (none_by high low body (λ n small fit a b. absurd (omega (arith, b, le))))

front_of : (octets : List ℕ) → IsAtFront octets ⊎ HasNoMessage octets
front_of [] = inr (none_short [] (omega arith))
front_of (x ∷ []) = inr (none_short (x ∷ []) (omega arith))
front_of (high ∷ low ∷ body) = front_low high low body (cases_lt low 256)

-- what a split is, taken apart
pub record IsCutUp (octets : List ℕ) : Type 0 where
  pub messages : List (List ℕ)
  pub rest : List ℕ
  pub parts : octets ≡ flat_map framed messages ++ rest
  pub short : All (λ m. length m ≤ largest_datagram) messages
  pub none : HasNoMessage rest

split_by : (fuel : ℕ) (octets : List ℕ) → length octets ≤ fuel → (IsAtFront octets ⊎ HasNoMessage octets) → IsCutUp octets
split_by fuel octets le (inr none) = record { messages = []; rest = octets; parts = refl; short = All-nil (λ (m : List ℕ). length m ≤ largest_datagram); none = none }
split_by zero octets le (inl f) =
    let l : length octets ≡ length (framed f.0 ++ f.1) = ap length f.3 in
    absurd (omega (arith, l, length-append (framed f.0) f.1, le))
split_by (suc fuel) octets le (inl f) =
    let l : length octets ≡ length (framed f.0 ++ f.1) = ap length f.3 in
    let rest = split_by fuel f.1 (omega (arith, l, length-append (framed f.0) f.1, le)) (front_of f.1) in
    record {
      messages = f.0 ∷ rest.messages;
      rest = rest.rest;
      parts = f.3 ∙ (ap (λ k. framed f.0 ++ k) rest.parts ∙ sym (append_assoc (framed f.0) (flat_map framed rest.messages) rest.rest));
      short = All-cons (λ (m : List ℕ). length m ≤ largest_datagram) f.0 rest.messages f.2 rest.short;
      none = rest.none;
    }

pub split_of : (octets : List ℕ) → IsCutUp octets
split_of octets = split_by (length octets) octets (omega arith) (front_of octets)

append_same : (xs ys us vs : List ℕ) → length xs ≡ length ys → xs ++ us ≡ ys ++ vs → (xs ≡ ys) × (us ≡ vs)
append_same [] [] us vs is e = (refl, e)
append_same [] (y ∷ ys) us vs is e = absurd (omega (arith, is))
append_same (x ∷ xs) [] us vs is e = absurd (omega (arith, is))
append_same (x ∷ xs) (y ∷ ys) us vs is e =
    let h = heads x y (xs ++ us) (ys ++ vs) e in
    let r = append_same xs ys us vs (omega (arith, is)) h.1 in
    (ap (λ k. k ∷ xs) h.0 ∙ ap (λ k. y ∷ k) r.0, r.1)

framed_same : (m n us vs : List ℕ) → framed m ++ us ≡ framed n ++ vs → (m ≡ n) × (us ≡ vs)
framed_same m n us vs e =
    let a = heads (length m / 256) (length n / 256) (length m % 256 ∷ (m ++ us)) (length n % 256 ∷ (n ++ vs)) e in
    let b = heads (length m % 256) (length n % 256) (m ++ us) (n ++ vs) a.1 in
    append_same m n us vs (omega (arith, a.0, b.0, div-add-mod' (length m) 256, div-add-mod' (length n) 256)) b.1

one_split : (ms ns : List (List ℕ)) (rest other : List ℕ) → flat_map framed ms ++ rest ≡ flat_map framed ns ++ other → All (λ m. length m ≤ largest_datagram) ms → All (λ m. length m ≤ largest_datagram) ns → HasNoMessage rest → HasNoMessage other → ms ≡ ns
one_split [] [] rest other e p q a b = refl
one_split [] (n ∷ ns) rest other e p q a b = absurd (a n (flat_map framed ns ++ other) (q 0 n (omega arith)) (e ∙ append_assoc (framed n) (flat_map framed ns) other))
one_split (m ∷ ms) [] rest other e p q a b = absurd (b m (flat_map framed ms ++ rest) (p 0 m (omega arith)) (sym e ∙ append_assoc (framed m) (flat_map framed ms) rest))
one_split (m ∷ ms) (n ∷ ns) rest other e p q a b =
    let s = framed_same m n (flat_map framed ms ++ rest) (flat_map framed ns ++ other) (sym (append_assoc (framed m) (flat_map framed ms) rest) ∙ (e ∙ append_assoc (framed n) (flat_map framed ns) other)) in
    ap (λ k. k ∷ ms) s.0 ∙ ap (λ k. n ∷ k) (one_split ms ns rest other s.1 (All-tail (λ (x : List ℕ). length x ≤ largest_datagram) m ms p) (All-tail (λ (x : List ℕ). length x ≤ largest_datagram) n ns q) a b)

-- Octets split in one way.
pub split_is_one : (octets : List ℕ) (ms ns : List (List ℕ)) → IsSplit octets ms → IsSplit octets ns → ms ≡ ns
split_is_one octets ms ns p q = one_split ms ns p.rest q.rest (sym p.parts ∙ q.parts) p.short q.short p.none q.none

-- what stands behind whole messages splits as it did
pub joined : WholeMessagesJoin
joined front rest messages more is short s = record {
  rest = s.rest;
  parts = ap (λ l. l ++ rest) is ∙ (ap (λ l. flat_map framed messages ++ l) s.parts ∙ (sym (append_assoc (flat_map framed messages) (flat_map framed more) s.rest) ∙ ap (λ l. l ++ s.rest) (sym (flat_map-append framed messages more))));
  short = All-append (λ (m : List ℕ). length m ≤ largest_datagram) messages more short s.short;
  none = s.none;
}

pub once : OctetsSplitOnce
once octets =
    let s = split_of octets in
    let one : IsSplit octets s.messages = record { rest = s.rest; parts = s.parts; short = s.short; none = s.none } in
    (s.messages, one, λ others o. split_is_one octets others s.messages o one)
