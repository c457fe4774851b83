-- The addresses that agree in their first bits, and the longest prefixes among them.
use Rattle.std.proofs.Common.{◌≡◌, ℕ, ◌+◌, ◌-◌, ◌*◌, ◌/◌, ◌^◌, ◌<◌, ◌≤◌, Bool, true, false, cond, ◌&&◌, ◌||◌, eqb, ltb, leb, List, [], ◌∷◌, Option, Some, None, refl, sym, ap, subst, ◌∙◌, arith, eq-eqb, inl, inr}
use Rattle.std.specs.Prelude.{not, fold, All}
use Rattle.std.specs.List.{list_all}
use Rattle.std.specs.Option.{option_map_or}
use Rattle.std.proofs.lemmas.Bool.{not-false, eqb-true, leb-false, le-leb, and_parts, and_cases, and_from, or_parts}
use Rattle.std.proofs.lemmas.Nat.{shr_below}
use Rattle.std.proofs.lemmas.List.Elements.{All-head, All-tail}
use Rattle.std.proofs.Math.Bool.{or-true}
use Rattle.addr_text.specs.declared.address.Addr.{Addr}
use Rattle.addr_text.specs.declared.address.Addr.TheVariants.{V4, V6}
use Rattle.addr_text.specs.Addresses.{IsPrefix, bits_of}
use Rattle.prefix_lookup.specs.Longest.{IsAddress, agrees, holds, longest}
use Rattle.prefix_lookup.specs.Scope.{is_undivided, IsUniform}
use Rattle.prefix_lookup.specs.Steps.{longer}
use Rattle.prefix_lookup.proofs.Numbers.{held_alike, half_of, half_fits, not_both_halves, fits_alike}
use Rattle.prefix_lookup.proofs.Longest.{Entry, In}
use Rattle.prefix_lookup.proofs.Chosen.{AtLeast, Holding, best_is, takes_all, holding_all}

-- the prefix is no longer than s bits, or does not begin among the addresses that agree with a in s bits
abbrev pub stays_out : Addr → ℕ → Entry → Bool
stays_out a s e = leb e.0.len s || not (agrees s a e.0.addr)

held_alike_at : (s len : ℕ) (a b start : Addr) → (leb len s || not (agrees s a start)) ≡ true → agrees s a b ≡ true → agrees len start b ≡ agrees len start a
held_alike_at s len (V4 a) (V4 b) (V4 start) h same = held_alike 32 s len a b start h (eqb-true _ _ same)
held_alike_at s len (V4 a) (V4 b) (V6 start) h same = refl
held_alike_at s len (V4 a) (V6 b) start h same = absurd cc
held_alike_at s len (V6 a) (V4 b) start h same = absurd cc
held_alike_at s len (V6 a) (V6 b) (V4 start) h same = refl
held_alike_at s len (V6 a) (V6 b) (V6 start) h same = held_alike 128 s len a b start h (eqb-true _ _ same)

same_step : (a b : Addr) (best : Option Entry) (e : Entry) → holds e.0 b ≡ holds e.0 a → longer b best e ≡ longer a best e
same_step a b best e same = ap (λ (h : Bool). cond (h && option_map_or (λ q. ltb q.0.len e.0.len) best true) (Some e) best) same

same_fold : (a b : Addr) (s : ℕ) (best : Option Entry) (table : List Entry) → list_all (stays_out a s) table ≡ true → agrees s a b ≡ true → fold (longer b) best table ≡ fold (longer a) best table
same_fold a b s best [] h same = refl
same_fold a b s best (e ∷ es) h same =
    let parts = and_parts (stays_out a s e) (list_all (stays_out a s) es) h in
    ap (λ (o : Option Entry). fold (longer b) o es) (same_step a b best e (held_alike_at s e.0.len a b e.0.addr parts.0 same)) ∙ same_fold a b s (longer a best e) es parts.1 same

-- where nothing divides, there is one longest prefix
pub uniform : (a : Addr) (s : ℕ) (table : List Entry) → is_undivided table a s ≡ true → IsUniform table a s
uniform a s table h = λ b _ same. sym (best_is b table) ∙ same_fold a b s None table h same ∙ best_is a table

fails : (t : Entry → Bool) (table : List Entry) → list_all t table ≡ false → (e : Entry) × In e table × (t e ≡ false)
fails t [] h = absurd cc
fails t (e ∷ es) h = elim (and_cases (t e) (list_all t es) h) [ inl here ↦ (e, inl refl, here) | inr there ↦ (let r = fails t es there in (r.0, inr r.1, r.2)) ]

among : (P : Entry → Type 0) (table : List Entry) (e : Entry) → In e table → All P table → P e
among P [] e i all = absurd i
among P (f ∷ fs) e (inl here) all = subst P (sym here) (All-head P f fs all)
among P (f ∷ fs) e (inr there) all = among P fs e there (All-tail P f fs all)

-- how the numbers of so many bits are the addresses of a family
record IsFamily (bits : ℕ) (address : ℕ → Addr) : Type 0 where
  fits : (n : ℕ) → n < 2 ^ bits → IsAddress (address n)
  same : (s m n : ℕ) → agrees s (address m) (address n) ≡ eqb (m / 2 ^ (bits - s)) (n / 2 ^ (bits - s))
  held : (len m n : ℕ) (start : Addr) → agrees len start (address m) ≡ true → agrees len start (address n) ≡ true → m / 2 ^ (bits - len) ≡ n / 2 ^ (bits - len)

of_v4 : IsFamily 32 V4
of_v4 = record { fits = λ n h. h; same = λ s m n. refl; held = held }
  where
    held : (len m n : ℕ) (start : Addr) → agrees len start (V4 m) ≡ true → agrees len start (V4 n) ≡ true → m / 2 ^ (32 - len) ≡ n / 2 ^ (32 - len)
    held len m n (V4 start) one two = sym (eqb-true _ _ one) ∙ eqb-true _ _ two
    held len m n (V6 start) one two = absurd cc

of_v6 : IsFamily 128 V6
of_v6 = record { fits = λ n h. h; same = λ s m n. refl; held = held }
  where
    held : (len m n : ℕ) (start : Addr) → agrees len start (V6 m) ≡ true → agrees len start (V6 n) ≡ true → m / 2 ^ (128 - len) ≡ n / 2 ^ (128 - len)
    held len m n (V6 start) one two = sym (eqb-true _ _ one) ∙ eqb-true _ _ two
    held len m n (V4 start) one two = absurd cc

-- no entry of more than s bits is the longest at numbers of both halves of a block
no_longer : (bits k m n : ℕ) (address : ℕ → Addr) → IsFamily bits address → (best : Option Entry) → bits < n + (k + 1) → AtLeast n best → Holding (address (2 * m * 2 ^ k)) best → Holding (address ((2 * m + 1) * 2 ^ k)) best → ⊥
no_longer bits k m n address family None le long low high = long
no_longer bits k m n address family (Some r) le long low high =
    not_both_halves (bits - r.0.len) k m (omega arith) (family.held r.0.len (2 * m * 2 ^ k) ((2 * m + 1) * 2 ^ k) r.0.addr low high)

split : (bits a s k start : ℕ) (address : ℕ → Addr) → IsFamily bits address → (e : Entry) (table : List Entry) → bits ≡ s + (k + 1) → a < 2 ^ bits → In e table → e.0.addr ≡ address start → s < e.0.len → a / 2 ^ (k + 1) ≡ start / 2 ^ (k + 1) → IsUniform table (address a) s → ⊥
split bits a s k start address family e table wide small i is long inside uni =
    let m : ℕ = a / 2 ^ (k + 1) in
    let width : bits - s ≡ k + 1 = omega arith in
    let below : m < 2 ^ s = shr_below a s (k + 1) (subst (λ (n : ℕ). a < 2 ^ n) wide small) in
    let same : (b : ℕ) → a / 2 ^ (k + 1) ≡ b / 2 ^ (k + 1) → agrees s (address a) (address b) ≡ true = λ b h. family.same s a b ∙ eq-eqb _ _ (subst (λ (n : ℕ). a / 2 ^ n ≡ b / 2 ^ n) (sym width) h) in
    let fit : (x : ℕ) → x < 2 ^ (s + (k + 1)) → IsAddress (address x) = λ x h. family.fits x (subst (λ (n : ℕ). x < 2 ^ n) (sym wide) h) in
    let low : longest table (address (2 * m * 2 ^ k)) ≡ longest table (address a) = uni (address (2 * m * 2 ^ k)) (fit _ (subst (λ (n : ℕ). n * 2 ^ k < 2 ^ (s + (k + 1))) (plus_zero (2 * m)) (half_fits m 0 k s (omega arith) below))) (same _ (sym (subst (λ (n : ℕ). n * 2 ^ k / 2 ^ (k + 1) ≡ m) (plus_zero (2 * m)) (half_of m 0 k (omega arith))))) in
    let high : longest table (address ((2 * m + 1) * 2 ^ k)) ≡ longest table (address a) = uni (address ((2 * m + 1) * 2 ^ k)) (fit _ (half_fits m 1 k s (omega arith) below)) (same _ (sym (half_of m 1 k (omega arith)))) in
    let first : longest table (address start) ≡ longest table (address a) = uni (address start) (fit start (fits_alike a start s (k + 1) below inside)) (same start inside) in
    let itself : holds e.0 (address start) ≡ true = subst (λ (x : Addr). agrees e.0.len x (address start) ≡ true) (sym is) (family.same e.0.len start start ∙ eq-eqb _ _ refl) in
    no_longer bits k m e.0.len address family (longest table (address a)) (omega arith)
    (subst (AtLeast e.0.len) first (takes_all (address start) table e i itself))
    (subst (Holding (address (2 * m * 2 ^ k))) low (holding_all (address (2 * m * 2 ^ k)) table))
    (subst (Holding (address ((2 * m + 1) * 2 ^ k))) high (holding_all (address ((2 * m + 1) * 2 ^ k)) table))
  where
    plus_zero : (n : ℕ) → n + 0 ≡ n
    plus_zero n = omega arith

divided_in : (bits a s start : ℕ) (address : ℕ → Addr) → IsFamily bits address → (e : Entry) (table : List Entry) → a < 2 ^ bits → In e table → e.0.addr ≡ address start → s < e.0.len → e.0.len ≤ bits → a / 2 ^ (bits - s) ≡ start / 2 ^ (bits - s) → IsUniform table (address a) s → ⊥
divided_in bits a s start address family e table small i is long fits inside uni =
    let width : bits - s ≡ (bits - s - 1) + 1 = omega arith in
    split bits a s (bits - s - 1) start address family e table (omega arith) small i is long (subst (λ (n : ℕ). a / 2 ^ n ≡ start / 2 ^ n) width inside) uni

divided_at : (s : ℕ) (a : Addr) (start : Addr) (e : Entry) (table : List Entry) → IsAddress a → In e table → e.0.addr ≡ start → s < e.0.len → e.0.len ≤ bits_of start → agrees s a start ≡ true → IsUniform table a s → ⊥
divided_at s (V4 a) (V4 start) e table small i is long fits inside uni = divided_in 32 a s start V4 of_v4 e table small i is long fits (eqb-true _ _ inside) uni
divided_at s (V6 a) (V6 start) e table small i is long fits inside uni = divided_in 128 a s start V6 of_v6 e table small i is long fits (eqb-true _ _ inside) uni
divided_at s (V4 a) (V6 start) e table small i is long fits inside uni = absurd cc
divided_at s (V6 a) (V4 start) e table small i is long fits inside uni = absurd cc

-- where something divides, there are two longest prefixes
pub not_uniform : (a : Addr) (s : ℕ) (table : List Entry) → IsAddress a → All (λ e. IsPrefix e.0) table → is_undivided table a s ≡ false → IsUniform table a s → ⊥
not_uniform a s table small prefixes h uni =
    let f = fails (stays_out a s) table h in
    let parts = or_parts (leb f.0.0.len s) (not (agrees s a f.0.0.addr)) f.2 in
    let prefix : IsPrefix f.0.0 = among (λ e. IsPrefix e.0) table f.0 f.1 prefixes in
    divided_at s a f.0.0.addr f.0 table small f.1 refl (leb-false _ _ parts.0) prefix.len (not-false _ parts.1) uni

alone : (len : ℕ) (a start : Addr) → len ≤ bits_of start → (leb len (bits_of a) || not (agrees (bits_of a) a start)) ≡ true
alone len (V4 a) (V4 start) le = ap (λ (b : Bool). b || not (agrees 32 (V4 a) (V4 start))) (le-leb _ _ le)
alone len (V6 a) (V6 start) le = ap (λ (b : Bool). b || not (agrees 128 (V6 a) (V6 start))) (le-leb _ _ le)
alone len (V4 a) (V6 start) le = or-true (leb len 32)
alone len (V6 a) (V4 start) le = or-true (leb len 128)

-- an address alone is not divided
pub undivided_at_last : (a : Addr) (table : List Entry) → All (λ e. IsPrefix e.0) table → is_undivided table a (bits_of a) ≡ true
undivided_at_last a [] all = refl
undivided_at_last a (e ∷ es) all =
    let prefix : IsPrefix e.0 = All-head (λ e. IsPrefix e.0) e es all in
    and_from (stays_out a (bits_of a) e) (list_all (stays_out a (bits_of a)) es) (alone e.0.len a e.0.addr prefix.len) (undivided_at_last a es (All-tail (λ e. IsPrefix e.0) e es all))
