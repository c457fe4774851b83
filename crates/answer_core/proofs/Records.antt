-- Records that are appended one after the other.
use Rattle.std.proofs.Common.{◌≡◌, ℕ, zero, suc, ◌+◌, ◌<◌, ◌≤◌, List, [], ◌∷◌, ◌++◌, length, get_or, take, sym, ap, subst, ◌∙◌, append_assoc, arith, length-append}
use Rattle.std.specs.Prelude.{map}
use Rattle.std.specs.List.{flat_map}
use Rattle.byteorder.specs.Endian.{big_bytes}
use Rattle.std.proofs.lemmas.List.{append-nil}
use Rattle.addr_text.specs.declared.address.Addr.{Addr}
use Rattle.addr_text.specs.declared.address.Addr.TheVariants.{V6}
use Rattle.dns_wire.specs.Spelling.{record_of}
use Rattle.answer_core.specs.Sections.{Resource, resource, address}

pub v6 : (o new bytes : List ℕ) (a : Addr) (n kind ttl : ℕ) → a ≡ V6 n → bytes ≡ big_bytes 16 n → new ≡ o ++ record_of 49164 kind ttl bytes → new ≡ o ++ resource (address ttl kind a)
v6 o new bytes a n kind ttl is b h = h ∙ ap (λ (l : List ℕ). o ++ record_of 49164 kind ttl l) b ∙ ap (λ (x : Addr). o ++ resource (address ttl kind x)) (sym is)

-- the first so many records
abbrev pub first_records : {X : Type 0} → (X → Resource) → List X → ℕ → List ℕ
first_records f xs i = flat_map resource (map f (take i xs))

one_more : {X : Type 0} (f : X → Resource) (xs : List X) (i : ℕ) (d : X) → i < length xs → first_records f xs (suc i) ≡ first_records f xs i ++ resource (f (get_or xs i d))
one_more f [] i d lt = absurd (omega arith)
one_more f (x ∷ xs) zero d lt = append-nil (resource (f x))
one_more f (x ∷ xs) (suc i) d lt = ap (λ (l : List ℕ). resource (f x) ++ l) (one_more f xs i d (omega arith)) ∙ sym (append_assoc (resource (f x)) (first_records f xs i) (resource (f (get_or xs i d))))

no_longer : {X : Type 0} (f : X → Resource) (xs : List X) (i : ℕ) → length (first_records f xs i) ≤ length (flat_map resource (map f xs))
no_longer f xs zero = omega arith
no_longer f [] (suc i) = omega arith
no_longer f (x ∷ xs) (suc i) = let shorter : length (first_records f xs i) ≤ length (flat_map resource (map f xs)) = no_longer f xs i in omega (arith, length-append (resource (f x)) (first_records f xs i), length-append (resource (f x)) (flat_map resource (map f xs)))

-- there is room for one more, where there is for all
pub has_room : {X : Type 0} (f : X → Resource) (xs : List X) (o now : List ℕ) (i : ℕ) (x d : X) → i < length xs → x ≡ get_or xs i d → now ≡ o ++ first_records f xs i → length o + length (flat_map resource (map f xs)) ≤ 1300 → length now + length (resource (f x)) ≤ 1300
has_room f xs o now i x d lt is so_far room =
    let more : first_records f xs (suc i) ≡ first_records f xs i ++ resource (f x) = subst (λ y. first_records f xs (suc i) ≡ first_records f xs i ++ resource (f y)) (sym is) (one_more f xs i d lt) in
    let fits : length (first_records f xs (suc i)) ≤ length (flat_map resource (map f xs)) = no_longer f xs (suc i) in
    omega (arith, ap length so_far, length-append o (first_records f xs i), ap length more, length-append (first_records f xs i) (resource (f x)))

pub goes_on : {X : Type 0} (f : X → Resource) (xs : List X) (o now new : List ℕ) (i : ℕ) (x d : X) → i < length xs → x ≡ get_or xs i d → now ≡ o ++ first_records f xs i → new ≡ now ++ resource (f x) → new ≡ o ++ first_records f xs (i + 1)
goes_on f xs o now new i x d lt is so_far next =
    let more : first_records f xs (suc i) ≡ first_records f xs i ++ resource (f x) = subst (λ y. first_records f xs (suc i) ≡ first_records f xs i ++ resource (f y)) (sym is) (one_more f xs i d lt) in
    let e : suc i ≡ i + 1 = omega arith in
    next ∙ ap (λ (l : List ℕ). l ++ resource (f x)) so_far ∙ append_assoc o (first_records f xs i) (resource (f x)) ∙ ap (λ (l : List ℕ). o ++ l) (sym more) ∙ ap (λ (n : ℕ). o ++ first_records f xs n) e
