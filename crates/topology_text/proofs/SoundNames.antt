-- A table without faults is sound: what the rules say of names.
use Rattle.std.proofs.Common.{◌≡◌, ℕ, ◌+◌, ◌<◌, ◌≤◌, suc, zero, Bool, true, false, not, ◌==◌, cond, List, [], ◌∷◌, length, get_or, map, Option, Some, is_some, unwrap_or, refl, ap, sym, ◌∙◌, arith}
use Rattle.std.proofs.lemmas.Bool.Decides.{nat_tests}
use Rattle.std.proofs.lemmas.List.{get_or-map, length-map}
use Rattle.std.proofs.lemmas.Slice.Eq.{bytes_eq-Decides}
use Rattle.std.specs.List.{position_from}
use Rattle.std.proofs.lemmas.Bool.{not-false}
use Rattle.toml.specs.Data.{Data, boolean}
use Rattle.topology_text.specs.Names.{entry_at, is_called, is_other, is_taken, number_of, text_at, text_in}
use Rattle.topology_text.specs.Texts.{is_name}
use Rattle.topology_text.specs.Topology.{AreSoundNames, name_of}
use Rattle.topology_text.specs.Values.{failing, is_bad_name, wrong_in}
use Rattle.topology_text.specs.declared.schema.Key.TheVariants.{Name}
use Rattle.topology_text.proofs.Quiet.{not_whole}
use Rattle.topology_text.proofs.Sound.{text_there}

-- a name that is there, of its kind and by its rule
pub name_good : (o : Option Data) → is_some o ≡ true → wrong_in Name o ≡ [] → failing (is_bad_name Name) o ≡ [] → (t : List ℕ) × (text_in o ≡ Some t) × (is_name t ≡ true)
name_good o there kind good =
    let (t, is) = text_there Name refl o there kind in
    (t, ap text_in is, not-false (is_name t) (not_whole _ (rw is at good)))

-- the first place of what passes a test is no later than any such place
position_before : {K : Type 0} (test : K → Bool) (n : ℕ) (xs : List K) (i : ℕ) (d : K) → i < length xs → test (get_or xs i d) ≡ true → (k : ℕ) × (position_from test n xs ≡ Some k) × (k ≤ n + i)
position_before test n [] i d l h = absurd (omega arith)
position_before test n (x ∷ xs) i d l h = here (test x) refl i l h (λ j m g. position_before test (n + 1) xs j d m g)
  where
    here : (b : Bool) → test x ≡ b → (i : ℕ) → i < suc (length xs) → test (get_or (x ∷ xs) i d) ≡ true
        → ((j : ℕ) → j < length xs → test (get_or xs j d) ≡ true → (k : ℕ) × (position_from test (n + 1) xs ≡ Some k) × (k ≤ (n + 1) + j))
        → (k : ℕ) × (cond b (Some n) (position_from test (n + 1) xs) ≡ Some k) × (k ≤ n + i)
    here true is i l h more = (n, refl, omega arith)
    here false is zero l h more = cc
    here false is (suc j) l h more = let (k, at, before) = more j (omega arith) h in (k, at, omega arith)

-- names of entries of which none is taken before
called : (t : List ℕ) (o : Option (List ℕ)) → o ≡ Some t → is_called t o ≡ true
called t o is = ap (is_called t) is ∙ (bytes_eq-Decides t t).1 refl

two_apart : (entries : List Data) (i j : ℕ) (t : List ℕ) → i < j → j < length entries → text_at (entry_at entries i) Name ≡ Some t → text_at (entry_at entries j) Name ≡ Some t
    → is_taken entries j (text_at (entry_at entries j) Name) ≡ false → ⊥
two_apart entries i j t before l first second free =
    let (k, at, low) = position_before (λ e. is_called t (text_at e Name)) 0 entries i (boolean false) (omega arith) (called t _ first) in
    let other : is_other (number_of entries t) j ≡ false = ap (is_taken entries j) (sym second) ∙ free in
    let same : not (k == j) ≡ false = ap (λ (o : Option ℕ). is_other o j) (sym at) ∙ other in
    let e : k ≡ j = equal k j same in
    omega arith
  where
    equal : (k j : ℕ) → not (k == j) ≡ false → k ≡ j
    equal k j h = grind (arith, nat_tests)

name_is : (e : Data) (t : List ℕ) → text_at e Name ≡ Some t → name_of e ≡ t
name_is e t is = ap (λ (o : Option (List ℕ)). unwrap_or o []) is

pub names_sound : (entries : List Data) → ((i : ℕ) → i < length entries → (t : List ℕ) × (text_at (entry_at entries i) Name ≡ Some t) × (is_name t ≡ true) × (is_taken entries i (text_at (entry_at entries i) Name) ≡ false))
    → AreSoundNames entries
names_sound entries each = record {
  each = λ i l. let (t, named, good, free) = each i l in ap is_name (name_is (entry_at entries i) t named) ∙ good;
  distinct = λ i j d before l same.
      let m : j < length entries = omega (arith, length-map entries name_of) in
      let (t, named, good, free) = each i (omega arith) in
      let (u, named2, good2, free2) = each j m in
      let left : get_or (map name_of entries) i d ≡ t = get_or-map name_of entries i (boolean false) d (omega arith) ∙ name_is (entry_at entries i) t named in
      let right : get_or (map name_of entries) j d ≡ u = get_or-map name_of entries j (boolean false) d m ∙ name_is (entry_at entries j) u named2 in
      let one : u ≡ t = sym right ∙ sym same ∙ left in
      two_apart entries i j t before m named (named2 ∙ ap Some one) free2;
}
