-- A table without faults is sound: what the rules say of the zone's lists of names.
use Rattle.std.proofs.Common.{◌≡◌, ℕ, ◌+◌, ◌<◌, ◌≤◌, suc, zero, Bool, true, false, not, ◌&&◌, ◌||◌, ◌==◌, nat_le, cond, List, [], ◌∷◌, ◌++◌, length, get_or, take, Option, None, Some, is_some, option_and_then, unwrap_or, Result, Ok, Err, All, AllPairs, refl, ap, sym, ◌∙◌, subst, arith}
use Rattle.std.proofs.Math.Seq.{take-length}
use Rattle.std.proofs.lemmas.Bool.Decides.{nat_tests}
use Rattle.std.proofs.lemmas.List.{append-nil, take_more}
use Rattle.std.proofs.lemmas.List.Elements.{All-cons, All-nil, filter_map-append}
use Rattle.std.proofs.lemmas.List.Quantifiers.{all_pairs_push}
use Rattle.std.proofs.lemmas.Slice.Eq.{bytes_eq-Decides}
use Rattle.std.specs.List.{cons_option, list_any}
use Rattle.std.specs.Option.{ok_or}
use Rattle.std.specs.Str.{str_to_ascii_lowercase}
use Rattle.std.proofs.lemmas.Bool.{not-false}
use Rattle.name_text.specs.declared.fault.NameFault.{NameFault}
use Rattle.name_text.specs.declared.fault.NameFault.TheVariants.{LongName}
use Rattle.name_text.specs.Names.{is_same, is_under, label_fault, label_name_of, name_of, named}
use Rattle.name_text.specs.Wire.{wire}
use Rattle.toml.specs.Data.{Data, string, integer, float, boolean, datetime, array, table}
use Rattle.topology_text.specs.Names.{Entries, is_among, is_inside, is_under_apex, name_in, names_in, repeats_in, zone_text}
use Rattle.topology_text.specs.Schema.{is_item_kind, kind_of}
use Rattle.topology_text.specs.Values.{is_bad_name}
use Rattle.topology_text.specs.Plan.{IsService}
use Rattle.topology_text.specs.Texts.{good_name, short_name, zone_name}
use Rattle.topology_text.specs.declared.schema.Key.{Key}
use Rattle.topology_text.specs.declared.schema.Key.TheVariants.{Apex, Ns, Services}
use Rattle.topology_text.proofs.Quiet.{empty_map}
use Rattle.topology_text.proofs.Repeats.{none_marked}

-- a name of the zone is short
short_of : (r : Result (List ℕ) NameFault) (n : List ℕ) → short_name r ≡ Some n → length n ≤ 64
short_of (Err fault) n h = cc
short_of (Ok octets) n h = go (nat_le (length octets) 64) refl h
  where
    go : (b : Bool) → nat_le (length octets) 64 ≡ b → cond b (Some octets) None ≡ Some n → length n ≤ 64
    go true is some = let low : length octets ≤ 64 = grind (arith, nat_tests) in let same : octets ≡ n = cc in subst (λ xs. length xs ≤ 64) same low
    go false is some = cc

pub zone_name_short : (o : Option (List ℕ)) → length (unwrap_or (option_and_then zone_name o) []) ≤ 64
zone_name_short None = omega arith
zone_name_short (Some text) = go (zone_name text) refl
  where
    go : (o : Option (List ℕ)) → zone_name text ≡ o → length (unwrap_or o []) ≤ 64
    go None is = omega arith
    go (Some n) is = short_of (name_of text) n is

-- what each item with a name shows, each name shows
pub All-names : (P : List ℕ → Type 0) (k : Key) (ds : List Data) → ((j : ℕ) (n : List ℕ) → j < length ds → name_in k (get_or ds j (boolean false)) ≡ Some n → P n) → All P (names_in k ds)
All-names P k [] each = All-nil P
All-names P k (d ∷ ds) each = one (name_in k d) refl (All-names P k ds (λ j n l is. each (suc j) n (omega arith) is))
  where
    one : (o : Option (List ℕ)) → name_in k d ≡ o → All P (names_in k ds) → All P (cons_option o (names_in k ds))
    one None is rest = rest
    one (Some n) is rest = All-cons P n (names_in k ds) (each 0 n (omega arith) is) rest

ns_short : (d : Data) (n : List ℕ) → name_in Ns d ≡ Some n → length n ≤ 64
ns_short (string t) n h = short_of (name_of t) n h
ns_short (integer z) n h = cc
ns_short (float x) n h = cc
ns_short (boolean b) n h = cc
ns_short (datetime t) n h = cc
ns_short (array ds) n h = cc
ns_short (table ms) n h = cc

pub all_short : (ds : List Data) → All (λ n. length n ≤ 64) (names_in Ns ds)
all_short ds = All-names (λ n. length n ≤ 64) Ns ds (λ j n l is. ns_short (get_or ds j (boolean false)) n is)

-- a service is one label
good_of : (r : Result (List ℕ) NameFault) (n : List ℕ) → good_name r ≡ Some n → r ≡ Ok n
good_of (Err fault) n h = cc
good_of (Ok octets) n h = let same : octets ≡ n = cc in ap Ok same

one_label : (text n : List ℕ) → label_name_of text ≡ Ok n → IsService n
unfolding label_name_of
one_label text n h = go (label_fault text) refl h
  where
    short : (b : Bool) → ok_or (cond b (Some (wire (text ∷ []))) None) LongName ≡ Ok n → n ≡ wire (text ∷ [])
    short true q = cc
    short false q = cc

    go : (o : Option NameFault) → label_fault text ≡ o → named o (text ∷ []) ≡ Ok n → IsService n
    go (Some fault) is q = cc
    go None is q = (text, is, short (nat_le (length (wire (text ∷ []))) 255) q)

service_label : (d : Data) (n : List ℕ) → name_in Services d ≡ Some n → IsService n
service_label (string t) n h = one_label t n (good_of (label_name_of t) n h)
service_label (integer z) n h = cc
service_label (float x) n h = cc
service_label (boolean b) n h = cc
service_label (datetime t) n h = cc
service_label (array ds) n h = cc
service_label (table ms) n h = cc

pub all_services : (ds : List Data) → All IsService (names_in Services ds)
all_services ds = All-names IsService Services ds (λ j n l is. service_label (get_or ds j (boolean false)) n is)

-- how many names there are
pub few_names : (k : Key) (ds : List Data) → length (names_in k ds) ≤ length ds
few_names k [] = omega arith
few_names k (d ∷ ds) = one (name_in k d) (few_names k ds)
  where
    one : (o : Option (List ℕ)) → length (names_in k ds) ≤ length ds → length (cons_option o (names_in k ds)) ≤ suc (length ds)
    one None h = omega arith
    one (Some n) h = omega arith

pub some_names : (k : Key) (ds : List Data) → 1 ≤ length ds → is_some (name_in k (get_or ds 0 (boolean false))) ≡ true → 1 ≤ length (names_in k ds)
some_names k [] h there = absurd (omega arith)
some_names k (d ∷ ds) h there = one (name_in k d) there
  where
    one : (o : Option (List ℕ)) → is_some o ≡ true → 1 ≤ length (cons_option o (names_in k ds))
    one None q = cc
    one (Some n) q = omega arith

-- no name is the same as an earlier one
same_back : (a b : List ℕ) → is_same b a ≡ false → is_same a b ≡ false
same_back a b h = go (is_same a b) refl
  where
    go : (c : Bool) → is_same a b ≡ c → c ≡ false
    go true is =
        let e : str_to_ascii_lowercase a ≡ str_to_ascii_lowercase b = (bytes_eq-Decides (str_to_ascii_lowercase a) (str_to_ascii_lowercase b)).0 is in
        let back : is_same b a ≡ true = (bytes_eq-Decides (str_to_ascii_lowercase b) (str_to_ascii_lowercase a)).1 (sym e) in cc
    go false is = refl

not_among : (names : List (List ℕ)) (n : List ℕ) → list_any (is_same n) names ≡ false → (k : ℕ) (d : List ℕ) → k < length names → is_same (get_or names k d) n ≡ false
not_among [] n h k d l = absurd (omega arith)
not_among (x ∷ xs) n h zero d l = same_back x n (left (is_same n x) h)
  where
    left : (b : Bool) → (b || list_any (is_same n) xs) ≡ false → b ≡ false
    left true q = q
    left false q = refl
not_among (x ∷ xs) n h (suc k) d l = not_among xs n (right (is_same n x) h) k d (omega arith)
  where
    right : (b : Bool) → (b || list_any (is_same n) xs) ≡ false → list_any (is_same n) xs ≡ false
    right true q = cc
    right false q = q

push_name : (names : List (List ℕ)) (o : Option (List ℕ)) → AllPairs (λ a b. is_same a b ≡ false) names → is_among names o ≡ false → AllPairs (λ a b. is_same a b ≡ false) (names ++ cons_option o [])
push_name names None all free = subst (AllPairs (λ a b. is_same a b ≡ false)) (sym (append-nil names)) all
push_name names (Some n) all free = all_pairs_push (λ a b. is_same a b ≡ false) names n all (not_among names n free)

front_apart : (k : Key) (ds : List Data) → ((j : ℕ) → j < length ds → is_among (names_in k (take j ds)) (name_in k (get_or ds j (boolean false))) ≡ false) → (i : ℕ) → i ≤ length ds → AllPairs (λ a b. is_same a b ≡ false) (names_in k (take i ds))
front_apart k ds free zero h = λ a b d before l. absurd (omega arith)
front_apart k ds free (suc i) h =
    let more : names_in k (take (i + 1) ds) ≡ names_in k (take i ds) ++ cons_option (name_in k (get_or ds i (boolean false))) [] =
    ap (names_in k) (take_more ds i (boolean false) (omega arith)) ∙ filter_map-append (name_in k) (take i ds) (get_or ds i (boolean false) ∷ []) in
    let e : i + 1 ≡ suc i = omega arith in
    let there : AllPairs (λ a b. is_same a b ≡ false) (names_in k (take (i + 1) ds)) =
    subst (AllPairs (λ a b. is_same a b ≡ false)) (sym more) (push_name (names_in k (take i ds)) (name_in k (get_or ds i (boolean false))) (front_apart k ds free i (omega arith)) (free i (omega arith))) in
    subst (λ n. AllPairs (λ a b. is_same a b ≡ false) (names_in k (take n ds))) e there

pub names_apart : (k : Key) (ds : List Data) → repeats_in k ds ≡ [] → AllPairs (λ a b. is_same a b ≡ false) (names_in k ds)
names_apart k ds none =
    let free : (j : ℕ) → j < length ds → is_among (names_in k (take j ds)) (name_in k (get_or ds j (boolean false))) ≡ false =
    λ j l. let e : 0 + j ≡ j = omega arith in rw e at (none_marked (λ i d. is_among (names_in k (take i ds)) (name_in k d)) 0 ds (empty_map _ _ none) j (boolean false) l) in
    subst (λ xs. AllPairs (λ a b. is_same a b ≡ false) (names_in k xs)) (take-length ds) (front_apart k ds free (length ds) (omega arith))

-- no name server is in the zone
abbrev pub apex_of : Entries → Option (List ℕ)
apex_of d = option_and_then zone_name (zone_text d.zone Apex)

outside_of : (d : Entries) (e : Data) (n : List ℕ) → is_some (apex_of d) ≡ true → name_in Ns e ≡ Some n → is_inside d Ns e ≡ false → is_under n (unwrap_or (apex_of d) []) ≡ false
outside_of d (string t) n there is free = go (apex_of d) (zone_name t) there is free
  where
    go : (a o : Option (List ℕ)) → is_some a ≡ true → o ≡ Some n → is_under_apex a o ≡ false → is_under n (unwrap_or a []) ≡ false
    go None o there is q = cc
    go (Some a) None there is q = cc
    go (Some a) (Some m) there is q = let same : m ≡ n = cc in subst (λ x. is_under x a ≡ false) same q
outside_of d (integer z) n there is free = cc
outside_of d (float x) n there is free = cc
outside_of d (boolean b) n there is free = cc
outside_of d (datetime t) n there is free = cc
outside_of d (array ds) n there is free = cc
outside_of d (table ms) n there is free = cc

pub all_outside : (d : Entries) (ds : List Data) → is_some (apex_of d) ≡ true → ((j : ℕ) → j < length ds → is_inside d Ns (get_or ds j (boolean false)) ≡ false) → All (λ n. is_under n (unwrap_or (apex_of d) []) ≡ false) (names_in Ns ds)
all_outside d ds there free = All-names (λ n. is_under n (unwrap_or (apex_of d) []) ≡ false) Ns ds (λ j n l is. outside_of d (get_or ds j (boolean false)) n there is (free j l))

-- an item of `ns` of its kind and by its rule has a name
pub ns_named : (e : Data) → not (is_item_kind (kind_of Ns) e) ≡ false → is_bad_name Ns e ≡ false → is_some (name_in Ns e) ≡ true
ns_named (string t) kind good = not-false (is_some (zone_name t)) good
ns_named (integer z) kind good = cc
ns_named (float x) kind good = cc
ns_named (boolean b) kind good = cc
ns_named (datetime t) kind good = cc
ns_named (array ds) kind good = cc
ns_named (table ms) kind good = cc

pub ns_there : (there : Bool) (n : ℕ) → there ≡ true → (there && (n == 0)) ≡ false → 1 ≤ n
ns_there true n is h = grind (arith, nat_tests)
ns_there false n is h = cc
