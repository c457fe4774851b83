-- Groups and classes as units, and what the rules say of classes.
use Rattle.std.proofs.Common.{◌≡◌, ℕ, ◌+◌, ◌<◌, ◌≤◌, ◌^◌, suc, zero, true, false, ◌==◌, ◌&&◌, nat_lt, List, [], ◌∷◌, ◌++◌, length, get_or, take, Option, None, Some, IfSome, is_some, option_and_then, All, refl, ap, sym, ◌∙◌, subst, arith}
use Rattle.std.proofs.lemmas.Bool.{not-false}
use Rattle.std.proofs.lemmas.Bool.Decides.{nat_tests}
use Rattle.std.proofs.lemmas.List.{get_or-map, get_or-take, get_or_append_left, get_or-append-add, get_or_default, length-append, length-map, length-take-le}
use Rattle.std.proofs.lemmas.List.Folds.{list_any_at}
use Rattle.std.proofs.lemmas.List.Quantifiers.{position-Some}
use Rattle.std.specs.List.{cons_option, filter_map, list_any, position}
use Rattle.toml.specs.Data.{Data, Members, boolean}
use Rattle.map_model.specs.declared.instance.GroupId.{GroupId}
use Rattle.name_text.specs.Names.{is_same}
use Rattle.topology_text.specs.Names.{Entries, both, entry_at, is_paired, is_same_pair, is_unknown_name, names_in, number_of, pair_of, service_number, text_at, text_in, units_of, zone_items}
use Rattle.topology_text.specs.Plan.{AreClasses}
use Rattle.topology_text.specs.Texts.{service_name}
use Rattle.topology_text.specs.Topology.{AreSoundClasses, classes_of, kept_pair}
use Rattle.topology_text.specs.Values.{are_many_units, failing, whole_if, wrong_in}
use Rattle.topology_text.specs.Walk.{items_at}
use Rattle.topology_text.specs.declared.schema.Key.TheVariants.{Group, Class, Owner, Service, Services}
use Rattle.topology_text.proofs.Markets.{named}
use Rattle.topology_text.proofs.Quiet.{not_whole}
use Rattle.topology_text.proofs.Sound.{text_there}

-- what holds of each group and of each class holds of each unit
pub unit_all : (P : ℕ → Data → Type 0) (gs cs : List Data) → ((i : ℕ) → i < length gs → P i (entry_at gs i)) → ((c : ℕ) → c < length cs → P (length gs + c) (entry_at cs c)) → (i : ℕ) → i < length (gs ++ cs) → P i (entry_at (gs ++ cs) i)
unit_all P [] cs a b i l = let e : 0 + i ≡ i = omega arith in subst (λ n. P n (entry_at cs i)) e (b i l)
unit_all P (g ∷ gs) cs a b zero l = a 0 (omega arith)
unit_all P (g ∷ gs) cs a b (suc i) l =
    unit_all (λ j. P (suc j)) gs cs (λ j m. a (suc j) (omega arith)) (λ c m. let e : length (g ∷ gs) + c ≡ suc (length gs + c) = omega arith in subst (λ n. P n (entry_at cs c)) e (b c m)) i (omega arith)

-- and what holds of each unit holds of each group and of each class
pub units_first : (P : Data → Type 0) (gs cs : List Data) → ((i : ℕ) → i < length (gs ++ cs) → P (entry_at (gs ++ cs) i)) → All P gs
units_first P gs cs each k d h = subst P (get_or_append_left gs cs (boolean false) k h ∙ get_or_default gs k (boolean false) d h) (each k (omega (arith, length-append gs cs)))

pub units_rest : (P : Data → Type 0) (gs cs : List Data) → ((i : ℕ) → i < length (gs ++ cs) → P (entry_at (gs ++ cs) i)) → All P cs
units_rest P gs cs each k d h = subst P (get_or-append-add gs cs k (boolean false) ∙ get_or_default cs k (boolean false) d h) (each (length gs + k) (omega (arith, length-append gs cs)))

-- groups and classes together are few
pub few_units : (top : Members) → whole_if (are_many_units top) ≡ [] → length (items_at top Group ++ items_at top Class) ≤ 65536
few_units top h =
    let under : nat_lt 65536 (length (items_at top Group) + length (items_at top Class)) ≡ false = not_whole (are_many_units top) h in
    let few : length (items_at top Group) + length (items_at top Class) ≤ 65536 = least (length (items_at top Group) + length (items_at top Class)) under in
    omega (arith, few, length-append (items_at top Group) (items_at top Class))
  where
    least : (n : ℕ) → nat_lt 65536 n ≡ false → n ≤ 65536
    least n h = grind (arith, nat_tests)

-- a class's group and service are there
pub owner_there : (d : Entries) (o : Option Data) → is_some o ≡ true → wrong_in Owner o ≡ [] → failing (is_unknown_name d Owner) o ≡ [] → is_some (option_and_then (number_of d.groups) (text_in o)) ≡ true
owner_there d o there kind known =
    let (t, is) = text_there Owner refl o there kind in
    let some : is_some (number_of d.groups t) ≡ true = not-false (is_some (number_of d.groups t)) (not_whole _ (rw is at known)) in
    ap (λ x. is_some (option_and_then (number_of d.groups) (text_in x))) is ∙ some

pub service_there : (d : Entries) (o : Option Data) → is_some o ≡ true → wrong_in Service o ≡ [] → failing (is_unknown_name d Service) o ≡ [] → is_some (option_and_then (service_number d.zone) (text_in o)) ≡ true
service_there d o there kind known =
    let (t, is) = text_there Service refl o there kind in
    let some : is_some (service_number d.zone t) ≡ true = not-false (is_some (service_number d.zone t)) (not_whole _ (rw is at known)) in
    ap (λ x. is_some (option_and_then (service_number d.zone) (text_in x))) is ∙ some

pub both_there : (a b : Option ℕ) → is_some a ≡ true → is_some b ≡ true → is_some (both a b) ≡ true
both_there None b x y = cc
both_there (Some g) None x y = cc
both_there (Some g) (Some s) x y = refl

-- where each element gives something, what the elements give stands at their places
pub all_give : {Y : Type 0} (f : Data → Option Y) (ds : List Data) → ((i : ℕ) → i < length ds → is_some (f (entry_at ds i)) ≡ true) → length (filter_map f ds) ≡ length ds
all_give f [] each = refl
all_give {Y = Y} f (d ∷ ds) each = one (f d) (each 0 (omega arith)) (all_give f ds (λ i l. each (suc i) (omega arith)))
  where
    one : (o : Option Y) → is_some o ≡ true → length (filter_map f ds) ≡ length ds → length (cons_option o (filter_map f ds)) ≡ suc (length ds)
    one None some h = cc
    one (Some y) some h = ap suc h

pub given_at : {Y : Type 0} (f : Data → Option Y) (ds : List Data) (i : ℕ) (d : Y) → ((i : ℕ) → i < length ds → is_some (f (entry_at ds i)) ≡ true) → i < length ds → f (entry_at ds i) ≡ Some (get_or (filter_map f ds) i d)
given_at f [] i d each l = absurd (omega arith)
given_at {Y = Y} f (x ∷ ds) zero d each l = one (f x) refl (each 0 (omega arith))
  where
    one : (o : Option Y) → f x ≡ o → is_some o ≡ true → o ≡ Some (get_or (cons_option o (filter_map f ds)) 0 d)
    one None is some = cc
    one (Some y) is some = refl
given_at {Y = Y} f (x ∷ ds) (suc i) d each l = one (f x) (each 0 (omega arith)) (given_at f ds i d (λ j m. each (suc j) (omega arith)) (omega arith))
  where
    one : (o : Option Y) → is_some o ≡ true → f (entry_at ds i) ≡ Some (get_or (filter_map f ds) i d) → f (entry_at ds i) ≡ Some (get_or (cons_option o (filter_map f ds)) (suc i) d)
    one None some h = cc
    one (Some y) some h = h

-- the numbers of a class are those of a group and of a service
both_parts : (a b : Option ℕ) (p : ℕ × ℕ) → both a b ≡ Some p → (a ≡ Some p.0) × (b ≡ Some p.1)
both_parts None b p h = cc
both_parts (Some g) None p h = cc
both_parts (Some g) (Some s) p h = let e : (g, s) ≡ p = cc in (ap (λ (q : ℕ × ℕ). Some q.0) e, ap (λ (q : ℕ × ℕ). Some q.1) e)

number_below : (gs : List Data) (o : Option (List ℕ)) (n : ℕ) → option_and_then (number_of gs) o ≡ Some n → n < length gs
number_below gs None n h = cc
number_below gs (Some t) n h = (named gs t n h).0

service_below : (zone : Option Members) (o : Option (List ℕ)) (n : ℕ) → option_and_then (service_number zone) o ≡ Some n → n < length (names_in Services (zone_items zone Services))
service_below z None n h = cc
service_below z (Some t) n h = go (service_name t) h
  where
    names : List (List ℕ)
    names = names_in Services (zone_items z Services)

    go : (o : Option (List ℕ)) → option_and_then (λ name. position (is_same name) names) o ≡ Some n → n < length names
    go None q = cc
    go (Some name) q = (position-Some (is_same name) names n [] q).0

pub pair_below : (d : Entries) (e : Data) (p : ℕ × ℕ) → pair_of d e ≡ Some p → (p.0 < length d.groups) × (p.1 < length (names_in Services (zone_items d.zone Services)))
pair_below d e p h =
    let (owner, service) = both_parts _ _ p h in
    (number_below d.groups (text_at e Owner) p.0 owner, service_below d.zone (text_at e Service) p.1 service)

-- so they fit what keeps them
pub pair_fits : (d : Entries) (e : Data) → length d.groups ≤ 65536 → length (names_in Services (zone_items d.zone Services)) ≤ 64 → IfSome (pair_of d e) (λ q. (q.0 < 2 ^ 32) × (q.1 < 256))
pair_fits d e few services = go (pair_of d e) refl
  where
    go : (o : Option (ℕ × ℕ)) → pair_of d e ≡ o → IfSome o (λ q. (q.0 < 2 ^ 32) × (q.1 < 256))
    go None is = tt
    go (Some p) is = let below = pair_below d e p is in let one = below.0 in let two = below.1 in (omega (arith, one, few), omega (arith, two, services))

-- no two classes are of one group and one service
apart : (d : Entries) → AreSoundClasses d → (i j : ℕ) → i < j → j < length d.classes → (p q : ℕ × ℕ) → pair_of d (entry_at d.classes i) ≡ Some p → pair_of d (entry_at d.classes j) ≡ Some q → p.0 ≡ q.0 → p.1 ≡ q.1 → ⊥
apart d s i j before l p q first second one two =
    let front = take j d.classes in
    let len : length front ≡ j = length-take-le j d.classes (omega arith) in
    let each : (k : ℕ) → k < length front → is_some (pair_of d (entry_at front k)) ≡ true =
    λ k m. let b : k < j = omega arith in ap (λ e. is_some (pair_of d e)) (get_or-take j d.classes k (boolean false) b) ∙ s.named k (omega arith) in
    let m : i < length front = omega arith in
    let given : pair_of d (entry_at front i) ≡ Some (get_or (filter_map (pair_of d) front) i p) = given_at (pair_of d) front i p each m in
    let same : Some (get_or (filter_map (pair_of d) front) i p) ≡ Some p = sym given ∙ ap (pair_of d) (get_or-take j d.classes i (boolean false) before) ∙ first in
    let at : get_or (filter_map (pair_of d) front) i p ≡ p = cc in
    let test : is_same_pair q (get_or (filter_map (pair_of d) front) i p) ≡ true = ap (is_same_pair q) at ∙ equal p.0 q.0 p.1 q.1 one two in
    let there : list_any (is_same_pair q) (filter_map (pair_of d) front) ≡ true = list_any_at (is_same_pair q) (filter_map (pair_of d) front) i p (omega (arith, all_give (pair_of d) front each)) test in
    let free : list_any (is_same_pair q) (filter_map (pair_of d) front) ≡ false = ap (is_paired (filter_map (pair_of d) front)) (sym second) ∙ s.once j l in
    cc
  where
    equal : (a b c e : ℕ) → a ≡ b → c ≡ e → (b == a && e == c) ≡ true
    equal a b c e x y = grind (arith, nat_tests)

pub classes_good : (d : Entries) → AreSoundClasses d → AreClasses (classes_of d) (length (units_of d)) (length (names_in Services (zone_items d.zone Services)))
classes_good d s =
    let ps = filter_map (pair_of d) d.classes in
    let len : length ps ≡ length d.classes = all_give (pair_of d) d.classes s.named in
    record {
      whole = omega (arith, len, length-map ps kept_pair, length-append d.groups d.classes);
      owned = λ k e h.
          let p : ℕ × ℕ = (e.0.0, e.1) in
          let m : k < length ps = omega (arith, length-map ps kept_pair) in
          let is : pair_of d (entry_at d.classes k) ≡ Some (get_or ps k p) = given_at (pair_of d) d.classes k p s.named (omega (arith, len, m)) in
          subst (λ x. x.0.0 < length d.groups) (sym (get_or-map kept_pair ps k p e m)) (pair_below d (entry_at d.classes k) (get_or ps k p) is).0;
      served = λ k e h.
          let p : ℕ × ℕ = (e.0.0, e.1) in
          let m : k < length ps = omega (arith, length-map ps kept_pair) in
          let is : pair_of d (entry_at d.classes k) ≡ Some (get_or ps k p) = given_at (pair_of d) d.classes k p s.named (omega (arith, len, m)) in
          subst (λ x. x.1 < length (names_in Services (zone_items d.zone Services))) (sym (get_or-map kept_pair ps k p e m)) (pair_below d (entry_at d.classes k) (get_or ps k p) is).1;
      once = λ i j e before h one two.
          let p : ℕ × ℕ = (e.0.0, e.1) in
          let m : j < length ps = omega (arith, length-map ps kept_pair) in
          let n : i < length ps = omega (arith, m, before) in
          let left = get_or-map kept_pair ps i p e n in
          let right = get_or-map kept_pair ps j p e m in
          apart d s i j before (omega (arith, len, m)) (get_or ps i p) (get_or ps j p) (given_at (pair_of d) d.classes i p s.named (omega (arith, len, n))) (given_at (pair_of d) d.classes j p s.named (omega (arith, len, m)))
          (ap (λ (x : GroupId × ℕ). x.0.0) (sym left) ∙ one ∙ ap (λ (x : GroupId × ℕ). x.0.0) right)
          (ap (λ (x : GroupId × ℕ). x.1) (sym left) ∙ two ∙ ap (λ (x : GroupId × ℕ). x.1) right);
    }
