-- The names of a map are in its form.
use Rattle.std.proofs.Common.{◌≡◌, ℕ, zero, suc, ◌+◌, ◌-◌, ◌*◌, ◌<◌, Bool, List, [], ◌++◌, length, Option, None, Some, IsTrue, map, refl, sym, subst, inl, inr, arith}
use Rattle.std.specs.List.{cons_option, filter_map, find, flat_map, range_with_len}
use Rattle.std.specs.Option.{IfSome, option_map}
use Rattle.std.proofs.lemmas.Bool.{cases_Bool, lt-ltb, and_from}
use Rattle.std.proofs.lemmas.List.Elements.{filter_map-append}
use Rattle.map_model.specs.declared.instance.NodeId.{NodeId}
use Rattle.map_model.specs.declared.lines.By.{By}
use Rattle.map_model.specs.declared.lines.By.TheVariants.{Limit, Node}
use Rattle.map_model.specs.declared.lines.MapLine.{MapLine}
use Rattle.map_model.specs.declared.lines.NameLine.{NameLine}
use Rattle.map_model.specs.Market.{Market, IsMarket, choices_of, climb, parent_of, pool_of}
use Rattle.map_model.specs.Allocation.{AreNames, IsGood, IsMapForm, IsOffer, is_at_limit, is_by, is_name, is_wanted, name_at, name_of, names_of, offers_from, refuser_of, refusing_node}
use Rattle.map_model.proofs.MapForm.{few_places}
use Rattle.map_model.proofs.Paths.{parent_there, pool_there}
use Rattle.map_model.proofs.Rising.{IsRisen, Rises, Rises-at, Rises-lower, before_by_rank, first_or}

-- what a search up a climb finds is there
find_there : (m : Market) → IsMarket m → (test : ℕ → Bool) (steps : ℕ) (at : Option NodeId) → IfSome at (λ p. p.0 < length m.nodes) → IfSome (find test (climb steps m at)) (λ n. n < length m.nodes)
unfolding climb
find_there m market test zero at h = tt
find_there m market test (suc steps) None h = tt
find_there m market test (suc steps) (Some p) h = elim (cases_Bool (test p.0)) [
  | inl e ↦ rw e h
  | inr e ↦ rw e (find_there m market test steps (parent_of m p.0) (parent_there m market p.0 h))
]

-- the refusing node of an offer is there
pub refusing_there : (m : Market) → IsMarket m → (lines : List MapLine) (g k : ℕ) → IsOffer m g k → IfSome (refusing_node m lines g k) (λ n. n < length m.nodes)
refusing_there m market lines g k o = find_there m market _ 8 (Some (record { 0 = pool_of m g k })) (pool_there m market g k o)

-- and so is what refuses it
pub refuser_there : (m : Market) → IsMarket m → (lines : List MapLine) (g k : ℕ) → IsOffer m g k → IfSome (refuser_of m lines g k) (λ by. IsTrue (is_by m by))
refuser_there m market lines g k o = elim (cases_Bool (is_at_limit m lines g k)) [
  | inl e ↦ rw e refl
  | inr e ↦ rw e (node_there (refusing_node m lines g k) (refusing_there m market lines g k o))
]
  where
    node_there : (at : Option ℕ) → IfSome at (λ n. n < length m.nodes) → IfSome (option_map (λ n. Node (record { 0 = n })) at) (λ by. IsTrue (is_by m by))
    node_there None h = tt
    node_there (Some n) h = lt-ltb _ _ h

-- where a name stands in the order
abbrev rank : NameLine → ℕ
rank l = l.group.0 * 16 + l.place

-- the ids and the place of a name are in range
record IsInRange (m : Market) (l : NameLine) : Type 0 where
  offer : IsOffer m l.group.0 l.place
  by : IsTrue (is_by m l.by)

-- a name that no list holds
abbrev pub no_name : NameLine
no_name = record { group = record { 0 = 0 }; place = 0; by = Limit }

-- names in range whose ranks rise, from one on
abbrev Rise : Market → ℕ → List NameLine → Type 0
Rise m from names = Rises rank (IsInRange m) from names

-- the name of an offer, before names that rise from the next offer on
Rises-name : (m : Market) → IsMarket m → (lines : List MapLine) (g k : ℕ) → IsOffer m g k → (rest : List NameLine) → Rise m (g * 16 + k + 1) rest
    → Rise m (g * 16 + k) (cons_option (name_of m lines (record { group = record { 0 = g }; place = k })) rest)
Rises-name m market lines g k o rest r = elim (cases_Bool (is_wanted m lines g k)) [
  | inl e ↦ rw e (named (refuser_of m lines g k) (refuser_there m market lines g k o))
  | inr e ↦ rw e (Rises-lower rank (IsInRange m) (g * 16 + k) (g * 16 + k + 1) rest (omega arith) r)
]
  where
    named : (refuser : Option By) → IfSome refuser (λ by. IsTrue (is_by m by)) → Rise m (g * 16 + k) (cons_option (option_map (λ by. record { group = record { 0 = g }; place = k; by = by }) refuser) rest)
    named None h = Rises-lower rank (IsInRange m) (g * 16 + k) (g * 16 + k + 1) rest (omega arith) r
    named (Some by) h = (omega arith, record { offer = o; by = h }, r)

-- the names of a group's offers from one place on, before those of later groups
Rises-group : (m : Market) → IsMarket m → (lines : List MapLine) (g : ℕ) → g < length m.groups → (rest : List NameLine) → Rise m ((g + 1) * 16) rest → (n k : ℕ) → k + n ≡ length (choices_of m g)
    → Rise m (g * 16 + k) (filter_map (name_of m lines) (map (λ k. record { group = record { 0 = g }; place = k }) (range_with_len k n)) ++ rest)
Rises-group m market lines g within rest r zero k e = Rises-lower rank (IsInRange m) (g * 16 + k) ((g + 1) * 16) rest (omega (arith, (market.groups g (record { demand = 0; choices = [] }) within).few)) r
Rises-group m market lines g within rest r (suc n) k e =
    let o : IsOffer m g k = record { group = within; place = omega arith } in
    let later : List NameLine = filter_map (name_of m lines) (map (λ k. record { group = record { 0 = g }; place = k }) (range_with_len (k + 1) n)) in
    let next = Rises-group m market lines g within rest r n (k + 1) (omega arith) in
    let same : g * 16 + (k + 1) ≡ g * 16 + k + 1 = omega arith in
    subst (λ ls. Rise m (g * 16 + k) ls) (joined (name_of m lines (record { group = record { 0 = g }; place = k })) later) (Rises-name m market lines g k o (later ++ rest) (subst (λ f. Rise m f (later ++ rest)) same next))
  where
    joined : (o : Option NameLine) (ls : List NameLine) → cons_option o (ls ++ rest) ≡ cons_option o ls ++ rest
    joined None ls = refl
    joined (Some l) ls = refl

-- the names of the groups from one on
Rises-groups : (m : Market) → IsMarket m → (lines : List MapLine) (n g : ℕ) → g + n ≡ length m.groups → Rise m (g * 16) (filter_map (name_of m lines) (flat_map (λ g. offers_from m g 0) (range_with_len g n)))
Rises-groups m market lines zero g e = tt
Rises-groups m market lines (suc n) g e =
    let within : g < length m.groups = omega arith in
    let next = Rises-groups m market lines n (g + 1) (omega arith) in
    let whole : 0 + (length (choices_of m g) - 0) ≡ length (choices_of m g) = omega arith in
    let same : g * 16 + 0 ≡ g * 16 = omega arith in
    subst (λ ls. Rise m (g * 16) ls) (sym (filter_map-append (name_of m lines) (offers_from m g 0) (flat_map (λ g. offers_from m g 0) (range_with_len (g + 1) n))))
    (subst (λ f. Rise m f (filter_map (name_of m lines) (offers_from m g 0) ++ filter_map (name_of m lines) (flat_map (λ g. offers_from m g 0) (range_with_len (g + 1) n)))) same (Rises-group m market lines g within _ next (length (choices_of m g) - 0) 0 whole))

in_form : (m : Market) → IsMarket m → (names : List NameLine) (i : ℕ) → i < length names → IsRisen rank (IsInRange m) no_name 0 names i → ((j : ℕ) → j < length names → IsInRange m (name_at names j)) → IsTrue (is_name m names i)
in_form m market names i h a each =
    let l = name_at names i in
    let b = name_at names (i - 1) in
    and_from _ _ (and_from _ _ (and_from _ _ (lt-ltb _ _ a.range.offer.group) (lt-ltb _ _ a.range.offer.place)) a.range.by) (first_or i _ (λ some. before_by_rank b.group.0 b.place l.group.0 l.place (few_places m market _ _ (each (i - 1) (omega arith)).offer) (few_places m market _ _ a.range.offer) (a.above some)))

-- the names of a map are in the form of a map
pub AreNames-names_of : (m : Market) → IsMarket m → (lines : List MapLine) → AreNames m (names_of m lines)
AreNames-names_of m market lines i h =
    let e : 0 * 16 ≡ 0 = omega arith in
    let a = Rises-at rank (IsInRange m) no_name 0 (names_of m lines) (subst (λ f. Rise m f (names_of m lines)) e (Rises-groups m market lines (length m.groups) 0 (omega arith))) i h in
    in_form m market (names_of m lines) i h a (λ j l. (Rises-at rank (IsInRange m) no_name 0 (names_of m lines) (subst (λ f. Rise m f (names_of m lines)) e (Rises-groups m market lines (length m.groups) 0 (omega arith))) j l).range)

-- a good map is in the form of a map
pub IsMapForm-IsGood : (m : Market) → IsMarket m → (lines : List MapLine) (names : List NameLine) → IsGood m lines names → IsMapForm m lines names
IsMapForm-IsGood m market lines names good = record { of_lines = good.form; of_names = subst (AreNames m) (sym good.named) (AreNames-names_of m market lines) }
