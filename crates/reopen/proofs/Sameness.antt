-- A tree in which nothing changed refuses whom it refused.
use Rattle.std.proofs.Common.{◌≡◌, ℕ, ◌<◌, ◌==◌, Bool, true, not, ◌&&◌, if◌then◌else◌, List, [], ◌∷◌, length, Option, Some, find, refl, sym, ap, ◌∙◌, subst}
use Rattle.std.specs.List.{list_any}
use Rattle.std.specs.Option.{option_map}
use Rattle.std.proofs.lemmas.Bool.{and_parts, eq-eqb, eqb-true, or_left, or_right}
use Rattle.map_model.specs.declared.instance.Key.{Key}
use Rattle.map_model.specs.declared.lines.By.TheVariants.{Limit, Node}
use Rattle.map_model.specs.declared.lines.MapLine.{MapLine}
use Rattle.map_model.specs.Market.{Market, IsMarket, IsSameShape, capacity_of, key_of, limit_of, path, pool_of}
use Rattle.map_model.specs.Allocation.{AreLines, IsOffer, amount_at, counts_at, is_at_limit, is_full_of_better, is_under, key_le, load, none_worse, refuser_of, refusing_node, units_of}
use Rattle.map_model.specs.Holding.{under_worse}
use Rattle.map_model.specs.Progress.{root_of, tree_of}
use Rattle.map_model.proofs.Paths.{pool_there}
use Rattle.map_model.proofs.Shapes.{key_of-shape, limit_of-shape, path-shape, pool_of-shape}
use Rattle.map_model.proofs.Trees.{under_there}
use Rattle.evict.proofs.Bridge.{none_worse-units_of}
use Rattle.evict.proofs.Refusals.{some-AreLines}
use Rattle.map_model.proofs.Roots.{root-under}
use Rattle.evict.proofs.Shaped.{load-shape, under_worse-shape, units_of-same}

-- a test that passes offers of one tree alone
abbrev pub IsOfTree : Market → ℕ → (ℕ → ℕ → Bool) → Type 0
IsOfTree m root test = (g k : ℕ) → IsOffer m g k → test g k ≡ true → tree_of m g k ≡ root

-- the offers of a tree hold the same units
abbrev pub IsSameIn : Market → ℕ → List MapLine → List MapLine → Type 0
IsSameIn m root old new = (test : ℕ → ℕ → Bool) → IsOfTree m root test → units_of test new ≡ units_of test old

-- two tests that agree on the elements of a list find the same one
find-same : (p q : ℕ → Bool) (xs : List ℕ) → ((n : ℕ) → list_any (λ x. x == n) xs ≡ true → p n ≡ q n) → find p xs ≡ find q xs
find-same p q [] same = refl
find-same p q (x ∷ xs) same =
    ap (λ b. if b then Some x else find p xs) (same x (or_left (x == x) (list_any (λ y. y == x) xs) (eq-eqb x x refl)))
    ∙ ap (λ (o : Option ℕ). if q x then Some x else o) (find-same p q xs (λ n t. same n (or_right (x == n) (list_any (λ y. y == n) xs) t)))

-- what passes only offers under a node passes only offers of its tree
pub of_node : (m : Market) → IsMarket m → (n : ℕ) (test : ℕ → ℕ → Bool) → ((g k : ℕ) → test g k ≡ true → counts_at m n g k ≡ true) → IsOfTree m (root_of m n) test
of_node m market n test under = λ g k o t. root-under m market n (pool_of m g k) (pool_there m market g k o) (under g k t)

-- a node of a tree whose offers hold the same is as full, of the same
pub full-same : (old new : Market) → IsSameShape old new → IsMarket old → (lines lines' : List MapLine) → AreLines old lines → AreLines new lines' → (n : ℕ) (key : Key) → capacity_of new n ≡ capacity_of old n → IsSameIn old (root_of old n) lines lines'
    → is_full_of_better new lines' n key ≡ is_full_of_better old lines n key
full-same old new shape market lines lines' form form' n key capacity same =
    let loads : load new lines' n ≡ load old lines n = load-shape old new shape lines' n ∙ same (counts_at old n) (of_node old market n (counts_at old n) (λ g k t. t)) in
    let worse : units_of (under_worse new n key) lines' ≡ units_of (under_worse old n key) lines
    = units_of-same (under_worse new n key) (under_worse old n key) (under_worse-shape old new shape n key) lines' ∙ same (under_worse old n key) (of_node old market n (under_worse old n key) (λ g k t. (and_parts (counts_at old n g k) (not (key_le (key_of old g k) key)) t).0)) in
    let none : none_worse new lines' n key ≡ none_worse old lines n key
    = none_worse-units_of new n key lines' (some-AreLines new lines' form') ∙ ap (λ u. u == 0) worse ∙ sym (none_worse-units_of old n key lines (some-AreLines old lines form)) in
    ap (λ l. (l == capacity_of new n) && none_worse new lines' n key) loads ∙ ap (λ c. (load old lines n == c) && none_worse new lines' n key) capacity ∙ ap (λ b. (load old lines n == capacity_of old n) && b) none

-- where the offers of a tree hold the same and its capacities are the same, an offer there is refused by the same node, if by any
refusing-same : (old new : Market) → IsSameShape old new → IsMarket old → (lines lines' : List MapLine) → AreLines old lines → AreLines new lines' → (g k : ℕ) → IsOffer old g k → ((n : ℕ) → n < length old.nodes → root_of old n ≡ tree_of old g k → capacity_of new n ≡ capacity_of old n)
    → IsSameIn old (tree_of old g k) lines lines' → refusing_node new lines' g k ≡ refusing_node old lines g k
refusing-same old new shape market lines lines' form form' g k o capacities same =
    ap (λ (key : Key). find (λ n. is_full_of_better new lines' n key) (path new (pool_of new g k))) (key_of-shape old new shape g k)
    ∙ ap (λ p. find (λ n. is_full_of_better new lines' n (key_of old g k)) (path new p)) (pool_of-shape old new shape g k)
    ∙ ap (λ (ns : List ℕ). find (λ n. is_full_of_better new lines' n (key_of old g k)) ns) (path-shape old new shape (pool_of old g k))
    ∙ find-same (λ n. is_full_of_better new lines' n (key_of old g k)) (λ n. is_full_of_better old lines n (key_of old g k)) (path old (pool_of old g k)) each
  where
    pool : pool_of old g k < length old.nodes
    pool = pool_there old market g k o

    each : (n : ℕ) → is_under old n (pool_of old g k) ≡ true → is_full_of_better new lines' n (key_of old g k) ≡ is_full_of_better old lines n (key_of old g k)
    each n under =
        let root : root_of old n ≡ tree_of old g k = sym (root-under old market n (pool_of old g k) pool under) in
        full-same old new shape market lines lines' form form' n (key_of old g k) (capacities n (under_there old market n (pool_of old g k) pool under) root) (subst (λ r. IsSameIn old r lines lines') (sym root) same)

-- and by its limit, or else by that node
pub refuser-same : (old new : Market) → IsSameShape old new → IsMarket old → (lines lines' : List MapLine) → AreLines old lines → AreLines new lines' → (g k : ℕ) → IsOffer old g k → ((n : ℕ) → n < length old.nodes → root_of old n ≡ tree_of old g k → capacity_of new n ≡ capacity_of old n)
    → IsSameIn old (tree_of old g k) lines lines' → refuser_of new lines' g k ≡ refuser_of old lines g k
refuser-same old new shape market lines lines' form form' g k o capacities same =
    ap (λ b. if b then Some Limit else option_map (λ n. Node (record { 0 = n })) (refusing_node new lines' g k)) full
    ∙ ap (λ (at : Option ℕ). if is_at_limit old lines g k then Some Limit else option_map (λ n. Node (record { 0 = n })) at) (refusing-same old new shape market lines lines' form form' g k o capacities same)
  where
    amount : amount_at lines' g k ≡ amount_at lines g k
    amount = same (λ h j. (h == g) && (j == k)) (λ h j oh t.
        let p = and_parts (h == g) (j == k) t in
        ap (λ x. tree_of old x j) (eqb-true h g p.0) ∙ ap (tree_of old g) (eqb-true j k p.1))

    full : is_at_limit new lines' g k ≡ is_at_limit old lines g k
    full = ap (λ u. u == limit_of new g k) amount ∙ ap (λ l. amount_at lines g k == l) (limit_of-shape old new shape g k)
