-- Held units that go, and none that come.
use Rattle.std.proofs.Common.{◌≡◌, ℕ, ◌+◌, ◌<◌, ◌≤◌, ◌==◌, Bool, true, false, ◌&&◌, if◌then◌else◌, List, [], ◌∷◌, length, All, slice_index, slice_set, get_or-set_same, get_or-set_other, refl, sym, ap, ◌∙◌, subst, inl, inr, ◌⊎◌, arith}
use Rattle.std.proofs.Math.ListN.{length-set}
use Rattle.std.proofs.lemmas.Bool.{cases_Bool, cases_eq, eq-eqb, ne_eqb, eqb-true}
use Rattle.std.proofs.lemmas.List.Sums.{sum_by-cons}
use Rattle.std.proofs.lemmas.List.Elements.{All-head, All-tail}
use Rattle.map_model.specs.declared.lines.MapLine.{MapLine}
use Rattle.map_model.specs.Market.{Market, IsMarket, IsSameShape, capacity_of, demand_of, pool_of}
use Rattle.map_model.specs.Allocation.{IsOffer, amount_at, counts_at, load, placed, units_of}
use Rattle.map_model.specs.Progress.{root_of, tree_of}
use Rattle.map_model.proofs.Paths.{pool_there}
use Rattle.evict.specs.Standing.{IsReleased, Standing}
use Rattle.map_model.proofs.Roots.{root-under}
use Rattle.evict.proofs.Shaped.{AreLines-shape}
use Rattle.reopen.specs.Cutting.{IsGroupTrimmed, CanCut, IsFitting, IsLess, KeepsSums}

-- a state is within itself
pub less_itself : (m : Market) (s : Standing) → CanCut m s → IsLess m s s
less_itself m s can = record { whole = can.whole; market = refl; form = can.form; pointers = refl; count = refl; fewer = λ test. omega arith; still = λ test f. refl }

pub sums_itself : (s : Standing) → KeepsSums s s
sums_itself s = λ g l. refl

-- a tree from which no unit has to go is one with fewer units too
fitting_less : (m : Market) (old new : List MapLine) → ((test : ℕ → ℕ → Bool) → units_of test new ≤ units_of test old) → (root : ℕ) → IsFitting m old root → IsFitting m new root
fitting_less m old new fewer root f = record {
  capacities = λ n l e. omega (arith, fewer (counts_at m n), f.capacities n l e);
  demands = λ g h. let some : 0 < amount_at old g h.0 = omega (arith, h.3, fewer (λ x y. (x == g) && (y == h.0))) in omega (arith, fewer (λ x _. x == g), f.demands g (h.0, h.1, h.2, some));
}

pub less_trans : (m : Market) (a b c : Standing) → IsLess m a b → IsLess m b c → IsLess m a c
less_trans m a b c x y = record {
  whole = y.whole;
  market = y.market ∙ x.market;
  form = y.form;
  pointers = y.pointers ∙ x.pointers;
  count = y.count ∙ x.count;
  fewer = λ test. omega (arith, x.fewer test, y.fewer test);
  still = λ test f. y.still test (λ g k o t. fitting_less m a.lines b.lines x.fewer (tree_of m g k) (f g k o t)) ∙ x.still test f;
}

pub sums_trans : (a b c : Standing) → length b.free ≡ length a.free → KeepsSums a b → KeepsSums b c → KeepsSums a c
sums_trans a b c count x y = λ g l. y g (omega (arith, count)) ∙ x g l

pub can_less : (m : Market) (old new : Standing) → CanCut m old → IsLess m old new → CanCut m new
can_less m old new can less = record { market = can.market; whole = less.whole; shape = subst (λ (x : Market). IsSameShape x m) (sym less.market) can.shape; form = less.form; count = less.count ∙ can.count }

-- units of an offer went, in a tree in which some have to go
pub less_released : (m : Market) (old new : Standing) (g k units : ℕ) → CanCut m old → IsReleased old new g k units → IsOffer m g k → (0 < units → IsFitting m old.lines (tree_of m g k) → ⊥) → IsLess m old new
less_released m old new g k units can rel o gone = record {
  whole = rel.whole;
  market = rel.market;
  form = AreLines-shape new.market m (subst (λ (x : Market). IsSameShape x m) (sym rel.market) can.shape) new.lines rel.form;
  pointers = rel.pointers;
  count = ap length rel.free ∙ length-set old.free g _;
  fewer = λ test. omega (arith, rel.lines test);
  still = λ test f. none test f (cases_Bool (test g k)) (cases_eq units 0);
}
  where
    none : (test : ℕ → ℕ → Bool) → ((h j : ℕ) → IsOffer m h j → test h j ≡ true → IsFitting m old.lines (tree_of m h j)) → (test g k ≡ true) ⊎ (test g k ≡ false) → (units ≡ 0) ⊎ (units ≡ 0 → ⊥) → units_of test new.lines ≡ units_of test old.lines
    none test f (inr n) u = let z : (if test g k then units else 0) ≡ 0 = rw n refl in omega (arith, rel.lines test, z)
    none test f (inl y) (inl e) = let z : (if test g k then units else 0) ≡ units = rw y refl in omega (arith, rel.lines test, z, e)
    none test f (inl y) (inr ne) = absurd (gone (omega arith) (f g k o y))

pub sums_released : (old new : Standing) (g k units : ℕ) → IsReleased old new g k units → g < length old.free → KeepsSums old new
sums_released old new g k units rel there = λ h l. elim (cases_eq g h) [
  | inl e ↦
      let one : (if g == h then units else 0) ≡ units = rw (eq-eqb g h e) refl in
      let at : slice_index new.free h ≡ slice_index old.free g + units = ap (λ xs. slice_index xs h) rel.free ∙ ap (slice_index (slice_set old.free g (slice_index old.free g + units))) (sym e) ∙ get_or-set_same old.free g (slice_index old.free g + units) 0 there in
      let was : slice_index old.free g ≡ slice_index old.free h = ap (slice_index old.free) e in
      omega (arith, rel.lines (λ x _. x == h))
  | inr ne ↦
      let none : (if g == h then units else 0) ≡ 0 = rw (ne_eqb g h ne) refl in
      let at : slice_index new.free h ≡ slice_index old.free h = ap (λ xs. slice_index xs h) rel.free ∙ get_or-set_other old.free g h _ 0 (λ e. ne (sym e)) in
      omega (arith, rel.lines (λ x _. x == h))
]

-- a group that holds too much has to give up units in each tree in which it holds some
pub too_much : (m : Market) (lines : List MapLine) (g k units : ℕ) → IsOffer m g k → units ≤ amount_at lines g k → demand_of m g < placed lines g → 0 < units → IsFitting m lines (tree_of m g k) → ⊥
too_much m lines g k units o held over some f = let fits = f.demands g (k, o, refl, omega (arith, held, some)) in absurd (omega (arith, fits))

-- a node over its capacity has to give up units of its tree
pub too_full : (m : Market) → IsMarket m → (lines : List MapLine) (n g k units : ℕ) → n < length m.nodes → IsOffer m g k → counts_at m n g k ≡ true → capacity_of m n < load m lines n → 0 < units → IsFitting m lines (tree_of m g k) → ⊥
too_full m market lines n g k units there o under over some f =
    let same : root_of m n ≡ tree_of m g k = sym (root-under m market n (pool_of m g k) (pool_there m market g k o) under) in
    absurd (omega (arith, f.capacities n there same))

-- a group that holds nothing at any place holds nothing
pub placed_none : (m : Market) (lines : List MapLine) (g : ℕ) → All (λ l. IsOffer m l.group.0 l.place) lines → ((k : ℕ) → IsOffer m g k → amount_at lines g k ≡ 0) → placed lines g ≡ 0
placed_none m [] g offers none = refl
placed_none m (l ∷ ls) g offers none =
    omega (
      arith,
      sum_by-cons (λ (x : MapLine). if x.group.0 == g then x.amount else 0) l ls,
      here (cases_Bool (l.group.0 == g)),
      placed_none m ls g (All-tail (λ (x : MapLine). IsOffer m x.group.0 x.place) l ls offers) (λ k o. omega (arith, more k, none k o)),
    )
  where
    more : (k : ℕ) → amount_at (l ∷ ls) g k ≡ (if (l.group.0 == g) && (l.place == k) then l.amount else 0) + amount_at ls g k
    more k = sum_by-cons (λ (x : MapLine). if (x.group.0 == g) && (x.place == k) then x.amount else 0) l ls

    here : ((l.group.0 == g) ≡ true) ⊎ ((l.group.0 == g) ≡ false) → (if l.group.0 == g then l.amount else 0) ≡ 0
    here (inr n) = rw n refl
    here (inl y) =
        let same : l.group.0 ≡ g = eqb-true l.group.0 g y in
        let o : IsOffer m g l.place = subst (λ x. IsOffer m x l.place) same (All-head (λ (x : MapLine). IsOffer m x.group.0 x.place) l ls offers) in
        let this : (if (l.group.0 == g) && (l.place == l.place) then l.amount else 0) ≡ l.amount = rw (y, eq-eqb l.place l.place refl) refl in
        let all : (if l.group.0 == g then l.amount else 0) ≡ l.amount = rw y refl in
        omega (arith, more l.place, none l.place o)

-- a group that was trimmed holds what it held then, or held at the start what it did before the trimming
pub trimmed_on : (m : Market) (g : ℕ) (old mid new : List MapLine) → ((k : ℕ) → amount_at new g k ≡ amount_at mid g k) → placed new g ≡ placed mid g → IsGroupTrimmed m g old mid → IsGroupTrimmed m g old new
trimmed_on m g old mid new same all trimmed = record {
  last = λ j k o later less. same k ∙ trimmed.last j k o later (omega (arith, less, same j));
  enough = λ k o less. omega (arith, trimmed.enough k o (omega (arith, less, same k)), all);
}

pub trimmed_from : (m : Market) (g : ℕ) (old mid new : List MapLine) → ((k : ℕ) → amount_at mid g k ≡ amount_at old g k) → IsGroupTrimmed m g mid new → IsGroupTrimmed m g old new
trimmed_from m g old mid new same trimmed = record {
  last = λ j k o later less. trimmed.last j k o later (omega (arith, less, same j));
  enough = λ k o less. trimmed.enough k o (omega (arith, less, same k));
}

-- nothing was trimmed
pub trimmed_none : (m : Market) (g : ℕ) (lines : List MapLine) → IsGroupTrimmed m g lines lines
trimmed_none m g lines = record { last = λ j k o later less. absurd (omega (arith, less)); enough = λ k o less. absurd (omega (arith, less)) }
