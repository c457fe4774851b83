-- What depends on the shape of an instance alone, of lines and loads.
use Rattle.std.proofs.Common.{◌≡◌, ℕ, ◌-◌, ◌==◌, Bool, true, not, ◌&&◌, ◌||◌, nat_lt, if◌then◌else◌, List, length, Some, sym, ap, ◌∙◌, subst}
use Rattle.std.specs.List.{list_any}
use Rattle.capacity_tree.specs.Loads.{AreTreesOf}
use Rattle.map_model.specs.declared.instance.Choice.{Choice}
use Rattle.map_model.specs.declared.instance.Key.{Key}
use Rattle.map_model.specs.declared.lines.MapLine.{MapLine}
use Rattle.map_model.specs.Market.{Market, IsSameShape, choices_of, key_of}
use Rattle.map_model.specs.Allocation.{AreLines, counts_at, is_before, is_under, key_le, line_at, load, units_of}
use Rattle.map_model.specs.Holding.{IsWorst, under_worse}
use Rattle.map_model.proofs.Markets.{climb-same}
use Rattle.map_model.proofs.Shapes.{IsOffer-shape, counts_at-shape, key_of-shape}
use Rattle.map_model.proofs.Units.{sum_by-same}

-- two tests that say the same let the same units through
pub units_of-same : (p q : ℕ → ℕ → Bool) → ((g k : ℕ) → p g k ≡ q g k) → (lines : List MapLine) → units_of p lines ≡ units_of q lines
units_of-same p q same lines = sum_by-same _ _ (λ l. ap (λ b. if b then l.amount else 0) (same l.group.0 l.place)) lines

pub load-shape : (m m' : Market) → IsSameShape m m' → (lines : List MapLine) (n : ℕ) → load m' lines n ≡ load m lines n
load-shape m m' s lines n = units_of-same (counts_at m' n) (counts_at m n) (counts_at-shape m m' s n) lines

pub under_worse-shape : (m m' : Market) → IsSameShape m m' → (n : ℕ) (key : Key) (g k : ℕ) → under_worse m' n key g k ≡ under_worse m n key g k
under_worse-shape m m' s n key g k =
    ap (λ b. b && not (key_le (key_of m' g k) key)) (counts_at-shape m m' s n g k) ∙ ap (λ (x : Key). counts_at m n g k && not (key_le x key)) (key_of-shape m m' s g k)

-- the worst held offer under a node is the same
pub IsWorst-shape : (m m' : Market) → IsSameShape m m' → (lines : List MapLine) (n g k units : ℕ) → IsWorst m lines n g k units → IsWorst m' lines n g k units
IsWorst-shape m m' s lines n g k units w = record {
  offer = IsOffer-shape m m' s g k w.offer;
  under = counts_at-shape m m' s n g k ∙ w.under;
  some = w.some;
  held = w.held;
  worst = ap (λ (key : Key). units_of (under_worse m' n key) lines) (key_of-shape m m' s g k) ∙ units_of-same (under_worse m' n (key_of m g k)) (under_worse m n (key_of m g k)) (under_worse-shape m m' s n (key_of m g k)) lines ∙ w.worst;
}

-- and so is the form of a map
pub AreLines-shape : (m m' : Market) → IsSameShape m m' → (lines : List MapLine) → AreLines m lines → AreLines m' lines
AreLines-shape m m' s lines form i l =
    let x : MapLine = line_at lines i in
    subst (λ n. (nat_lt x.group.0 n && nat_lt x.place (length (choices_of m' x.group.0)) && nat_lt 0 x.amount && ((i == 0) || is_before (line_at lines (i - 1)) x)) ≡ true) (sym s.groups)
    (subst (λ (cs : List Choice). (nat_lt x.group.0 (length m.groups) && nat_lt x.place (length cs) && nat_lt 0 x.amount && ((i == 0) || is_before (line_at lines (i - 1)) x)) ≡ true) (sym (s.lists x.group.0)) (form i l))

-- paths in the trees of an instance
pub is_under-trees : (m trees : Market) → AreTreesOf m trees → (n pool : ℕ) → is_under trees n pool ≡ is_under m n pool
is_under-trees m trees are n pool = ap (list_any (λ x. x == n)) (climb-same m trees are.parents 8 (Some (record { 0 = pool })))
