-- The fresh state.
use Rattle.std.proofs.Common.{◌≡◌, ℕ, zero, suc, ◌<◌, true, List, [], length, replicate, slice_index, refl, sym, ap, ◌∙◌, subst, arith}
use Rattle.std.proofs.Math.ListN.{length-replicate}
use Rattle.capacity_tree.specs.Loads.{AreTreesOf, Loads}
use Rattle.map_model.specs.Market.{Market, IsMarket, demand_of}
use Rattle.map_model.specs.Allocation.{placed}
use Rattle.map_model.proofs.Shapes.{shape_itself}
use Rattle.offer_pool.specs.Holdings.{Holdings}
use Rattle.evict.proofs.Settled.{small_demand}
use Rattle.evict.specs.Putting.{AgreesWith, IsSound}
use Rattle.evict.specs.Standing.{IsFresh}

zeros : (n k : ℕ) → slice_index (replicate n 0) k ≡ 0
zeros zero k = refl
zeros (suc n) zero = refl
zeros (suc n) (suc k) = zeros n k

-- trees with no units agree with nothing held
pub agrees-nothing : (m : Market) (tree : Loads) → AreTreesOf m tree.trees → tree.units ≡ replicate (length m.nodes) 0 → AgreesWith m [] tree
agrees-nothing m tree are empty = record {
  trees = are;
  size = ap length empty ∙ length-replicate (length m.nodes) 0;
  loads = λ n l. ap (λ xs. slice_index xs n) empty ∙ zeros (length m.nodes) n;
}

-- a state in which nothing is held
pub fresh : (m : Market) → IsMarket m → (pointers free : List ℕ) → pointers ≡ replicate (length m.groups) 0 → length free ≡ length m.groups → ((g : ℕ) → g < length m.groups → slice_index free g ≡ demand_of m g)
    → IsFresh m (record { market = m; lines = []; pointers = pointers; free = free; is_whole = true })
fresh m market pointers free none count each = record {
  ready = record {
    market = market;
    whole = refl;
    shape = shape_itself m;
    resumable = record {
      form = λ i l. absurd (omega arith);
      pointers_for = ap length none ∙ length-replicate (length m.groups) 0;
      free_for = count;
      capacities = λ n l. omega arith;
      limits = λ g k o. omega arith;
      totals = λ g l. let nothing : placed [] g ≡ 0 = refl in omega (arith, each g l, nothing);
      in_list = λ g l. omega (arith, ap (λ xs. slice_index xs g) none, zeros (length m.groups) g);
      none_past = λ g k o l. refl;
      refused = λ g k o l. absurd (omega (arith, ap (λ xs. slice_index xs g) none, zeros (length m.groups) g));
    };
  };
  nothing = refl;
  pointers = λ g l. ap (λ xs. slice_index xs g) none ∙ zeros (length m.groups) g;
}

-- and it is a whole one
pub sound_fresh : (m : Market) (held : Holdings) (tree : Loads) (free totals : List ℕ) → IsMarket m → held ≡ record { market = m; lines = [] } → AreTreesOf m tree.trees → tree.units ≡ replicate (length m.nodes) 0
    → length free ≡ length m.groups → ((g : ℕ) → g < length m.groups → slice_index free g ≡ demand_of m g) → length totals ≡ length m.groups → ((g : ℕ) → g < length m.groups → slice_index totals g ≡ demand_of m g) → IsSound held tree free totals
sound_fresh m held tree free totals market nothing are empty count each count' each' =
    let start : IsSound (record { market = m; lines = [] }) tree free totals = record {
      market = market;
      agrees = agrees-nothing m tree are empty;
      groups = sym count;
      count = count' ∙ sym count;
      sums = λ g l. let none : placed [] g ≡ 0 = refl in omega (arith, each g (omega (arith, count)), each' g (omega (arith, count)), none);
      small = λ g l. omega (arith, each' g (omega (arith, count)), small_demand m market g (omega (arith, count)));
    } in
    subst (λ (x : Holdings). IsSound x tree free totals) (sym nothing) start
