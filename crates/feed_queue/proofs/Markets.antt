-- Batches of an instance of so many groups and nodes.
use Rattle.std.proofs.Common.{◌≡◌, ℕ, ◌<◌, Bool, true, false, cond, ◌==◌, ◌&&◌, eq-eqb, eqb-true, List, [], length, All, refl, subst, arith}
use Rattle.std.proofs.lemmas.List.Elements.{All-weaker}
use Rattle.map_model.specs.declared.change.Change.{Change}
use Rattle.map_model.specs.declared.change.Change.TheVariants.{Demand, Capacity}
use Rattle.map_model.specs.Batch.{IsBatch, IsChange}
use Rattle.map_model.specs.Market.{Market}
use Rattle.feed_queue.specs.Items.{IsAmong}
use Rattle.feed_queue.specs.Sending.{market_if}

pub market_same : (groups nodes : ℕ) (m : Market) → length m.groups ≡ groups → length m.nodes ≡ nodes → market_if groups nodes m ≡ m
market_same groups nodes m g n = go (length m.groups == groups) (length m.nodes == nodes) (eq-eqb (length m.groups) groups g) (eq-eqb (length m.nodes) nodes n)
  where
    go : (a b : Bool) → a ≡ true → b ≡ true → cond (a && b) m (record { groups = []; nodes = [] }) ≡ m
    go true true e f = refl
    go true false e f = cc
    go false b e f = cc

is_among : (groups nodes : ℕ) (m : Market) → length m.groups ≡ groups → length m.nodes ≡ nodes → (change : Change) → IsChange m change → IsAmong groups nodes change
is_among groups nodes m g n (Demand group demand) h = subst (λ k. group.0 < k) g h.0
is_among groups nodes m g n (Capacity node capacity) h = subst (λ k. node.0 < k) n h.0

no_change : (groups nodes : ℕ) (change : Change) → IsChange (record { groups = []; nodes = [] }) change → IsAmong groups nodes change
no_change groups nodes (Demand group demand) h = absurd (omega (arith, h.0))
no_change groups nodes (Capacity node capacity) h = absurd (omega (arith, h.0))

pub batch_fits : (groups nodes : ℕ) (m : Market) (changes : List Change) → IsBatch (market_if groups nodes m) changes → All (IsAmong groups nodes) changes
batch_fits groups nodes m changes h = go (length m.groups == groups) (length m.nodes == nodes) (λ e. eqb-true (length m.groups) groups e) (λ e. eqb-true (length m.nodes) nodes e) h
  where
    go : (a b : Bool) → (a ≡ true → length m.groups ≡ groups) → (b ≡ true → length m.nodes ≡ nodes) → IsBatch (cond (a && b) m (record { groups = []; nodes = [] })) changes → All (IsAmong groups nodes) changes
    go true true g n k = All-weaker (IsChange m) (IsAmong groups nodes) (is_among groups nodes m (g refl) (n refl)) changes k
    go true false g n k = All-weaker (IsChange (record { groups = []; nodes = [] })) (IsAmong groups nodes) (no_change groups nodes) changes k
    go false b g n k = All-weaker (IsChange (record { groups = []; nodes = [] })) (IsAmong groups nodes) (no_change groups nodes) changes k
