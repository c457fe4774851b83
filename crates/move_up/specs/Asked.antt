-- Offers listed by the tree in which their pool stands.
use Rattle.std.specs.Prelude.{◌≡◌, ◌⊎◌, ℕ, ⊤, List, [], length, Contains, slice_index_or}
use Rattle.map_model.specs.declared.instance.Offer.{Offer}
use Rattle.map_model.specs.Market.{Market}
use Rattle.map_model.specs.Allocation.{IsOffer}
use Rattle.map_model.specs.Progress.{tree_of}

-- the offers that are listed at a node
abbrev pub listed_at : List (List Offer) → ℕ → List Offer
listed_at lists n = slice_index_or lists n []

-- the offer of a group at a place
abbrev pub offer_of : ℕ → ℕ → Offer
offer_of g k = record { group = record { 0 = g }; place = k }

-- some offers are listed, each at the root of its tree; others may be listed too, at the roots of theirs
pub record AreListed (m : Market) (which : ℕ → ℕ → Type 0) (lists : List (List Offer)) : Type 0 where
  pub count : length lists ≡ length m.nodes
  pub listed : (g k : ℕ) → IsOffer m g k → which g k → Contains (listed_at lists (tree_of m g k)) (offer_of g k)
  pub offers : (n : ℕ) (o : Offer) → Contains (listed_at lists n) o → IsOffer m o.group.0 o.place
  pub trees : (n : ℕ) (o : Offer) → Contains (listed_at lists n) o → tree_of m o.group.0 o.place ≡ n

-- all offers are listed, each at the root of its tree and nowhere else; how often is not said
abbrev pub AreAllListed : Market → List (List Offer) → Type 0
AreAllListed m lists = AreListed m (λ g k. ⊤) lists

-- one step inside this crate: an offer is listed at a node besides
pub record IsListed (old new : List (List Offer)) (at : ℕ) (offer : Offer) : Type 0 where
  pub count : length new ≡ length old
  pub listed : Contains (listed_at new at) offer
  pub kept : (n : ℕ) (o : Offer) → Contains (listed_at old n) o → Contains (listed_at new n) o
  pub from : (n : ℕ) (o : Offer) → Contains (listed_at new n) o → Contains (listed_at old n) o ⊎ ((n ≡ at) × (o ≡ offer))
