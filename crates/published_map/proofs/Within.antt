-- What changes between two versions may be put into the old one, and leads to a version where the new one is one.
use Rattle.std.proofs.Common.{◌≡◌, ℕ, ◌<◌, true, nat_lt, List, [], ◌∷◌, length, All, refl, sym, subst}
use Rattle.std.specs.List.{list_all}
use Rattle.std.proofs.lemmas.Bool.{and_from, lt-ltb}
use Rattle.std.proofs.lemmas.List.Elements.{All-head, All-tail}
use Rattle.map_model.specs.declared.instance.GroupId.{GroupId}
use Rattle.map_model.specs.declared.instance.NodeId.{NodeId}
use Rattle.published_map.specs.declared.row.GroupRow.{GroupRow}
use Rattle.published_map.specs.declared.delta.Delta.{Delta}
use Rattle.published_map.specs.Between.{IsBetween}
use Rattle.published_map.specs.Changes.{after, is_within}
use Rattle.published_map.specs.Version.{Version, IsVersion}

all_below : {X : Type 0} (key : X → ℕ) (n : ℕ) (xs : List X) → All (λ x. key x < n) xs → list_all (λ x. nat_lt (key x) n) xs ≡ true
all_below key n [] all = refl
all_below key n (x ∷ xs) all = and_from _ _ (lt-ltb (key x) n (All-head (λ y. key y < n) x xs all)) (all_below key n xs (All-tail (λ y. key y < n) x xs all))

pub within : (old new : Version) (d : Delta) → IsBetween old new d → is_within old d ≡ true
within old new d is = and_from _ _
    (all_below (λ (r : GroupId × GroupRow). r.0.0) (length old.market.groups) d.groups.items (λ k e lt. (is.rows k e lt).0))
    (all_below (λ (n : NodeId × ℕ). n.0.0) (length old.market.nodes) d.nodes.items (λ k e lt. (is.nodes k e lt).0))

pub after_is_version : (old new : Version) (d : Delta) → IsBetween old new d → IsVersion new → IsVersion (after old d)
after_is_version old new d is good = subst IsVersion (sym is.leads) good
