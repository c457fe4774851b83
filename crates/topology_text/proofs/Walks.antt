-- Steps of the walk over a table's entries.
use Rattle.std.proofs.Common.{◌≡◌, Bool, true, false, ℕ, ◌+◌, ◌<◌, ◌≤◌, List, [], ◌∷◌, ◌++◌, length, get_or, drop, map, Some, refl, ◌∙◌}
use Rattle.std.proofs.lemmas.List.{drop_more}
use Rattle.toml.specs.Data.{Data}
use Rattle.toml.specs.View.{view}
use Rattle.toml.specs.declared.value.Value.{Value}
use Rattle.topology_text.specs.declared.schema.Key.TheVariants.{Node, Group, Class}
use Rattle.topology_text.specs.declared.schema.At.TheVariants.{Item}
use Rattle.topology_text.specs.declared.visited.TableAt.{TableAt}
use Rattle.topology_text.specs.Code.{visit}
use Rattle.topology_text.specs.Walk.{Visit, first, items_from, entries_from}

-- the five parts of a walk in a row
pub walked : (top : Visit) (t z n g c : List TableAt) (zone : List Visit) (nodes groups classes ns gs cs : List Data) → map visit t ≡ top ∷ []
    → map visit z ≡ map visit t ++ zone → map visit n ≡ map visit z ++ entries_from Node 0 ns → map visit g ≡ map visit n ++ entries_from Group 0 gs → map visit c ≡ map visit g ++ entries_from Class 0 cs → ns ≡ nodes → gs ≡ groups → cs ≡ classes
    → map visit c ≡ top ∷ zone ++ entries_from Node 0 nodes ++ entries_from Group 0 groups ++ entries_from Class 0 classes
walked top t z n g c zone nodes groups classes ns gs cs h1 h2 h3 h4 h5 e1 e2 e3 = rw (h5, h4, h3, h2, h1, e1, e2, e3) refl

-- the items from one on
pub items_on : (test : Data → Bool) (vs : List Value) (i : ℕ) (d : Value) → i < length vs → test (view (get_or vs i d)) ≡ false
    → first (items_from test i (map view (drop i vs))) ≡ first (items_from test (i + 1) (map view (drop (i + 1) vs)))
items_on test vs i d h good = rw (drop_more vs i d h, good)

pub items_here : (test : Data → Bool) (vs : List Value) (i : ℕ) (d : Value) → i < length vs → test (view (get_or vs i d)) ≡ true
    → first (items_from test i (map view (drop i vs))) ≡ Some (Item i)
items_here test vs i d h bad = rw (drop_more vs i d h, bad)
