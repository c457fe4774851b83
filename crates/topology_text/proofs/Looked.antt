-- A value that was looked up, and what it is.
use Rattle.std.proofs.Common.{◌≡◌, ℕ, ◌+◌, ◌<◌, Bool, false, ◌&&◌, String, string_bytes, Vec, Global, List, [], ◌∷◌, map, Option, None, Some, refl, ap, ◌∙◌}
use Rattle.std.specs.List.{list_all}
use Rattle.std.specs.Map.{keys_of}
use Rattle.toml.specs.Data.{Data, string, integer, float, boolean, datetime, array, table}
use Rattle.toml.specs.View.{view, items_view, members_view}
use Rattle.toml.specs.declared.value.Value.{Value, Array}
use Rattle.topology_text.specs.Walk.{list_of, names_of, items_from, items_where}
use Rattle.topology_text.specs.Values.{failing}
use Rattle.toml.proofs.Views.{view-Array}

pub list_of-view : (vs : List Value) → list_of (items_view vs) ≡ map view vs
list_of-view [] = refl
list_of-view (v ∷ vs) = ap (λ rest. view v ∷ rest) (list_of-view vs)

pub failing-array : (test : Data → Bool) (v : Value) (a : Vec Value Global) (vs : List Value) → v ≡ Array a → vs ≡ a.items → items_where test (map view vs) ≡ failing test (Some (view v))
failing-array test v a vs is same = rw (is, same, view-Array a, list_of-view a.items) refl

-- the names of a table are the keys of its map
pub names_view : (test : List ℕ → Bool) (es : List (String Global × Value)) → list_all (λ k. test (string_bytes k)) (keys_of es) ≡ list_all test (names_of (members_view es))
names_view test [] = refl
names_view test (e ∷ es) = ap (λ b. test (string_bytes e.0) && b) (names_view test es)

-- a test that fails nothing finds nothing among items
unread_items : (test : Data → Bool) → ((d : Data) → test d ≡ false) → (i : ℕ) (ds : List Data) → items_from test i ds ≡ []
unread_items test never i [] = refl
unread_items test never i (d ∷ ds) = rw (never d) (unread_items test never (i + 1) ds)

-- nor in a value
pub unread : (test : Data → Bool) → ((d : Data) → test d ≡ false) → (o : Option Data) → failing test o ≡ []
unread test never None = refl
unread test never (Some (array ds)) = unread_items test never 0 (list_of ds)
unread test never (Some (string t)) = rw (never (string t)) refl
unread test never (Some (integer z)) = rw (never (integer z)) refl
unread test never (Some (float f)) = rw (never (float f)) refl
unread test never (Some (boolean b)) = rw (never (boolean b)) refl
unread test never (Some (datetime t)) = rw (never (datetime t)) refl
unread test never (Some (table ms)) = rw (never (table ms)) refl
