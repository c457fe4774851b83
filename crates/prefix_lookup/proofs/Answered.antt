-- What a lookup answers, by the definitions.
use Rattle.std.proofs.Common.{◌≡◌, ℕ, ◌^◌, ◌<◌, Option, Some, sym, subst, ◌∙◌, List}
use Rattle.map_model.specs.declared.instance.GroupId.{GroupId}
use Rattle.prefix_lookup.specs.declared.family.Family.{Family}
use Rattle.prefix_lookup.specs.Family.{address_in, bits_in}
use Rattle.prefix_lookup.specs.Longest.{HasLongest, group_of}
use Rattle.prefix_lookup.specs.Scope.{IsScope, scope_of}
use Rattle.prefix_lookup.specs.Table.{IsTable}
use Rattle.prefix_lookup.proofs.Defaults.{has_group}
use Rattle.prefix_lookup.proofs.Families.{fits}
use Rattle.prefix_lookup.proofs.Longest.{Entry}
use Rattle.prefix_lookup.proofs.Scopes.{one_scope, scope_is}

one_group : (g h : GroupId) → (let o : Option GroupId = Some g in o) ≡ Some h → g ≡ h
one_group g h e = cc

pub has_longest : (family : Family) (table : List Entry) (n : ℕ) (g : GroupId) → n < 2 ^ bits_in family → IsTable table → group_of table (address_in family n) ≡ Some g → HasLongest table (address_in family n) g
has_longest family table n g small t is =
    let h = has_group (address_in family n) table (fits family n small) t in
    subst (HasLongest table (address_in family n)) (one_group h.0 g (sym h.1 ∙ is)) h.2

pub scope_found : (family : Family) (table : List Entry) (n s : ℕ) → n < 2 ^ bits_in family → IsTable table → IsScope table (address_in family n) s → s ≡ scope_of table (address_in family n)
scope_found family table n s small t is = one_scope (address_in family n) s (scope_of table (address_in family n)) table is (scope_is (address_in family n) table (fits family n small) t.each)
