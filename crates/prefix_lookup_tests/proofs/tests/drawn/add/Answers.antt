use Rattle.std.proofs.Common.{◌≡◌, List, [], ◌∷◌, ◌++◌, map, sym, subst}
use Rattle.std.specs.Prelude.{All, Contains}
use Rattle.std.proofs.lemmas.List.{map-append}
use Rattle.std.proofs.lemmas.List.Elements.{All-push, Contains-append_left}
use Rattle.std.proofs.lemmas.List.Quantifiers.{all_pairs_push}
use Rattle.addr_text.specs.declared.address.Prefix.{Prefix}
use Rattle.addr_text.specs.Addresses.{IsPrefix}
use Rattle.prefix_lookup.specs.Table.{IsTable}
use Rattle.prefix_lookup.proofs.Longest.{Entry}
use Rattle.prefix_lookup_tests.proofs.tests.drawn.add.Goals as goal

stays : (table : List Entry) (e : Entry) (p : Prefix) → Contains (map (λ f. f.0) table) p → Contains (map (λ f. f.0) (table ++ e ∷ [])) p
stays table e p c = subst (λ (ps : List Prefix). Contains ps p) (sym (map-append (λ (f : Entry). f.0) table (e ∷ []))) (Contains-append_left _ _ p c)

-- one more prefix that stands nowhere yet
more : (table : List Entry) (e : Entry) → IsTable table → IsPrefix e.0 → All (λ f. f.0 ≡ e.0 → ⊥) table → IsTable (table ++ e ∷ [])
more table e t prefix new = record {
  each = All-push (λ f. IsPrefix f.0) table e t.each prefix;
  once = all_pairs_push (λ f g. f.0 ≡ g.0 → ⊥) table e t.once new;
  all_v4 = stays table e _ t.all_v4;
  all_v6 = stays table e _ t.all_v6;
}

pub returns-in_ok-push : goal.returns-in_ok-push
returns-in_ok-push c = subst IsTable (sym c.in_ok-push.ensures.items) (more c.args.table.now.items c.args.entry c.requires (c.is_prefix.ensures c.if-is_prefix.true) (subst (λ (xs : List Entry). All (λ f. f.0 ≡ c.args.entry.0 → ⊥) xs) c.deref.ensures.value (c.has.ensures c.if-not-has.true)))
