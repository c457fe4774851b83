use Rattle.std.proofs.Common.{sym, ◌∙◌, ◌≡◌, true, false, refl}
use Rattle.std.specs.List.{list_all}
use Rattle.toml.specs.View.{table_view}
use Rattle.topology_text.specs.Values.{is_key_of}
use Rattle.topology_text.specs.Walk.{names_of}
use Rattle.topology_text.proofs.Looked.{names_view}
use Rattle.topology_text.proofs.unknown.unknown_in.Goals as goal

pub returns-then-has_only_keys : goal.returns-then-has_only_keys
returns-then-has_only_keys c =
    let spot = c.args.table.now.spot in
    let table = c.args.table.now.table.now in
    let known : list_all (is_key_of spot) (names_of (table_view table)) ≡ true = sym (names_view (is_key_of spot) table.entries) ∙ sym c.has_only_keys.ensures ∙ c.if-has_only_keys.true in
    rw known refl

pub returns-else-has_only_keys : goal.returns-else-has_only_keys
returns-else-has_only_keys c =
    let spot = c.args.table.now.spot in
    let table = c.args.table.now.table.now in
    let other : list_all (is_key_of spot) (names_of (table_view table)) ≡ false = sym (names_view (is_key_of spot) table.entries) ∙ sym c.has_only_keys.ensures ∙ c.if-has_only_keys.false in
    rw other refl
