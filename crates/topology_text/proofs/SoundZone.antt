-- A table without faults is sound: what the rules say of the zone's names.
use Rattle.std.proofs.Common.{◌≡◌, ℕ, true, not, List, [], Option, is_some, option_and_then, sym, ◌∙◌}
use Rattle.std.proofs.lemmas.Bool.{not-false}
use Rattle.toml.specs.Data.{Data, string}
use Rattle.topology_text.specs.Names.{text_in}
use Rattle.topology_text.specs.Schema.{kind_of}
use Rattle.topology_text.specs.Texts.{zone_name}
use Rattle.topology_text.specs.Values.{failing, is_bad_name, wrong_in}
use Rattle.topology_text.specs.declared.schema.Key.{Key}
use Rattle.topology_text.specs.declared.schema.Kind.TheVariants.{Text}
use Rattle.topology_text.proofs.Quiet.{not_whole}
use Rattle.topology_text.proofs.Sound.{text_there}

-- a text at a key of the zone's names is such a name
pub zone_name_good : (k : Key) → kind_of k ≡ Text → ((t : List ℕ) → is_bad_name k (string t) ≡ not (is_some (zone_name t))) → (o : Option Data)
    → is_some o ≡ true → wrong_in k o ≡ [] → failing (is_bad_name k) o ≡ [] → is_some (option_and_then zone_name (text_in o)) ≡ true
zone_name_good k text rule o there kind good =
    let (t, is) = text_there k text o there kind in
    rw is (not-false (is_some (zone_name t)) (sym (rule t) ∙ not_whole _ (rw is at good)))
