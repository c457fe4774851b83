use Rattle.std.proofs.Common.{◌∙◌, ap, map}
use Rattle.topology_text.specs.Code.{entries, visit}
use Rattle.topology_text.specs.Names.{duplicate_name}
use Rattle.topology_text.specs.Walk.{first, places_of}
use Rattle.topology_text.specs.declared.names.Entries.{Entries as CodeEntries}
use Rattle.topology_text.proofs.read.first_repeated.Goals as goal

pub returns : goal.returns
returns c = c.first_by.ensures ∙ ap (λ (i : CodeEntries). first (places_of (λ v k. duplicate_name (entries i) v k) (map visit c.args.tables.now))) c.new.ensures
