use Rattle.std.proofs.Common.{None, ◌≡◌, sym, ap, ◌∙◌}
use Rattle.std.specs.Option.{option_copied}
use Rattle.std.specs.HashMap.{get_by}
use Rattle.std.specs.Str.{bytes_eq}
use Rattle.std.proofs.lemmas.Map.Text.{hash_map_updates_str}
use Rattle.topology_text.proofs.Numbers.{noted}
use Rattle.topology_text.proofs.names.note_first.Goals as goal

pub returns-in_ok-insert : goal.returns-in_ok-insert
returns-in_ok-insert c =
    let none : get_by (λ k. bytes_eq c.args.name.now k.now) c.args.numbers.now ≡ None = sym c.get.ensures.value ∙ ap option_copied c.in-None.is in
    noted _ _ c.args.name.now c.args.number none (hash_map_updates_str c.args.name.now c.args.numbers.now c.insert.new.self _ c.in_ok-insert.ensures.updates)
