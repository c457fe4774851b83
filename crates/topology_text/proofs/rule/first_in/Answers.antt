use Rattle.std.proofs.Common.{sym, ap, ◌∙◌, None, ◌≡◌, option_map, get_or}
use Rattle.topology_text.specs.Walk.{first, places_at}
use Rattle.topology_text.specs.declared.schema.Key.TheVariants.{Zone}
use Rattle.topology_text.specs.Code.{visit}
use Rattle.topology_text.proofs.Firsts.{first_on, first-map}
use Rattle.topology_text.proofs.rule.first_in.Goals as goal

pub loop-key-preserved : goal.loop-key-preserved
loop-key-preserved g c =
    let found = places_at (g.R.Rule.finds c.args.rule.now) (visit c.args.table.now) in
    let key = get_or c.keys-key-items.result.now c.loop-key.key-index Zone in
    let none : first (found key) ≡ None = first-map _ _ ∙ ap (option_map _) (sym c.first.ensures ∙ c.in_default.is) in
    sym (first_on found c.keys-key-items.result.now c.loop-key.key-index Zone c.loop-key-test.true none) ∙ c.loop-key.invariant
