use Rattle.std.proofs.Common.{map, ap, ◌≡◌, [], ◌∷◌}
use Rattle.topology_text.specs.Code.{visit}
use Rattle.topology_text.specs.Walk.{Visit}
use Rattle.topology_text.specs.declared.schema.Spot.TheVariants.{Top}
use Rattle.toml.specs.View.{table_view}
use Rattle.topology_text.proofs.Walks.{walked}
use Rattle.topology_text.proofs.walk.walk.Goals as goal

pub returns : goal.returns
returns c =
    let top : Visit = record { spot = Top; members = table_view c.args.top.now } in
    let first : map visit c.push.new.self.items ≡ top ∷ [] = rw (c.in_ok-push.ensures.items, c.new-tables.ensures.items) (ap (λ v. v ∷ []) c.new.ensures) in
    walked top c.push.new.self.items c.push_zone.new.tables.items c.push_entries.new.tables.items c.push_entries-2.new.tables.items c.push_entries-3.new.tables.items _ _ _ _ _ _ _
    first c.in_ok-push_zone.ensures c.in_ok-push_entries.ensures c.in_ok-push_entries-2.ensures c.in_ok-push_entries-3.ensures c.items_of.ensures c.items_of-2.ensures c.items_of-3.ensures
