use Rattle.topology_text.proofs.NameLists.{names_put}
use Rattle.std.proofs.Common.{map}
use Rattle.topology_text.proofs.parts.push_names.Goals as goal

pub loop-entry-preserved : goal.loop-entry-preserved
loop-entry-preserved c =
    names_put (map (λ v. v.items) c.args.names.now.keys) c.args.entries.now c.loop-entry.entry-index c.entry-item.result c.loop-entry.names.keys c.insert_full.new.self.keys c.in_ok-name.name c.requires c.loop-entry-test.true c.entry-item.is
    c.in_ok-name.ensures c.loop-entry.invariant c.in_ok-insert_full.ensures.keys
