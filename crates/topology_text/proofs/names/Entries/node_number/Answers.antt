use Rattle.std.proofs.Common.{rules, map, Some, sym}
use Rattle.toml.specs.View.{view}
use Rattle.topology_text.proofs.Markets.{number_within}
use Rattle.topology_text.proofs.names.Entries.node_number.Goals as goal

pub returns-in-Some-clause-within : goal.returns-in-Some-clause-within
returns-in-Some-clause-within c = number_within (map view c.args.self.now.nodes.now) c.args.name.now (Some c.in-Some.number) (sym (c.in-Some.ensures (map view c.args.self.now.nodes.now) (search rules)))

pub returns-in-None-clause-within : goal.returns-in-None-clause-within
returns-in-None-clause-within c = number_within (map view c.args.self.now.nodes.now) c.args.name.now c.copied.result (search rules)
