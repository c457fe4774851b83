-- What a kept topology stands for.
use Rattle.std.specs.Prelude.{map}
use Rattle.topology_text.specs.declared.topology.Topology.TheInside.{Inside}
use Rattle.topology_text.specs.Plan.{Plan}

-- the parts that are kept, and of the indexes of names the names
abbrev pub plan : Inside → Plan
plan a = record {
  market = a.instance;
  zone = a.zone;
  node_names = map (λ v. v.items) a.node_names.keys;
  group_names = map (λ v. v.items) a.group_names.keys;
  classes = a.classes;
  prefixes = a.prefixes.items;
  addresses = a.addresses.items;
}
