use Rattle.std.proofs.Common.{◌≡◌, map, drop}
use Rattle.std.specs.List.{list_any}
use Rattle.std.specs.Str.{bytes_eq}
use Rattle.toml.specs.View.{view}
use Rattle.topology_text.specs.Names.{texts_of}
use Rattle.topology_text.proofs.links.has_text.Given as goal

abbrev pub invariant-loop-item : goal.invariant-loop-item
invariant-loop-item l = list_any (bytes_eq l.text) (texts_of (map view (drop l.item-index l.items))) ≡ list_any (bytes_eq l.text) (texts_of (map view l.items))
