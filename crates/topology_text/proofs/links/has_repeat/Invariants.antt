use Rattle.std.proofs.Common.{◌≡◌, ◌-◌, length, map, drop, false}
use Rattle.toml.specs.View.{view}
use Rattle.topology_text.specs.Names.{has_repeat, texts_of}
use Rattle.topology_text.specs.Slots.{AreInSlots}
use Rattle.topology_text.proofs.links.has_repeat.Given as goal

abbrev pub invariant-loop-done : goal.invariant-loop-done
invariant-loop-done l = record {
  none : has_repeat (texts_of (map view (drop (length l.items - l.done) l.items))) ≡ false;
  noted : AreInSlots l.slots (texts_of (map view (drop (length l.items - l.done) l.items)));
}
