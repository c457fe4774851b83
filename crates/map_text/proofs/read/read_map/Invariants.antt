use Rattle.std.proofs.Common.{◌≡◌, ◌+◌, ◌≤◌, length}
use Rattle.map_model.specs.Allocation.{IsMapForm}
use Rattle.map_text.specs.Reader.{kept}
use Rattle.map_text.specs.Reading.{map_of}
use Rattle.map_text.proofs.Readings.{read_text}
use Rattle.map_text.proofs.read.read_map.Given as goal

abbrev pub invariant-lines : goal.invariant-lines
invariant-lines l = record {
  reading : read_text l.topology (kept l.reader) l.rest ≡ map_of l.topology l.text;
  form : IsMapForm l.topology.market l.reader.map.lines.items l.reader.map.names.items;
  count : l.reader.count + length l.rest ≤ length l.text;
}

abbrev pub decreases-lines : goal.decreases-lines
decreases-lines l = length l.rest
