-- Inside this crate alone: what a reader of a map's text keeps, which is what the lines so far come to.
use Rattle.std.specs.Prelude.{◌+◌, ◌||◌, ◌++◌}
use Rattle.std.specs.Option.{option_to_list}
use Rattle.map_text.specs.Reading.{SoFar, is_end, is_second, named_by, placed_by}
use Rattle.map_text.specs.declared.line.Line.{Line}
use Rattle.map_text.specs.declared.read.Reader.{Reader}

-- what a reader keeps
abbrev pub kept : Reader → SoFar
kept r = record { count = r.count; lines = r.map.lines.items; names = r.map.names.items; takes_limits = r.takes_limits; is_ended = r.is_ended }

-- the same after one line more
abbrev pub with_line : SoFar → Line → SoFar
with_line before line = record {
  count = before.count + 1;
  lines = before.lines ++ option_to_list (placed_by line);
  names = before.names ++ option_to_list (named_by line);
  takes_limits = before.takes_limits || is_second line;
  is_ended = before.is_ended || is_end line;
}
