-- Inside this crate alone: the version that is to be added to the history.
use Rattle.std.specs.Prelude.{if◌then◌else◌}
use Rattle.map_cell.specs.declared.addition.Addition.{Addition}
use Rattle.published_map.specs.Version.{Version}
use Rattle.published_map.specs.Changes.{after}

abbrev pub added : Addition → Version
added a = if a.follows then after a.version.value a.delta.value else a.version.value
