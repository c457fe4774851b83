-- Inside this crate alone: what a mapper holds beside its newest version.
use Rattle.std.specs.Prelude.{◌≡◌, ℕ, ◌+◌, true, IfSome, List}
use Rattle.map_model.specs.declared.change.Change.{Change}
use Rattle.map_model.specs.declared.lines.MapLine.{MapLine}
use Rattle.map_model.specs.Market.{Market}
use Rattle.topology_text.specs.Plan.{Plan}
use Rattle.map_text.specs.Cutting.{AreCutsOf}
use Rattle.map_text.specs.Writing.{mapped, text_of_map}
use Rattle.move_up.specs.Asked.{AreAllListed}
use Rattle.map_repair.specs.Repaired.{IsStateOf}
use Rattle.published_map.specs.Changes.{after, is_within}
use Rattle.published_map.specs.Version.{IsVersion, Version}
use Rattle.mapper.specs.Control.{IsNext}
use Rattle.mapper.specs.Words.{map_text, totals_of}
use Rattle.mapper.specs.declared.current.Current.{Current}
use Rattle.mapper.specs.declared.current.Kept.{Kept}
use Rattle.mapper.specs.declared.maps.Following.{Following}

-- the version of an instance and a map
abbrev pub version_of : ℕ → Plan → Current → Version
version_of serial plan c = record { serial = serial; market = c.instance; lines = c.map.lines.items; names = c.map.names.items; plan = plan }

-- the instance, the map, its text, how that is cut, and the totals are those of a version
pub record IsCurrent (v : Version) (c : Current) : Type 0 where
  pub version : v ≡ version_of v.serial v.plan c
  pub text : c.text.items ≡ map_text v
  pub cuts : AreCutsOf v.plan (mapped c.map) c.cuts
  pub totals : c.totals ≡ totals_of v

-- a map's text is that of the map over a topology, and is cut
pub record IsWritten (t : Plan) (c : Current) : Type 0 where
  pub text : c.text.items ≡ text_of_map t (mapped c.map)
  pub cuts : AreCutsOf t (mapped c.map) c.cuts

-- a state of a good map that holds its lines, and the offers of its instance by tree where they are listed
pub record IsKeptFor (m : Market) (lines : List MapLine) (k : Kept) : Type 0 where
  pub state : IsStateOf m k.state
  pub holds : k.state.lines ≡ lines
  pub asked : IfSome k.asked (AreAllListed m)

-- a batch makes a map: what goes with the version that it leads to
pub record Makes (t : Plan) (old : Current) (changes : List Change) (new : Current) : Type 0 where
  pub next : (serial : ℕ) → IsNext (version_of serial t old) changes (version_of (serial + 1) t new)
  pub current : (serial : ℕ) → IsCurrent (version_of serial t new) new

-- what changes may be published, and leads to the version of a batch
pub record IsPrepared (old : Version) (changes : List Change) (n : Following) : Type 0 where
  pub base : n.delta.base ≡ old.serial
  pub within : is_within old n.delta ≡ true
  pub good : IsVersion (after old n.delta)
  pub next : IsNext old changes (after old n.delta)
  pub current : IsCurrent (after old n.delta) n.current
