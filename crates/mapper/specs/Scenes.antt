-- What is told at one moment of a feed, and how it stands to a course.
use Rattle.std.specs.Prelude.{◌≡◌, ◌⊎◌, ℕ, ◌+◌, List, [], ◌∷◌, ◌++◌, length, take, Option}
use Rattle.std.specs.List.{concat}
use Rattle.outside.specs.Faults.{BothTell, raised}
use Rattle.outside.specs.Pace.{IsPaced}
use Rattle.outside.specs.Sink.{Written}
use Rattle.outside.specs.declared.pace.PaceCall.{PaceCall}
use Rattle.published_map.specs.Version.{Version}
use Rattle.mapper.specs.Control.{Course}

-- what is told at one moment: the newest version and all that were published, both outputs, and the calls of the pace
pub record Scene : Type 0 where
  pub newest : Version
  pub history : List Version
  pub out : Option Written
  pub maps : Option Written
  pub pace : Option (List PaceCall)

-- all these pieces were put, one by one
pub record IsPrinted (pieces : List (List ℕ)) (before after : Written) : Type 0 where
  pub bytes : after.bytes ≡ before.bytes ++ concat pieces
  pub puts : after.puts ≡ raised before.puts (length pieces)

-- all these pieces were put, and then the put of one failed, of which a beginning was written
pub record IsCutBehind (pieces : List (List ℕ)) (piece : List ℕ) (before after : Written) : Type 0 where
  pub k : ℕ
  pub bytes : after.bytes ≡ before.bytes ++ concat pieces ++ take k piece
  pub puts : after.puts ≡ raised before.puts (length pieces + 1)

-- what a course says is what is told
pub record IsAt (before : Scene) (c : Course) (after : Scene) : Type 0 where
  pub newest : after.newest ≡ c.newest
  pub history : after.history ≡ before.history ++ c.versions
  pub out : BothTell before.out after.out (IsPrinted c.out)
  pub maps : BothTell before.maps after.maps (IsPrinted c.maps)
  pub pace : IsPaced c.calls before.pace after.pace

-- the put of a line of control text failed
pub record IsCutInOut (before : Scene) (c d : Course) (after : Scene) : Type 0 where
  pub line : List ℕ
  pub last : d.out ≡ c.out ++ line ∷ []
  pub out : BothTell before.out after.out (IsCutBehind c.out line)
  pub maps : BothTell before.maps after.maps (IsPrinted d.maps)

-- the put of a map's text failed, behind its publish and ahead of its line
pub record IsCutInMaps (before : Scene) (c d : Course) (after : Scene) : Type 0 where
  pub text : List ℕ
  pub last : d.maps ≡ c.maps ++ text ∷ []
  pub out : BothTell before.out after.out (IsPrinted c.out)
  pub maps : BothTell before.maps after.maps (IsCutBehind c.maps text)

-- A task of which a put failed, on the way from one course to the next. What it published stays published.
pub record IsCutAt (before : Scene) (c d : Course) (after : Scene) : Type 0 where
  pub newest : after.newest ≡ d.newest
  pub history : after.history ≡ before.history ++ d.versions
  pub pace : IsPaced d.calls before.pace after.pace
  pub puts : IsCutInOut before c d after ⊎ IsCutInMaps before c d after

-- what these tell at one moment
abbrev pub scene : Version → List Version → Option Written → Option Written → Option (List PaceCall) → Scene
scene newest history out maps pace = record { newest = newest; history = history; out = out; maps = maps; pace = pace }
