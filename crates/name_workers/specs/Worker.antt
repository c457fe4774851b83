-- What one answer of a worker does.
use Rattle.std.specs.Prelude.{◌≡◌, ℕ, ◌+◌, ◌≤◌, true, false, List, [], length, Option, None, Some, Result, Ok, Err, slice_get}
use Rattle.addr_text.specs.declared.address.Addr.{Addr}
use Rattle.outside.specs.Faults.{Rose, raised}
use Rattle.published_map.specs.Version.{Version}
use Rattle.answer_core.specs.declared.way.Way.{Way}
use Rattle.map_cell.specs.declared.door.CellFault.{CellFault}
use Rattle.lane_model.specs.Lanes.{draw}
use Rattle.lane_model.specs.Calls.{Eyes, IsRise}
use Rattle.lane_model.specs.Replies.{is_silent, reply_of}

-- the reply of one version, by a way, that is no older than what was known
pub record IsReplied (w n : ℕ) (from : Addr) (octets : List ℕ) (way : Way) (serial : ℕ) (e f : Eyes Version) (out : List ℕ) : Type 0 where
  pub spoken : is_silent octets ≡ false
  pub version : (v : Version) × (slice_get f.seen serial ≡ Some v) × (reply_of v from octets (draw w n) way ≡ Some out)
  pub fresh : length e.heard ≤ serial + 1
  pub known : length f.heard ≡ serial + 1
  pub rise : IsRise e f
  pub stays : f.faults ≡ e.faults

-- The look was refused: nothing but the door's counts of looks and of faults has changed.
pub record IsLookRefused (octets : List ℕ) (e f : Eyes Version) : Type 0 where
  pub spoken : is_silent octets ≡ false
  pub seen : f.seen ≡ e.seen
  pub heard : f.heard ≡ e.heard
  pub greatest : f.greatest ≡ e.greatest
  pub looks : f.looks ≡ raised e.looks 1
  pub rose : Rose e.faults f.faults

-- the answer, by cases
abbrev pub IsAnswer : ℕ → ℕ → Addr → List ℕ → Way → Eyes Version → Eyes Version → List ℕ → Result (Option ℕ) CellFault → Type 0
IsAnswer w n from octets way e f out (Ok None) = (is_silent octets ≡ true) × (f ≡ e) × (out ≡ [])
IsAnswer w n from octets way e f out (Ok (Some serial)) = IsReplied w n from octets way serial e f out
IsAnswer w n from octets way e f out (Err fault) = IsLookRefused octets e f × (out ≡ [])
