-- What becomes of a message that was taken, as a datagram or of a stream.
use Rattle.std.specs.Prelude.{◌≡◌, ℕ, ◌+◌, Bool, true, false, List, [], length, Option}
use Rattle.addr_text.specs.declared.address.Addr.{Addr}
use Rattle.addr_text.specs.declared.address.Peer.{Peer}
use Rattle.answer_core.specs.declared.way.Way.{Way}
use Rattle.outside.specs.Faults.{BothTell, DeviceState, Rose, raised}
use Rattle.published_map.specs.Version.{Version}
use Rattle.lane_model.specs.Turns.{Fate, Turn, took, silent, refused, tried}
use Rattle.lane_model.specs.Calls.{Eyes, IsTurn}
use Rattle.lane_model.specs.Replies.{is_silent, replies_by}
use Rattle.name_workers.specs.declared.fared.Fared.{Fared}
use Rattle.name_workers.specs.declared.fared.Fared.TheVariants as fared
use Rattle.name_workers.specs.declared.ending.Step.{Step}
use Rattle.name_workers.specs.declared.ending.Step.TheVariants as step
use Rattle.name_workers.specs.Loop.{alone}
use Rattle.name_workers.specs.Worker.{IsLookRefused, IsReplied}

-- What became of it. `puts serial reply went` is what the try of a reply does to the port. The port's count rose where the reply did not go, and else stands.
abbrev pub IsFared : {A : Type 0} → (ℕ → List ℕ → Bool → A → A → Type 0) → Way → ℕ → ℕ → Addr → List ℕ → Fared → Eyes Version → Eyes Version → DeviceState A → DeviceState A → Type 0
IsFared puts way w n from octets fared.Silent e f p q = (is_silent octets ≡ true) × (f ≡ e) × (q ≡ p)
IsFared puts way w n from octets fared.Refused e f p q = IsLookRefused octets e f × (q ≡ p)
IsFared puts way w n from octets fared.Sent e f p q = (serial : ℕ) × (reply : List ℕ) × IsReplied w n from octets way serial e f reply × (f.looks ≡ raised e.looks 1) × BothTell p.past q.past (puts serial reply true) × (q.faults ≡ p.faults)
IsFared puts way w n from octets fared.Failed e f p q = (serial : ℕ) × (reply : List ℕ) × IsReplied w n from octets way serial e f reply × (f.looks ≡ raised e.looks 1) × BothTell p.past q.past (puts serial reply false) × Rose p.faults q.faults

abbrev pub step_of_fared : Fared → Step
step_of_fared fared.Silent = step.On
step_of_fared fared.Sent = step.On
step_of_fared fared.Failed = step.PortFailed
step_of_fared fared.Refused = step.Refused

-- a message, as a turn of a lane without gate and notes
abbrev pub said : Peer → List ℕ → ℕ → Fate → Turn
said from octets known fate = record { shown = known; notes = []; known = known; came = took (record { octets = octets; from = from }) fate }

-- its fate
abbrev pub IsFateBy : Fared → Fate → Type 0
IsFateBy fared.Silent fate = fate ≡ silent
IsFateBy fared.Refused fate = fate ≡ refused
IsFateBy fared.Sent fate = (serial : ℕ) × (reply : List ℕ) × (fate ≡ tried serial reply true)
IsFateBy fared.Failed fate = (serial : ℕ) × (reply : List ℕ) × (fate ≡ tried serial reply false)

-- what the port tells behind it
abbrev pub IsPut : {A : Type 0} → (ℕ → List ℕ → Bool → A → A → Type 0) → Fate → Option A → Option A → Type 0
IsPut puts silent x y = y ≡ x
IsPut puts refused x y = y ≡ x
IsPut puts (tried serial reply went) x y = BothTell x y (puts serial reply went)

-- the serial that is known behind it
abbrev pub known_after : ℕ → Fate → ℕ
known_after known silent = known
known_after known refused = known
known_after known (tried serial reply went) = serial

-- a message that was taken, as a turn of a lane
pub record IsSaid {A : Type 0} (puts : ℕ → List ℕ → Bool → A → A → Type 0) (way : Way) (w n n' known : ℕ) (from : Peer) (octets : List ℕ) (r : Fared) (e f : Eyes Version) (p q : DeviceState A) : Type 0 where
  pub fate : Fate
  pub fate_is : IsFateBy r fate
  pub turn : IsTurn (replies_by way) w (said from octets known fate) (alone e n p.faults) (alone f n' q.faults)
  pub put : IsPut puts fate p.past q.past
  pub behind : known_after known fate + 1 ≡ length f.heard
