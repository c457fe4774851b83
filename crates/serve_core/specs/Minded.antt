-- What lanes mind of the events that a run takes.
use Rattle.std.specs.Prelude.{◌≡◌, ℕ, Option, None, Some, List, [], ◌∷◌, ◌++◌, map}
use Rattle.published_map.specs.Version.{Version}
use Rattle.lane_model.specs.Machine.{Machine}
use Rattle.lane_model.specs.Machine as machine
use Rattle.lane_model.specs.Minded.{IsMinded}
use Rattle.serve_core.specs.declared.event.Event.{Event}
use Rattle.serve_core.specs.declared.event.Event.TheVariants.{Commit, Tell, Take}
use Rattle.serve_core.specs.declared.event.StepFault.{StepFault}
use Rattle.serve_core.specs.Events.{IsRefused, RunsTo, lane_at}

-- an event as the machine has it, without the version of a commit
abbrev pub bare : Event → machine.Event (Unit {0})
bare (Commit batch map) = machine.commit tt
bare (Tell lane serial) = machine.tell lane serial
bare (Take lane octets from serial way) = machine.take lane (record { octets = octets; from = from }) serial way

-- no events are left, or the first of them is refused by the fault
abbrev pub AreLeft : List Event → Machine Version → Option StepFault → Type 0
AreLeft [] m fault = fault ≡ None
AreLeft (e ∷ events) m fault = (f : StepFault) × (fault ≡ Some f) × IsRefused e m f

-- The events are some that are taken and then those that are left, and each lane minds those that are taken.
pub record AreMinded (events : List Event) (m m' : Machine Version) (fault : Option StepFault) : Type 0 where
  pub taken : List Event
  pub left : List Event
  pub all : events ≡ taken ++ left
  pub runs : RunsTo taken m m' None
  pub rest : AreLeft left m' fault
  pub minded : (lane : ℕ) → IsMinded lane (map bare taken) (lane_at m lane) (lane_at m' lane)
