-- What a run is lent to tell others by, before and after.
use Rattle.std.specs.Prelude.{◌≡◌, ◌⊎◌, ◌≤◌, List}
use Rattle.outside.specs.Faults.{DeviceState, Rose}
use Rattle.outside.specs.Sink.{Written}
use Rattle.outside.specs.declared.pace.PaceCall.{PaceCall}
use Rattle.map_cell.specs.Ends.{PublisherState}
use Rattle.mapper.specs.Scenes.{Scene, scene}
use Rattle.mapper.specs.declared.outputs.Outputs.{Outputs}

-- what is told at one moment: by a mapper, both outputs and the pace
abbrev pub told_by : {K M : Type 0} → (K → DeviceState Written) → (M → DeviceState (List PaceCall)) → PublisherState → Outputs K M → Scene
told_by told paced m o = scene m.newest m.history (told o.out.now).past (told o.maps.now).past (paced o.pace.now).past

-- the same things are lent
abbrev pub IsSameLent : {K M : Type 0} → Outputs K M → Outputs K M → Type 0
IsSameLent a b = (b.out.ghost_name ≡ a.out.ghost_name) × (b.maps.ghost_name ≡ a.maps.ghost_name) × (b.pace.ghost_name ≡ a.pace.ghost_name)

-- no count of faults of the outputs fell
abbrev pub HasNoLess : {K M : Type 0} → (K → DeviceState Written) → Outputs K M → Outputs K M → Type 0
HasNoLess told a b = ((told a.out.now).faults ≤ (told b.out.now).faults) × ((told a.maps.now).faults ≤ (told b.maps.now).faults)

-- one of them rose
abbrev pub HasFault : {K M : Type 0} → (K → DeviceState Written) → Outputs K M → Outputs K M → Type 0
HasFault told a b = Rose (told a.out.now).faults (told b.out.now).faults ⊎ Rose (told a.maps.now).faults (told b.maps.now).faults

-- none of them changed
abbrev pub HasNoFault : {K M : Type 0} → (K → DeviceState Written) → Outputs K M → Outputs K M → Type 0
HasNoFault told a b = ((told b.out.now).faults ≡ (told a.out.now).faults) × ((told b.maps.now).faults ≡ (told a.maps.now).faults)
