-- Inside this crate alone: what is done at a desk.
use Rattle.std.specs.Prelude.{◌≡◌, List}
use Rattle.outside.specs.Faults.{DeviceState}
use Rattle.outside.specs.Sink.{Written}
use Rattle.outside.specs.declared.pace.PaceCall.{PaceCall}
use Rattle.demand_feed.specs.Task.{Task}
use Rattle.mapper.specs.Coming.{Cuts, Does}
use Rattle.mapper.specs.Lending.{HasFault, HasNoFault, HasNoLess, IsSameLent, told_by}
use Rattle.mapper.specs.Notes.{AreTold}
use Rattle.mapper.specs.Scenes.{Scene}
use Rattle.mapper.specs.declared.desk.Desk.{Desk}

-- what is told at one moment
abbrev pub desk_told : {R J K M : Type 0} → (K → DeviceState Written) → (M → DeviceState (List PaceCall)) → Desk R J K M → Scene
desk_told told paced s = told_by told paced s.published.now s.to

-- nothing but the output changed, and the line
abbrev pub IsOutAlone : {R J K M : Type 0} → Desk R J K M → Desk R J K M → Type 0
IsOutAlone a b = (b.published ≡ a.published) × (b.to.maps ≡ a.to.maps) × (b.to.pace ≡ a.to.pace) × (b.to.told ≡ a.to.told)

-- nothing but the pace changed
abbrev pub IsPaceAlone : {R J K M : Type 0} → Desk R J K M → Desk R J K M → Type 0
IsPaceAlone a b = (b.published ≡ a.published) × (b.to.out ≡ a.to.out) × (b.to.maps ≡ a.to.maps) × (b.to.told ≡ a.to.told) × (b.to.pace.ghost_name ≡ a.to.pace.ghost_name)

-- the same things are lent, the topology is the same, and no count of faults fell
abbrev pub Keeps : {R J K M : Type 0} → (K → DeviceState Written) → Desk R J K M → Desk R J K M → Type 0
Keeps told a b = (b.published.ghost_name ≡ a.published.ghost_name) × IsSameLent a.to b.to × HasNoLess told a.to b.to × (b.published.now.newest.plan ≡ a.published.now.newest.plan)

-- no count of faults changed, and where the row told of all versions it still does
abbrev pub IsWhole : {R J K M : Type 0} → (K → DeviceState Written) → Desk R J K M → Desk R J K M → Type 0
IsWhole told a b = HasNoFault told a.to b.to × (AreTold a.published.now.history a.to.told → AreTold b.published.now.history b.to.told)

-- a task that is taken whole
abbrev pub DeskDoes : {R J K M : Type 0} → (K → DeviceState Written) → (M → DeviceState (List PaceCall)) → Task → Desk R J K M → Desk R J K M → Type 0
DeskDoes told paced task a b = Keeps told a b × IsWhole told a b × Does task (desk_told told paced a) (desk_told told paced b)

-- a task of which a put failed
abbrev pub DeskCuts : {R J K M : Type 0} → (K → DeviceState Written) → (M → DeviceState (List PaceCall)) → Task → Desk R J K M → Desk R J K M → Type 0
DeskCuts told paced task a b = Keeps told a b × HasFault told a.to b.to × Cuts task (desk_told told paced a) (desk_told told paced b)
