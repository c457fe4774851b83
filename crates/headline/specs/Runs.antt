-- What a run of each command promises, in the words of the headline's page. Taken from elsewhere:
-- what the octets of a topology, a map, a file of changes and a feed say (`Says`, `tasks`), and the
-- texts that are put.
use Rattle.std.specs.Prelude.{◌≡◌, ◌⊎◌, ℕ, ◌+◌, true, List, [], ◌∷◌, ◌++◌, map, take, flat_map}
use Rattle.std.specs.Prelude.{Option, None, Some, IfSome}
use Rattle.std.specs.List.{concat}
use Rattle.outside.specs.Faults.{BothTell}
use Rattle.outside.specs.Sink.{Written}
use Rattle.map_model.specs.declared.change.Change as code
use Rattle.topology_text.specs.Plan.{Plan}
use Rattle.published_map.specs.Version.{Version}
use Rattle.map_text.specs.Reading.{Mapped}
use Rattle.map_text.specs.Writing.{text_of_map}
use Rattle.place_counts.specs.Places.{places_text}
use Rattle.demand_feed.specs.Lines.{lines_of}
use Rattle.demand_feed.specs.Task.{tasks}
use Rattle.demand_feed.specs.Task as feed
use Rattle.mapper.specs.Texts as line_of
use Rattle.mapper.specs.Words.{totals_of}
use Rattle.big_run.specs.Runs.{IsWorldRun}
use Rattle.big_run.specs.Summary as world
use Rattle.big_run.specs.declared.summary.Summary.{Summary}
use Rattle.answer_core.specs.Reply.{reply_of}
use Rattle.answer_core.specs.declared.way.Way.TheVariants as way
use Rattle.drive.specs.Done.{LaneTold}
use Rattle.glb.specs.Answer.{version_of}
use Rattle.glb.specs.Datagram.{Datagram}
use Rattle.glb.specs.Files.{Kind, changes_file, map_file, topology_file}
use Rattle.glb.specs.Files as glb
use Rattle.glb.specs.Laws.{AreOctetsOf}
use Rattle.glb.specs.Loads.{files_between}
use Rattle.glb.specs.Told.{Surroundings}
use Rattle.glb.specs.Words.{Service, Task, say, serve, large}
use Rattle.glb.specs.Words.{answer, check, map_from, places, repair}
use Rattle.glb.specs.Texts as text
use Rattle.glb.specs.declared.status.Status.{Status}
use Rattle.glb.specs.declared.status.Status.TheVariants as status
use Rattle.headline.specs.View.{change}
use Rattle.headline.specs.Headline.{AreMaps, IsFirst, IsHistory, IsMap, IsNext}
use Rattle.headline.specs.Headline.{IsLane, IsStreamLane}

-- the workers from number w on
abbrev pub AreLanes :
    ℕ → Option Plan → List Version → Status → List LaneTold → List LaneTold → Type 0
AreLanes w t maps result [] after = after ≡ []
AreLanes w t maps result (b ∷ before) [] = ⊥
AreLanes w t maps result (b ∷ before) (a ∷ after) =
    IsLane w t maps result b a × AreLanes (w + 1) t maps result before after

-- the texts of these maps were put on an output, one behind another; or all but an end of the last
abbrev pub text_of : Version → List ℕ
text_of v = text_of_map v.plan (record { lines = v.lines; names = v.names })

abbrev pub Puts : List ℕ → Written → Written → Type 0
Puts octets before after = after.bytes ≡ before.bytes ++ octets

abbrev pub ArePut : List Version → Written → Written → Type 0
ArePut maps = Puts (flat_map text_of maps)

abbrev pub ArePutInPart : List Version → Written → Written → Type 0
ArePutInPart maps before after =
    (whole : List Version) × (last : Version) × (k : ℕ) × (maps ≡ whole ++ last ∷ [])
    × Puts (flat_map text_of whole ++ take k (text_of last)) before after

-- what the lines of a feed come to, from a map on: the maps that follow, and the output's lines
abbrev pub said_to : Version → feed.Task → List ℕ
said_to v (feed.refused number why) = line_of.refused number why
said_to v (feed.batch changes) = line_of.memory
said_to v feed.empty = line_of.published v.serial
said_to v (feed.spoiled number) = line_of.spoiled number
said_to v (feed.query addr octets) =
    line_of.answer v.serial (reply_of v addr octets 0 way.Datagram)
said_to v feed.totals = line_of.show v.serial (totals_of v)

abbrev pub IsCourse : Version → List feed.Task → List Version → List (List ℕ) → Type 0
IsCourse v [] maps lines = (maps ≡ []) × (lines ≡ [])
IsCourse v (task ∷ tasks) maps lines =
    ((rest : List (List ℕ)) × (lines ≡ said_to v task ∷ rest) × IsCourse v tasks maps rest)
    ⊎ ((changes : List code.Change) × (w : Version) × (more : List Version)
    × (rest : List (List ℕ)) × (task ≡ feed.batch changes) × (maps ≡ w ∷ more)
    × (lines ≡ line_of.published w.serial ∷ rest) × IsNext v (map change changes) w
    × IsCourse w tasks more rest)

-- at status 0, with one feed that tells its octets: what its lines come to was published and put
abbrev pub IsFed : Service → Surroundings → Surroundings → Option Plan → List Version → Type 0
IsFed ask before after None maps = Unit {0}
IsFed ask before after (Some t) maps =
    (octets : List ℕ) → ask.more ≡ []
    → AreOctetsOf before.lent.feed.past after.lent.feed.past octets
    → (first : Version) × (rest : List Version) × (lines : List (List ℕ))
    × (maps ≡ first ∷ rest) × IsCourse first (tasks t (lines_of true octets)) rest lines
    × BothTell before.lent.out.past after.lent.out.past (Puts (concat lines))

-- What the octets say that a load of this run gave, of the file of that name; of files that tell
-- nothing it is some octets.
abbrev pub Says : {T : Type 0} → Kind T → Surroundings → Surroundings → List ℕ → T → Type 0
Says kind before after name x =
    glb.Says kind (files_between before.files.past after.files.past) name x

-- `serve`, whatever its status: the maps that it publishes, for the topology that its file gave,
-- and what its workers reply; the worker for conversations has the number behind the others
pub record IsServing (ask : Service) (before after : Surroundings) (result : Status) : Type 0 where
  pub topology : Option Plan
  pub says : IfSome topology (λ t. Says topology_file before after ask.topology t)
  pub maps : List Version
  pub good : AreMaps topology maps
  pub history : IsHistory topology maps
  pub put : BothTell before.lent.maps.past after.lent.maps.past
      (λ b a. ArePut maps b a ⊎ ArePutInPart maps b a)
  pub all_put : result ≡ status.Ok →
      BothTell before.lent.maps.past after.lent.maps.past (ArePut maps)
  pub fed : result ≡ status.Ok → IsFed ask before after topology maps
  pub lanes : AreLanes 0 topology maps result before.lent.lanes after.lent.lanes
  pub stream : IsStreamLane ask.workers topology maps result
      before.lent.stream after.lent.stream

-- The other commands at status 0. `map` puts the text of the best map of the topology that its file
-- gave, and `places` how many units stand at each place by it.
abbrev pub PutsOut : List ℕ → Surroundings → Surroundings → Type 0
PutsOut octets before after = BothTell before.lent.out.past after.lent.out.past (Puts octets)

abbrev pub HasBest : List ℕ → Surroundings → Surroundings → Version → Type 0
HasBest topology before after v =
    (t : Plan) × Says topology_file before after topology t × IsMap t 0 v × IsFirst t v

abbrev pub IsMapping : List ℕ → Surroundings → Surroundings → Type 0
IsMapping topology before after =
    (v : Version) × HasBest topology before after v × PutsOut (text_of v) before after

abbrev pub IsPlacing : List ℕ → Surroundings → Surroundings → Type 0
IsPlacing topology before after =
    (v : Version) × HasBest topology before after v
    × PutsOut (places_text v.market v.lines) before after

-- the files gave a topology and a map for its numbers, which is good
abbrev pub HasMap : List ℕ → List ℕ → Surroundings → Surroundings → Plan → Version → Type 0
HasMap topology m before after t v =
    Says topology_file before after topology t
    × ((x : Mapped) × Says (map_file t) before after m x × (v ≡ version_of t x)) × IsMap t 0 v

-- `check` puts `good`, `answer` the reply of the map, with draw 0, and `repair` the text of the map
-- that follows on it by the changes that a file gave
abbrev pub IsChecking : List ℕ → List ℕ → Surroundings → Surroundings → Type 0
IsChecking topology m before after =
    (t : Plan) × (v : Version) × HasMap topology m before after t v × PutsOut text.good before after

abbrev pub IsAnswering : List ℕ → List ℕ → Datagram → Surroundings → Surroundings → Type 0
IsAnswering topology m d before after =
    (t : Plan) × (v : Version) × HasMap topology m before after t v
    × PutsOut (text.answer (reply_of v d.from d.octets 0 way.Datagram)) before after

abbrev pub IsRepairing : List ℕ → List ℕ → List ℕ → Surroundings → Surroundings → Type 0
IsRepairing topology m changes before after =
    (t : Plan) × (v : Version) × (w : Version) × (batch : List code.Change)
    × HasMap topology m before after t v × Says (changes_file t) before after changes batch
    × IsMap t 0 w × IsNext v (map change batch) w × PutsOut (text_of w) before after

-- the headline of a run, by what its words ask for; of words that are not taken it says nothing,
-- and of `large`, a run over a made-up world, that it puts the summary of one
abbrev pub IsHeadline : Option Task → Surroundings → Surroundings → Status → Type 0
IsHeadline None before after result = Unit {0}
IsHeadline (Some (serve ask)) before after result = IsServing ask before after result
IsHeadline (Some (large groups)) before after result = result ≡ status.Ok →
    (s : Summary) × IsWorldRun groups s × PutsOut (concat (world.lines_of s)) before after
IsHeadline (Some (say (map_from topology))) before after result =
    result ≡ status.Ok → IsMapping topology before after
IsHeadline (Some (say (places topology))) before after result =
    result ≡ status.Ok → IsPlacing topology before after
IsHeadline (Some (say (check topology m))) before after result =
    result ≡ status.Ok → IsChecking topology m before after
IsHeadline (Some (say (answer topology m d))) before after result =
    result ≡ status.Ok → IsAnswering topology m d before after
IsHeadline (Some (say (repair topology m changes))) before after result =
    result ≡ status.Ok → IsRepairing topology m changes before after
