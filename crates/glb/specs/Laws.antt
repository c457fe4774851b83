-- Laws of runs over the same files and feeds, or of `large` over as many groups: what they write and publish is the same.
use Rattle.std.specs.Prelude.{◌≡◌, ◌⊎◌, ℕ, true, List, [], ◌∷◌, ◌++◌, map, Option, Some}
use Rattle.std.specs.List.{concat}
use Rattle.map_model.specs.declared.change.Change.{Change}
use Rattle.map_model.specs.Market.{IsMarket}
use Rattle.outside.specs.Faults.{BothTell}
use Rattle.outside.specs.Source.{Fed}
use Rattle.topology_text.specs.Plan.{Plan}
use Rattle.demand_feed.specs.Lines.{lines_of}
use Rattle.demand_feed.specs.Octets.{Has}
use Rattle.demand_feed.specs.Task.{Task, tasks}
use Rattle.map_text.specs.Reading.{Mapped}
use Rattle.mapper.specs.Control.{Course, start}
use Rattle.mapper.specs.Laws.{LackedMemory}
use Rattle.mapper.specs.Merged.{Publishes}
use Rattle.mapper.specs.Control.{AllCome}
use Rattle.mapper.specs.Scenes.{IsPrinted}
use Rattle.mapper.specs.Words.{map_text}
use Rattle.big_run.specs.Runs.{IsWorldRun}
use Rattle.big_run.specs.declared.summary.Summary.{Summary}
use Rattle.glb.specs.Map.{AreGoodMap}
use Rattle.glb.specs.Repair.{AreRepaired}
use Rattle.glb.specs.Served.{IsWellServed}
use Rattle.glb.specs.Told.{Surroundings}
use Rattle.glb.specs.Words.{Service}

-- Two texts that `map` may write for one topology are the same.
abbrev pub MapsAgree : Type 0
MapsAgree = (t : Plan) → IsMarket t.market → (a b : List (List ℕ)) → AreGoodMap t a → AreGoodMap t b → a ≡ b

-- Two texts that `repair` may write for one topology, one map and the same changes are the same.
abbrev pub RepairsAgree : Type 0
RepairsAgree = (t : Plan) (m : Mapped) (changes : List Change) (a b : List (List ℕ)) → AreRepaired t m changes a → AreRepaired t m changes b → a ≡ b

-- what a run of `serve` with status 0 came to by some tasks: its versions are those of the course, and the output and the maps got what that says
pub record CameBy (turns : ℕ) (ask : Service) (before after : Surroundings) (w : IsWellServed turns ask before after) (ts : List Task) (c : Course) : Type 0 where
  pub all : AllCome ts (start w.first) c
  pub history : w.first ∷ w.rest ≡ w.first ∷ c.versions
  pub out : BothTell before.lent.out.past after.lent.out.past (IsPrinted c.out)
  pub maps : BothTell before.lent.maps.past after.lent.maps.past (IsPrinted (map map_text (w.first ∷ c.versions)))

-- a feed gave these octets, however they were cut into pieces
abbrev pub HasGivenOctets : Fed → Fed → List ℕ → Type 0
HasGivenOctets before after octets = (pieces : List (List ℕ)) × (after.pieces ≡ before.pieces ++ pieces) × (octets ≡ concat pieces)

-- a feed tells that it had these octets left before a run, or that it gave them in it
abbrev pub AreOctetsOf : Option Fed → Option Fed → List ℕ → Type 0
AreOctetsOf (Some before) (Some after) octets = Has (Some before) octets ⊎ HasGivenOctets before after octets
AreOctetsOf _ _ octets = ⊥

-- Each run of `serve` with status 0 over one feed came to a course by the tasks of the octets that its feed tells.
abbrev pub ServesCome : Type 0
ServesCome = (turns : ℕ) (ask : Service) (before after : Surroundings) (w : IsWellServed turns ask before after) (octets : List ℕ) → ask.more ≡ [] → AreOctetsOf before.lent.feed.past after.lent.feed.past octets
    → (c : Course) × CameBy turns ask before after w (tasks w.topology (lines_of true octets)) c

-- Two such runs over one topology whose feeds tell the same octets, of which neither lacked memory for a commit, came from the same first version to the same course: the same versions, the same texts on the maps, and the same lines on the output.
abbrev pub ServesAgree : Type 0
ServesAgree = (turns runs : ℕ) (ask other : Service) (before after then later : Surroundings) (x : IsWellServed turns ask before after) (y : IsWellServed runs other then later) (octets : List ℕ)
    → ask.more ≡ [] → other.more ≡ [] → x.topology ≡ y.topology → AreOctetsOf before.lent.feed.past after.lent.feed.past octets → AreOctetsOf then.lent.feed.past later.lent.feed.past octets
    → (c : Course) × (d : Course) × CameBy turns ask before after x (tasks x.topology (lines_of true octets)) c × CameBy runs other then later y (tasks y.topology (lines_of true octets)) d
    × ((LackedMemory c → ⊥) → (LackedMemory d → ⊥) → (x.first ≡ y.first) × (c ≡ d))

-- Each run of `serve` with status 0 published what some batches lead to from its first version, one after another.
abbrev pub ServesPublish : Type 0
ServesPublish = (turns : ℕ) (ask : Service) (before after : Surroundings) (w : IsWellServed turns ask before after) → (batches : List (List Change)) × Publishes w.first batches w.rest

-- Two such runs over one topology that published what the same batches lead to published the same versions, whichever feeds the batches came by.
abbrev pub ServesRepeat : Type 0
ServesRepeat = (turns runs : ℕ) (ask other : Service) (before after then later : Surroundings) (x : IsWellServed turns ask before after) (y : IsWellServed runs other then later) (batches : List (List Change))
    → x.topology ≡ y.topology → Publishes x.first batches x.rest → Publishes y.first batches y.rest → (x.first ≡ y.first) × (x.rest ≡ y.rest)

-- a summary with so many proposals
abbrev pub with_proposals : ℕ → Summary → Summary
with_proposals proposals s = record {
  groups = s.groups;
  nodes = s.nodes;
  maps = s.maps;
  good = s.good;
  totals = s.totals;
  proposals = proposals;
  answered = s.answered;
  servfail = s.servfail;
}

-- Two summaries of runs over the world of so many groups are the same, but for the number of proposals of the first map.
abbrev pub SummariesAgree : Type 0
SummariesAgree = (n : ℕ) (a b : Summary) → IsWorldRun n a → IsWorldRun n b → a ≡ with_proposals a.proposals b
