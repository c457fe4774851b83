-- What is due to `answer`.
use Rattle.std.specs.Prelude.{◌≡◌, ◌≢◌, ◌⊎◌, ℕ, List, [], ◌∷◌, Option}
use Rattle.map_model.specs.Allocation.{IsGood}
use Rattle.outside.specs.Faults.{BothTell}
use Rattle.stable_check.specs.Judgement.{Judges}
use Rattle.stable_check.specs.declared.verdict.Verdict.{Verdict}
use Rattle.stable_check.specs.declared.verdict.Verdict.TheVariants.{Good}
use Rattle.topology_text.specs.Plan.{IsPlan, Plan}
use Rattle.map_text.specs.Reading.{Mapped}
use Rattle.published_map.specs.Version.{Version}
use Rattle.answer_core.specs.Reply.{reply_of}
use Rattle.answer_core.specs.declared.way.Way.TheVariants as way
use Rattle.glb.specs.declared.status.Status.TheVariants as status
use Rattle.glb.specs.Datagram.{Datagram}
use Rattle.mapper.specs.Scenes.{IsPrinted}
use Rattle.glb.specs.Outcome.{Outcome, Outside}
use Rattle.glb.specs.Loads.{Files, files_between}
use Rattle.glb.specs.Files.{Reads, Says, map_file, topology_file}
use Rattle.glb.specs.Texts as text

-- a map over a topology as it was read, as version 0
abbrev pub version_of : Plan → Mapped → Version
version_of t m = record { serial = 0; market = t.market; lines = m.lines; names = m.names; plan = t }

-- a version's reply to a datagram, with draw 0
unfoldable pub answer_of : Version → Datagram → Option (List ℕ)
answer_of v d = reply_of v d.from d.octets 0 way.Datagram

-- the texts are those of a good map's reply
pub record AreReply (t : Plan) (m : Mapped) (d : Datagram) (pieces : List (List ℕ)) : Type 0 where
  pub good : IsGood t.market m.lines m.names
  pub text : pieces ≡ text.answer (answer_of (version_of t m) d) ∷ []

-- the map is good, and its reply is due
pub record IsReplied (t : Plan) (m : Mapped) (d : Datagram) (due : Outcome) : Type 0 where
  pub status : due.status ≡ status.Ok
  pub reply : AreReply t m d due.pieces

-- the map is not good, and its verdict is due
pub record IsNotGood (t : Plan) (m : Mapped) (due : Outcome) : Type 0 where
  pub verdict : Verdict
  pub judged : Judges t.market m.lines m.names verdict
  pub not_good : verdict ≢ Good
  pub outcome : due ≡ record { status = status.NotGood; pieces = text.verdict t verdict ∷ [] }

-- of a good map the reply, of any other the verdict
abbrev pub IsAnswered : Datagram → Plan → Mapped → Outcome → Type 0
IsAnswered d t m due = IsReplied t m d due ⊎ IsNotGood t m due

-- what is due to `answer` for a datagram: the refusal of the topology, or of the map, or the reply of a good map, or the verdict on any other
abbrev pub IsAnswerDue : List ℕ → List ℕ → Datagram → Option Files → Outcome → Type 0
IsAnswerDue topology map d files = Reads topology_file files topology (λ t. Reads (map_file t) files map (IsAnswered d t))

-- What status 0 of `answer` says of the files and the output: the octets that were loaded say a topology and a map that is good for its instance, and the output got the text of that map's reply, in one put.
abbrev pub IsAnsweredRun : List ℕ → List ℕ → Datagram → Outside → Outside → Type 0
IsAnsweredRun topology map d before after =
    (t : Plan) × (m : Mapped) × (pieces : List (List ℕ)) × IsPlan t × Says topology_file (files_between before.files.past after.files.past) topology t × Says (map_file t) (files_between before.files.past after.files.past) map m × AreReply t m d pieces
    × BothTell before.out.past after.out.past (IsPrinted pieces)
