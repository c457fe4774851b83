-- What is due to a command comes with a text on what the files say.
use Rattle.std.proofs.Common.{◌≡◌, ℕ, List, [], ◌∷◌, length, Option, ap, sym, subst, inl, inr}
use Rattle.glb.specs.Loads.{Files}
use Rattle.stable_check.specs.declared.verdict.Verdict.{Verdict}
use Rattle.stable_check.specs.declared.verdict.Verdict.TheVariants.{Good, BadLine, OverDemand, OverLimit, OverCapacity, Blocking, BadName}
use Rattle.topology_text.specs.Plan.{Plan}
use Rattle.map_text.specs.Reading.{Mapped}
use Rattle.glb.specs.declared.status.Status.{Status}
use Rattle.glb.specs.Words.{Ask, check, map_from, places, answer, repair}
use Rattle.glb.specs.Outcome.{IsSaid, IsSaidStatus, Outcome}
use Rattle.glb.specs.Datagram.{Datagram}
use Rattle.glb.specs.Files.{Kind, Reads, changes_file, map_file, topology_file}
use Rattle.glb.specs.Check.{IsJudged, status_of_verdict}
use Rattle.glb.specs.Map.{IsMapped}
use Rattle.glb.specs.Places.{IsSpreadOut}
use Rattle.glb.specs.Answer.{IsAnswered}
use Rattle.glb.specs.Repair.{IsRepairOf}
use Rattle.map_model.specs.declared.change.Change.{Change}
use Rattle.glb.specs.Run.{IsDue}

-- an outcome of one text, with such a status
one_text : (due : Outcome) (status : Status) (text : List ℕ) → IsSaidStatus status → due ≡ record { status = status; pieces = text ∷ [] } → IsSaid due
one_text due status text has is = record { status = subst IsSaidStatus (sym (ap (λ (o : Outcome). o.status) is)) has; one = ap (λ (o : Outcome). length o.pieces) is }

reads_said : {T : Type 0} (kind : Kind T) (files : Option Files) (name : List ℕ) (Next : T → Outcome → Type 0) (due : Outcome) → ((t : T) → Next t due → IsSaid due) → Reads kind files name Next due → IsSaid due
reads_said kind files name Next due next (inl refused) = one_text due _ refused.1 tt refused.4
reads_said kind files name Next due next (inr read) = next read.0 read.2

-- each verdict comes with a text
has_text : (v : Verdict) → IsSaidStatus (status_of_verdict v)
has_text Good = tt
has_text (BadLine i) = tt
has_text (OverDemand g units) = tt
has_text (OverLimit g k units) = tt
has_text (OverCapacity n units) = tt
has_text (Blocking g k) = tt
has_text (BadName i) = tt

judged_said : (t : Plan) (m : Mapped) (due : Outcome) → IsJudged t m due → IsSaid due
judged_said t m due judged = one_text due (status_of_verdict judged.0) _ (has_text judged.0) judged.2

mapped_said : (t : Plan) (due : Outcome) → IsMapped t due → IsSaid due
mapped_said t due mapped = record { status = subst IsSaidStatus (sym mapped.status) tt; one = ap (λ (ps : List (List ℕ)). length ps) mapped.text.3 }

spread_said : (t : Plan) (due : Outcome) → IsSpreadOut t due → IsSaid due
spread_said t due spread = record { status = subst IsSaidStatus (sym spread.status) tt; one = ap (λ (ps : List (List ℕ)). length ps) spread.text.3 }

answered_said : (d : Datagram) (t : Plan) (m : Mapped) (due : Outcome) → IsAnswered d t m due → IsSaid due
answered_said d t m due (inl replied) = record { status = subst IsSaidStatus (sym replied.status) tt; one = ap (λ (ps : List (List ℕ)). length ps) replied.reply.text }
answered_said d t m due (inr other) = one_text due _ _ tt other.outcome

repair_said : (t : Plan) (m : Mapped) (c : List Change) (due : Outcome) → IsRepairOf t m c due → IsSaid due
repair_said t m c due (inl repaired) = record { status = subst IsSaidStatus (sym repaired.status) tt; one = ap (λ (ps : List (List ℕ)). length ps) repaired.repaired.text }
repair_said t m c due (inr other) = one_text due _ _ tt other.outcome

pub due_said : (ask : Ask) (files : Option Files) (due : Outcome) → IsDue ask files due → IsSaid due
due_said (check topology map) files due =
    reads_said topology_file files topology (λ t. Reads (map_file t) files map (IsJudged t)) due (λ t. reads_said (map_file t) files map (IsJudged t) due (λ m. judged_said t m due))
due_said (map_from topology) files due = reads_said topology_file files topology IsMapped due (λ t. mapped_said t due)
due_said (places topology) files due = reads_said topology_file files topology IsSpreadOut due (λ t. spread_said t due)
due_said (answer topology map d) files due =
    reads_said topology_file files topology (λ t. Reads (map_file t) files map (IsAnswered d t)) due (λ t. reads_said (map_file t) files map (IsAnswered d t) due (λ m. answered_said d t m due))
due_said (repair topology map changes) files due =
    reads_said topology_file files topology (λ t. Reads (map_file t) files map (λ m. Reads (changes_file t) files changes (IsRepairOf t m))) due
    (λ t. reads_said (map_file t) files map (λ m. Reads (changes_file t) files changes (IsRepairOf t m)) due (λ m. reads_said (changes_file t) files changes (IsRepairOf t m) due (λ c. repair_said t m c due)))
