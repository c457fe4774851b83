-- Where the files hold a good map and nothing outside fails, the answer is status 0.
use Rattle.std.proofs.Common.{◌≡◌, ◌⊎◌, ℕ, List, Option, None, Some, Result, Ok, Err, IsSomeAnd, IfSome, length, drop, inl, inr, refl, ap, ◌∙◌, subst, arith}
use Rattle.std.specs.Prelude.{slice_get}
use Rattle.map_model.specs.declared.lines.MapLine.{MapLine}
use Rattle.map_model.specs.declared.lines.NameLine.{NameLine}
use Rattle.map_model.specs.Market.{Market}
use Rattle.map_model.specs.Allocation.{IsGood}
use Rattle.outside.specs.Faults.{BothTell, Rose}
use Rattle.outside.specs.Shelf.{Shelved}
use Rattle.stable_check.specs.Judgement.{Judges}
use Rattle.stable_check.specs.declared.verdict.Verdict.{Verdict}
use Rattle.stable_check.specs.declared.verdict.Verdict.TheVariants.{Good, BadLine, OverDemand, OverLimit, OverCapacity, Blocking, BadName}
use Rattle.glb.specs.declared.status.Status.{Status}
use Rattle.glb.specs.declared.status.Status.TheVariants as status
use Rattle.glb.specs.Words.{Ask, check, map_from, places, answer, repair}
use Rattle.glb.specs.Outcome.{HasCauses, Outcome, Outside, RunsBy}
use Rattle.glb.specs.Loads.{Files, HaveGiven, files_between}
use Rattle.glb.specs.Files.{Holds, Kind, Reads, said, changes_file, map_file, topology_file}
use Rattle.glb.specs.Check.{HoldsGoodMap, IsCheckDue, IsJudged, status_of_verdict}
use Rattle.glb.specs.Map.{HoldsTopology, IsMapDue, IsMapped}
use Rattle.glb.specs.Places.{IsPlacesDue, IsSpreadOut}
use Rattle.glb.specs.Answer.{IsAnswerDue, IsAnswered}
use Rattle.glb.specs.Repair.{HoldsChanges, IsRepairDue, IsRepairOf}
use Rattle.glb.specs.Datagram.{Datagram}
use Rattle.glb.specs.Run.{IsSayingRun, IsSound}

-- a good map has no other verdict
only_good : (m : Market) (lines : List MapLine) (names : List NameLine) (v : Verdict) → Judges m lines names v → IsGood m lines names → v ≡ Good
only_good m lines names Good judged good = refl
only_good m lines names (BadLine i) judged good = let holds = good.form i judged.within in let fails = judged.bad in cc
only_good m lines names (OverDemand g units) judged good = absurd (omega (arith, judged.1.over, good.feasible.demands g.0 judged.1.within))
only_good m lines names (OverLimit g k units) judged good = absurd (omega (arith, judged.2.over, good.feasible.limits g.0 k judged.2.offer))
only_good m lines names (OverCapacity n units) judged good = absurd (omega (arith, judged.3.over, good.feasible.capacities n.0 judged.3.within))
only_good m lines names (Blocking g k) judged good = let some = good.stable g.0 k judged.2.offer judged.2.wanted in let none = judged.2.unrefused in absurd (cc)
only_good m lines names (BadName i) judged good = absurd (judged.3.here (ap (λ ns. slice_get ns i) good.named))

pub one_content : (held : Option (List ℕ)) (a b : List ℕ) → held ≡ Some a → held ≡ Some b → a ≡ b
one_content held a b h k = cc

pub one_answer : {T : Type 0} (r : Result T (List ℕ)) (t : T) (text : List ℕ) → r ≡ Ok t → r ≡ Err text → ⊥
one_answer r t text h k = cc

one_meaning : {T : Type 0} (r : Result T (List ℕ)) (t u : T) → r ≡ Ok t → r ≡ Ok u → t ≡ u
one_meaning r t u h k = cc

-- it is told that the files of a run hold this
abbrev pub Tells : Option Files → (List ℕ → Option (List ℕ)) → Type 0
Tells files held = (f : Files) × (files ≡ Some f) × (f.holds ≡ Some held)

-- what the files are told to hold is what they gave
pub held_given : (files : Option Files) (held : List ℕ → Option (List ℕ)) (name : List ℕ) (limit : ℕ) (bytes : List ℕ) → Tells files held → HaveGiven files name limit bytes → held name ≡ Some bytes
held_given files held name limit bytes (f, told, holds) given =
    let some : HaveGiven (Some f) name limit bytes = subst (λ (x : Option Files). HaveGiven x name limit bytes) told given in
    subst (λ (o : Option (List ℕ → Option (List ℕ))). IfSome o (λ h. h name ≡ Some bytes)) holds some.1

-- files that are told to be sound before a run are told so of the run
pub sound_told : (P : (List ℕ → Option (List ℕ)) → Type 0) (R : Shelved → Shelved → Type 0) (s t : Option Shelved) → BothTell s t R → IsSomeAnd s (λ f. IsSomeAnd f.holds P) → (held : List ℕ → Option (List ℕ)) × Tells (files_between s t) held × P held
sound_told P R None t told sound = absurd sound
sound_told P R (Some x) None told sound = absurd told
sound_told P R (Some x) (Some y) told sound = go x.holds refl sound
  where
    go : (o : Option (List ℕ → Option (List ℕ))) → x.holds ≡ o → IsSomeAnd o P → (held : List ℕ → Option (List ℕ)) × Tells (files_between (Some x) (Some y)) held × P held
    go None is p = absurd p
    go (Some held) is p = (held, (record { holds = x.holds; loads = drop (length x.loads) y.loads }, refl, is), p)

-- what a file is told to hold decides what is due
reads_on : {T : Type 0} (kind : Kind T) (files : Option Files) (held : List ℕ → Option (List ℕ)) (name : List ℕ) (Next : T → Outcome → Type 0) (due : Outcome) (t : T) → Tells files held → Holds kind held name t → Reads kind files name Next due → Next t due
reads_on kind files held name Next due t told says (inl other) =
    let same : says.0 ≡ other.0 = one_content (held name) says.0 other.0 says.1 (held_given files held name kind.limit other.0 told other.2) in
    absurd (one_answer (said kind says.0) t other.1 says.2 (ap (said kind) same ∙ other.3))
reads_on {T = T} kind files held name Next due t told says (inr read) =
    let same : says.0 ≡ read.1.0 = one_content (held name) says.0 read.1.0 says.1 (held_given files held name kind.limit read.1.0 told read.1.1) in
    let one : read.0 ≡ t = one_meaning (said kind says.0) read.0 t (ap (said kind) same ∙ read.1.2) says.2 in
    subst (λ (x : T). Next x due) one read.2

well_due : (topology map : List ℕ) (files : Option Files) (held : List ℕ → Option (List ℕ)) (due : Outcome) → Tells files held → HoldsGoodMap topology map held → IsCheckDue topology map files due → due.status ≡ status.Ok
well_due topology map files held due told good h =
    let t = good.0 in
    let m = good.1 in
    let first = reads_on topology_file files held topology (λ x. Reads (map_file x) files map (IsJudged x)) due t told good.2 h in
    let judged = reads_on (map_file t) files held map (IsJudged t) due m told good.3 first in
    ap (λ (o : Outcome). o.status) judged.2 ∙ ap status_of_verdict (only_good t.market m.lines m.names judged.0 judged.1 good.4)

well_answered : (topology map : List ℕ) (d : Datagram) (files : Option Files) (held : List ℕ → Option (List ℕ)) (due : Outcome) → Tells files held → HoldsGoodMap topology map held → IsAnswerDue topology map d files due → due.status ≡ status.Ok
well_answered topology map d files held due told good h =
    let t = good.0 in
    let m = good.1 in
    let first = reads_on topology_file files held topology (λ x. Reads (map_file x) files map (IsAnswered d x)) due t told good.2 h in
    elim (reads_on (map_file t) files held map (IsAnswered d t) due m told good.3 first) [
      | inl replied ↦ replied.status
      | inr other ↦ absurd (other.not_good (only_good t.market m.lines m.names other.verdict other.judged good.4))
    ]

well_repaired : (topology map changes : List ℕ) (files : Option Files) (held : List ℕ → Option (List ℕ)) (due : Outcome) → Tells files held → HoldsChanges topology map changes held → IsRepairDue topology map changes files due → due.status ≡ status.Ok
well_repaired topology map changes files held due told good h =
    let t = good.0 in
    let m = good.1 in
    let c = good.2 in
    let first = reads_on topology_file files held topology (λ x. Reads (map_file x) files map (λ y. Reads (changes_file x) files changes (IsRepairOf x y))) due t told good.3 h in
    let second = reads_on (map_file t) files held map (λ y. Reads (changes_file t) files changes (IsRepairOf t y)) due m told good.4 first in
    elim (reads_on (changes_file t) files held changes (IsRepairOf t m) due c told good.5 second) [
      | inl repaired ↦ repaired.status
      | inr other ↦ absurd (other.not_good (only_good t.market m.lines m.names other.verdict other.judged good.6))
    ]

-- the end of a run whose outcome is status 0
ends_well : (Due : Outcome → Type 0) (before after : Outside) (result : Status) → RunsBy Due before.out.past after.out.past result → ((due : Outcome) → Due due → due.status ≡ status.Ok)
    → HasCauses before after result → (Rose before.files.faults after.files.faults → ⊥) → (Rose before.out.faults after.out.faults → ⊥) → (result ≡ status.Ok) ⊎ (result ≡ status.NoMemory)
ends_well Due before after result (inl whole) well causes files out = inl (whole.status ∙ well whole.due whole.is_due)
ends_well Due before after result (inr (inl cut)) well causes files out = absurd (out (causes.sink cut.status))
ends_well Due before after result (inr (inr silent)) well causes files out = elim silent.status [ inl source ↦ absurd (files (causes.source source)) | inr memory ↦ inr memory ]

-- a run over a good map
pub complete_run : (ask : Option Ask) (before after : Outside) (result : Status) (R : Shelved → Shelved → Type 0) → IsSayingRun ask before after result → HasCauses before after result → BothTell before.files.past after.files.past R
    → IsSomeAnd before.files.past (λ f. IsSomeAnd f.holds (IsSound ask)) → (Rose before.files.faults after.files.faults → ⊥) → (Rose before.out.faults after.out.faults → ⊥) → (result ≡ status.Ok) ⊎ (result ≡ status.NoMemory)
complete_run None before after result R run causes told sound files out = let s = sound_told (IsSound None) R before.files.past after.files.past told sound in absurd s.2
complete_run (Some (check topology map)) before after result R run causes told sound files out =
    let s = sound_told (HoldsGoodMap topology map) R before.files.past after.files.past told sound in
    ends_well (IsCheckDue topology map (files_between before.files.past after.files.past)) before after result run (λ due h. well_due topology map (files_between before.files.past after.files.past) s.0 due s.1 s.2 h) causes files out
complete_run (Some (map_from topology)) before after result R run causes told sound files out =
    let s = sound_told (HoldsTopology topology) R before.files.past after.files.past told sound in
    ends_well (IsMapDue topology (files_between before.files.past after.files.past)) before after result run (λ due h. (reads_on topology_file (files_between before.files.past after.files.past) s.0 topology IsMapped due s.2.0 s.1 s.2.1 h).status) causes files out
complete_run (Some (places topology)) before after result R run causes told sound files out =
    let s = sound_told (HoldsTopology topology) R before.files.past after.files.past told sound in
    ends_well (IsPlacesDue topology (files_between before.files.past after.files.past)) before after result run (λ due h. (reads_on topology_file (files_between before.files.past after.files.past) s.0 topology IsSpreadOut due s.2.0 s.1 s.2.1 h).status) causes files out
complete_run (Some (answer topology map datagram)) before after result R run causes told sound files out =
    let s = sound_told (HoldsGoodMap topology map) R before.files.past after.files.past told sound in
    ends_well (IsAnswerDue topology map datagram (files_between before.files.past after.files.past)) before after result run (λ due h. well_answered topology map datagram (files_between before.files.past after.files.past) s.0 due s.1 s.2 h) causes files out
complete_run (Some (repair topology map changes)) before after result R run causes told sound files out =
    let s = sound_told (HoldsChanges topology map changes) R before.files.past after.files.past told sound in
    ends_well (IsRepairDue topology map changes (files_between before.files.past after.files.past)) before after result run (λ due h. well_repaired topology map changes (files_between before.files.past after.files.past) s.0 due s.1 s.2 h) causes files out
