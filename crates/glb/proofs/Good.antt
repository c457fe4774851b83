-- What status 0 says.
use Rattle.std.proofs.Common.{◌≡◌, ℕ, List, [], ◌∷◌, Option, None, Some, inl, inr, ap, sym, ◌∙◌, subst}
use Rattle.map_model.specs.Allocation.{IsGood}
use Rattle.outside.specs.Faults.{BothTell}
use Rattle.glb.specs.Loads.{Files, files_between}
use Rattle.outside.specs.Sink.{Written}
use Rattle.stable_check.specs.Judgement.{Judges}
use Rattle.stable_check.specs.declared.verdict.Verdict.{Verdict}
use Rattle.stable_check.specs.declared.verdict.Verdict.TheVariants.{Good, BadLine, OverDemand, OverLimit, OverCapacity, Blocking, BadName}
use Rattle.topology_text.specs.Plan.{Plan}
use Rattle.map_text.specs.Reading.{Mapped}
use Rattle.glb.specs.declared.status.Status.{Status}
use Rattle.glb.specs.declared.status.Status.TheVariants as status
use Rattle.glb.specs.Words.{Ask, check, map_from, places, answer, repair}
use Rattle.mapper.specs.Scenes.{IsPrinted}
use Rattle.glb.specs.Outcome.{Outcome, Outside, RunsBy}
use Rattle.glb.specs.Files.{Kind, Reads, Says, changes_file, map_file, topology_file}
use Rattle.glb.specs.Check.{IsCheckDue, IsCheckedRun, IsJudged, status_of_verdict}
use Rattle.glb.specs.Map.{IsMapDue, IsMapped, IsMappedRun}
use Rattle.glb.specs.Places.{IsPlacesDue, IsPlacesRun, IsSpreadOut}
use Rattle.glb.specs.Answer.{AreReply, IsAnswerDue, IsAnswered, IsAnsweredRun}
use Rattle.glb.specs.Repair.{AreRepaired, IsRepairDue, IsRepairOf, IsRepairedRun}
use Rattle.glb.specs.Datagram.{Datagram}
use Rattle.map_model.specs.declared.change.Change.{Change}
use Rattle.glb.specs.Run.{IsGoodRun, IsSayingRun}
use Rattle.glb.specs.Texts as text
use Rattle.glb.proofs.Plans.{is_plan}

-- where all is well, the file said something
well_read : {T : Type 0} (kind : Kind T) (files : Option Files) (name : List ℕ) (Next : T → Outcome → Type 0) (due : Outcome) → Reads kind files name Next due → due.status ≡ status.Ok → (t : T) × Says kind files name t × Next t due
well_read kind files name Next due (inl refused) ok = let same : due.status ≡ status.Refused = ap (λ (o : Outcome). o.status) refused.4 in absurd (cc)
well_read kind files name Next due (inr read) ok = read

-- a verdict with status 0 is that the map is good
well_judged : (t : Plan) (m : Mapped) (due : Outcome) → IsJudged t m due → due.status ≡ status.Ok → IsGood t.market m.lines m.names × (due.pieces ≡ text.good ∷ [])
well_judged t m due j ok = go j.0 j.1 j.2 (sym (ap (λ (o : Outcome). o.status) j.2) ∙ ok)
  where
    go : (v : Verdict) → Judges t.market m.lines m.names v → due ≡ record { status = status_of_verdict v; pieces = text.verdict t v ∷ [] } → status_of_verdict v ≡ status.Ok → IsGood t.market m.lines m.names × (due.pieces ≡ text.good ∷ [])
    go Good judged is ok = (judged, ap (λ (o : Outcome). o.pieces) is)
    go (BadLine i) judged is ok = cc
    go (OverDemand g u) judged is ok = cc
    go (OverLimit g k u) judged is ok = cc
    go (OverCapacity n u) judged is ok = cc
    go (Blocking g k) judged is ok = cc
    go (BadName i) judged is ok = cc

replied : (t : Plan) (m : Mapped) (d : Datagram) (due : Outcome) → IsAnswered d t m due → due.status ≡ status.Ok → AreReply t m d due.pieces
replied t m d due (inl reply) ok = reply.reply
replied t m d due (inr other) ok = let same : due.status ≡ status.NotGood = ap (λ (o : Outcome). o.status) other.outcome in absurd (cc)

-- what status 0 of each command says, of an outcome that is due and was put
well_checked : (topology map : List ℕ) (before after : Outside) (due : Outcome) → IsCheckDue topology map (files_between before.files.past after.files.past) due → due.status ≡ status.Ok → BothTell before.out.past after.out.past (IsPrinted due.pieces) → IsCheckedRun topology map before after
well_checked topology map before after due h ok puts =
    let first = well_read topology_file (files_between before.files.past after.files.past) topology (λ t. Reads (map_file t) (files_between before.files.past after.files.past) map (IsJudged t)) due h ok in
    let t = first.0 in
    let second = well_read (map_file t) (files_between before.files.past after.files.past) map (IsJudged t) due first.2 ok in
    let good = well_judged t second.0 due second.2 ok in
    (t, second.0, is_plan (files_between before.files.past after.files.past) topology t first.1, first.1, second.1, good.0, subst (λ (ps : List (List ℕ)). BothTell before.out.past after.out.past (IsPrinted ps)) good.1 puts)

well_mapped : (topology : List ℕ) (before after : Outside) (due : Outcome) → IsMapDue topology (files_between before.files.past after.files.past) due → due.status ≡ status.Ok → BothTell before.out.past after.out.past (IsPrinted due.pieces) → IsMappedRun topology before after
well_mapped topology before after due h ok puts =
    let read = well_read topology_file (files_between before.files.past after.files.past) topology IsMapped due h ok in
    (read.0, due.pieces, is_plan (files_between before.files.past after.files.past) topology read.0 read.1, read.1, read.2.text, puts)

well_spread : (topology : List ℕ) (before after : Outside) (due : Outcome) → IsPlacesDue topology (files_between before.files.past after.files.past) due → due.status ≡ status.Ok → BothTell before.out.past after.out.past (IsPrinted due.pieces) → IsPlacesRun topology before after
well_spread topology before after due h ok puts =
    let read = well_read topology_file (files_between before.files.past after.files.past) topology IsSpreadOut due h ok in
    (read.0, due.pieces, is_plan (files_between before.files.past after.files.past) topology read.0 read.1, read.1, read.2.text, puts)

well_answered : (topology map : List ℕ) (d : Datagram) (before after : Outside) (due : Outcome) → IsAnswerDue topology map d (files_between before.files.past after.files.past) due → due.status ≡ status.Ok → BothTell before.out.past after.out.past (IsPrinted due.pieces)
    → IsAnsweredRun topology map d before after
well_answered topology map d before after due h ok puts =
    let first = well_read topology_file (files_between before.files.past after.files.past) topology (λ t. Reads (map_file t) (files_between before.files.past after.files.past) map (IsAnswered d t)) due h ok in
    let t = first.0 in
    let second = well_read (map_file t) (files_between before.files.past after.files.past) map (IsAnswered d t) due first.2 ok in
    (t, second.0, due.pieces, is_plan (files_between before.files.past after.files.past) topology t first.1, first.1, second.1, replied t second.0 d due second.2 ok, puts)

is_repaired : (t : Plan) (m : Mapped) (c : List Change) (due : Outcome) → IsRepairOf t m c due → due.status ≡ status.Ok → AreRepaired t m c due.pieces
is_repaired t m c due (inl repaired) ok = repaired.repaired
is_repaired t m c due (inr other) ok = let same : due.status ≡ status.NotGood = ap (λ (o : Outcome). o.status) other.outcome in absurd (cc)

well_repaired : (topology map changes : List ℕ) (before after : Outside) (due : Outcome) → IsRepairDue topology map changes (files_between before.files.past after.files.past) due → due.status ≡ status.Ok → BothTell before.out.past after.out.past (IsPrinted due.pieces)
    → IsRepairedRun topology map changes before after
well_repaired topology map changes before after due h ok puts =
    let first = well_read topology_file (files_between before.files.past after.files.past) topology (λ t. Reads (map_file t) (files_between before.files.past after.files.past) map (λ m. Reads (changes_file t) (files_between before.files.past after.files.past) changes (IsRepairOf t m))) due h ok in
    let t = first.0 in
    let second = well_read (map_file t) (files_between before.files.past after.files.past) map (λ m. Reads (changes_file t) (files_between before.files.past after.files.past) changes (IsRepairOf t m)) due first.2 ok in
    let m = second.0 in
    let third = well_read (changes_file t) (files_between before.files.past after.files.past) changes (IsRepairOf t m) due second.2 ok in
    (t, m, third.0, due.pieces, is_plan (files_between before.files.past after.files.past) topology t first.1, first.1, second.1, third.1, is_repaired t m third.0 due third.2 ok, puts)

-- a run with status 0 comes out well
whole_run : (Due : Outcome → Type 0) (P : Type 0) (before after : Option Written) (result : Status) → RunsBy Due before after result → result ≡ status.Ok
    → ((due : Outcome) → Due due → due.status ≡ status.Ok → BothTell before after (IsPrinted due.pieces) → P) → P
whole_run Due P before after result (inl whole) ok well = well whole.due whole.is_due (sym whole.status ∙ ok) whole.puts
whole_run Due P before after result (inr (inl cut)) ok well = let other = cut.status in absurd (cc)
whole_run Due P before after result (inr (inr silent)) ok well = elim silent.status [ inl other ↦ absurd (cc) | inr other ↦ absurd (cc) ]

pub good_run : (ask : Option Ask) (before after : Outside) (result : Status) → IsSayingRun ask before after result → result ≡ status.Ok → IsGoodRun ask before after
good_run None before after result (inl (inl whole)) ok = let usage : whole.due.status ≡ status.Usage = ap (λ (o : Outcome). o.status) whole.is_due in let same = whole.status in absurd (cc)
good_run None before after result (inl (inr cut)) ok = let other = cut.status in absurd (cc)
good_run None before after result (inr unread) ok = let other = unread.status in absurd (cc)
good_run (Some (check topology map)) before after result run ok =
    whole_run (IsCheckDue topology map (files_between before.files.past after.files.past)) (IsCheckedRun topology map before after) before.out.past after.out.past result run ok (well_checked topology map before after)
good_run (Some (map_from topology)) before after result run ok =
    whole_run (IsMapDue topology (files_between before.files.past after.files.past)) (IsMappedRun topology before after) before.out.past after.out.past result run ok (well_mapped topology before after)
good_run (Some (places topology)) before after result run ok =
    whole_run (IsPlacesDue topology (files_between before.files.past after.files.past)) (IsPlacesRun topology before after) before.out.past after.out.past result run ok (well_spread topology before after)
good_run (Some (answer topology map d)) before after result run ok =
    whole_run (IsAnswerDue topology map d (files_between before.files.past after.files.past)) (IsAnsweredRun topology map d before after) before.out.past after.out.past result run ok (well_answered topology map d before after)
good_run (Some (repair topology map changes)) before after result run ok =
    whole_run (IsRepairDue topology map changes (files_between before.files.past after.files.past)) (IsRepairedRun topology map changes before after) before.out.past after.out.past result run ok (well_repaired topology map changes before after)
