-- What is promised of a run of `serve`, from what it does, loads and counts.
use Rattle.std.proofs.Common.{◌≡◌, ℕ, List, [], ◌∷◌, ◌++◌, length, inl, inr, refl, ap, sym, subst, arith, length-append}
use Rattle.std.proofs.lemmas.List.{append-nil}
use Rattle.std.specs.Prelude.{All, IfSome, Option, None, Some, ◌≢◌, ◌≤◌, ◌⊎◌}
use Rattle.outside.specs.Faults.{BothTell, DeviceState, Rose}
use Rattle.outside.specs.Shelf.{Load, Shelved}
use Rattle.outside.specs.Sink.{Written}
use Rattle.drive.specs.Driven.{LentTold}
use Rattle.glb.proofs.Named.{fell_same}
use Rattle.glb.specs.declared.status.Status.{Status}
use Rattle.glb.specs.declared.status.Status.TheVariants as status
use Rattle.glb.specs.Words.{Service, Task, say, serve, large}
use Rattle.glb.specs.Told.{Surroundings, outside_of}
use Rattle.glb.specs.Loads.{AreLoaded, AreLoadsOf, DueLoad, files_between}
use Rattle.glb.specs.Outcome.{HasExactCauses, Outcome, Outside, RunsBy}
use Rattle.glb.specs.Large.{IsLargeDue}
use Rattle.big_run.specs.Runs.{IsWorldRun}
use Rattle.big_run.specs.Summary.{lines_of}
use Rattle.big_run.specs.declared.summary.Summary.{Summary}
use Rattle.mapper.specs.Scenes.{IsPrinted}
use Rattle.glb.specs.Files.{topology_file}
use Rattle.glb.specs.Serve.{IsServeRun, loads_of_serve}
use Rattle.glb.specs.Program.{HasServeCauses, IsPromised}
use Rattle.glb.proofs.Lanes.{unread_causes}
use Rattle.glb.proofs.Left.{left_of}
use Rattle.glb.proofs.Loads.{none_held, none_made}
use Rattle.glb.proofs.WellServed.{well_served}

pub promised : (turns : ℕ) (ask : Service) (before after : Surroundings) (result : Status) → IsServeRun turns ask before after result → BothTell before.files.past after.files.past (AreLoadsOf (loads_of_serve ask))
    → (result ≢ status.SourceFault → result ≢ status.NoMemory → BothTell before.files.past after.files.past (AreLoaded (loads_of_serve ask))) → HasServeCauses turns ask before after result → IsPromised turns (Some (serve ask)) before after result
promised turns ask before after result run noted loaded causes = record {
  run = run;
  noted = noted;
  loaded = loaded;
  causes = causes;
  good = λ ok. well_served turns ask before after (subst (λ (r : Status). IsServeRun turns ask before after r) ok run);
  complete = λ sound quiet. left_of turns ask before after result (AreLoadsOf (loads_of_serve ask)) run causes noted sound quiet;
}

pub promised_task : (turns : ℕ) (task : Option Task) (ask : Service) (before after : Surroundings) (result : Status) → task ≡ Some (serve ask) → IsPromised turns (Some (serve ask)) before after result → IsPromised turns task before after result
promised_task turns task ask before after result is run = subst (λ (t : Option Task). IsPromised turns t before after result) (sym is) run

-- what is promised of a task is promised of the same one
pub promised_as : (turns : ℕ) (task same : Option Task) (before after : Surroundings) (result : Status) → task ≡ same → IsPromised turns same before after result → IsPromised turns task before after result
promised_as turns task same before after result is run = subst (λ (t : Option Task). IsPromised turns t before after result) (sym is) run

-- what is told stays
stays : (o : Option Written) → BothTell o o (λ b a. a ≡ b)
stays None = tt
stays (Some w) = refl

-- none that was due was loaded, which is all
none_loaded : (f : Shelved) → AreLoaded (λ _. []) f f
none_loaded f = ([], record { loads = sym (append-nil f.loads); holds = refl; held = none_held f.holds }, refl, λ k d within. absurd (omega (arith, within)))

-- nothing was loaded
pub unloaded : (files : Option Shelved) (due : List Load → List DueLoad) → BothTell files files (AreLoadsOf due)
unloaded None due = tt
unloaded (Some f) due = none_made due f f refl refl

-- no count rose, and the answer is want of memory
none_rose : (f : Outside) → HasExactCauses f f status.NoMemory
none_rose f = record {
  causes = record {
    files_later = omega arith;
    out_later = omega arith;
    source = λ h. absurd (cc);
    sink = λ h. absurd (cc);
  };
  files_stay = λ h. refl;
  out_stays = λ h. refl;
}

-- what is promised where memory was wanting for the words, and nothing was done
pub unread : (turns : ℕ) (task : Option Task) (s : Surroundings) → IsPromised turns task s s status.NoMemory
unread turns None s = record {
  run = record { run = inr (record { status = refl; puts = stays s.lent.out.past }); rest = refl };
  noted = unloaded s.files.past _;
  loaded = λ source memory. absurd (memory refl);
  causes = none_rose (outside_of s);
  good = λ h. absurd (cc);
  complete = λ sound quiet. absurd sound;
}
unread turns (Some (say ask)) s = record {
  run = record { run = inr (inr (record { status = inr refl; puts = stays s.lent.out.past })); rest = refl };
  noted = unloaded s.files.past _;
  loaded = λ source memory. absurd (memory refl);
  causes = none_rose (outside_of s);
  good = λ h. absurd (cc);
  complete = λ sound quiet. inr refl;
}
unread turns (Some (serve ask)) s = promised turns ask s s status.NoMemory (inl (record { run = inr (inr (record { status = inr refl; puts = stays s.lent.out.past })); rest = refl }))
    (unloaded s.files.past _) (λ source memory. absurd (memory refl))
    (record {
      files_later = omega arith;
      feed_later = omega arith;
      more_later = fell_same s.lent.more;
      out_later = omega arith;
      maps_later = omega arith;
      source = λ h. absurd (cc);
      sink = λ h. absurd (cc);
      files_stay = λ h. refl;
      feed_stays = λ h one. (refl, refl);
      out_stays = λ h. refl;
      maps_stay = λ h. refl;
      lanes = unread_causes topology_file turns ask s.lent s.lent ask.topology (files_between s.files.past s.files.past) s.lent.out.past s.lent.out.past status.NoMemory (inr (inr (record { status = inr refl; puts = stays s.lent.out.past })));
    })
unread turns (Some (large groups)) s = record {
  run = record { run = inr (inr (record { status = inr refl; puts = stays s.lent.out.past })); ends = inr (inr refl); files = refl; rest = refl };
  noted = unloaded s.files.past _;
  loaded = λ source memory. absurd (memory refl);
  causes = none_rose (outside_of s);
  good = λ h. absurd (cc);
  complete = λ sound quiet. inr refl;
}

-- what a run of `large` with status 0 put
summed : (n : ℕ) (before after : Option Written) (result : Status) → RunsBy (IsLargeDue n) before after result → result ≡ status.Ok → (s : Summary) × IsWorldRun n s × BothTell before after (IsPrinted (lines_of s))
summed n before after result (inl whole) ok = let d = whole.is_due in (d.0, d.1, subst (λ (o : Outcome). BothTell before after (IsPrinted o.pieces)) d.2 whole.puts)
summed n before after result (inr (inl cut)) ok = let is = cut.status in absurd (cc)
summed n before after result (inr (inr silent)) ok = elim silent.status [ inl is ↦ absurd (cc) | inr is ↦ absurd (cc) ]

-- what is promised of a run of `large`, from what it does and counts
pub promised_large : (turns n : ℕ) (s : Surroundings) (out : DeviceState Written) (result : Status) → RunsBy (IsLargeDue n) s.lent.out.past out.past result → (result ≡ status.Ok) ⊎ (result ≡ status.SinkFault) ⊎ (result ≡ status.NoMemory)
    → s.lent.out.faults ≤ out.faults → (result ≡ status.SinkFault → Rose s.lent.out.faults out.faults) → (result ≢ status.SinkFault → out.faults ≡ s.lent.out.faults) → IsPromised turns (Some (large n)) s (record s { lent = record s.lent { out = out } }) result
promised_large turns n s out result run ends later cause stands = record {
  run = record { run = run; ends = ends; files = refl; rest = refl };
  noted = unloaded s.files.past _;
  loaded = λ source memory. all_loaded s.files.past;
  causes = record {
    causes = record {
      files_later = omega arith;
      out_later = later;
      source = λ h. elim ends [ inl is ↦ absurd (cc) | inr (inl is) ↦ absurd (cc) | inr (inr is) ↦ absurd (cc) ];
      sink = cause;
    };
    files_stay = λ h. refl;
    out_stays = stands;
  };
  good = λ ok. summed n s.lent.out.past out.past result run ok;
  complete = λ sound quiet. elim ends [ inl is ↦ inl is | inr (inl is) ↦ absurd (quiet (cause is)) | inr (inr is) ↦ inr is ];
}
  where
    all_loaded : (files : Option Shelved) → BothTell files files (AreLoaded (λ _. []))
    all_loaded None = tt
    all_loaded (Some f) = none_loaded f

-- these files, beside what is lent
abbrev over : DeviceState Shelved → LentTold → Surroundings
over files lent = record { files = files; lent = lent }

-- what is promised of a run is promised of the same turns, task and surroundings
pub promised_over : (turns turns' : ℕ) (task task' : Option Task) (before before' after after' : Surroundings) (result : Status) → turns ≡ turns' → task ≡ task' → before ≡ before' → after ≡ after'
    → IsPromised turns task before after result → IsPromised turns' task' before' after' result
promised_over turns turns' task task' before before' after after' result same asked ahead behind h =
    subst (λ (n : ℕ). IsPromised n task' before' after' result) same
    (subst (λ (t : Option Task). IsPromised turns t before' after' result) asked
    (subst (λ (b : Surroundings). IsPromised turns task b after' result) ahead
    (subst (λ (a : Surroundings). IsPromised turns task before a result) behind h)))

-- where the front of a list is as long as all of it, nothing is behind
pub none_behind : {A : Type 0} (all front behind : List A) → all ≡ front ++ behind → length front ≡ length all → behind ≡ []
none_behind all front [] is same = refl
none_behind all front (x ∷ xs) is same = absurd (omega (arith, ap length is, length-append front (x ∷ xs), same))

-- the same files, beside the same that is lent
pub same_surroundings : (files : DeviceState Shelved) (a b : LentTold) → a ≡ b → over files a ≡ over files b
same_surroundings files a b h = ap (over files) h
