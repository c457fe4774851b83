-- Where all is well, what `serve` may answer.
use Rattle.std.proofs.Common.{◌≡◌, ◌⊎◌, inl, inr, ℕ, Bool, true, false, List, ap, ◌∙◌}
use Rattle.std.specs.Prelude.{IsSomeAnd, Option, None, Some}
use Rattle.std.specs.List.{list_any}
use Rattle.outside.specs.Faults.{BothTell}
use Rattle.outside.specs.Shelf.{Shelved}
use Rattle.glb.specs.Loads.{Files, files_between}
use Rattle.outside.specs.Sink.{Written}
use Rattle.demand_feed.specs.declared.run.FeedEnd.{FeedEnd}
use Rattle.demand_feed.specs.declared.run.FeedEnd.TheVariants as feed
use Rattle.glb.specs.declared.status.Status.{Status}
use Rattle.glb.specs.declared.status.Status.TheVariants as status
use Rattle.glb.specs.Words.{Service, serve}
use Rattle.glb.specs.Outcome.{Outcome, RunsBy}
use Rattle.glb.specs.Files.{IsRefused, said, topology_file}
use Rattle.glb.specs.Map.{HoldsTopology}
use Rattle.glb.specs.Causes.{AnyServer, HasDoorFault, IsPastMaps}
use Rattle.glb.specs.Told.{Surroundings}
use Rattle.glb.specs.Serve.{IsServeRun, all_ends, is_cell_fault, is_port_fault, is_spent, status_by, status_of}
use Rattle.glb.specs.Program.{HasServeCauses, IsLeft, IsServeQuiet}
use Rattle.glb.proofs.Complete.{Tells, held_given, one_answer, one_content, sound_told}

-- a file that holds a topology is not refused
not_refused : (files : Option Files) (held : List ℕ → Option (List ℕ)) (name : List ℕ) (due : Outcome) → Tells files held → HoldsTopology name held → IsRefused topology_file files name due → ⊥
not_refused files held name due told holds h =
    let same : holds.1.0 ≡ h.0 = one_content (held name) holds.1.0 h.0 holds.1.1 (held_given files held name topology_file.limit h.0 told h.2) in
    one_answer (said topology_file holds.1.0) holds.0 h.1 holds.1.2 (ap (said topology_file) same ∙ h.3)

unread_left : (name : List ℕ) (files : Option Files) (held : List ℕ → Option (List ℕ)) (out out' : Option Written) (result : Status) → Tells files held → HoldsTopology name held → (result ≡ status.SourceFault → ⊥) → (result ≡ status.SinkFault → ⊥)
    → RunsBy (IsRefused topology_file files name) out out' result → (result ≡ status.Ok) ⊎ (result ≡ status.NoMemory) ⊎ (result ≡ status.Spent) ⊎ (result ≡ status.CellFault)
unread_left name files held out out' result told holds source sink (inl whole) = absurd (not_refused files held name whole.due told holds whole.is_due)
unread_left name files held out out' result told holds source sink (inr (inl cut)) = absurd (sink cut.status)
unread_left name files held out out' result told holds source sink (inr (inr silent)) = elim silent.status [ inl h ↦ absurd (source h) | inr h ↦ inr (inl h) ]

by_left : (result : Status) (p s m c : Bool) → result ≡ status_by p s m c → (result ≡ status.PortFault → ⊥) → (result ≡ status.Ok) ⊎ (result ≡ status.NoMemory) ⊎ (result ≡ status.Spent) ⊎ (result ≡ status.CellFault)
by_left result true s m c is port = absurd (port is)
by_left result false true m c is port = inr (inr (inl is))
by_left result false false true c is port = inr (inl is)
by_left result false false false true is port = inr (inr (inr is))
by_left result false false false false is port = inl is

served_left : (end : FeedEnd) (p s c : Bool) (result : Status) → result ≡ status_of end p s c → (result ≡ status.SourceFault → ⊥) → (result ≡ status.SinkFault → ⊥) → (result ≡ status.PortFault → ⊥)
    → (result ≡ status.Ok) ⊎ (result ≡ status.NoMemory) ⊎ (result ≡ status.Spent) ⊎ (result ≡ status.CellFault)
served_left feed.SourceFault p s c result is source sink port = absurd (source is)
served_left feed.SinkFault p s c result is source sink port = absurd (sink is)
served_left feed.NoMemory p s c result is source sink port = by_left result p s true c is port
served_left feed.Ended p s c result is source sink port = by_left result p s false c is port
served_left feed.Spent p s c result is source sink port = by_left result p true false c is port

-- what is left of the answers, by their causes
pub left_of : (turns : ℕ) (ask : Service) (before after : Surroundings) (result : Status) (R : Shelved → Shelved → Type 0) → IsServeRun turns ask before after result → HasServeCauses turns ask before after result → BothTell before.files.past after.files.past R
    → IsSomeAnd before.files.past (λ f. IsSomeAnd f.holds (HoldsTopology ask.topology)) → IsServeQuiet ask before after → IsLeft turns (Some (serve ask)) before after result
left_of turns ask before after result R run causes told sound quiet = elim (go run) [
  | inl h ↦ inl h
  | inr (inl h) ↦ inr (inl h)
  | inr (inr (inl h)) ↦ inr (inr (inl (h, causes.lanes.spent h)))
  | inr (inr (inr h)) ↦ inr (inr (inr (h, past (causes.lanes.cell h))))
]
  where
    source : result ≡ status.SourceFault → ⊥
    source h = elim (causes.source h) [ inl r ↦ quiet.files r | inr (inl r) ↦ quiet.feed r | inr (inr r) ↦ quiet.more r ]

    sink : result ≡ status.SinkFault → ⊥
    sink h = elim (causes.sink h) [ inl r ↦ quiet.out r | inr r ↦ quiet.maps r ]

    port : result ≡ status.PortFault → ⊥
    port h = quiet.ports (causes.lanes.port h)

    past : AnyServer ask HasDoorFault HasDoorFault before.lent after.lent ⊎ IsPastMaps ask before.lent after.lent → IsPastMaps ask before.lent after.lent
    past (inl h) = absurd (quiet.doors h)
    past (inr h) = h

    go : IsServeRun turns ask before after result → (result ≡ status.Ok) ⊎ (result ≡ status.NoMemory) ⊎ (result ≡ status.Spent) ⊎ (result ≡ status.CellFault)
    go (inl unread) =
        let s = sound_told (HoldsTopology ask.topology) R before.files.past after.files.past told sound in
        unread_left ask.topology (files_between before.files.past after.files.past) s.0 before.lent.out.past after.lent.out.past result s.1 s.2 source sink unread.run
    go (inr (topology, plan, says, inl unopened)) = elim unopened.why [ inl h ↦ inr (inl h) | inr h ↦ inr (inr (inr h.0)) ]
    go (inr (topology, plan, says, inr (placed, first, place, is_first, inl shut))) = absurd (port shut.why)
    go (inr (topology, plan, says, inr (placed, first, place, is_first, inr (inl shut)))) = absurd (source shut.why)
    go (inr (topology, plan, says, inr (placed, first, place, is_first, inr (inr (inl unput))))) = absurd (sink unput.why)
    go (inr (topology, plan, says, inr (placed, first, place, is_first, inr (inr (inr (inl h)))))) = inr (inl h.0)
    go (inr (topology, plan, says, inr (placed, first, place, is_first, inr (inr (inr (inr (started, start, served))))))) =
        served_left served.end (list_any is_port_fault (all_ends served.ends served.stream_end)) (list_any is_spent (all_ends served.ends served.stream_end)) (list_any is_cell_fault (all_ends served.ends served.stream_end)) result served.result_is source sink port
