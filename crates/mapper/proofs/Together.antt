-- Desks over a whole feed.
use Rattle.std.proofs.Common.{◌≢◌, inl, inr, ℕ, List, refl, ◌∙◌, arith}
use Rattle.std.specs.Prelude.{Option}
use Rattle.outside.specs.Faults.{DeviceState}
use Rattle.outside.specs.Sink.{Written}
use Rattle.outside.specs.Source.{Fed}
use Rattle.outside.specs.declared.pace.PaceCall.{PaceCall}
use Rattle.topology_text.specs.Plan.{Plan}
use Rattle.demand_feed.specs.Runs.{EndsBy}
use Rattle.demand_feed.specs.declared.run.FeedEnd.{FeedEnd}
use Rattle.demand_feed.specs.declared.run.FeedEnd.TheVariants as ends
use Rattle.mapper.specs.Desks.{DeskCuts, DeskDoes, IsWhole, Keeps, desk_told}
use Rattle.mapper.specs.Feeding.{HasEnded}
use Rattle.mapper.specs.Lending.{HasFault}
use Rattle.mapper.specs.declared.desk.Desk.{Desk}
use Rattle.demand_feed.proofs.Chains.{ends_cut, ends_keep, ends_whole}
use Rattle.mapper.proofs.Chains.{has_ended}

rests : {R J K M : Type 0} (told : K → DeviceState Written) (a : Desk R J K M) → Keeps told a a
rests told a = (refl, (refl, refl, refl), (omega arith, omega arith), refl)

pub joins : {R J K M : Type 0} (told : K → DeviceState Written) (a b c : Desk R J K M) → Keeps told a b → Keeps told b c → Keeps told a c
joins told a b c h k = (k.0 ∙ h.0, (k.1.0 ∙ h.1.0, k.1.1 ∙ h.1.1, k.1.2 ∙ h.1.2), (omega (arith, h.2.0, k.2.0), omega (arith, h.2.1, k.2.1)), k.3 ∙ h.3)

faulty : {R J K M : Type 0} (told : K → DeviceState Written) (a b c : Desk R J K M) → Keeps told a b → HasFault told b.to c.to → HasFault told a.to c.to
faulty told a b c h (inl r) = inl (omega (arith, h.2.0, r))
faulty told a b c h (inr r) = inr (omega (arith, h.2.1, r))

pub whole_joins : {R J K M : Type 0} (told : K → DeviceState Written) (a b c : Desk R J K M) → IsWhole told a b → IsWhole told b c → IsWhole told a c
whole_joins told a b c h k = ((k.0.0 ∙ h.0.0, k.0.1 ∙ h.0.1), (λ all. k.1 (h.1 all)))

-- the same things are lent after a run, and no count of faults fell
pub keeps_all : {R J K M : Type 0} (told : K → DeviceState Written) (paced : M → DeviceState (List PaceCall))
    → (end : FeedEnd) (t : Plan) (turns : ℕ) (pieces : List (List ℕ)) (fed then : Option Fed) (a b : Desk R J K M)
    → EndsBy (DeskDoes told paced) (DeskCuts told paced) end t turns pieces fed then a b → Keeps told a b
keeps_all told paced end t turns pieces fed then a b h =
    ends_keep (DeskDoes told paced) (DeskCuts told paced) (Keeps told) (rests told) (joins told) (λ task x y d. d.0) (λ task x y d. d.0) end t turns pieces fed then a b h

-- no count of faults changed in a run that no output ended, and all versions stay told of
pub whole_all : {R J K M : Type 0} (told : K → DeviceState Written) (paced : M → DeviceState (List PaceCall))
    → (end : FeedEnd) (t : Plan) (turns : ℕ) (pieces : List (List ℕ)) (fed then : Option Fed) (a b : Desk R J K M) → end ≢ ends.SinkFault
    → EndsBy (DeskDoes told paced) (DeskCuts told paced) end t turns pieces fed then a b → IsWhole told a b
whole_all told paced end t turns pieces fed then a b whole h =
    ends_whole (DeskDoes told paced) (DeskCuts told paced) (IsWhole told) (λ x. ((refl, refl), λ all. all)) (whole_joins told) (λ task x y d. d.1) end t turns pieces fed then a b whole h

-- a run that an output ended has a fault of it
pub fault_all : {R J K M : Type 0} (told : K → DeviceState Written) (paced : M → DeviceState (List PaceCall))
    → (t : Plan) (turns : ℕ) (pieces : List (List ℕ)) (fed then : Option Fed) (a b : Desk R J K M)
    → EndsBy (DeskDoes told paced) (DeskCuts told paced) ends.SinkFault t turns pieces fed then a b → HasFault told a.to b.to
fault_all told paced t turns pieces fed then a b h =
    ends_cut (DeskDoes told paced) (DeskCuts told paced) (Keeps told) (λ x y. HasFault told x.to y.to) (rests told) (joins told) (λ task x y d. d.0)
    (λ task x y z k d. faulty told x y z k d.1) t turns pieces fed then a b h

-- how a run ended, by what is told
pub ended_all : {R J K M : Type 0} (told : K → DeviceState Written) (paced : M → DeviceState (List PaceCall))
    → (end : FeedEnd) (t : Plan) (turns : ℕ) (pieces : List (List ℕ)) (fed then : Option Fed) (a b : Desk R J K M)
    → EndsBy (DeskDoes told paced) (DeskCuts told paced) end t turns pieces fed then a b
    → HasEnded end t turns pieces fed then (desk_told told paced a) (desk_told told paced b)
ended_all told paced end t turns pieces fed then a b h =
    has_ended (DeskDoes told paced) (DeskCuts told paced) (desk_told told paced) (λ task x y d. d.2) (λ task x y d. d.2) end t turns pieces fed then a b h
