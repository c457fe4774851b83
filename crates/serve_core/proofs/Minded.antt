-- Each lane minds what a run takes.
use Rattle.std.proofs.Common.{◌≡◌, ℕ, List, [], ◌∷◌, map, Option, Some, inl, refl, sym, ap, subst, ⊎_elim}
use Rattle.published_map.specs.Version.{Version}
use Rattle.lane_model.specs.Histories.{Follows}
use Rattle.lane_model.specs.Machine.{IsStep, Machine}
use Rattle.lane_model.specs.Machine as machine
use Rattle.lane_model.specs.Minded.{IsMinded}
use Rattle.lane_model.specs.Replies.{replies}
use Rattle.lane_model.proofs.Minded.{IsHeard, minded_more, minded_none, step_heard}
use Rattle.serve_core.specs.declared.event.Event.{Event}
use Rattle.serve_core.specs.declared.event.Event.TheVariants.{Commit, Tell, Take}
use Rattle.serve_core.specs.declared.event.StepFault.{StepFault}
use Rattle.serve_core.specs.Events.{IsRefused, RunsTo, Takes, lane_at}
use Rattle.serve_core.specs.Minded.{AreMinded, bare}

-- what an event that is taken makes of a lane
takes_heard : (lane : ℕ) (e : Event) (m m' : Machine Version) → Takes e m m' → IsHeard lane (bare e) (lane_at m lane) (lane_at m' lane)
takes_heard lane (Commit batch map) m m' t =
    let step : IsStep replies Follows (machine.commit t.1.0) m m' = subst (λ (x : machine.Event Version). IsStep replies Follows x m m') t.1.1 t.2 in step_heard replies Follows lane (machine.commit t.1.0) m m' step
takes_heard lane (Tell other serial) m m' t =
    let step : IsStep replies Follows (machine.tell other serial) m m' = subst (λ (x : machine.Event Version). IsStep replies Follows x m m') t.1 t.2 in step_heard replies Follows lane (machine.tell other serial) m m' step
takes_heard lane (Take other octets from serial way) m m' t =
    let step : IsStep replies Follows (machine.take other (record { octets = octets; from = from }) serial way) m m' = subst (λ (x : machine.Event Version). IsStep replies Follows x m m') t.1 t.2 in
    step_heard replies Follows lane (machine.take other (record { octets = octets; from = from }) serial way) m m' step

-- nothing was taken
same_minded : (lane : ℕ) (m m' : Machine Version) → m' ≡ m → IsMinded lane (map bare []) (lane_at m lane) (lane_at m' lane)
same_minded lane m m' same = subst (λ (k : Machine Version). IsMinded lane (map bare []) (lane_at m lane) (lane_at k lane)) (sym same) (minded_none lane (lane_at m lane))

-- Each lane minds the events that a run takes, up to the first that is refused.
pub run_minded : (es : List Event) (m m' : Machine Version) (fault : Option StepFault) → RunsTo es m m' fault → AreMinded es m m' fault
run_minded [] m m' fault r = record { taken = []; left = []; all = refl; runs = (refl, r.1); rest = r.0; minded = λ lane. same_minded lane m m' r.1 }
run_minded (e ∷ es) m m' fault r =
    ⊎_elim
    (λ (q : (mid : Machine Version) × Takes e m mid × RunsTo es mid m' fault).
    let more = run_minded es q.0 m' fault q.2 in
    record {
      taken = e ∷ more.taken;
      left = more.left;
      all = ap (λ xs. e ∷ xs) more.all;
      runs = inl (q.0, q.1, more.runs);
      rest = more.rest;
      minded = λ lane. minded_more lane (bare e) (map bare more.taken) (lane_at m lane) (lane_at q.0 lane) (lane_at m' lane) (takes_heard lane e m q.0 q.1) (more.minded lane);
    })
    (λ (q : (f : StepFault) × (fault ≡ Some f) × (m' ≡ m) × IsRefused e m f). record {
      taken = [];
      left = e ∷ es;
      all = refl;
      runs = (refl, q.2);
      rest = (q.0, q.1, subst (λ (k : Machine Version). IsRefused e k q.0) (sym q.2) q.3);
      minded = λ lane. same_minded lane m m' q.2;
    }) r
