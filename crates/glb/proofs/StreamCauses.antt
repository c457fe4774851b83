-- Why a lane for conversations was at fault.
use Rattle.std.proofs.Common.{◌≡◌, ℕ, ◌≤◌, true, List, ◌∷◌, length, refl, ap, ◌∙◌, subst}
use Rattle.std.specs.Prelude.{fold}
use Rattle.outside.specs.Faults.{raised}
use Rattle.outside.specs.Streams.{StreamsTold}
use Rattle.published_map.specs.Version.{Version}
use Rattle.lane_model.specs.declared.ended.Ended.{Ended}
use Rattle.lane_model.specs.declared.ended.Ended.TheVariants as lane
use Rattle.tcp_lane.specs.Calls.{IsStreamEnd}
use Rattle.tcp_lane.specs.Replies.{stream_replies}
use Rattle.tcp_lane.specs.Turns.{closing_if, lane_of, stream_turn}
use Rattle.tcp_lane.proofs.Ends.{all_answers, failed_last, refused_last}
use Rattle.drive.specs.Done.{StreamLaneTold}
use Rattle.drive.specs.Streams.{IsStreamDone}
use Rattle.glb.specs.Causes.{HasCellFault, HasEightPortFaults, HasHeard}
use Rattle.glb.specs.Serve.{is_cell_fault, is_port_fault, is_spent}
use Rattle.glb.proofs.Causes.{cell_fault, is_over, is_port, served_is}
use Rattle.glb.proofs.Loads.{tell_weaker}

-- the count of its streams rose by eight
pub stream_port : (turns : ℕ) (first : Version) (rest : List Version) (w : ℕ) (b c : StreamLaneTold) (e : Ended) → is_port_fault e ≡ true → IsStreamDone turns first rest w b c e → HasEightPortFaults b c
stream_port turns first rest w b c e fault d = go (subst (IsStreamDone turns first rest w b c) (is_port e fault) d)
  where
    go : IsStreamDone turns first rest w b c lane.PortFault → HasEightPortFaults b c
    go d =
        let eighth = failed_last turns d.log (subst (IsStreamEnd turns d.log) (served_is stream_replies first rest w (lane_of d.log) d.served lane.PortFault d.shown b c refl d.served_log) d.ending) in
        subst (λ (n : ℕ). raised b.port_faults n ≤ c.port_faults) eighth d.served_log.port_faults

-- its streams gave as many answers as there are turns
pub stream_spent : (turns : ℕ) (first : Version) (rest : List Version) (w : ℕ) (b c : StreamLaneTold) (e : Ended) → is_spent e ≡ true → IsStreamDone turns first rest w b c e → HasHeard turns b c
stream_spent turns first rest w b c e fault d = go (subst (IsStreamDone turns first rest w b c) (is_over e fault) d)
  where
    go : IsStreamDone turns first rest w b c lane.Spent → HasHeard turns b c
    go d =
        let ending : IsStreamEnd turns d.log lane.Spent = subst (IsStreamEnd turns d.log) (served_is stream_replies first rest w (lane_of d.log) d.served lane.Spent d.shown b c refl d.served_log) d.ending in
        tell_weaker (λ (p q : StreamsTold). q ≡ closing_if d.closes (fold stream_turn p d.log)) (λ (p q : StreamsTold). q.answers ≡ raised p.answers turns) b.port c.port
        (λ p q h. ap (λ (x : StreamsTold). x.answers) h ∙ all_answers d.closes p d.log ∙ ap (raised p.answers) ending.2) d.streams

-- its door has a fault, or showed a serial past the versions
pub stream_cell : (turns : ℕ) (first : Version) (rest : List Version) (w : ℕ) (b c : StreamLaneTold) (e : Ended) → is_cell_fault e ≡ true → IsStreamDone turns first rest w b c e → HasCellFault (length (first ∷ rest)) b c
stream_cell turns first rest w b c e fault d =
    cell_fault stream_replies first rest w (lane_of d.log) d.served e d.shown b c fault (λ is. refused_last turns d.log (subst (IsStreamEnd turns d.log) is d.ending)) (λ known newest is. subst (IsStreamEnd turns d.log) is d.ending) d.served_log
