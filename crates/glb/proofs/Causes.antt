-- Why lanes were at fault.
use Rattle.std.proofs.Common.{◌≡◌, ◌⊎◌, inl, inr, ℕ, suc, ◌+◌, ◌<◌, ◌≤◌, Bool, true, false, List, [], ◌∷◌, ◌++◌, length, refl, ap, sym, ◌∙◌, subst, arith}
use Rattle.std.specs.Prelude.{◌||◌, fold, sum_by}
use Rattle.std.specs.List.{list_any}
use Rattle.std.proofs.lemmas.List.Sums.{sum_by_push}
use Rattle.outside.specs.Faults.{Rose, raised}
use Rattle.outside.specs.Port.{PortTold}
use Rattle.published_map.specs.Version.{Version}
use Rattle.lane_model.specs.declared.ended.Ended.{Ended}
use Rattle.lane_model.specs.declared.ended.Ended.TheVariants as lane
use Rattle.lane_model.specs.Calls.{IsEnd}
use Rattle.lane_model.proofs.Calls.{failed_last}
use Rattle.lane_model.specs.Turns.{Came, Turn, failures, idle, oversize, ended, failed, took, silent, refused, tried, is_refused, port_after, port_turn, refused_of}
use Rattle.demand_feed.specs.declared.run.FeedEnd.{FeedEnd}
use Rattle.demand_feed.specs.declared.run.FeedEnd.TheVariants as feed
use Rattle.drive.specs.Closing.{shut}
use Rattle.drive.specs.Done.{IsDone, IsOverNewest, IsOverPast, IsOverSeen, IsServedLog, LaneTold, ServerTold}
use Rattle.lane_model.specs.Lanes.{Answers}
use Rattle.lane_model.specs.Replies.{replies}
use Rattle.drive.specs.Driven.{AreDone}
use Rattle.glb.specs.declared.status.Status.TheVariants as status
use Rattle.glb.specs.Causes.{AnyLane, HasCellFault, HasEightPortFaults, HasTaken}
use Rattle.glb.specs.Serve.{is_cell_fault, is_port_fault, is_spent, status_by, status_of}
use Rattle.glb.proofs.Loads.{tell_weaker}

pub is_port : (e : Ended) → is_port_fault e ≡ true → e ≡ lane.PortFault
is_port lane.PortFault h = refl
is_port lane.Stopped h = absurd (cc)
is_port lane.PortEnd h = absurd (cc)
is_port lane.CellFault h = absurd (cc)
is_port (lane.Above known newest) h = absurd (cc)
is_port lane.Spent h = absurd (cc)

pub is_over : (e : Ended) → is_spent e ≡ true → e ≡ lane.Spent
is_over lane.Spent h = refl
is_over lane.Stopped h = absurd (cc)
is_over lane.PortEnd h = absurd (cc)
is_over lane.CellFault h = absurd (cc)
is_over (lane.Above known newest) h = absurd (cc)
is_over lane.PortFault h = absurd (cc)

-- a closing look leaves an end that is no fault of the cell as it was
shut_is : (e served : Ended) → is_cell_fault e ≡ false → e ≡ shut served → served ≡ e
shut_is e lane.PortFault other h = sym h
shut_is e lane.Spent other h = sym h
shut_is e lane.CellFault other h = sym h
shut_is e (lane.Above known newest) other h = sym h
shut_is e lane.Stopped other h = let clash : is_cell_fault lane.CellFault ≡ false = subst (λ (x : Ended). is_cell_fault x ≡ false) h other in absurd (cc)
shut_is e lane.PortEnd other h = let clash : is_cell_fault lane.CellFault ≡ false = subst (λ (x : Ended). is_cell_fault x ≡ false) h other in absurd (cc)

pub served_is : {T : Type 0} (a : Answers Version) (first : Version) (rest : List Version) (w : ℕ) (log : List Turn) (served e : Ended) (shown : ℕ) (b c : ServerTold T) → is_cell_fault e ≡ false → IsServedLog a first rest w log served e shown b c → served ≡ e
served_is a first rest w log served e shown b c other d = go d.which
  where
    go : IsOverNewest (first ∷ rest) d.over log served e b c ⊎ IsOverSeen first (first ∷ rest) d.over served e b c ⊎ IsOverPast (first ∷ rest) d.over log e b c → served ≡ e
    go (inl newest) = sym newest.ended_is
    go (inr (inl seen)) = shut_is e served other seen.ended_is
    go (inr (inr past)) = let clash : is_cell_fault (lane.Above past.last past.newest) ≡ false = subst (λ (x : Ended). is_cell_fault x ≡ false) past.ended_is other in absurd (cc)

served_port : (turns : ℕ) (first : Version) (rest : List Version) (w : ℕ) (b c : LaneTold) → IsDone turns first rest w b c lane.PortFault → HasEightPortFaults b c
served_port turns first rest w b c d =
    let eighth : failures d.log ≡ 8 = failed_last turns d.log (subst (IsEnd turns d.log) (served_is replies first rest w d.log d.served lane.PortFault d.shown b c refl d.served_log) d.ending) in
    subst (λ (n : ℕ). raised b.port_faults n ≤ c.port_faults) eighth d.served_log.port_faults

-- a port after some turns has given as many answers more
took_one : (known : ℕ) (came : Came) (p : PortTold) → (port_after known came p).recvs ≡ raised p.recvs 1
took_one known idle p = refl
took_one known oversize p = refl
took_one known ended p = refl
took_one known failed p = refl
took_one known (took d silent) p = refl
took_one known (took d refused) p = refl
took_one known (took d (tried serial octets went)) p = refl

pub raised_next : (a n : ℕ) → raised (raised a 1) n ≡ raised a (suc n)
raised_next a n = omega arith

pub raised_none : (a : ℕ) → raised a 0 ≡ a
raised_none a = omega arith

took_all : (log : List Turn) (p : PortTold) → (fold port_turn p log).recvs ≡ raised p.recvs (length log)
took_all [] p = sym (raised_none p.recvs)
took_all (t ∷ log) p = took_all log (port_turn p t) ∙ ap (λ n. raised n (length log)) (took_one t.known t.came p) ∙ raised_next p.recvs (length log)

served_spent : (turns : ℕ) (first : Version) (rest : List Version) (w : ℕ) (b c : LaneTold) → IsDone turns first rest w b c lane.Spent → HasTaken turns b c
served_spent turns first rest w b c d =
    let ending : IsEnd turns d.log lane.Spent = subst (IsEnd turns d.log) (served_is replies first rest w d.log d.served lane.Spent d.shown b c refl d.served_log) d.ending in
    tell_weaker (λ (p q : PortTold). q ≡ fold port_turn p d.log) (λ (p q : PortTold). q.recvs ≡ raised p.recvs turns) b.port c.port
    (λ p q h. ap (λ (x : PortTold). x.recvs) h ∙ took_all d.log p ∙ ap (raised p.recvs) ending.2) d.port

refused_counts : (came : Came) → is_refused came ≡ true → refused_of came ≡ 1
refused_counts came h = rw h refl

pub has_refused : (before : List Turn) (t : Turn) (log : List Turn) → log ≡ before ++ t ∷ [] → is_refused t.came ≡ true → 0 < sum_by (λ t. refused_of t.came) log
has_refused before t log is h =
    let count : sum_by (λ t. refused_of t.came) log ≡ sum_by (λ t. refused_of t.came) before + refused_of t.came = ap (sum_by (λ t. refused_of t.came)) is ∙ sum_by_push (λ (t : Turn). refused_of t.came) before t in
    omega (arith, count, refused_counts t.came h)

-- a lane that ended by a fault of the cell: its last look was refused, or its closing look, or that was past the newest map
pub cell_fault : {T : Type 0} (a : Answers Version) (first : Version) (rest : List Version) (w : ℕ) (log : List Turn) (served e : Ended) (shown : ℕ) (b c : ServerTold T) → is_cell_fault e ≡ true
    → (served ≡ lane.CellFault → 0 < sum_by (λ t. refused_of t.came) log) → ((known newest : ℕ) → served ≡ lane.Above known newest → ⊥) → IsServedLog a first rest w log served e shown b c → HasCellFault (length (first ∷ rest)) b c
cell_fault a first rest w log served e shown b c fault refusal never d = go d.which
  where
    refused_as : (x : Ended) → e ≡ x → served ≡ x → Rose b.door_faults c.door_faults
    refused_as lane.CellFault is same = d.refusal (refusal same)
    refused_as (lane.Above known newest) is same = absurd (never known newest same)
    refused_as lane.Stopped is same = let no : is_cell_fault lane.Stopped ≡ true = subst (λ (x : Ended). is_cell_fault x ≡ true) is fault in absurd (cc)
    refused_as lane.PortEnd is same = let no : is_cell_fault lane.PortEnd ≡ true = subst (λ (x : Ended). is_cell_fault x ≡ true) is fault in absurd (cc)
    refused_as lane.PortFault is same = let no : is_cell_fault lane.PortFault ≡ true = subst (λ (x : Ended). is_cell_fault x ≡ true) is fault in absurd (cc)
    refused_as lane.Spent is same = let no : is_cell_fault lane.Spent ≡ true = subst (λ (x : Ended). is_cell_fault x ≡ true) is fault in absurd (cc)

    go : IsOverNewest (first ∷ rest) d.over log served e b c ⊎ IsOverSeen first (first ∷ rest) d.over served e b c ⊎ IsOverPast (first ∷ rest) d.over log e b c → HasCellFault (length (first ∷ rest)) b c
    go (inl newest) = inl (refused_as e refl (sym newest.ended_is))
    go (inr (inl seen)) = inl seen.rose
    go (inr (inr past)) = inr (above past.shown)
      where
        above : (c.greatest + 1 ≡ length d.over) ⊎ (length d.over ≤ b.greatest) → length (first ∷ rest) ≤ c.greatest
        above (inl shown) = omega (arith, shown, past.longer)
        above (inr shown) = omega (arith, shown, past.longer, d.rising.0)

served_cell : (turns : ℕ) (first : Version) (rest : List Version) (w : ℕ) (b c : LaneTold) (e : Ended) → is_cell_fault e ≡ true → IsDone turns first rest w b c e → HasCellFault (length (first ∷ rest)) b c
served_cell turns first rest w b c e fault d = cell_fault replies first rest w d.log d.served e d.shown b c fault
    (λ is. let ending : IsEnd turns d.log lane.CellFault = subst (IsEnd turns d.log) is d.ending in has_refused ending.0 ending.1 d.log ending.2 ending.5)
    (λ known newest is. subst (IsEnd turns d.log) is d.ending) d.served_log

-- where some lane ended so, some lane has that
any_done : (test : Ended → Bool) (P : LaneTold → LaneTold → Type 0) (turns : ℕ) (first : Version) (rest : List Version) (w : ℕ) (ends : List Ended) (before after : List LaneTold)
    → ((w : ℕ) (b c : LaneTold) (e : Ended) → test e ≡ true → IsDone turns first rest w b c e → P b c) → AreDone turns first rest w ends before after → list_any test ends ≡ true → AnyLane (length ends) P before after
any_done test P turns first rest w [] before after f h some = absurd (cc)
any_done test P turns first rest w (e ∷ ends) (b ∷ before) (c ∷ after) f h some = go (test e) refl (any_done test P turns first rest (w + 1) ends before after f h.1)
  where
    go : (x : Bool) → test e ≡ x → (list_any test ends ≡ true → AnyLane (length ends) P before after) → P b c ⊎ AnyLane (length ends) P before after
    go true is more = inl (f w b c e is h.0)
    go false is more = inr (more (subst (λ (y : Bool). (y || list_any test ends) ≡ true) is some))
any_done test P turns first rest w (e ∷ ends) [] after f h some = absurd h
any_done test P turns first rest w (e ∷ ends) (b ∷ before) [] f h some = absurd h

pub any_port : (turns : ℕ) (first : Version) (rest : List Version) (ends : List Ended) (before after : List LaneTold) → AreDone turns first rest 0 ends before after → list_any is_port_fault ends ≡ true → AnyLane (length ends) HasEightPortFaults before after
any_port turns first rest ends before after h some =
    any_done is_port_fault HasEightPortFaults turns first rest 0 ends before after (λ w b c e is d. served_port turns first rest w b c (subst (IsDone turns first rest w b c) (is_port e is) d)) h some

pub any_spent : (turns : ℕ) (first : Version) (rest : List Version) (ends : List Ended) (before after : List LaneTold) → AreDone turns first rest 0 ends before after → list_any is_spent ends ≡ true → AnyLane (length ends) (HasTaken turns) before after
any_spent turns first rest ends before after h some =
    any_done is_spent (HasTaken turns) turns first rest 0 ends before after (λ w b c e is d. served_spent turns first rest w b c (subst (IsDone turns first rest w b c) (is_over e is) d)) h some

pub any_cell : (turns : ℕ) (first : Version) (rest : List Version) (ends : List Ended) (before after : List LaneTold) → AreDone turns first rest 0 ends before after → list_any is_cell_fault ends ≡ true → AnyLane (length ends) (HasCellFault (length (first ∷ rest))) before after
any_cell turns first rest ends before after h some =
    any_done is_cell_fault (HasCellFault (length (first ∷ rest))) turns first rest 0 ends before after (λ w b c e is d. served_cell turns first rest w b c e is d) h some

-- what the answers say of the ends
by_port : (p s m c : Bool) → status.PortFault ≡ status_by p s m c → p ≡ true
by_port true s m c h = refl
by_port false true m c h = absurd (cc)
by_port false false true c h = absurd (cc)
by_port false false false true h = absurd (cc)
by_port false false false false h = absurd (cc)

by_spent : (p s m c : Bool) → status.Spent ≡ status_by p s m c → s ≡ true
by_spent true s m c h = absurd (cc)
by_spent false true m c h = refl
by_spent false false true c h = absurd (cc)
by_spent false false false true h = absurd (cc)
by_spent false false false false h = absurd (cc)

by_cell : (p s m c : Bool) → status.CellFault ≡ status_by p s m c → c ≡ true
by_cell true s m c h = absurd (cc)
by_cell false true m c h = absurd (cc)
by_cell false false true c h = absurd (cc)
by_cell false false false true h = refl
by_cell false false false false h = absurd (cc)

pub port_means : (end : FeedEnd) (p s c : Bool) → status.PortFault ≡ status_of end p s c → p ≡ true
port_means feed.Ended p s c h = by_port p s false c h
port_means feed.Spent p s c h = by_port p true false c h
port_means feed.SourceFault p s c h = absurd (cc)
port_means feed.SinkFault p s c h = absurd (cc)
port_means feed.NoMemory p s c h = by_port p s true c h

pub spent_means : (end : FeedEnd) (p s c : Bool) → status.Spent ≡ status_of end p s c → (end ≡ feed.Spent) ⊎ (s ≡ true)
spent_means feed.Ended p s c h = inr (by_spent p s false c h)
spent_means feed.Spent p s c h = inl refl
spent_means feed.SourceFault p s c h = absurd (cc)
spent_means feed.SinkFault p s c h = absurd (cc)
spent_means feed.NoMemory p s c h = inr (by_spent p s true c h)

pub cell_means : (end : FeedEnd) (p s c : Bool) → status.CellFault ≡ status_of end p s c → c ≡ true
cell_means feed.Ended p s c h = by_cell p s false c h
cell_means feed.Spent p s c h = by_cell p true false c h
cell_means feed.SourceFault p s c h = absurd (cc)
cell_means feed.SinkFault p s c h = absurd (cc)
cell_means feed.NoMemory p s c h = by_cell p s true c h
