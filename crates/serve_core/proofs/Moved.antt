-- What the code's machine does is a step of the machine.
use Rattle.std.proofs.Common.{◌≡◌, ℕ, zero, suc, ◌<◌, ◌≤◌, true, List, [], ◌∷◌, ◌++◌, length, Some, slice_get, slice_set, slice_index_or, Result, Ok, Err, OnOk, refl, sym, ap, subst, arith, inl, inr, ⊎_elim}
use Rattle.addr_text.specs.declared.address.Peer.{Peer}
use Rattle.map_model.specs.declared.change.Change.{Change}
use Rattle.map_model.specs.declared.lines.MapLines.{MapLines}
use Rattle.outside.specs.Port.{Packet}
use Rattle.published_map.specs.Version.{Version}
use Rattle.answer_core.specs.declared.way.Way.{Way}
use Rattle.lane_model.specs.Histories.{Follows}
use Rattle.lane_model.specs.Lanes.{draw}
use Rattle.lane_model.specs.Machine.{IsMoved, IsStep, LaneState, Machine, Takes, fresh, heard}
use Rattle.lane_model.specs.Machine as machine
use Rattle.lane_model.specs.Replies.{replies}
use Rattle.lane_model.proofs.Stated.{none_silent, some_spoken}
use Rattle.serve_core.specs.declared.event.StepFault.{StepFault}
use Rattle.serve_core.specs.declared.event.Event.TheVariants.{Commit, Tell, Take}
use Rattle.serve_core.specs.Events.{IsCommitOf}
use Rattle.serve_core.specs.Events as events
use Rattle.serve_core.specs.Takings.{IsTakenBy, IsTaking}

moved_set : (xs : List LaneState) (k : ℕ) (d l' : LaneState) → k < length xs → IsMoved k (slice_index_or xs k d) l' xs (slice_set xs k l')
moved_set [] k d l' lt = absurd (omega (arith, lt))
moved_set (x ∷ xs) zero d l' lt = record { before = []; behind = xs; number = refl; old = refl; new = refl }
moved_set (x ∷ xs) (suc k) d l' lt =
    let r = moved_set xs k d l' (omega (arith, lt)) in
    record { before = x ∷ r.before; behind = r.behind; number = let n = r.number in omega (arith, n); old = ap (λ y. x ∷ y) r.old; new = ap (λ y. x ∷ y) r.new }

-- a lane learns of a serial
pub tell_step : (m : Machine Version) (lane serial : ℕ) → lane < length m.lanes → serial < length m.history
    → IsStep replies Follows (machine.tell lane serial) m (record m { lanes = slice_set m.lanes lane (heard serial (slice_index_or m.lanes lane fresh)) })
tell_step m lane serial lt there = (there, refl, (slice_index_or m.lanes lane fresh, moved_set m.lanes lane fresh (heard serial (slice_index_or m.lanes lane fresh)) lt))

takes : (h : List Version) (v : Version) (w : ℕ) (d : Packet) (s : ℕ) (way : Way) (old new : LaneState) → IsTakenBy v w d s way old new → slice_get h s ≡ Some v → s < length h → old.seen ≤ s → Takes replies h w d s way old new
takes h v w d s way old new (inl none) there lt le = (le, lt, inl (none_silent v d.from.addr d.octets (draw w old.count) way none.0, none.1))
takes h v w d s way old new (inr some) there lt le = (
  le,
  lt,
  inr (
    some_spoken v d.from.addr d.octets (draw w old.count) way some.0 some.1,
    (record { octets = some.0; to = d.from; serial = s; went = true }, refl, record { to = refl; fresh = le; version = (v, there, some.1) }, some.2),
  ),
)

-- a lane takes a datagram, and answers it from one version
pub take_step : (m : Machine Version) (v : Version) (lane : ℕ) (d : Packet) (s : ℕ) (way : Way) (new : LaneState) → IsTakenBy v lane d s way (slice_index_or m.lanes lane fresh) new → lane < length m.lanes → slice_get m.history s ≡ Some v → s < length m.history
    → (slice_index_or m.lanes lane fresh).seen ≤ s → IsStep replies Follows (machine.take lane d s way) m (record m { lanes = slice_set m.lanes lane new })
take_step m v lane d s way new taken lt there within le =
    (refl, (slice_index_or m.lanes lane fresh, new, takes m.history v lane d s way (slice_index_or m.lanes lane fresh) new taken there within le, moved_set m.lanes lane fresh new lt))

-- what a commit, a tell and a take of the code do are events of the machine
pub did_commit : (m m' : Machine Version) (batch : List Change) (map : MapLines) (r : Result (Unit {0}) StepFault) → OnOk r ((v : Version) × IsCommitOf m.history batch map v × (m' ≡ record m { history = m.history ++ v ∷ [] })) → OnOk r (events.Takes (Commit batch map) m m')
did_commit m m' batch map (Ok u) h = (machine.commit h.0, (h.0, refl, h.1), ((h.1.0, batch, h.1.1, h.1.2), h.2))
did_commit m m' batch map (Err e) h = tt

pub did_tell : (m m' : Machine Version) (lane serial : ℕ) (r : Result (Unit {0}) StepFault)
    → OnOk r ((lane < length m.lanes) × (serial < length m.history) × (m' ≡ record m { lanes = slice_set m.lanes lane (heard serial (events.lane_at m lane)) })) → OnOk r (events.Takes (Tell lane serial) m m')
did_tell m m' lane serial (Ok u) h = (machine.tell lane serial, refl, subst (λ (x : Machine Version). IsStep replies Follows (machine.tell lane serial) m x) (sym h.2) (tell_step m lane serial h.0 h.1))
did_tell m m' lane serial (Err e) h = tt

pub did_take : (m m' : Machine Version) (lane : ℕ) (octets : List ℕ) (from : Peer) (serial : ℕ) (way : Way) (r : Result (Unit {0}) StepFault) → OnOk r (IsTaking lane (record { octets = octets; from = from }) serial way m m') → OnOk r (events.Takes (Take lane octets from serial way) m m')
did_take m m' lane octets from serial way (Ok u) h =
    let d : Packet = record { octets = octets; from = from } in
    (machine.take lane d serial way, refl, subst (λ (x : Machine Version). IsStep replies Follows (machine.take lane d serial way) m x) (sym h.7) (take_step m h.0 lane d serial way h.1 h.6 h.2 h.4 h.3 h.5))
did_take m m' lane octets from serial way (Err e) h = tt
