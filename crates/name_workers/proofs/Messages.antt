-- What becomes of a message, and of an answer without one, as a turn of a lane without gate and notes.
use Rattle.std.proofs.Common.{◌≡◌, ℕ, ◌+◌, ◌<◌, ◌≤◌, Bool, true, false, List, [], length, All, refl, sym, ap, subst, ◌∙◌, arith}
use Rattle.addr_text.specs.declared.address.Peer.{Peer}
use Rattle.answer_core.specs.declared.way.Way.{Way}
use Rattle.outside.specs.Faults.{DeviceState, Rose, raised}
use Rattle.published_map.specs.Version.{Version}
use Rattle.lane_model.specs.Lanes.{following}
use Rattle.lane_model.specs.Turns.{Came, IsCame, count_after, fails_of, floor_after, is_refused, looks_of, idle, oversize, ended, failed, took, silent, refused, tried}
use Rattle.lane_model.specs.Calls.{Eyes, IsRise, IsTurn}
use Rattle.lane_model.specs.Replies.{replies_by}
use Rattle.lane_model.proofs.Going.{rise_none}
use Rattle.name_workers.specs.declared.fared.Fared.{Fared}
use Rattle.name_workers.specs.declared.fared.Fared.TheVariants as fared
use Rattle.name_workers.specs.Loop.{alone}
use Rattle.name_workers.specs.Messages.{IsFared, IsSaid, said}
use Rattle.name_workers.specs.Worker.{IsReplied}
use Rattle.name_workers.proofs.Eyes.{rise_refused}

nothing_noted : (known : ℕ) → All (λ (s : ℕ). s ≤ known) []
nothing_noted known k d lt = absurd (omega (arith, lt))

-- a turn without gate and notes
lone : (way : Way) (w known n n' : ℕ) (came : Came) (e f : Eyes Version) (p q : ℕ) → known + 1 ≡ length e.heard → n' ≡ count_after n came → IsCame (replies_by way) f.seen w n known came → IsRise e f → known ≤ floor_after known came → floor_after known came < length f.heard → f.looks ≡ raised e.looks (looks_of came)
    → raised p (fails_of came) ≤ q → (fails_of came ≡ 0 → q ≡ p) → (is_refused came ≡ true → Rose e.faults f.faults) → (is_refused came ≡ false → f.faults ≡ e.faults) → IsTurn (replies_by way) w (record { shown = known; notes = []; known = known; came = came }) (alone e n p) (alone f n' q)
lone way w known n n' came e f p q is count came_is rise floor knows looks faults stays refusal same = record {
  gate = tt;
  notes = tt;
  port = tt;
  shown = is;
  known = omega arith;
  noted = nothing_noted known;
  came = came_is;
  count = count;
  eyes = rise;
  floor = floor;
  knows = knows;
  looks = looks;
  port_faults = faults;
  port_stays = stays;
  gate_later = omega arith;
  refusal = refusal;
  stays = same;
}

-- an answer of a port that brings no message
abbrev pub IsBare : Came → Type 0
IsBare idle = Unit {0}
IsBare oversize = Unit {0}
IsBare ended = Unit {0}
IsBare failed = Unit {0}
IsBare (took d fate) = ⊥

bare_is : (way : Way) (h : List Version) (w n known : ℕ) (came : Came) → IsBare came → IsCame (replies_by way) h w n known came × (n ≡ count_after n came) × (floor_after known came ≡ known) × (looks_of came ≡ 0) × (is_refused came ≡ false)
bare_is way h w n known idle b = (tt, refl, refl, refl, refl)
bare_is way h w n known oversize b = (tt, refl, refl, refl, refl)
bare_is way h w n known ended b = (tt, refl, refl, refl, refl)
bare_is way h w n known failed b = (tt, refl, refl, refl, refl)
bare_is way h w n known (took d fate) b = absurd b

never_both : {P : Type 0} (b : Bool) → b ≡ false → b ≡ true → P
never_both b f t = absurd (cc (f, t))

pub bare_turn : (way : Way) (w known : ℕ) (came : Came) (e : Eyes Version) (n p q : ℕ) → IsBare came → known + 1 ≡ length e.heard → raised p (fails_of came) ≤ q → (fails_of came ≡ 0 → q ≡ p)
    → IsTurn (replies_by way) w (record { shown = known; notes = []; known = known; came = came }) (alone e n p) (alone e n q)
bare_turn way w known came e n p q bare is faults stays =
    let b = bare_is way e.seen w n known came bare in
    lone way w known n n came e e p q is b.1 b.0 (rise_none e) (omega (arith, b.2)) (omega (arith, b.2, is)) (omega (arith, b.3)) faults stays (λ r. never_both (is_refused came) b.4 r) (λ r. refl)

tried_turn : (way : Way) (w known n n' : ℕ) (from : Peer) (octets : List ℕ) (serial : ℕ) (reply : List ℕ) (went : Bool) (e f : Eyes Version) (p q : ℕ) → known + 1 ≡ length e.heard → n' ≡ following n → IsReplied w n from.addr octets way serial e f reply → f.looks ≡ raised e.looks 1
    → raised p (fails_of (took (record { octets = octets; from = from }) (tried serial reply went))) ≤ q → (fails_of (took (record { octets = octets; from = from }) (tried serial reply went)) ≡ 0 → q ≡ p) → IsTurn (replies_by way) w (said from octets known (tried serial reply went)) (alone e n p) (alone f n' q)
tried_turn way w known n n' from octets serial reply went e f p q is count x looks faults stays =
    lone way w known n n' (took (record { octets = octets; from = from }) (tried serial reply went)) e f p q is count (x.spoken, omega (arith, is, x.fresh), x.version) x.rise (omega (arith, is, x.fresh)) (omega (arith, x.known)) looks faults stays (λ b. absurd (cc b)) (λ b. x.stays)

rose_from : (x z : ℕ) → Rose x z → raised x 1 ≤ z
rose_from x z r = r

-- a message by what became of it
pub message : {A : Type 0} (puts : ℕ → List ℕ → Bool → A → A → Type 0) (way : Way) (w n n' known : ℕ) (from : Peer) (octets : List ℕ) (r : Fared) (e f : Eyes Version) (p q : DeviceState A) → known + 1 ≡ length e.heard → n' ≡ following n
    → IsFared puts way w n from.addr octets r e f p q → IsSaid puts way w n n' known from octets r e f p q
message puts way w n n' known from octets fared.Silent e f p q is count x =
    let same = ap (λ k. k.faults) x.2 in
    let heard = ap (λ k. length k.heard) x.1 in
    record {
      fate = silent;
      fate_is = refl;
      turn = lone way w known n n' (took (record { octets = octets; from = from }) silent) e f p.faults q.faults is count x.0 (subst (λ (k : Eyes Version). IsRise e k) (sym x.1) (rise_none e)) (omega arith) (omega (arith, is, heard)) (ap (λ k. k.looks) x.1 ∙ omega arith) (omega (arith, same)) (λ none. same) (λ b. absurd (cc b)) (λ b. ap (λ k. k.faults) x.1);
      put = ap (λ k. k.past) x.2;
      behind = is ∙ sym heard;
    }
message puts way w n n' known from octets fared.Refused e f p q is count x =
    let same = ap (λ k. k.faults) x.1 in
    let heard = ap length x.0.heard in
    record {
      fate = refused;
      fate_is = refl;
      turn = lone way w known n n' (took (record { octets = octets; from = from }) refused) e f p.faults q.faults is count x.0.spoken (rise_refused octets e f x.0) (omega arith) (omega (arith, is, heard)) x.0.looks (omega (arith, same)) (λ none. same) (λ b. x.0.rose) (λ b. absurd (cc b));
      put = ap (λ k. k.past) x.1;
      behind = is ∙ sym heard;
    }
message puts way w n n' known from octets fared.Sent e f p q is count x = record {
  fate = tried x.0 x.1 true;
  fate_is = (x.0, x.1, refl);
  turn = tried_turn way w known n n' from octets x.0 x.1 true e f p.faults q.faults is count x.2 x.3 (omega (arith, x.5)) (λ none. x.5);
  put = x.4;
  behind = sym x.2.known;
}
message puts way w n n' known from octets fared.Failed e f p q is count x = record {
  fate = tried x.0 x.1 false;
  fate_is = (x.0, x.1, refl);
  turn = tried_turn way w known n n' from octets x.0 x.1 false e f p.faults q.faults is count x.2 x.3 (rose_from p.faults q.faults x.5) (λ none. absurd (omega (arith, none)));
  put = x.4;
  behind = sym x.2.known;
}
