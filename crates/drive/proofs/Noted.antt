-- The notes that a lane was given are those of the first versions, and what its gate was shown last is no less than what was known.
use Rattle.std.proofs.Common.{◌≡◌, ℕ, zero, suc, ◌<◌, ◌≤◌, All, List, [], ◌∷◌, Option, Some, fold, length, map, sym, ap, subst, ◌∙◌, arith}
use Rattle.std.specs.List.{flat_map, range_with_len}
use Rattle.std.proofs.lemmas.List.Elements.{All-append}
use Rattle.std.proofs.lemmas.List.FromFn.{length-range_with_len, get_or-range_with_len}
use Rattle.outside.specs.Faults.{BothTell}
use Rattle.outside.specs.Notes.{NotesTold}
use Rattle.past_log.specs.Notes.{no_notes}
use Rattle.map_cell.specs.Rows.{AreFirst}
use Rattle.published_map.specs.Version.{Version}
use Rattle.lane_model.specs.declared.ended.Ended.{Ended}
use Rattle.lane_model.specs.Replies.{replies}
use Rattle.lane_model.specs.Calls.{IsLaneCall, Moment}
use Rattle.lane_model.specs.Turns.{Turn, IsTold, floor_after, notes_turn}
use Rattle.lane_model.proofs.Noted.{numbers_folded}
use Rattle.tcp_lane.specs.Calls.{IsStreamCall, StreamMoment}
use Rattle.tcp_lane.specs.Replies.{stream_replies}
use Rattle.drive.specs.Done.{floor_behind}

-- the numbers of the notes that turns were given, where those are the first ones
pub notes_are : (log : List Turn) (k : NotesTold) → AreFirst k → k ≡ fold notes_turn no_notes log → flat_map (λ t. t.notes) log ≡ range_with_len 0 (length k.given)
notes_are log k first is = sym (ap (λ n. map (λ g. g.number) n.given) is ∙ numbers_folded log no_notes) ∙ first

-- all that was given is known
told_known : (log : List Turn) (floor n : ℕ) → IsTold floor log → All (λ t. t.known < n) log → All (λ s. s < n) (flat_map (λ t. t.notes) log)
told_known [] floor n told known = λ k d lt. absurd (omega (arith, lt))
told_known (t ∷ log) floor n told known =
    let here : t.known < n = known 0 t (omega arith) in
    All-append (λ s. s < n) t.notes (flat_map (λ t. t.notes) log) (λ k d lt. let le = told.2 k d lt in omega (arith, le, here)) (told_known log (floor_after t.known t.came) n told.4 (λ k d lt. known (suc k) d (omega (arith, lt))))

-- numbers below n, from 0 on, are no more than n
few : (n k : ℕ) → All (λ s. s < n) (range_with_len 0 k) → k ≤ n
few n zero below = omega arith
few n (suc k) below =
    let size = length-range_with_len 0 (suc k) in
    let last = below k 0 (omega (arith, size)) in
    let is = get_or-range_with_len 0 (suc k) k 0 (omega arith) in omega (arith, last, is)

pub noted_within : (log : List Turn) (k n : ℕ) → flat_map (λ t. t.notes) log ≡ range_with_len 0 k → IsTold 0 log → All (λ t. t.known < n) log → k ≤ n
noted_within log k n are told known = few n k (subst (λ l. All (λ s. s < n) l) are (told_known log 0 n told known))

-- nothing that is known behind the turns is past what is known
pub behind_within : (log : List Turn) (floor n : ℕ) → floor < n → All (λ t. floor_after t.known t.came < n) log → floor_behind floor log < n
behind_within [] floor n lt within = lt
behind_within (t ∷ log) floor n lt within = behind_within log (floor_after t.known t.came) n (within 0 t (omega arith)) (λ k d lt. within (suc k) d (omega (arith, lt)))

-- what notes tell behind some turns, where they told nothing before
pub notes_by : (log : List Turn) (x y : Option NotesTold) (k : NotesTold) → x ≡ Some no_notes → y ≡ Some k → BothTell x y (λ b c. c ≡ fold notes_turn b log) → k ≡ fold notes_turn no_notes log
notes_by log x y k a b given = subst (λ z. BothTell (Some no_notes) z (λ b c. c ≡ fold notes_turn b log)) b (subst (λ z. BothTell z y (λ b c. c ≡ fold notes_turn b log)) a given)

-- a call, by what its notes tell in other words
pub with_notes : (w turns : ℕ) (m m' : Moment Version) (x y : Option NotesTold) (e : Ended) → m.notes ≡ x → m'.notes ≡ y → IsLaneCall replies w turns m m' e → IsLaneCall replies w turns (record m { notes = x }) (record m' { notes = y }) e
with_notes w turns m m' x y e p q call = subst (λ z. IsLaneCall replies w turns (record m { notes = x }) (record m' { notes = z }) e) q (subst (λ z. IsLaneCall replies w turns (record m { notes = z }) m' e) p call)

-- the same of a lane for conversations
pub with_stream_notes : (w turns : ℕ) (m m' : StreamMoment Version) (x y : Option NotesTold) (e : Ended) → m.notes ≡ x → m'.notes ≡ y → IsStreamCall stream_replies w turns m m' e → IsStreamCall stream_replies w turns (record m { notes = x }) (record m' { notes = y }) e
with_stream_notes w turns m m' x y e p q call = subst (λ z. IsStreamCall stream_replies w turns (record m { notes = x }) (record m' { notes = z }) e) q (subst (λ z. IsStreamCall stream_replies w turns (record m { notes = z }) m' e) p call)
