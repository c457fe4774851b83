-- What a lane knows along messages.
use Rattle.std.proofs.Common.{◌≡◌, ℕ, List, [], ◌∷◌, ◌++◌, refl, sym, subst}
use Rattle.std.specs.Prelude.{true, Bool, MatchBool}
use Rattle.outside.specs.Port.{Packet, Try}
use Rattle.published_map.specs.Version.{Version}
use Rattle.answer_core.specs.declared.way.Way.TheVariants.{Stream}
use Rattle.lane_model.specs.Lanes.{Entry}
use Rattle.lane_model.specs.Turns.{Fate, IsFate, entries_of_fate, tries_of_fate, silent, refused, tried}
use Rattle.lane_model.specs.Replies.{is_silent}
use Rattle.tcp_lane.specs.Replies.{stream_replies}
use Rattle.tcp_lane.specs.Stream.{AreKnownFrom}
use Rattle.name_workers.specs.Messages.{known_after}
use Rattle.tcp_lane.specs.Turns.{AreKnown, Said, known_behind}

pub behind_more : (known : ℕ) (said : List Said) (s : Said) → known_behind known (said ++ s ∷ []) ≡ known_after (known_behind known said) s.fate
behind_more known [] s = refl
behind_more known (x ∷ said) s = behind_more (known_after known x.fate) said s

pub known_more : (known : ℕ) (said : List Said) (s : Said) → AreKnown known said → s.known ≡ known_behind known said → AreKnown known (said ++ s ∷ [])
known_more known [] s a is = (is, tt)
known_more known (x ∷ said) s a is = (a.0, known_more (known_after known x.fate) said s a.1 is)

-- messages that are silent leave the tries to those behind them
silent_at : (d : Packet) (known : ℕ) (entries : List Entry) (tries : List Try) → is_silent d.octets ≡ true → AreKnownFrom is_silent known entries tries → AreKnownFrom is_silent known ((record { packet = d; known = known; way = Stream }) ∷ entries) tries
silent_at d known entries [] is a = (refl, is, a)
silent_at d known entries (s ∷ tries) is a = (refl, subst (λ (b : Bool). MatchBool b (AreKnownFrom is_silent known entries (s ∷ tries)) (AreKnownFrom is_silent s.serial entries tries)) (sym is) a)

pub one_at : (h : List Version) (w n known : ℕ) (d : Packet) (f : Fate) (entries : List Entry) (tries : List Try) → IsFate stream_replies h w n known d f → AreKnownFrom is_silent (known_after known f) entries tries → AreKnownFrom is_silent known (entries_of_fate Stream d known f ++ entries) (tries_of_fate d f ++ tries)
one_at h w n known d silent entries tries is a = silent_at d known entries tries is a
one_at h w n known d refused entries tries is a = a
one_at h w n known d (tried serial octets went) entries tries is a = (refl, subst (λ (b : Bool). MatchBool b (AreKnownFrom is_silent known entries ((record { octets = octets; to = d.from; serial = serial; went = went }) ∷ tries)) (AreKnownFrom is_silent serial entries tries)) (sym is.0) a)
