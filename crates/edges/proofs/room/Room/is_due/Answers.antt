use Rattle.std.proofs.Common.{rules, ◌≡◌, [], Bool, List, ℕ, arith, false, refl, subst, true, nat_lt, MatchBool}
use Rattle.std.proofs.lemmas.Bool.{ltb-false, ltb-true}
use Rattle.std.proofs.lemmas.List.{nil_from_length}
use Rattle.tcp_frames.specs.Split.{HasNoMessage, IsOverlong}
use Rattle.edges.proofs.Told.{has_batch}
use Rattle.edges.specs.Rooms.{IsDue, IsNotDue}
use Rattle.edges.specs.declared.room.Room.{Room}
use Rattle.edges.proofs.room.Room.is_due.Goals as goal

pub returns-then-is_empty : goal.returns-then-is_empty
returns-then-is_empty c = by (nat_lt 0 c.batch_of.result.len) refl
  where
    room : Room
    room = c.args.self.now

    none : room.going.items ≡ []
    none = search (rules, nil_from_length)

    by : (b : Bool) → nat_lt 0 c.batch_of.result.len ≡ b → MatchBool b (IsDue room) (IsNotDue room)
    by true some = (
      none,
      subst (λ (l : List ℕ). HasNoMessage l → IsOverlong l) c.as_slice.ensures.value
          (has_batch c.as_slice.result.now c.batch_of.result (ltb-true 0 c.batch_of.result.len some) c.batch_of.ensures.within c.batch_of.ensures.whole c.batch_of.ensures.faulty),
    )
    by false less = λ going. subst (λ (l : List ℕ). HasNoMessage l × (IsOverlong l → ⊥)) c.as_slice.ensures.value (c.batch_of.ensures.none (omega (arith, ltb-false 0 c.batch_of.result.len less)))
