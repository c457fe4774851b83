-- The loop of a lane: turns so far, and one more.
use Rattle.std.proofs.Common.{◌≡◌, ℕ, ◌+◌, ◌<◌, ◌≤◌, Bool, true, false, ◌==◌, if◌then◌else◌, List, [], ◌∷◌, ◌++◌, length, None, Some, refl, sym, ap, subst, ◌∙◌, arith, length-append, append-nil}
use Rattle.std.specs.List.{flat_map}
use Rattle.std.proofs.lemmas.Grind.{flat_map-append}
use Rattle.std.proofs.lemmas.List.Elements.{All-append, All-nil, All-tail}
use Rattle.std.proofs.lemmas.List.Sums.{sum_by-append}
use Rattle.lane_model.specs.declared.ended.Ended.{Ended}
use Rattle.lane_model.specs.declared.ended.Ended.TheVariants as end
use Rattle.lane_model.specs.Turns.{AreCalm, Turn, fails_of, failures, is_calm, is_refused}
use Rattle.lane_model.proofs.Calls.{calm_not_refused}
use Rattle.lane_model.proofs.Runs.{IsInOrder}
use Rattle.name_workers.specs.declared.ending.Step.{Step}
use Rattle.name_workers.specs.declared.ending.Step.TheVariants as step
use Rattle.name_workers.specs.Ending.{IsNextEnd}
use Rattle.name_workers.specs.Loop.{AreLoopTurns, IsFreshSoFar, IsLoopEnd, IsLoopLast, IsLoopTurn, IsServed, IsSoFar, IsTurned, LoopMoment, Taking, lane_in, turns_in}

-- turns of a lane by one take more
pub turns_more : {K : Type 0} (f : K → List Turn) (log : List K) (t : K) → flat_map f (log ++ t ∷ []) ≡ flat_map f log ++ f t
turns_more f log t = flat_map-append f log (t ∷ []) ∙ ap (λ l. flat_map f log ++ l) (append-nil (f t))

calm_more : {K : Type 0} (f : K → List Turn) (log : List K) (t : K) → AreCalm (flat_map f log) → AreCalm (f t) → AreCalm (flat_map f (log ++ t ∷ []))
calm_more f log t p q = subst AreCalm (sym (turns_more f log t)) (All-append (λ (y : Turn). is_calm y.came ≡ true) (flat_map f log) (f t) p q)

failures_more : {K : Type 0} (f : K → List Turn) (log : List K) (t : K) → failures (flat_map f (log ++ t ∷ [])) ≡ failures (flat_map f log) + failures (f t)
failures_more f log t = ap failures (turns_more f log t) ∙ sum_by-append (λ (y : Turn). fails_of y.came) (flat_map f log) (f t)

-- turns of which a look is refused in the last one alone
not_both : {P : Type 0} (b : Bool) → b ≡ false → b ≡ true → P
not_both b f t = absurd (cc (f, t))

pub order_on : (log more : List Turn) → AreCalm log → IsInOrder more → IsInOrder (log ++ more)
order_on [] more c o = o
order_on (t ∷ log) more c o = (λ r. not_both (is_refused t.came) (calm_not_refused t.came (c 0 t (omega arith))) r, order_on log more (All-tail (λ (x : Turn). is_calm x.came ≡ true) t log c) o)

pub order_calm : (log : List Turn) → AreCalm log → IsInOrder log
order_calm log c = subst IsInOrder (append-nil log) (order_on log [] c tt)

order_more : {K : Type 0} (f : K → List Turn) (log : List K) (t : K) → AreCalm (flat_map f log) → IsInOrder (f t) → IsInOrder (flat_map f (log ++ t ∷ []))
order_more f log t c o = subst IsInOrder (sym (turns_more f log t)) (order_on (flat_map f log) (f t) c o)

one_more : {K S P : Type 0} (k : Taking K S P) (w : ℕ) (log : List K) (t : K) (m mid m' : LoopMoment S P) → AreLoopTurns k w log m mid → IsLoopTurn k w t mid m' → AreLoopTurns k w (log ++ t ∷ []) m m'
one_more k w [] t m mid m' s q = (m', subst (λ x. IsLoopTurn k w t x m') s q, refl)
one_more k w (x ∷ log) t m mid m' s q = (s.0, s.1, one_more k w log t s.0 mid m' s.2 q)

-- the eighth failure ends the lane, and no other does
not_eighth_by : (b : Bool) (k k' : ℕ) → (k' == 8) ≡ b → k' ≡ k + 1 → None ≡ (if b then Some end.PortFault else None) → k < 8 → k' < 8
not_eighth_by true k k' is n e lt = absurd (cc e)
not_eighth_by false k k' is n e lt = grind (arith, is, n, lt)

not_eighth : (k k' : ℕ) → k' ≡ k + 1 → None ≡ (if k' == 8 then Some end.PortFault else None) → k < 8 → k' < 8
not_eighth k k' n e lt = not_eighth_by (k' == 8) k k' refl n e lt

eighth_by : (b : Bool) (k' : ℕ) (e : Ended) → (k' == 8) ≡ b → Some e ≡ (if b then Some end.PortFault else None) → (e ≡ end.PortFault) × (k' ≡ 8)
eighth_by true k' e t is = (cc is, grind (arith, t))
eighth_by false k' e t is = absurd (cc is)

eighth : (k k' : ℕ) (e : Ended) → k' ≡ k + 1 → Some e ≡ (if k' == 8 then Some end.PortFault else None) → (e ≡ end.PortFault) × (k' ≡ 8)
eighth k k' e n is = eighth_by (k' == 8) k' e refl is

-- a turn more that is calm
goes_with : {K S P : Type 0} (k : Taking K S P) (w i f f' : ℕ) (m mid m' : LoopMoment S P) → IsSoFar k w i f m mid → (t : K) → IsLoopTurn k w t mid m' → AreCalm (turns_in k t) → f' ≡ f + failures (turns_in k t) → f' < 8 → IsSoFar k w (i + 1) f' m m'
goes_with k w i f f' m mid m' so t turn calm fails few = record {
  log = so.log ++ t ∷ [];
  made = one_more k w so.log t m mid m' so.made turn;
  calm = calm_more (turns_in k) so.log t so.calm calm;
  failures_are = failures_more (turns_in k) so.log t ∙ omega (arith, so.failures_are, fails);
  few = few;
  turns_are = length-append so.log (t ∷ []) ∙ omega (arith, so.turns_are);
}

-- the lane goes on
goes_on : {K S P : Type 0} (k : Taking K S P) (w i f f' : ℕ) (s : Step) (m mid m' : LoopMoment S P) → IsSoFar k w i f m mid → IsTurned k w s mid m' → IsNextEnd s f f' None → IsSoFar k w (i + 1) f' m m'
goes_on k w i f f' step.Stopped m mid m' so t n = absurd (cc (n.0))
goes_on k w i f f' step.PortEnd m mid m' so t n = absurd (cc (n.0))
goes_on k w i f f' step.Refused m mid m' so t n = absurd (cc (n.0))
goes_on k w i f f' step.On m mid m' so t n = goes_with k w i f f' m mid m' so t.0 t.1 t.2.0 (omega (arith, t.2.1, n.1)) (omega (arith, so.few, n.1))
goes_on k w i f f' step.PortFailed m mid m' so t n = goes_with k w i f f' m mid m' so t.0 t.1 t.2.0 (omega (arith, t.2.1, n.0)) (not_eighth f f' n.0 n.1 so.few)

-- the lane ends with a turn
ends_with : {K S P : Type 0} (k : Taking K S P) (w i f turns : ℕ) (e x : Ended) (m mid m' : LoopMoment S P) (so : IsSoFar k w i f m mid) (t : K) → IsLoopTurn k w t mid m' → i < turns → e ≡ x → IsLoopLast x m' m' → IsInOrder (turns_in k t)
    → (length (so.log ++ t ∷ []) ≤ turns → IsLoopEnd k turns (so.log ++ t ∷ []) x) → IsServed k w turns m m' e
ends_with k w i f turns e x m mid m' so t turn lt is last order ending =
    let more = length-append so.log (t ∷ []) in
    subst (λ (y : Ended). IsServed k w turns m m' y) (sym is)
    (record {
      log = so.log ++ t ∷ [];
      mid = m';
      made = one_more k w so.log t m mid m' so.made turn;
      last = last;
      order = order_more (turns_in k) so.log t so.calm order;
      ending = ending (omega (arith, more, so.turns_are, lt));
    })

-- the lane ends
ends : {K S P : Type 0} (k : Taking K S P) (w i f f' turns : ℕ) (s : Step) (e : Ended) (m mid m' : LoopMoment S P) → i < turns → IsSoFar k w i f m mid → IsTurned k w s mid m' → IsNextEnd s f f' (Some e) → IsServed k w turns m m' e
ends k w i f f' turns step.On e m mid m' lt so t n = absurd (cc (n.0))
ends k w i f f' turns step.Stopped e m mid m' lt so t n =
    let is : e ≡ end.Stopped = cc (n.0) in
    subst (λ (x : Ended). IsServed k w turns m m' x) (sym is) (record { log = so.log; mid = mid; made = so.made; last = t; order = order_calm (lane_in k so.log) so.calm; ending = (so.calm, omega (arith, so.failures_are, so.few), omega (arith, so.turns_are, lt)) })
ends k w i f f' turns step.PortEnd e m mid m' lt so t n =
    ends_with k w i f turns e end.PortEnd m mid m' so t.0 t.1 lt (cc (n.0)) refl t.2.1 (λ short. (so.log, t.0, refl, so.calm, omega (arith, so.failures_are, so.few), t.2.0, short))
ends k w i f f' turns step.Refused e m mid m' lt so t n =
    ends_with k w i f turns e end.CellFault m mid m' so t.0 t.1 lt (cc (n.0)) refl t.2.1 (λ short. (so.log, t.0, refl, so.calm, omega (arith, so.failures_are, so.few), t.2.0, short))
ends k w i f f' turns step.PortFailed e m mid m' lt so t n =
    let here = eighth f f' e n.0 n.1 in
    let sum = failures_more (turns_in k) so.log t.0 in
    ends_with k w i f turns e end.PortFault m mid m' so t.0 t.1 lt here.0 refl (order_calm (turns_in k t.0) t.2.0) (λ short. (so.log, t.0, refl, calm_more (turns_in k) so.log t.0 so.calm t.2.0, omega (arith, so.failures_are, n.0, here.1), omega (arith, sum, so.failures_are, t.2.1, n.0, here.1), short))

-- the same, where the worker's number is told by an equation
pub goes_on_by : {K S P : Type 0} (k : Taking K S P) (w w' i f f' : ℕ) (s : Step) (from : S → LoopMoment S P) (mid m' : LoopMoment S P) → w' ≡ w → IsFreshSoFar k w i f from mid → IsTurned k w' s mid m' → IsNextEnd s f f' None → IsFreshSoFar k w (i + 1) f' from m'
goes_on_by k w w' i f f' s from mid m' same so t n = (so.0, so.1, goes_on k w i f f' s (from so.0) mid m' so.2 (subst (λ x. IsTurned k x s mid m') same t) n)

pub ends_by : {K S P : Type 0} (k : Taking K S P) (w w' i f f' turns : ℕ) (s : Step) (e : Ended) (m mid m' : LoopMoment S P) → w' ≡ w → i < turns → IsSoFar k w i f m mid → IsTurned k w' s mid m' → IsNextEnd s f f' (Some e) → IsServed k w turns m m' e
ends_by k w w' i f f' turns s e m mid m' same lt so t n = ends k w i f f' turns s e m mid m' lt so (subst (λ x. IsTurned k x s mid m') same t) n

-- all turns were made
pub spent : {K S P : Type 0} (k : Taking K S P) (w i f turns : ℕ) (m mid : LoopMoment S P) → IsSoFar k w i f m mid → i ≡ turns → IsServed k w turns m mid end.Spent
spent k w i f turns m mid so is = record { log = so.log; mid = mid; made = so.made; last = refl; order = order_calm (lane_in k so.log) so.calm; ending = (so.calm, omega (arith, so.failures_are, so.few), omega (arith, so.turns_are, is)) }

-- before the first turn
pub fresh_none : {K S P : Type 0} (k : Taking K S P) (w : ℕ) (from : S → LoopMoment S P) (room : S) → k.is_fresh room → IsFreshSoFar k w 0 0 from (from room)
fresh_none k w from room fresh = (room, fresh, record { log = []; made = refl; calm = All-nil (λ (t : Turn). is_calm t.came ≡ true); failures_are = refl; few = omega arith; turns_are = refl })
