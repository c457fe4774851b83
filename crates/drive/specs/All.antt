-- Inside this crate alone: lanes beside their workers.
use Rattle.std.specs.Prelude.{◌≡◌, List, [], ◌∷◌, Option, None, Some, Vec, vec_capacity, vec_len}
use Rattle.drive.specs.declared.beside.Workers.{Workers}

-- each lane with its worker
abbrev pub AllRan : {A W : Type 0} → (A → A → W → W → Type 0) → List A → List A → List W → List W → Type 0
AllRan R [] [] [] [] = Unit {0}
AllRan R (x ∷ xs) (y ∷ ys) (v ∷ vs) (w ∷ ws) = R x y v w × AllRan R xs ys vs ws
AllRan R _ _ _ _ = ⊥

-- one lane with its worker, where it has one
pub record MayRan {A W : Type 0} (R : A → A → W → W → Type 0) (x y : A) (v w : Option W) : Type 0 where
  pub none : v ≡ None → (w ≡ None) × (y ≡ x)
  pub some : (a : W) → v ≡ Some a → (b : W) × (w ≡ Some b) × R x y a b

-- all workers, each with its lane, of which there are as many as before, in as much room
abbrev pub HaveRun : {A W Z : Type 0} → (A → A → W → W → Type 0) → List A → List A → Vec W Z → Vec W Z → Type 0
HaveRun R xs ys v w = AllRan R xs ys v.items w.items × (vec_len w ≡ vec_len v) × (vec_capacity w ≡ vec_capacity v)

-- The workers of the lanes, each with its own, and the one for conversations, where there is one: they ran, and were closed then, with a note that is so.
pub record HaveServed {A B W H N : Type 0} (Noted : N → Type 0) (R : A → A → H → H → Type 0) (C : N → A → A → H → H → Type 0) (Q : B → B → H → H → Type 0) (D : N → B → B → H → H → Type 0) (xs ys : List A) (x y : B) (v w : Workers W H) : Type 0 where
  pub note : N
  pub noted : Noted note
  pub lanes : List A
  pub served : List H
  pub ran : AllRan R xs lanes v.lanes.items served
  pub closed : AllRan (C note) lanes ys served w.lanes.items
  pub stream : B
  pub listener : Option H
  pub stream_ran : MayRan Q x stream v.stream listener
  pub stream_closed : MayRan (D note) stream y listener w.stream
  pub len : vec_len w.lanes ≡ vec_len v.lanes
