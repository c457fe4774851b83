-- What each lane did, one after the other.
use Rattle.std.proofs.Common.{◌≡◌, ℕ, ◌+◌, List, [], ◌∷◌, ◌++◌, map, length, Option, None, Some, IfSome, refl, subst, sym, ap, ◌∙◌}
use Rattle.published_map.specs.Version.{Version}
use Rattle.lane_model.specs.declared.ended.Ended.{Ended}
use Rattle.std.specs.Prelude.{option_map}
use Rattle.std.specs.Option.{option_to_list}
use Rattle.drive.specs.All.{AllRan, MayRan}
use Rattle.drive.specs.AllDone.{AllDone, AllFresh}
use Rattle.drive.specs.Done.{IsDone, LaneTold, StreamLaneTold}
use Rattle.drive.specs.Streams.{AreStreamsDone, IsStreamDone}
use Rattle.drive.specs.Driven.{AreDone}

-- turns and then a closing look, lane by lane
pub all_done : {A W : Type 0} (R C : A → A → W → W → Type 0) (F : ℕ → A → W → Type 0) (D : ℕ → A → A → W → Type 0) → ((i : ℕ) (a b c : A) (v w x : W) → F i a v → R a b v w → C b c w x → D i a c x)
    → (i : ℕ) (ls bs cs : List A) (vs ws xs : List W) → AllFresh F i ls vs → AllRan R ls bs vs ws → AllRan C bs cs ws xs → AllDone D i ls cs xs
all_done R C F D f i [] [] [] [] [] [] h p q = tt
all_done R C F D f i [] [] [] [] [] (x ∷ xs) h p q = absurd q
all_done R C F D f i [] [] (c ∷ cs) [] [] xs h p q = absurd q
all_done R C F D f i [] [] cs [] (w ∷ ws) xs h p q = absurd p
all_done R C F D f i [] [] cs (v ∷ vs) ws xs h p q = absurd p
all_done R C F D f i [] (b ∷ bs) cs vs ws xs h p q = absurd p
all_done R C F D f i (a ∷ ls) [] cs vs ws xs h p q = absurd p
all_done R C F D f i (a ∷ ls) (b ∷ bs) cs [] ws xs h p q = absurd p
all_done R C F D f i (a ∷ ls) (b ∷ bs) cs (v ∷ vs) [] xs h p q = absurd p
all_done R C F D f i (a ∷ ls) (b ∷ bs) [] (v ∷ vs) (w ∷ ws) xs h p q = absurd q
all_done R C F D f i (a ∷ ls) (b ∷ bs) (c ∷ cs) (v ∷ vs) (w ∷ ws) [] h p q = absurd q
all_done R C F D f i (a ∷ ls) (b ∷ bs) (c ∷ cs) (v ∷ vs) (w ∷ ws) (x ∷ xs) h p q = (f i a b c v w x h.0 p.0 q.0, all_done R C F D f (i + 1) ls bs cs vs ws xs h.1 p.1 q.1)

-- lanes that are done, with others behind them
are_done : {W : Type 0} (ended : W → Ended) (turns : ℕ) (first : Version) (rest : List Version) (i : ℕ) (ls cs behind : List LaneTold) (xs : List W)
    → AllDone (λ k a c x. IsDone turns first rest k a c (ended x)) i ls cs xs → AreDone turns first rest i (map ended xs) (ls ++ behind) (cs ++ behind)
are_done ended turns first rest i [] [] behind [] d = refl
are_done ended turns first rest i [] [] behind (x ∷ xs) d = absurd d
are_done ended turns first rest i [] (c ∷ cs) behind xs d = absurd d
are_done ended turns first rest i (a ∷ ls) [] behind xs d = absurd d
are_done ended turns first rest i (a ∷ ls) (c ∷ cs) behind [] d = absurd d
are_done ended turns first rest i (a ∷ ls) (c ∷ cs) behind (x ∷ xs) d = (d.0, are_done ended turns first rest (i + 1) ls cs behind xs d.1)

pub are_done_in : {W : Type 0} (ended : W → Ended) (turns : ℕ) (first : Version) (rest : List Version) (all ls cs behind : List LaneTold) (xs : List W) → all ≡ ls ++ behind
    → AllDone (λ k a c x. IsDone turns first rest k a c (ended x)) 0 ls cs xs → AreDone turns first rest 0 (map ended xs) all (cs ++ behind)
are_done_in ended turns first rest all ls cs behind xs is d =
    subst (λ (l : List LaneTold). AreDone turns first rest 0 (map ended xs) l (cs ++ behind)) (sym is) (are_done ended turns first rest 0 ls cs behind xs d)

-- one lane more: turns and then a closing look, or nothing
pub may_done : {W : Type 0} (ended : W → Ended) (R C : StreamLaneTold → StreamLaneTold → W → W → Type 0) (F : W → Type 0) (turns : ℕ) (first : Version) (rest : List Version) (n : ℕ)
    → ((a b c : StreamLaneTold) (v w x : W) → F v → R a b v w → C b c w x → IsStreamDone turns first rest n a c (ended x)) → (a b c : StreamLaneTold) (v w x : Option W) → IfSome v F → MayRan R a b v w → MayRan C b c w x
    → AreStreamsDone turns first rest n (option_map ended x) a c
may_done ended R C F turns first rest n f a b c None w x h p q =
    let first_is = p.none refl in
    let then = q.none first_is.0 in
    subst (λ o. AreStreamsDone turns first rest n (option_map ended o) a c) (sym then.0) (then.1 ∙ first_is.1)
may_done ended R C F turns first rest n f a b c (Some v) w x h p q =
    let ran = p.some v refl in
    let closed = q.some ran.0 ran.1 in
    subst (λ o. AreStreamsDone turns first rest n (option_map ended o) a c) (sym closed.1) (f a b c v ran.0 closed.0 h ran.2 closed.2)

-- it has a worker behind that where it had one before
pub may_same : {A W : Type 0} (R C : A → A → W → W → Type 0) (a b c : A) (v w x : Option W) → MayRan R a b v w → MayRan C b c w x → length (option_to_list x) ≡ length (option_to_list v)
may_same R C a b c None w x p q = ap (λ o. length (option_to_list o)) (q.none (p.none refl).0).0
may_same R C a b c (Some v) w x p q = let ran = p.some v refl in ap (λ o. length (option_to_list o)) (q.some ran.0 ran.1).1

-- an end and a number by other names
pub ended_as : (turns : ℕ) (first : Version) (rest : List Version) (k n : ℕ) (d e : Option Ended) (b c : StreamLaneTold) → AreStreamsDone turns first rest k d b c → n ≡ k → e ≡ d → AreStreamsDone turns first rest n e b c
ended_as turns first rest k n d e b c h same is = subst (λ (x : Option Ended). AreStreamsDone turns first rest n x b c) (sym is) (subst (λ (x : ℕ). AreStreamsDone turns first rest x d b c) (sym same) h)
