-- Further feeds: what is so of those that were opened, and of the first of a list.
use Rattle.std.proofs.Common.{◌≡◌, inl, inr, ℕ, zero, suc, ◌<◌, List, [], ◌∷◌, ◌++◌, length, map, refl, ap, ap₂, sym, subst, ◌∙◌, arith}
use Rattle.std.specs.Prelude.{Option, None, Some, take}
use Rattle.std.proofs.lemmas.List.{length-map, map-append}
use Rattle.outside.specs.Faults.{BothTell, DeviceState}
use Rattle.outside.specs.NamedSource.{IsNamed}
use Rattle.outside.specs.Source.{Fed}
use Rattle.outside.specs.declared.port.Opening.{Opening}
use Rattle.outside.specs.declared.port.Opening.TheVariants as opening
use Rattle.demand_feed.specs.Runs.{HasRead, NoStop}
use Rattle.drive.specs.Feeds.{AllStand, AnyRose, NoneFell}
use Rattle.glb.specs.Causes.{AnyFeed, HasFeedFault, HasGiven, HasFeedGiven}
use Rattle.glb.specs.Feeds.{AreNamed}
use Rattle.glb.specs.Serve.{all_ready, then_failed}
use Rattle.glb.specs.Starting.{HasNamed}

-- the counts of feeds one by one
stand_parts : (b c : DeviceState Fed) (before after : List (DeviceState Fed)) → AllStand (b ∷ before) (c ∷ after) → (c.faults ≡ b.faults) × AllStand before after
stand_parts b c before after h = (cc, cc)

stand_more : (b c : DeviceState Fed) (before after : List (DeviceState Fed)) → c.faults ≡ b.faults → AllStand before after → AllStand (b ∷ before) (c ∷ after)
stand_more b c before after h k = ap₂ (λ (n : ℕ) (ns : List ℕ). n ∷ ns) h k

-- all that were to be opened are open: no count rose
pub opened_stand : (names : List (List ℕ)) (k : ℕ) (before after : List (DeviceState Fed)) → AreNamed names (all_ready k) before after → AllStand before after
opened_stand names zero before after h = ap (map (λ (x : DeviceState Fed). x.faults)) h
opened_stand (name ∷ names) (suc k) (b ∷ before) (c ∷ after) h = stand_more b c before after (h.0.stays (λ e. cc)) (opened_stand names k before after h.1)
opened_stand (name ∷ names) (suc k) [] after h = absurd h
opened_stand (name ∷ names) (suc k) (b ∷ before) [] h = absurd h
opened_stand [] (suc k) before after h = absurd h

pub fell_same : (feeds : List (DeviceState Fed)) → NoneFell feeds feeds
fell_same [] = refl
fell_same (b ∷ feeds) = (omega arith, fell_same feeds)

pub stand_fell : (before after : List (DeviceState Fed)) → AllStand before after → NoneFell before after
stand_fell [] [] h = refl
stand_fell [] (c ∷ after) h = absurd (cc)
stand_fell (b ∷ before) [] h = absurd (cc)
stand_fell (b ∷ before) (c ∷ after) h = let parts = stand_parts b c before after h in (omega (arith, parts.0), stand_fell before after parts.1)

pub opened_fell : (names : List (List ℕ)) (rs : List Opening) (before after : List (DeviceState Fed)) → AreNamed names rs before after → NoneFell before after
opened_fell names [] before after h = subst (NoneFell before) (sym h) (fell_same before)
opened_fell (name ∷ names) (r ∷ rs) (b ∷ before) (c ∷ after) h = (h.0.later, opened_fell names rs before after h.1)
opened_fell (name ∷ names) (r ∷ rs) [] after h = absurd h
opened_fell (name ∷ names) (r ∷ rs) (b ∷ before) [] h = absurd h
opened_fell [] (r ∷ rs) before after h = absurd h

-- one that failed to open has a fault
pub failed_feed : (names : List (List ℕ)) (k n : ℕ) (before after : List (DeviceState Fed)) → k < n → AreNamed names (then_failed k) before after → AnyFeed n HasFeedFault before after
failed_feed names k zero before after lt h = absurd (omega (arith, lt))
failed_feed (name ∷ names) zero (suc n) (b ∷ before) (c ∷ after) lt h = inl (h.0.cause refl)
failed_feed (name ∷ names) zero (suc n) [] after lt h = absurd h
failed_feed (name ∷ names) zero (suc n) (b ∷ before) [] lt h = absurd h
failed_feed [] zero (suc n) before after lt h = absurd h
failed_feed (name ∷ names) (suc k) (suc n) (b ∷ before) (c ∷ after) lt h = inr (failed_feed names k n before after (omega (arith, lt)) h.1)
failed_feed (name ∷ names) (suc k) (suc n) [] after lt h = absurd h
failed_feed (name ∷ names) (suc k) (suc n) (b ∷ before) [] lt h = absurd h
failed_feed [] (suc k) (suc n) before after lt h = absurd h

-- what is so from a moment on is so from one with the same counts
pub fell_from : (before mid after : List (DeviceState Fed)) → AllStand before mid → NoneFell mid after → NoneFell before after
fell_from [] [] after h k = k
fell_from [] (c ∷ mid) after h k = absurd (cc)
fell_from (b ∷ before) [] after h k = absurd (cc)
fell_from (b ∷ before) (c ∷ mid) (d ∷ after) h k = let parts = stand_parts b c before mid h in (omega (arith, parts.0, k.0), fell_from before mid after parts.1 k.1)
fell_from (b ∷ before) (c ∷ mid) [] h k = absurd k

pub fault_from : (n : ℕ) (before mid after : List (DeviceState Fed)) → AllStand before mid → AnyFeed n HasFeedFault mid after → AnyFeed n HasFeedFault before after
fault_from zero before mid after h k = absurd k
fault_from (suc n) (b ∷ before) (c ∷ mid) (d ∷ after) h (inl r) = let parts = stand_parts b c before mid h in inl (omega (arith, parts.0, r))
fault_from (suc n) (b ∷ before) (c ∷ mid) (d ∷ after) h (inr r) = inr (fault_from n before mid after (stand_parts b c before mid h).1 r)
fault_from (suc n) [] (c ∷ mid) (d ∷ after) h k = absurd (cc)
fault_from (suc n) before [] after h k = absurd k
fault_from (suc n) before (c ∷ mid) [] h k = absurd k

pub stand_on : (before mid after : List (DeviceState Fed)) → AllStand before mid → AllStand mid after → AllStand before after
stand_on before mid after h k = k ∙ h

-- an opening notes a name, and leaves what was read
same_given : (turns : ℕ) (name : List ℕ) (x y z : Option Fed) → BothTell x y (IsNamed name opening.Ready) → HasGiven turns y z → HasGiven turns x z
same_given turns name None None z t h = h
same_given turns name (Some b) (Some c) None t (pieces, told, quiet, count) = absurd told
same_given turns name (Some b) (Some c) (Some d) t (pieces, read, quiet, count) =
    (pieces, subst (λ (f : Fed). HasRead pieces (record f { names = d.names }) d) t read, quiet, count)
same_given turns name None (Some c) z t h = absurd t
same_given turns name (Some b) None z t h = absurd t

pub given_from : (turns : ℕ) (names : List (List ℕ)) (k n : ℕ) (before mid after : List (DeviceState Fed)) → AreNamed names (all_ready k) before mid → AnyFeed n (HasFeedGiven turns) mid after → AnyFeed n (HasFeedGiven turns) before after
given_from turns names zero n before mid after h some = subst (λ (xs : List (DeviceState Fed)). AnyFeed n (HasFeedGiven turns) xs after) h some
given_from turns names (suc k) zero before mid after h some = absurd some
given_from turns (name ∷ names) (suc k) (suc n) (b ∷ before) (c ∷ mid) (d ∷ after) h (inl r) = inl (same_given turns name b.past c.past d.past h.0.told r)
given_from turns (name ∷ names) (suc k) (suc n) (b ∷ before) (c ∷ mid) (d ∷ after) h (inr r) = inr (given_from turns names k n before mid after h.1 r)
given_from turns (name ∷ names) (suc k) (suc n) [] mid after h some = absurd h
given_from turns (name ∷ names) (suc k) (suc n) (b ∷ before) [] after h some = absurd h
given_from turns (name ∷ names) (suc k) (suc n) (b ∷ before) (c ∷ mid) [] h some = absurd some
given_from turns [] (suc k) (suc n) before mid after h some = absurd h

-- what is so of one of the first of a list
pub any_taken : (P : DeviceState Fed → DeviceState Fed → Type 0) (n : ℕ) (before after : List (DeviceState Fed)) → AnyFeed (length (take n before)) P (take n before) (take n after) → AnyFeed n P before after
any_taken P zero before after h = h
any_taken P (suc n) [] after h = absurd h
any_taken P (suc n) (b ∷ before) [] h = absurd h
any_taken P (suc n) (b ∷ before) (c ∷ after) (inl h) = inl h
any_taken P (suc n) (b ∷ before) (c ∷ after) (inr h) = inr (any_taken P n before after h)

pub any_rose : (n : ℕ) (front then behind past : List (DeviceState Fed)) → length front ≡ n → AnyRose front then → AnyFeed n HasFeedFault (front ++ behind) (then ++ past)
any_rose n [] then behind past is h = absurd h
any_rose zero (b ∷ front) (c ∷ then) behind past is h = absurd (cc)
any_rose (suc n) (b ∷ front) (c ∷ then) behind past is (inl h) = inl h
any_rose (suc n) (b ∷ front) (c ∷ then) behind past is (inr h) = inr (any_rose n front then behind past (omega (arith, is)) h)
any_rose n (b ∷ front) [] behind past is h = absurd h

pub fell_more : (front then behind : List (DeviceState Fed)) → NoneFell front then → NoneFell (front ++ behind) (then ++ behind)
fell_more [] then behind h = subst (λ (xs : List (DeviceState Fed)). NoneFell behind (xs ++ behind)) (sym h) (fell_same behind)
fell_more (b ∷ front) (c ∷ then) behind h = (h.0, fell_more front then behind h.1)
fell_more (b ∷ front) [] behind h = absurd h

pub all_stand_more : (front then behind : List (DeviceState Fed)) → AllStand front then → AllStand (front ++ behind) (then ++ behind)
all_stand_more front then behind h =
    let f : DeviceState Fed → ℕ = λ x. x.faults in
    map-append f then behind ∙ ap (λ (ns : List ℕ). ns ++ map f behind) h ∙ sym (map-append f front behind)

-- one feed was opened, and then others
named_then : (name : List ℕ) (names : List (List ℕ)) (rs : List Opening) (a c b d : List (DeviceState Fed)) → length a ≡ 1 → AreNamed (name ∷ []) (opening.Ready ∷ []) a c → AreNamed names rs b d → AreNamed (name ∷ names) (opening.Ready ∷ rs) (a ++ b) (c ++ d)
named_then name names rs (x ∷ []) (y ∷ c) b d one h k = (h.0, subst (λ (xs : List (DeviceState Fed)). AreNamed names rs b (xs ++ d)) (sym h.1) k)
named_then name names rs [] c b d one h k = absurd h
named_then name names rs (x ∷ []) [] b d one h k = absurd h
named_then name names rs (x ∷ z ∷ a) c b d one h k = absurd (cc)

-- the first feed was opened, and then the others or some of them
named_more : (name : List ℕ) (names : List (List ℕ)) (r : Opening) (a c b d : List (DeviceState Fed)) → length a ≡ 1 → HasNamed (name ∷ []) opening.Ready a c → HasNamed names r b d → HasNamed (name ∷ names) r (a ++ b) (c ++ d)
named_more name names opening.Ready a c b d one h k = named_then name names (all_ready (length names)) a c b d one h k
named_more name names opening.Failed a c b d one h (k, lt, are) = (suc k, omega (arith, lt), named_then name names (then_failed k) a c b d one h are)

-- the same of whatever tells so
pub named_on : {N : Type 0} (f : N → DeviceState Fed) (name : List ℕ) (names : List (List ℕ)) (r : Opening) (xs a b c d : List N) → xs ≡ a ++ b → length a ≡ 1
    → HasNamed (name ∷ []) opening.Ready (map f a) (map f c) → HasNamed names r (map f b) (map f d)
    → HasNamed (name ∷ names) r (map f xs) (map f (c ++ d))
named_on f name names r xs a b c d is one h k =
    rw (is, map-append f a b, map-append f c d) (named_more name names r (map f a) (map f c) (map f b) (map f d) (length-map a f ∙ one) h k)

-- where no name is given, none of a list is among the first
pub none_named : {N : Type 0} (names : List (List ℕ)) (front : List N) → length front ≡ length names → names ≡ [] → front ≡ []
none_named names [] count none = refl
none_named names (x ∷ front) count none = absurd (omega (arith, ap length none, count))
