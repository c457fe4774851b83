-- All that feeders sent was taken, where their ends were.
use Rattle.std.proofs.Common.{◌≡◌, ◌⊎◌, inl, inr, ℕ, zero, suc, ◌+◌, ◌<◌, ◌≤◌, true, false, cond, List, [], ◌∷◌, ◌++◌, append-nil, refl, ap, sym, subst, ◌∙◌, arith}
use Rattle.std.proofs.lemmas.List.Sums.{sum_by-append}
use Rattle.std.specs.Prelude.{Option}
use mathlib.Core.List.{IsPrefix}
use Rattle.outside.specs.Source.{Fed}
use Rattle.topology_text.specs.Plan.{Plan}
use Rattle.demand_feed.proofs.Chains.{ends_keep}
use Rattle.demand_feed.specs.Runs.{EndsBy}
use Rattle.demand_feed.specs.Sent.{Becomes, IsAsk}
use Rattle.demand_feed.specs.Task.{Task, refused, batch, empty, spoiled, query, totals}
use Rattle.demand_feed.specs.declared.run.FeedEnd.{FeedEnd}
use Rattle.demand_feed.specs.declared.run.FeedEnd.TheVariants as ends
use Rattle.demand_feed.specs.declared.sent.Item.{Item}
use Rattle.demand_feed.specs.declared.sent.What.{What}
use Rattle.demand_feed.specs.declared.sent.What.TheVariants as what
use Rattle.feed_queue.specs.Feeder.{Adds, Breaks, HasSent, IsSentOf}
use Rattle.feed_queue.specs.Items.{sent_by, whats_of}
use Rattle.feed_queue.specs.Whole.{AllIsTaken, EndsLast, RunsEndLast, ends_in, is_end}
use Rattle.feed_queue.proofs.Lists.{all_four, passed, passed_first, passed_of}

-- the ends among items are those among what they are
ends_are : (xs : List Item) → ends_in xs ≡ passed is_end (whats_of xs)
ends_are [] = refl
ends_are (x ∷ xs) =
    let first : ends_in (x ∷ xs) ≡ cond (is_end x.what) 1 0 + ends_in xs = sum_by-append (λ (y : Item). cond (is_end y.what) 1 0) (x ∷ []) xs ∙ ap (λ n. n + ends_in xs) (omega arith) in
    first ∙ ap (λ n. cond (is_end x.what) 1 0 + n) (ends_are xs) ∙ sym (passed_first is_end x.what (whats_of xs))

-- of what has its end last, a beginning has at most one, and with one it is the whole
begins_with : (us vs : List What) → EndsLast (us ++ vs) → (passed is_end us ≤ 1) × (1 ≤ passed is_end us → vs ≡ [])
begins_with [] vs h = (omega arith, λ one. absurd (omega (arith, one)))
begins_with (w ∷ []) [] h =
    let n = passed_first is_end w [] in
    let m : cond {A = ℕ} (is_end w) 1 0 ≡ 1 = ap (λ b. cond b 1 0) h in
    (omega (arith, n, m), λ one. refl)
begins_with (w ∷ []) (v ∷ vs) h =
    let n = passed_first is_end w [] in
    let m : cond {A = ℕ} (is_end w) 1 0 ≡ 0 = ap (λ b. cond b 1 0) h.0 in
    (omega (arith, n, m), λ one. absurd (omega (arith, one, n, m)))
begins_with (w ∷ u ∷ us) vs h =
    let n = passed_first is_end w (u ∷ us) in
    let m : cond {A = ℕ} (is_end w) 1 0 ≡ 0 = ap (λ b. cond b 1 0) h.0 in
    let r = begins_with (u ∷ us) vs h.1 in
    (omega (arith, n, m, r.0), λ one. r.1 (omega (arith, one, n, m)))

whole_of : (us ws : List What) → IsPrefix us ws → EndsLast ws → (passed is_end us ≤ 1) × (1 ≤ passed is_end us → us ≡ ws)
whole_of us ws p h =
    let r = begins_with us p.0 (subst EndsLast (sym p.1) h) in
    (r.0, λ one. sym (append-nil us) ∙ ap (λ l. us ++ l) (sym (r.1 one)) ∙ p.1)

none_of : (us : List What) → us ≡ [] → passed is_end us ≡ 0
none_of us e = ap (passed is_end) e

-- four numbers, of which those below n are at most 1 and the others 0, add up to n only if each below n is 1
each_one : (n a b c d : ℕ) → n ≤ 4 → a + b + c + d ≡ n → ((0 < n → a ≤ 1) × (n ≤ 0 → a ≡ 0)) → ((1 < n → b ≤ 1) × (n ≤ 1 → b ≡ 0)) → ((2 < n → c ≤ 1) × (n ≤ 2 → c ≡ 0)) → ((3 < n → d ≤ 1) × (n ≤ 3 → d ≡ 0))
    → (0 < n → 1 ≤ a) × (1 < n → 1 ≤ b) × (2 < n → 1 ≤ c) × (3 < n → 1 ≤ d)
each_one zero a b c d few is pa pb pc pd = ((λ l. absurd (omega (arith, l))), (λ l. absurd (omega (arith, l))), (λ l. absurd (omega (arith, l))), λ l. absurd (omega (arith, l)))
each_one (suc zero) a b c d few is pa pb pc pd =
    let b0 = pb.1 (omega arith) in let c0 = pc.1 (omega arith) in let d0 = pd.1 (omega arith) in
    ((λ l. omega (arith, is, b0, c0, d0)), (λ l. absurd (omega (arith, l))), (λ l. absurd (omega (arith, l))), λ l. absurd (omega (arith, l)))
each_one (suc (suc zero)) a b c d few is pa pb pc pd =
    let a1 = pa.0 (omega arith) in let b1 = pb.0 (omega arith) in let c0 = pc.1 (omega arith) in let d0 = pd.1 (omega arith) in
    ((λ l. omega (arith, is, a1, b1, c0, d0)), (λ l. omega (arith, is, a1, b1, c0, d0)), (λ l. absurd (omega (arith, l))), λ l. absurd (omega (arith, l)))
each_one (suc (suc (suc zero))) a b c d few is pa pb pc pd =
    let a1 = pa.0 (omega arith) in let b1 = pb.0 (omega arith) in let c1 = pc.0 (omega arith) in let d0 = pd.1 (omega arith) in
    ((λ l. omega (arith, is, a1, b1, c1, d0)), (λ l. omega (arith, is, a1, b1, c1, d0)), (λ l. omega (arith, is, a1, b1, c1, d0)), λ l. absurd (omega (arith, l)))
each_one (suc (suc (suc (suc zero)))) a b c d few is pa pb pc pd =
    let a1 = pa.0 (omega arith) in let b1 = pb.0 (omega arith) in let c1 = pc.0 (omega arith) in let d1 = pd.0 (omega arith) in
    ((λ l. omega (arith, is, a1, b1, c1, d1)), (λ l. omega (arith, is, a1, b1, c1, d1)), (λ l. omega (arith, is, a1, b1, c1, d1)), λ l. omega (arith, is, a1, b1, c1, d1))
each_one (suc (suc (suc (suc (suc n))))) a b c d few is pa pb pc pd = absurd (omega (arith, few))

pub all_is_taken : AllIsTaken
all_is_taken groups nodes feeders taken sent are each all =
    let sum : passed_of is_end 0 taken + passed_of is_end 1 taken + passed_of is_end 2 taken + passed_of is_end 3 taken ≡ feeders = sym (all_four is_end taken (λ k past. are.none k (omega (arith, past, are.four)))) ∙ sym (ends_are taken) ∙ all in
    let bound : (k : ℕ) → (k < feeders → passed_of is_end k taken ≤ 1) × (feeders ≤ k → passed_of is_end k taken ≡ 0) = λ k. ((λ l. (whole_of (sent_by k taken) (sent k) (each k l).0 (each k l).1).0), λ past. none_of (sent_by k taken) (are.none k past)) in
    let one = each_one feeders (passed_of is_end 0 taken) (passed_of is_end 1 taken) (passed_of is_end 2 taken) (passed_of is_end 3 taken) are.four sum (bound 0) (bound 1) (bound 2) (bound 3) in
    λ k l. (whole_of (sent_by k taken) (sent k) (each k l).0 (each k l).1).1 (pick feeders taken k are.four one l)
  where
    pick : (feeders : ℕ) (taken : List Item) (k : ℕ) → feeders ≤ 4 → (0 < feeders → 1 ≤ passed_of is_end 0 taken) × (1 < feeders → 1 ≤ passed_of is_end 1 taken) × (2 < feeders → 1 ≤ passed_of is_end 2 taken) × (3 < feeders → 1 ≤ passed_of is_end 3 taken) → k < feeders → 1 ≤ passed_of is_end k taken
    pick feeders taken zero few h l = h.0 l
    pick feeders taken (suc zero) few h l = h.1 l
    pick feeders taken (suc (suc zero)) few h l = h.2 l
    pick feeders taken (suc (suc (suc zero))) few h l = h.3 l
    pick feeders taken (suc (suc (suc (suc n)))) few h l = absurd (omega (arith, few, l))

-- what a feeder's run sends ahead of its end
abbrev NoEnds : List What → Type 0
NoEnds [] = Unit {0}
NoEnds (w ∷ ws) = (is_end w ≡ false) × NoEnds ws

no_more : (ws : List What) (w : What) → NoEnds ws → is_end w ≡ false → NoEnds (ws ++ w ∷ [])
no_more [] w h e = (e, tt)
no_more (v ∷ ws) w h e = (h.0, no_more ws w h.1 e)

then_end : (ws : List What) (w : What) → NoEnds ws → is_end w ≡ true → EndsLast (ws ++ w ∷ [])
then_end [] w h e = e
then_end (v ∷ []) w h e = (h.0, e)
then_end (v ∷ u ∷ ws) w h e = (h.0, then_end (u ∷ ws) w h.1 e)

no_end : (task : Task) (w : What) → Becomes task w → is_end w ≡ false
no_end (refused number why) w h = ap is_end h
no_end (batch changes) w (inl h) = ap is_end h
no_end (batch changes) w (inr h) = ap is_end h
no_end empty w h = ap is_end h
no_end (spoiled lines) w h = ap is_end h
no_end (query addr octets) w h = asks w h
  where
    asks : (w : What) → IsAsk addr octets w → is_end w ≡ false
    asks (what.Ask from held) h = refl
    asks (what.Commit changes) h = absurd h
    asks what.Empty h = absurd h
    asks (what.Lines lines) h = absurd h
    asks what.Memory h = absurd h
    asks what.Show h = absurd h
    asks (what.Refused number why) h = absurd h
    asks (what.End end) h = absurd h
no_end totals w h = ap is_end h

run_ends : (end : FeedEnd) (t : Plan) (turns : ℕ) (pieces : List (List ℕ)) (fed then : Option Fed) (b : List What) → EndsBy Adds Breaks end t turns pieces fed then [] b → NoEnds b
run_ends end t turns pieces fed then b h =
    ends_keep Adds Breaks (λ (x y : List What). NoEnds x → NoEnds y) (λ x n. n) (λ x y z p q n. q (p n)) (λ task x y d n. subst NoEnds (sym d.2) (no_more x d.0 n (no_end task d.0 d.1))) (λ task x y d. absurd d) end t turns pieces fed then [] b h tt

has_sent_is : (t : Plan) (turns : ℕ) (b a : Option Fed) (sent : List What) → HasSent t turns b a sent → ((end : FeedEnd) × IsSentOf t turns end b a sent) ⊎ ((sent ≡ what.End ends.NoMemory ∷ []) × (a ≡ b))
has_sent_is t turns b a sent h = unfold HasSent in h

pub runs_end_last : RunsEndLast
runs_end_last t turns b a sent h = go (has_sent_is t turns b a sent h)
  where
    go : ((end : FeedEnd) × IsSentOf t turns end b a sent) ⊎ ((sent ≡ what.End ends.NoMemory ∷ []) × (a ≡ b)) → EndsLast sent
    go (inl s) = subst EndsLast (sym s.1.sent_is) (then_end s.1.whats (what.End s.0) (run_ends s.0 t turns s.1.run.0 b a s.1.whats s.1.run.2) refl)
    go (inr s) = subst EndsLast (sym s.0) refl
