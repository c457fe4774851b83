-- A run over a feed whose tasks are sent.
use Rattle.std.proofs.Common.{◌≡◌, ◌≢◌, ◌<◌, ◌≤◌, ◌-◌, ◌^◌, ◌++◌, length, inl, inr, ℕ, List, [], ◌∷◌, refl, subst, sym, ap, ◌∙◌, arith}
use Rattle.std.specs.Prelude.{Option}
use Rattle.outside.specs.Source.{Fed}
use Rattle.topology_text.specs.Plan.{Plan}
use Rattle.demand_feed.proofs.Chains.{ends_keep, ends_seen, never_cut}
use Rattle.demand_feed.specs.Runs.{EndsBy, IsRun}
use Rattle.demand_feed.specs.declared.run.FeedEnd.{FeedEnd}
use Rattle.demand_feed.specs.declared.run.FeedEnd.TheVariants as ends
use Rattle.demand_feed.specs.declared.sent.What.{What}
use Rattle.demand_feed.specs.declared.sent.What.TheVariants as what
use Rattle.feed_queue.specs.Feeder.{Adds, Breaks, EndsWith, HasSent}
use Rattle.feed_queue.specs.Sending.{Keeps, SenderCuts, SenderDoes}
use Rattle.feed_queue.specs.declared.sender.Sender.{Sender}

module _ {R N : Type 0} where
  -- what a run keeps
  pub run_keeps : (end : FeedEnd) (t : Plan) (turns : ℕ) (pieces : List (List ℕ)) (fed then : Option Fed) (a b : Sender R N) → EndsBy SenderDoes SenderCuts end t turns pieces fed then a b → Keeps a b
  run_keeps end t turns pieces fed then a b h =
      ends_keep SenderDoes SenderCuts Keeps (λ x. (refl, refl, refl, λ few. few)) (λ x y z p q. (q.0 ∙ p.0, q.1 ∙ p.1, q.2 ∙ p.2, λ few. q.3 (p.3 few))) (λ task x y d. d.0) (λ task x y d. absurd d) end t turns pieces fed then a b h

  -- nothing is broken off
  pub run_whole : (end : FeedEnd) (t : Plan) (turns : ℕ) (pieces : List (List ℕ)) (fed then : Option Fed) (a b : Sender R N) → EndsBy SenderDoes SenderCuts end t turns pieces fed then a b → end ≢ ends.SinkFault
  run_whole end t turns pieces fed then a b h = never_cut SenderDoes SenderCuts (λ task x y d. d) end t turns pieces fed then a b h

  -- and all is sent
  pub run_sent : (end : FeedEnd) (t : Plan) (turns : ℕ) (pieces : List (List ℕ)) (fed then : Option Fed) (a b : Sender R N) → EndsBy SenderDoes SenderCuts end t turns pieces fed then a b → EndsBy Adds Breaks end t turns pieces fed then a.feeder.now.sent b.feeder.now.sent
  run_sent end t turns pieces fed then a b h =
      ends_seen SenderDoes SenderCuts Adds Breaks (λ (s : Sender R N). s.feeder.now.sent) (λ task x y d. (d.1.0, d.1.1, ap (λ f. f.sent) d.1.2)) (λ task x y d. d) end t turns pieces fed then a b h

-- there is room for the end
pub room_left : {R N : Type 0} (a b : Sender R N) → a.feeder.now.sent ≡ [] → Keeps a b → length b.feeder.now.sent < 2 ^ 64 - 1
room_left a b none keeps = let few : length b.feeder.now.sent ≤ 2 ^ 64 - 2 = keeps.3 (omega (arith, ap length none)) in omega (arith, few)

-- a run whose end was sent too
pub has_sent_run : (t : Plan) (turns : ℕ) (end : FeedEnd) (fed then : Option Fed) (none whats sent : List What) → none ≡ [] → IsRun Adds Breaks t turns end fed then none whats → end ≢ ends.SinkFault → sent ≡ whats ++ what.End end ∷ [] → HasSent t turns fed then sent
has_sent_run t turns end fed then none whats sent is run whole sent_is = unfold HasSent in inl (end, record { whats = whats; run = subst (λ xs. IsRun Adds Breaks t turns end fed then xs whats) is run; whole = whole; sent_is = sent_is })

-- want of memory alone
pub has_sent_none : (t : Plan) (turns : ℕ) (fed : Option Fed) (sent : List What) → sent ≡ what.End ends.NoMemory ∷ [] → HasSent t turns fed fed sent
has_sent_none t turns fed sent is = unfold HasSent in inr (is, refl)
