-- A run from its parts.
use Rattle.std.proofs.Common.{◌≡◌, ℕ, ◌+◌, ◌≤◌, List, [], ◌∷◌, length, refl, ap, sym, ◌∙◌, arith, length-append}
use Rattle.std.specs.Prelude.{IfOk, OnOk, Result, Ok, Err, Some, map}
use Rattle.text_parts.specs.Parts.{whole_lines}
use Rattle.map_model.specs.declared.change.Change.{Change}
use Rattle.topology_text.specs.Plan.{Plan}
use Rattle.topology_text.specs.Topology.{zone_of}
use Rattle.demand_feed.specs.Task.{batch, tasks}
use Rattle.demand_feed.specs.Taking.{AllDo}
use Rattle.map_cell.specs.Ends.{PublisherState}
use Rattle.big_world.specs.declared.TheConstants.{LARGEST_WORLD}
use Rattle.big_world.specs.Feed.{feed_of}
use Rattle.big_world.specs.World.{zone_data}
use Rattle.big_world_read.specs.Read.{batches_of, world_plan}
use Rattle.big_world_read.proofs.World.{world_batches, world_reads}
use Rattle.mapper.specs.Mappers.{IsFirst, IsMapping, most_offers}
use Rattle.big_run.specs.Publishing.{TaskPublishes}
use Rattle.big_run.specs.Runs.{IsWorldRun, summary_of}
use Rattle.big_run.specs.declared.summary.Summary.{Summary}
use Rattle.big_run.proofs.Asked.{counts_add_up}

-- batches that are published one after another leave as many versions more, and the topology
published : (batches : List (List Change)) (a b : PublisherState) → AllDo TaskPublishes (map batch batches) a b → (length b.history ≡ length a.history + length batches) × (b.newest.plan ≡ a.newest.plan)
published [] a b same = (ap (λ (m : PublisherState). length m.history) same ∙ omega arith, ap (λ (m : PublisherState). m.newest.plan) same)
published (changes ∷ batches) a b all =
    let rest = published batches all.0 b all.2 in
    (omega (arith, rest.0, ap length all.1.history ∙ length-append a.history (all.0.newest ∷ [])), rest.1 ∙ all.1.next.plan)

sixteen : (n : ℕ) → length (batches_of n) ≡ 16
sixteen n = refl

world_zone : (n : ℕ) → (world_plan n).zone ≡ zone_of (Some zone_data)
unfolding world_plan
world_zone n = refl

run_is : (n : ℕ) (t : Plan) (a b : PublisherState) (feed : List ℕ) (s : Summary) (proposals : ℕ) → 1 ≤ n → n ≤ LARGEST_WORLD → t ≡ world_plan n → feed ≡ feed_of n → IsFirst t a
    → AllDo TaskPublishes (tasks a.newest.plan (whole_lines feed)) a b → s ≡ summary_of n a.newest.plan b proposals → IsMapping t.market a.newest.lines 0 proposals → proposals ≤ most_offers t.market → IsWorldRun n s
run_is n t a b feed s proposals some most plan_is feed_is first batches sums mapping few =
    let plan = first.plan in
    let count : s.proposals ≡ proposals = ap (λ (x : Summary). x.proposals) sums in
    let own : s ≡ summary_of n t b proposals = rw plan at sums in
    let same = ap (λ p. tasks p (whole_lines feed)) plan ∙ ap (λ f. tasks t (whole_lines f)) feed_is in
    let done : AllDo TaskPublishes (tasks t (whole_lines (feed_of n))) a b = rw same at batches in
    let each = ap (λ p. tasks p (whole_lines (feed_of n))) plan_is ∙ world_batches n some most in
    let all : AllDo TaskPublishes (map batch (batches_of n)) a b = rw each at done in
    let behind = published (batches_of n) a b all in
    let zone = ap (λ (p : Plan). p.zone) (behind.1 ∙ plan ∙ plan_is) ∙ world_zone n in
    let seventeen : length b.history ≡ 17 = omega (arith, behind.0, ap length first.history, sixteen n) in
    record {
      topology = t;
      first = a;
      last = b;
      reads = world_reads n some most ∙ ap Ok (sym plan_is);
      is_first = first;
      batches = done;
      counted = rw count mapping;
      few = rw count few;
      sums = own ∙ ap (summary_of n t b) (sym count);
      maps = ap (λ (x : Summary). x.maps) own ∙ seventeen;
      replies = ap (λ (x : Summary). x.answered + x.servfail) own ∙ counts_add_up b.newest n zone;
    }

-- what came of the feed, where memory sufficed, makes a run
pub run_or_none : {E : Type 0} (n : ℕ) (t : Plan) (a b : PublisherState) (feed : List ℕ) (done : Result Summary E) (proposals : ℕ) → 1 ≤ n → n ≤ LARGEST_WORLD → t ≡ world_plan n → feed ≡ feed_of n → IsFirst t a
    → OnOk done (AllDo TaskPublishes (tasks a.newest.plan (whole_lines feed)) a b) → IfOk done (λ s. s ≡ summary_of n a.newest.plan b proposals) → IsMapping t.market a.newest.lines 0 proposals → proposals ≤ most_offers t.market → IfOk done (IsWorldRun n)
run_or_none n t a b feed (Ok s) proposals some most plan_is feed_is first batches sums mapping few = run_is n t a b feed s proposals some most plan_is feed_is first batches sums mapping few
run_or_none n t a b feed (Err e) proposals some most plan_is feed_is first batches sums mapping few = tt
