use Rattle.std.proofs.Common.{◌≡◌, ℕ, ◌+◌, ◌-◌, ◌<◌, ◌^◌, length, slice_index, cond, Bool, true, false, sym, ap, ◌∙◌, subst, arith, rules}
use Rattle.std.specs.Option.{IfSome}
use Rattle.map_model.specs.Market.{Market}
use Rattle.map_model.specs.Allocation.{is_under}
use Rattle.map_model.proofs.Paths.{touched, touched_here, touched_done, walk_there, walk_done, walk_over, walk_start}
use Rattle.map_model.proofs.Trees.{under_itself, walk_on}
use Rattle.capacity_tree.specs.Loads.{trees_of}
use Rattle.capacity_tree.proofs.Trees.{length-trees, parent_of-trees}
use Rattle.capacity_tree.proofs.walks.add_along.Goals as goal
use Rattle.capacity_tree.proofs.walks.add_along.Goals.{in-Some, in_default}

pub bounds-loads-node : goal.bounds-loads-node
bounds-loads-node c =
    let here : c.in-Some.node.0 < length (trees_of c.args.parents.now).nodes = subst (λ x. IfSome x (λ p. p.0 < length (trees_of c.args.parents.now).nodes)) c.in-Some.is c.loop-step.invariant.there in
    omega (arith, length-trees c.args.parents.now, c.requires.size)

small : (b : Bool) (x a : ℕ) → b ≡ true → x + a < 2 ^ 64 → cond b (x + a) x < 2 ^ 64
small true x a e h = h
small false x a e h = omega arith

pub overflow_add-loads : goal.overflow_add-loads
overflow_add-loads c =
    let m : Market = trees_of c.args.parents.now in
    let p = c.in-Some.node in
    let there : p.0 < length m.nodes = subst (λ x. IfSome x (λ p. p.0 < length m.nodes)) c.in-Some.is c.loop-step.invariant.there in
    let on : is_under m p.0 c.args.pool.0 ≡ true = subst (λ x. IfSome x (λ q. is_under m q.0 c.args.pool.0 ≡ true)) c.in-Some.is c.loop-step.invariant.on in
    let within : p.0 < length c.args.loads.now = omega (arith, length-trees c.args.parents.now, c.requires.size) in
    let here : slice_index c.loop-step.loads p.0 + c.args.units ≡ cond (is_under m p.0 c.args.pool.0) (slice_index c.args.loads.now p.0 + c.args.units) (slice_index c.args.loads.now p.0)
    = sym (touched_here (λ x. x + c.args.units) m c.loop-step._step p _ c.loop-step-test.true)
    ∙ ap (λ at. touched (λ x. x + c.args.units) m (8 - c.loop-step._step) at p.0 (slice_index c.loop-step.loads p.0)) (sym c.in-Some.is)
    ∙ c.loop-step.invariant.done p.0 (omega arith) in
    let under = small (is_under m p.0 c.args.pool.0) (slice_index c.args.loads.now p.0) c.args.units on (c.requires.room p.0 within on) in
    let bound : slice_index c.loop-step.loads p.0 + c.args.units < 2 ^ 64 = rw here under in
    omega arith

pub loop-step-init : goal.loop-step-init
loop-step-init c = record {
  there = omega (arith, length-trees c.args.parents.now, c.requires.pool);
  on = under_itself (trees_of c.args.parents.now) c.args.pool.0;
  done = λ n h. walk_start _ (trees_of c.args.parents.now) c.args.pool n _;
}

pub loop-step-preserved : goal.loop-step-preserved
loop-step-preserved c =
    let m : Market = trees_of c.args.parents.now in
    elim c.match-at.branch [
      | in-Some w ↦
          let up = w.at-is ∙ sym (parent_of-trees c.args.parents.now w.in-Some.node.0) in
          record {
            there = walk_there m c.requires.market w.in-Some.node c.loop-step.at c.match-at.at w.in-Some.is up c.loop-step.invariant.there;
            on = walk_on m c.requires.market c.args.pool.0 w.in-Some.node c.loop-step.at c.match-at.at (omega (arith, length-trees c.args.parents.now, c.requires.pool)) w.in-Some.is up c.loop-step.invariant.on;
            done = λ n h. walk_done _ m c.requires.market c.loop-step._step w.in-Some.node c.loop-step.at c.match-at.at c.loop-step.loads c.match-at.loads 0
                c.loop-step-test.true w.in-Some.is up c.loop-step.invariant.there (omega (arith, length-trees c.args.parents.now, c.requires.size)) w.loads-is n ∙ c.loop-step.invariant.done n (omega arith);
          }
      | in_default w ↦ record {
        there = subst (λ x. IfSome x (λ p. p.0 < length m.nodes)) (sym w.at-is) c.loop-step.invariant.there;
        on = subst (λ x. IfSome x (λ q. is_under m q.0 c.args.pool.0 ≡ true)) (sym w.at-is) c.loop-step.invariant.on;
        done = λ n h. walk_over _ m c.loop-step._step c.loop-step.at c.match-at.at c.loop-step.loads c.match-at.loads 0 (grind rules) w.at-is w.loads-is n ∙ c.loop-step.invariant.done n (omega arith);
      }
    ]

pub returns : goal.returns
returns c = λ n h. sym (touched_done _ (trees_of c.args.parents.now) c.loop-step._step n c.loop-step.at _ c.loop-step-test.false) ∙ c.loop-step.invariant.done n h
