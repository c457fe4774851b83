use Rattle.std.proofs.Common.{◌<◌, length, sym, ap, ◌∙◌, subst}
use Rattle.std.specs.Option.{IfSome}
use Rattle.map_model.specs.Allocation.{is_full_of_better}
use Rattle.map_model.specs.Market.{key_of}
use Rattle.map_model.proofs.Paths.{walk_there, find_here, find_on, find_over, find-climb_done}
use Rattle.evict.proofs.refuser.refusing_node.Goals as goal
use Rattle.evict.proofs.refuser.refusing_node.Goals.{in-Some+else-is_refusing, in_default}

pub returns-then-is_refusing : goal.returns-then-is_refusing
returns-then-is_refusing c =
    let m = c.args.instance.now in
    find_here (λ n. is_full_of_better m c.args.held.now.lines n (key_of m c.args.offer.group.0 c.args.offer.place)) m c.loop-step._step c.in-Some.node c.loop-step.at c.loop-step-test.true c.in-Some.is
    (ap (is_full_of_better m c.args.held.now.lines c.in-Some.node.0) (sym c.key-key.ensures) ∙ sym c.is_refusing.ensures ∙ c.if-is_refusing.true)
    ∙ c.loop-step.invariant.found

pub loop-step-preserved : goal.loop-step-preserved
loop-step-preserved c =
    let m = c.args.instance.now in
    elim c.match-at.branch [
      | in-Some+else-is_refusing w ↦ record {
        there = walk_there m c.requires.market w.in-Some.node c.loop-step.at c.match-at.at w.in-Some.is (w.at-is ∙ w.parent-at.ensures) c.loop-step.invariant.there;
        found = find_on (λ n. is_full_of_better m c.args.held.now.lines n (key_of m c.args.offer.group.0 c.args.offer.place)) m c.loop-step._step w.in-Some.node c.loop-step.at c.match-at.at c.loop-step-test.true w.in-Some.is
            (ap (is_full_of_better m c.args.held.now.lines w.in-Some.node.0) (sym c.key-key.ensures) ∙ sym w.is_refusing.ensures ∙ w.if-is_refusing.false) (w.at-is ∙ w.parent-at.ensures)
            ∙ c.loop-step.invariant.found;
      }
      | in_default w ↦ record {
        there = subst (λ x. IfSome x (λ p. p.0 < length c.args.instance.now.nodes)) (sym w.at-is) c.loop-step.invariant.there;
        found = find_over (λ n. is_full_of_better m c.args.held.now.lines n (key_of m c.args.offer.group.0 c.args.offer.place)) m c.loop-step._step c.loop-step.at c.match-at.at w.in_default.is w.at-is ∙ c.loop-step.invariant.found;
      }
    ]

pub returns : goal.returns
returns c =
    let m = c.args.instance.now in
    sym (find-climb_done (λ n. is_full_of_better m c.args.held.now.lines n (key_of m c.args.offer.group.0 c.args.offer.place)) m c.loop-step._step c.loop-step.at c.loop-step-test.false) ∙ c.loop-step.invariant.found
