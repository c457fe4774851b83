use Rattle.std.proofs.Common.{List, Bool, length, inl, inr, sym, ap, subst, ◌∙◌}
use Rattle.map_model.specs.Market.{Market}
use Rattle.map_repair.specs.Marks.{IsClosedForAll, IsSettled, is_on}
use Rattle.map_repair.proofs.Marking.{closed_all, closed_whole, pending_rest, settled_on}
use Rattle.map_repair.proofs.reaching.spread.Goals as goal

pub loop-root-preserved : goal.loop-root-preserved
loop-root-preserved c =
    let m : Market = c.args.old.now in
    let s = c.args.state.now in
    let i = c.loop-root.invariant in
    let e = c.in_ok-look_at.ensures in
    let r = c.in-Some.root in
    let new = c.look_at.new.marks in
    let before = c.next_tree.ensures.on in
    record {
      size = e.marking.count ∙ ap length before ∙ i.size;
      groups = c.look_at.auto.done ∙ i.groups;
      kept = λ n on. e.marking.kept n (ap (λ ms. is_on ms n) before ∙ i.kept n on);
      ahead = e.ahead;
      marked = e.marked;
      done = e.done;
      looked = λ n on. elim (e.marking.came n on) [
        | inl was ↦ elim (i.looked n (sym (ap (λ ms. is_on ms n) before) ∙ was)) [
          | inl waits ↦ elim (pending_rest c.loop-root.marks.pending c.next_tree.new.marks.pending r n c.in-Some.ensures.pending.2 waits) [
            | inl rest ↦ inl (e.marking.waits n rest)
            | inr is ↦ inr (subst (λ x. IsSettled m s new.on x) (sym is) e.settled)
          ]
          | inr settled ↦ inr (settled_on m s c.next_tree.new.marks new n e.marking (subst (λ (ms : List Bool). IsSettled m s ms n) (sym before) settled))
        ]
        | inr waits ↦ inl waits
      ];
      within = λ trees all within. e.within trees all (i.within trees all within r.0 c.in-Some.ensures.pending.1) (λ n on. i.within trees all within n (sym (ap (λ ms. is_on ms n) before) ∙ on));
    }

pub returns-clause-within : goal.returns-clause-within
returns-clause-within c = λ trees all within n on. c.loop-root.invariant.within trees all within n (sym (ap (λ ms. is_on ms n) c.next_tree.ensures.on) ∙ on)

pub returns-clause-closed : goal.returns-clause-closed
returns-clause-closed c =
    let m : Market = c.args.old.now in
    let s = c.args.state.now in
    elim c.in_default.ensures.pending [
      | inl none ↦ subst (λ (ms : List Bool). IsClosedForAll m s (λ n. is_on ms n)) (sym c.next_tree.ensures.on) (closed_all m s c.loop-root.marks none c.loop-root.invariant.looked)
      | inr all ↦ closed_whole m s c.next_tree.new.marks.on c.requires.ready.market all
    ]
