use Rattle.std.proofs.Common.{false, ◌≡◌, ◌<◌, true, length, slice_set, get_or-set_same, inl, inr, sym, ap, subst, ◌∙◌, arith}
use Rattle.std.proofs.lemmas.Bool.{cases_eq}
use Rattle.map_model.specs.Market.{Market, capacity_of}
use Rattle.map_model.specs.Progress.{root_of}
use Rattle.map_repair.specs.Marks.{IsMarking, Marking, is_on}
use Rattle.move_up.proofs.InTrees.{root_in}
use Rattle.map_repair.proofs.Marking.{marking_none, marking_trans, on_from_set}
use Rattle.map_repair.proofs.reaching.mark_capacities.Goals as goal
use Rattle.map_repair.proofs.reaching.mark_capacities.Goals.{then-capacity+in_ok-mark, else-capacity}

pub loop-n-init : goal.loop-n-init
loop-n-init c = record { marking = marking_none c.args.marks.now; all = λ x l. absurd (omega (arith, l)); within = λ trees closed within. within }

pub mark-requires : goal.mark-requires
mark-requires c =
    let there : c.loop-n.n < length c.args.old.now.nodes = omega (arith, c.loop-n-test.true, c.nodes-n-end.ensures.count) in
    let at = root_in c.args.old.now c.args.state.now c.requires.ready.market c.requires.ready.shape c.loop-n.n c.root-root.result.0 there c.root-root.ensures in
    omega (arith, at.1, c.loop-n.invariant.marking.count, c.requires.size)

pub loop-n-preserved : goal.loop-n-preserved
loop-n-preserved c =
    let m : Market = c.args.old.now in
    let i = c.loop-n.invariant in
    let n = c.loop-n.n in
    let there : n < length m.nodes = omega (arith, c.loop-n-test.true, c.nodes-n-end.ensures.count) in
    elim c.if-capacity.branch [
      | then-capacity+in_ok-mark w ↦
          let root = root_of m n in
          let at = root_in m c.args.state.now c.requires.ready.market c.requires.ready.shape n w.root-root.result.0 there w.root-root.ensures in
          let e = w.in_ok-mark.ensures in
          let bound : root < length c.loop-n.marks.on = omega (arith, at.0, at.1, i.marking.count, c.requires.size) in
          record {
            marking = subst (λ (x : Marking). IsMarking c.args.marks.now x) (sym w.marks-is) (marking_trans c.args.marks.now c.loop-n.marks w.mark.new.self i.marking e.marking);
            all = λ x l ne. ap (λ (a : Marking). is_on a.on (root_of m x)) w.marks-is ∙ elim (cases_eq x n) [
              | inl same ↦ ap (λ y. is_on w.mark.new.self.on (root_of m y)) same ∙ ap (λ ms. is_on ms root) e.on ∙ ap (λ r. is_on (slice_set c.loop-n.marks.on r true) root) at.0 ∙ get_or-set_same c.loop-n.marks.on root true false bound
              | inr apart ↦ e.marking.kept (root_of m x) (i.all x (omega (arith, l, apart)) ne)
            ];
            within = λ trees closed within y on. elim (on_from_set c.loop-n.marks.on w.root-root.result.0 y (sym (ap (λ (a : Marking). is_on a.on y) w.marks-is ∙ ap (λ ms. is_on ms y) e.on) ∙ on)) [
              | inl same ↦ ap trees (same ∙ at.0) ∙ closed.capacity n there (λ alike. absurd (omega (arith, w.if-capacity.true, alike, c.capacity.ensures, c.capacity-in-loop-n.ensures)))
              | inr was ↦ i.within trees closed within y was
            ];
          }
      | else-capacity w ↦ record {
        marking = subst (λ (x : Marking). IsMarking c.args.marks.now x) (sym w.marks-is) i.marking;
        all = λ x l ne. elim (cases_eq x n) [
          | inl same ↦ absurd (ne (ap (capacity_of c.args.new.now) same ∙ (let z : capacity_of c.args.new.now n ≡ capacity_of m n = omega (arith, w.if-capacity.false, c.capacity.ensures, c.capacity-in-loop-n.ensures) in z) ∙ sym (ap (capacity_of m) same)))
          | inr apart ↦ ap (λ (a : Marking). is_on a.on (root_of m x)) w.marks-is ∙ i.all x (omega (arith, l, apart)) ne
        ];
        within = λ trees closed within y on. i.within trees closed within y (sym (ap (λ (a : Marking). is_on a.on y) w.marks-is) ∙ on);
      }
    ]

pub returns-clause-all : goal.returns-clause-all
returns-clause-all c = λ n l ne. c.loop-n.invariant.all n (omega (arith, l, c.loop-n-test.false, c.nodes-n-end.ensures.count)) ne
