use Rattle.std.proofs.Common.{refl, ◌≡◌, ◌<◌, true, length, inl, inr, sym, ap, subst, ◌∙◌, arith}
use Rattle.std.proofs.lemmas.Bool.{cases_eq}
use Rattle.map_model.specs.Market.{Market, demand_of}
use Rattle.map_model.specs.Progress.{HoldsIn, tree_of}
use Rattle.map_repair.specs.Marks.{IsMarking, Marking, is_on}
use Rattle.map_repair.proofs.Marking.{marking_none, marking_trans}
use Rattle.map_repair.proofs.reaching.mark_lowered.Goals as goal
use Rattle.map_repair.proofs.reaching.mark_lowered.Goals.{then-demand+in_ok-mark_held, else-demand}

pub loop-g-init : goal.loop-g-init
loop-g-init c = record { marking = marking_none c.args.marks.now; all = λ h root l. absurd (omega (arith, l)); within = λ trees closed within. within }

pub loop-g-preserved : goal.loop-g-preserved
loop-g-preserved c =
    let m : Market = c.args.old.now in
    let i = c.loop-g.invariant in
    let g = c.loop-g.g in
    let there : g < length m.groups = omega (arith, c.loop-g-test.true, c.groups-g-end.ensures.count) in
    elim c.if-demand.branch [
      | then-demand+in_ok-mark_held w ↦
          let e = w.in_ok-mark_held.ensures in
          record {
            marking = subst (λ (x : Marking). IsMarking c.args.marks.now x) (sym w.marks-is) (marking_trans c.args.marks.now c.loop-g.marks w.mark_held.new.marks i.marking e.marking);
            all = λ h root l less holds. ap (λ (a : Marking). is_on a.on root) w.marks-is ∙ elim (cases_eq h g) [
              | inl same ↦
                  let here : HoldsIn m c.args.state.now.lines g root = subst (λ x. HoldsIn m c.args.state.now.lines x root) same holds in
                  subst (λ r. is_on w.mark_held.new.marks.on r ≡ true) here.2 (e.held here.0 here.1 here.3)
              | inr apart ↦ e.marking.kept root (i.all h root (omega (arith, l, apart)) less holds)
            ];
            within = λ trees closed within n on. e.within trees (λ k o some. closed.lowered g (tree_of m g k) there (omega (arith, w.if-demand.true, c.demand.ensures, c.demand-in-loop-g.ensures)) (k, o, refl, some)) (i.within trees closed within) n (sym (ap (λ (a : Marking). is_on a.on n) w.marks-is) ∙ on);
          }
      | else-demand w ↦ record {
        marking = subst (λ (x : Marking). IsMarking c.args.marks.now x) (sym w.marks-is) i.marking;
        all = λ h root l less holds. ap (λ (a : Marking). is_on a.on root) w.marks-is ∙ elim (cases_eq h g) [
          | inl same ↦ absurd (let z : demand_of c.args.new.now g < demand_of m g = subst (λ x. demand_of c.args.new.now x < demand_of m x) same less in omega (arith, z, w.if-demand.false, c.demand.ensures, c.demand-in-loop-g.ensures))
          | inr apart ↦ i.all h root (omega (arith, l, apart)) less holds
        ];
        within = λ trees closed within n on. i.within trees closed within n (sym (ap (λ (a : Marking). is_on a.on n) w.marks-is) ∙ on);
      }
    ]

pub returns-clause-all : goal.returns-clause-all
returns-clause-all c = λ h root l less holds. c.loop-g.invariant.all h root (omega (arith, l, c.loop-g-test.false, c.groups-g-end.ensures.count)) less holds
