use Rattle.std.proofs.Common.{◌∷◌, [], length, refl, sym, ap, subst, arith, length-append}
use Rattle.prefix_lookup.specs.Blocks.{limit_of}
use Rattle.prefix_lookup.specs.Sweep.{AllGoOn, AllLongest, Swept, stop_of}
use Rattle.prefix_lookup.proofs.Ends.{all_go_on, closed}
use Rattle.prefix_lookup.proofs.sweep.close.Goals as goal

pub loop-block-preserved : goal.loop-block-preserved
loop-block-preserved c =
    let inv = c.loop-block.invariant in
    let pop = c.in-Some.ensures.some in
    let b = c.in-Some.block in
    let rest = c.pop_ended.new.opened.items in
    let end = c.last.ensures in
    let stop = c.in_ok-cover.ensures.stop in
    let longer = length-append rest (b ∷ []) in
    record {
      swept = λ table blocks i t are le was ahead.
          let old = subst (Swept c.args.family table blocks i c.loop-block.ranges) pop.0 (inv.swept table blocks i t are le was ahead) in
          closed c.args.family table blocks rest i (limit_of c.args.limit) c.loop-block.ranges c.cover.new.ranges b t are le old ahead pop.1 (omega arith)
          (λ all. c.in_ok-cover.ensures.covers c.args.family table old.covers (subst (AllLongest c.args.family table b (stop_of c.loop-block.ranges)) (sym end) all));
      each = c.in-Some.ensures.each;
      few = omega (arith, inv.few, c.in_ok-cover.ensures.few, longer, ap length pop.0);
    }

pub returns-clause-swept : goal.returns-clause-swept
returns-clause-swept c = λ table blocks i t are le was ahead.
    let h = c.in_default.ensures in
    let now = c.loop-block.invariant.swept table blocks i t are le was ahead in
    let on = all_go_on c.args.family blocks c.loop-block.opened.items i (stop_of c.loop-block.ranges) (limit_of c.args.limit) now.standing (h.last refl) in
    (subst (Swept c.args.family table blocks i c.loop-block.ranges) (sym (h.none refl)) now, subst (AllGoOn c.args.family (limit_of c.args.limit)) (sym (h.none refl)) on)
