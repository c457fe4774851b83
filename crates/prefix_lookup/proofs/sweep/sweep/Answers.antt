use Rattle.std.proofs.Common.{◌≡◌, ◌+◌, ℕ, length, refl, sym, subst, arith}
use Rattle.std.specs.Prelude.{All}
use Rattle.std.proofs.lemmas.List.Elements.{All-push}
use Rattle.prefix_lookup.specs.Blocks.{IsBlock, block_at}
use Rattle.prefix_lookup.specs.Sweep.{AllGoOn, Swept}
use Rattle.prefix_lookup.proofs.Ends.{ahead_of, finished, stepped}
use Rattle.prefix_lookup.proofs.sweep.sweep.Goals as goal

pub loop-block-preserved : goal.loop-block-preserved
loop-block-preserved c =
    let inv = c.loop-block.invariant in
    let i = c.loop-block.block-index in
    let b = block_at c.args.blocks.now i in
    let lt = c.loop-block-test.true in
    let slice = c.as_slice.ensures.value in
    record {
      swept = λ table t are.
          let close = c.in_ok-close.ensures.swept table c.args.blocks.now i t are (omega (arith, lt)) (inv.swept table t are) (ahead_of c.args.family table c.args.blocks.now i b are refl) in
          let reach = c.in_ok-reach.ensures.swept c.args.family table c.args.blocks.now i t are (subst (Swept c.args.family table c.args.blocks.now i c.close.new.ranges) (sym slice) close.0) lt refl (subst (AllGoOn c.args.family b.first) (sym slice) close.1) in
          let made = stepped c.args.family table c.args.blocks.now c.close.new.opened.items i c.reach.new.ranges b are (subst (Swept c.args.family table c.args.blocks.now i c.reach.new.ranges) slice reach.0) lt refl reach.1 close.1 in
          subst (Swept c.args.family table c.args.blocks.now (i + 1) c.reach.new.ranges) (sym c.in_ok-push.ensures.items) made;
      each = subst (All (IsBlock c.args.family)) (sym c.in_ok-push.ensures.items) (All-push (IsBlock c.args.family) c.close.new.opened.items b c.in_ok-close.ensures.each (c.requires i _ lt));
      few = omega (arith, inv.few, c.in_ok-close.ensures.few, c.in_ok-reach.ensures.few, c.in_ok-push.ensures.len);
    }

pub returns : goal.returns
returns c = λ table t are.
    let inv = c.loop-block.invariant in
    let all : c.loop-block.block-index ≡ length c.args.blocks.now = omega (arith, c.loop-block-test.false) in
    let now = subst (λ (k : ℕ). Swept c.args.family table c.args.blocks.now k c.loop-block.ranges c.loop-block.opened.items) all (inv.swept table t are) in
    let close = c.in_ok-close-2.ensures.swept table c.args.blocks.now (length c.args.blocks.now) t are (omega arith) now (λ m le lt. absurd (omega arith)) in
    finished c.args.family table c.args.blocks.now c.close-2.new.opened.items c.close-2.new.ranges t are close.0 close.1 (omega (arith, inv.few, c.in_ok-close-2.ensures.few))
