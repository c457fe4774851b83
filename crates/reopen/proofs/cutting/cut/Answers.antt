use Rattle.std.proofs.Common.{◌+◌, ◌-◌, ◌≤◌, length, inl, inr, arith, subst, sym}
use Rattle.std.proofs.lemmas.Bool.{cases_eq}
use Rattle.map_model.specs.Market.{Market, capacity_of}
use Rattle.map_model.specs.Allocation.{counts_at, load}
use Rattle.reopen.proofs.Lessening.{less_trans, sums_trans}
use Rattle.reopen.proofs.Turning.{turned_away, turned_lower}
use Rattle.reopen.proofs.cutting.cut.Goals as goal

pub loop-step-preserved : goal.loop-step-preserved
loop-step-preserved c =
    let m : Market = c.args.instance.now in
    let s = c.loop-step.state in
    let i = c.loop-step.invariant in
    let e = c.cut_node.ensures in
    record {
      less = less_trans m c.args.state.now s c.cut_node.new.state i.less e.less;
      sums = sums_trans c.args.state.now s c.cut_node.new.state i.less.count i.sums e.sums;
      fits = λ n l high. elim (cases_eq n (c.nodes-nodes.result - 1 - c.loop-step.step)) [
        | inl is ↦ subst (λ x. load m c.cut_node.new.state.lines x ≤ capacity_of m x) (sym is) e.fits
        | inr ne ↦ omega (arith, e.less.fewer (counts_at m n), i.fits n l (omega (arith, ne, c.nodes-nodes.ensures.count)))
      ];
      turned = turned_lower m (c.nodes-nodes.result - 1 - c.loop-step.step) (length m.nodes - (c.loop-step.step + 1)) c.args.state.now.lines c.cut_node.new.state.lines (omega (arith, c.nodes-nodes.ensures.count))
          (e.turned c.args.state.now.lines (turned_lower m (length m.nodes - c.loop-step.step) (c.nodes-nodes.result - 1 - c.loop-step.step) c.args.state.now.lines s.lines (omega (arith, c.nodes-nodes.ensures.count)) i.turned));
    }

pub returns-clause-turned : goal.returns-clause-turned
returns-clause-turned c = turned_away c.args.instance.now (length c.args.instance.now.nodes - c.loop-step.step) c.args.state.now.lines c.loop-step.state.lines c.loop-step.invariant.turned
