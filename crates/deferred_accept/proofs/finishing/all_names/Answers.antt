use Rattle.std.proofs.Common.{◌+◌, ◌++◌, append_assoc, append-nil, sym, ap, ◌∙◌, arith}
use Rattle.stable_check.specs.Due.{due, due_from}
use Rattle.stable_check.proofs.Names.{due_from_start, due_from_step, due_from_done}
use Rattle.deferred_accept.proofs.finishing.all_names.Goals as goal

pub loop-g-init : goal.loop-g-init
loop-g-init c = ap (λ ys. ys ++ due_from c.args.instance.now c.args.state.now.lines 0) c.new-names.ensures.items ∙ due_from_start c.args.instance.now c.args.state.now.lines

pub loop-g-preserved : goal.loop-g-preserved
loop-g-preserved c =
    let m = c.args.instance.now in
    let lines = c.args.state.now.lines in
    ap (λ ys. ys ++ due_from m lines (c.loop-g.g + 1)) c.in_ok-add_names_of.ensures
    ∙ append_assoc c.loop-g.names.items (due m lines c.loop-g.g 0) (due_from m lines (c.loop-g.g + 1)) ∙ ap (λ ys. c.loop-g.names.items ++ ys) (sym (due_from_step m lines c.loop-g.g (omega arith))) ∙ c.loop-g.invariant

pub returns : goal.returns
returns c =
    let m = c.args.instance.now in
    let lines = c.args.state.now.lines in
    sym (append-nil c.loop-g.names.items) ∙ ap (λ ys. c.loop-g.names.items ++ ys) (sym (due_from_done m lines c.loop-g.g (omega arith))) ∙ c.loop-g.invariant
