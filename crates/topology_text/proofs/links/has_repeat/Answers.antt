use Rattle.std.proofs.Common.{◌≡◌, ◌+◌, ◌-◌, ◌||◌, false, List, drop, length, map, ap, sym, subst, ◌∙◌, arith}
use Rattle.toml.specs.View.{view}
use Rattle.toml.specs.declared.value.Value.{Value}
use Rattle.topology_text.specs.Names.{has_repeat, texts_of}
use Rattle.topology_text.specs.Slots.{AreInSlots}
use Rattle.topology_text.proofs.FromEnd.{behind_from, from_end, or_none, or_some, repeat_later, texts, whole_from}
use Rattle.topology_text.proofs.links.has_repeat.Goals as goal

pub first_stands_again-requires-clause-noted : goal.first_stands_again-requires-clause-noted
first_stands_again-requires-clause-noted c =
    subst (λ (ws : List Value). AreInSlots c.loop-done.slots (texts ws)) (sym (behind_from c.args.items.now c.loop-done.done (omega arith))) c.loop-done.invariant.noted

pub returns-then-first_stands_again : goal.returns-then-first_stands_again
returns-then-first_stands_again c =
    let vs = c.args.items.now in
    let done = c.loop-done.done in
    sym (repeat_later vs (length vs - 1 - done) (ap (λ (ws : List Value). has_repeat (texts ws)) (sym (whole_from vs done)) ∙ c.first_stands_again.ensures.found ∙ or_some _ _ c.if-first_stands_again.true))

pub loop-done-preserved : goal.loop-done-preserved
loop-done-preserved c =
    let vs = c.args.items.now in
    let done = c.loop-done.done in
    let now = from_end vs done (omega arith) in
    record {
      none = ap (λ (ws : List Value). has_repeat (texts ws)) now ∙ c.first_stands_again.ensures.found ∙ or_none _ _ c.if-first_stands_again.false
          ∙ ap (λ (ws : List Value). has_repeat (texts ws)) (behind_from vs done (omega arith)) ∙ c.loop-done.invariant.none;
      noted = subst (λ (ws : List Value). AreInSlots c.first_stands_again.new.slots (texts ws)) (sym now) c.first_stands_again.ensures.noted;
    }
