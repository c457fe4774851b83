use Rattle.std.proofs.Common.{◌≡◌, ◌∙◌, ap, false, sym}
use Rattle.std.specs.Prelude.{not}
use Rattle.edges.specs.Places.{is_free}
use Rattle.edges.proofs.Going.{left_behind, settled, tried_again}
use Rattle.edges.proofs.seat.settle.Goals as goal
use Rattle.edges.proofs.seat.settle.Goals.{then-saturating_sub-ge-LONGEST_IDLE, else-saturating_sub-ge-LONGEST_IDLE}

-- it was tried once more, or not
again : (c : goal.After-leave_if_due) → c.if-saturating_sub-ge-LONGEST_IDLE.seat ≡ tried_again c.args.seat.now c.if-saturating_sub-ge-LONGEST_IDLE.seat
again c =
    let before = c.args.seat.now in
    elim c.if-saturating_sub-ge-LONGEST_IDLE.branch [
      | then-saturating_sub-ge-LONGEST_IDLE w ↦ w.seat-is ∙ ap (tried_again before) (sym w.seat-is)
      | else-saturating_sub-ge-LONGEST_IDLE w ↦ w.seat-is ∙ ap (tried_again before) (sym w.seat-is)
    ]

pub returns-clause-settled : goal.returns-clause-settled
returns-clause-settled c =
    let before = c.args.seat.now in
    let there : is_free before ≡ false = ap not c.is_none.ensures ∙ ap (λ b. not (not b)) c.if-is_none.false in
    settled c.args.now c.args.turns.now c.go_on.new.turns before c.if-saturating_sub-ge-LONGEST_IDLE.seat c.go_on.new.seat c.leave_if_due.new.seat c.args.room.now c.go_on.new.room c.leave_if_due.new.room there (again c) c.go_on.ensures.went c.leave_if_due.ensures.gone

pub returns-clause-left : goal.returns-clause-left
returns-clause-left c = left_behind c.args.now c.args.turns.now c.go_on.new.turns c.args.seat.now c.if-saturating_sub-ge-LONGEST_IDLE.seat c.go_on.new.seat c.args.room.now c.go_on.new.room c.leave_if_due.result (again c) c.go_on.ensures.went c.go_on.ensures.ended c.leave_if_due.ensures.was
