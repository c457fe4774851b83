use Rattle.std.proofs.Common.{◌≡◌, ◌+◌, ap, length, sym, subst, arith}
use Rattle.map_cell.specs.Rows.{AreFirst}
use Rattle.map_cell.proofs.Given.{first_more, length_more}
use Rattle.map_cell.proofs.notes.RowNotesNotesNote.next.Goals as goal

pub invariant_of-self-2 : goal.invariant_of-self-2
invariant_of-self-2 g c =
    let i = c.self.invariant in (
      omega (arith, c.in-Some.ensures.within, ap (λ s. s.given) c.self.view_is),
      subst (λ t. length t.given ≡ c.self.inside.next + 1) (sym c.note-2.ensures) (length_more _ _ i.1),
      subst (λ t. AreFirst t) (sym c.note-2.ensures) (first_more _ _ i.1 i.2),
    )
