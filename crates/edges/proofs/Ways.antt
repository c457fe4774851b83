-- Which connections give way, and when none does.
use Rattle.std.proofs.Common.{◌≡◌, ℕ, List, Option, Some, None, false, ◌∙◌, inl, inr}
use Rattle.std.specs.Prelude.{is_some, position, IfNone}
use Rattle.std.proofs.lemmas.Option.{none-some}
use Rattle.edges.specs.Places.{GivesWay, HasPlace, is_free}
use Rattle.edges.specs.declared.seat.Seat.{Seat}

-- no place is free, and none gives way
pub no_place : (now : ℕ) (seats : List Seat) (free idle : Option ℕ) → free ≡ position is_free seats → is_some free ≡ false → IfNone idle ((i : ℕ) → GivesWay now seats i → ⊥) → is_some idle ≡ false → HasPlace now seats → ⊥
no_place now seats (Some i) idle at full none still place = absurd (cc full)
no_place now seats None (Some i) at full none still place = absurd (cc still)
no_place now seats None None at full none still (inl (i, is)) = none-some i (at ∙ is)
no_place now seats None None at full none still (inr (i, way)) = none i way
