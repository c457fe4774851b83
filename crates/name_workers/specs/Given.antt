-- Inside this crate alone: the notes of a turn so far.
use Rattle.std.specs.Prelude.{◌≡◌, ℕ, ◌<◌, List, All, ◌++◌, Option, map}
use Rattle.outside.specs.Faults.{BothTell}
use Rattle.outside.specs.Notes.{NotesTold}

-- notes after those with these serials were given, and no None yet
abbrev pub giving_some : List ℕ → NotesTold → NotesTold
giving_some serials n = record n { given = n.given ++ map (λ s. record { number = s; place = n.nones }) serials }

-- some were given, of serials below that
pub record AreGivenSoFar (before after : Option NotesTold) (below : ℕ) : Type 0 where
  pub serials : List ℕ
  pub given : BothTell before after (λ b c. c ≡ giving_some serials b)
  pub noted : All (λ s. s < below) serials
