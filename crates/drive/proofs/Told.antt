-- Of the first map the row of notes tells behind its note.
use Rattle.std.proofs.Common.{◌≡◌, ◌∙◌, ℕ, ◌+◌, ◌<◌, List, [], length, ap, subst, arith, Result, Ok, Err}
use Rattle.std.specs.Prelude.{IfOk}
use Rattle.published_map.specs.Version.{Version}
use Rattle.mapper.specs.Notes.{AreTold}

pub first_told : (front history : List Version) (none told : ℕ) → front ≡ history → length history ≡ 1 → (length front ≡ 1 → AreTold [] none → AreTold front told) → AreTold history told
first_told front history none told same one tells = subst (λ (h : List Version). AreTold h told) same (tells (ap length same ∙ one) (λ serial within few. absurd (omega (arith, within))))

-- what is so of an answer that came is so of it in weaker words
pub ok_weaker : {T E : Type 0} (P Q : T → Type 0) (r : Result T E) → ((t : T) → P t → Q t) → IfOk r P → IfOk r Q
ok_weaker P Q (Ok t) f h = f t h
ok_weaker P Q (Err e) f h = h
