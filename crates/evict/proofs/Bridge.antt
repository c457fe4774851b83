-- From lines to units: nothing worse under a node.
use Rattle.std.proofs.Common.{◌≡◌, ℕ, ◌+◌, ◌<◌, ◌==◌, Bool, true, false, not, ◌&&◌, if◌then◌else◌, List, [], ◌∷◌, All, refl, sym, ap, ◌∙◌, arith}
use Rattle.std.proofs.lemmas.Bool.{ne_eqb}
use Rattle.std.proofs.lemmas.List.Sums.{sum_by-cons}
use Rattle.std.proofs.lemmas.List.Elements.{All-head, All-tail}
use Rattle.map_model.specs.declared.instance.Key.{Key}
use Rattle.map_model.specs.declared.lines.MapLine.{MapLine}
use Rattle.map_model.specs.Market.{Market}
use Rattle.map_model.specs.Allocation.{counts_at, key_le, line_key, none_worse, units_of}
use Rattle.map_model.specs.Holding.{under_worse}

-- no line is worse exactly where no units are, since each line has some
pub none_worse-units_of : (m : Market) (n : ℕ) (key : Key) (lines : List MapLine) → All (λ l. 0 < l.amount) lines → none_worse m lines n key ≡ (units_of (under_worse m n key) lines == 0)
none_worse-units_of m n key [] some = refl
none_worse-units_of m n key (l ∷ ls) some =
    let f : MapLine → ℕ = λ x. if under_worse m n key x.group.0 x.place then x.amount else 0 in
    one (counts_at m n l.group.0 l.place) (key_le (line_key m l) key) l.amount (units_of (under_worse m n key) ls) (none_worse m ls n key) (All-head (λ l. 0 < l.amount) l ls some) (none_worse-units_of m n key ls (All-tail (λ l. 0 < l.amount) l ls some))
    ∙ ap (λ s. s == 0) (sym (sum_by-cons f l ls))
  where
    one : (u k : Bool) (a rest : ℕ) (b : Bool) → 0 < a → b ≡ (rest == 0) → ((if u then k else true) && b) ≡ (((if u && not k then a else 0) + rest) == 0)
    one true true a rest b some is = is ∙ ap (λ n. n == 0) (let e : rest ≡ 0 + rest = omega arith in e)
    one true false a rest b some is = sym (ne_eqb (a + rest) 0 (λ e. absurd (omega arith)))
    one false k a rest b some is = is ∙ ap (λ n. n == 0) (let e : rest ≡ 0 + rest = omega arith in e)
