-- The notes that some turns were given, by their numbers alone.
use Rattle.std.proofs.Common.{◌≡◌, ℕ, List, [], ◌∷◌, ◌++◌, fold, map, refl, sym, ap, ◌∙◌, append_assoc, append-nil}
use Rattle.std.proofs.lemmas.List.{map-append}
use Rattle.std.specs.List.{flat_map}
use Rattle.outside.specs.Notes.{Given, NotesTold}
use Rattle.lane_model.specs.Turns.{Turn, notes_turn}

-- notes with these numbers, each behind so many None answers
abbrev placed : ℕ → List ℕ → List Given
placed nones serials = map (λ s. record { number = s; place = nones }) serials

numbers_placed : (nones : ℕ) (serials : List ℕ) → map (λ (g : Given). g.number) (placed nones serials) ≡ serials
numbers_placed nones [] = refl
numbers_placed nones (s ∷ serials) = ap (λ l. s ∷ l) (numbers_placed nones serials)

pub numbers_folded : (log : List Turn) (n : NotesTold) → map (λ g. g.number) (fold notes_turn n log).given ≡ map (λ g. g.number) n.given ++ flat_map (λ t. t.notes) log
numbers_folded [] n = sym (append-nil (map (λ g. g.number) n.given))
numbers_folded (t ∷ log) n =
    let here = map-append (λ (g : Given). g.number) n.given (placed n.nones t.notes) ∙ ap (λ l. map (λ (g : Given). g.number) n.given ++ l) (numbers_placed n.nones t.notes) in
    numbers_folded log (notes_turn n t) ∙ (ap (λ l. l ++ flat_map (λ t. t.notes) log) here ∙ append_assoc (map (λ g. g.number) n.given) t.notes (flat_map (λ t. t.notes) log))
