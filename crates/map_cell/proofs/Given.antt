-- A reader that gave one note more gave those of the first versions.
use Rattle.std.proofs.Common.{◌≡◌, ℕ, zero, suc, ◌+◌, [], ◌∷◌, ◌++◌, Some, length, sym, ap, ◌∙◌, arith, length-append}
use Rattle.std.specs.List.{range_with_len}
use Rattle.std.proofs.lemmas.List.{map-append}
use Rattle.outside.specs.Notes.{NotesTold, noting}
use Rattle.map_cell.specs.Rows.{AreFirst}

range_more : (a k : ℕ) → range_with_len a (k + 1) ≡ range_with_len a k ++ (a + k) ∷ []
range_more a zero =
    let same : a ≡ a + zero = omega arith in ap (λ x. x ∷ []) same
range_more a (suc k) =
    let one : suc k + 1 ≡ suc (k + 1) = omega arith in
    let next : (a + 1) + k ≡ a + suc k = omega arith in
    ap (range_with_len a) one ∙ ap (λ l. a ∷ l) (range_more (a + 1) k ∙ ap (λ x. range_with_len (a + 1) k ++ x ∷ []) next)

pub length_more : (told : NotesTold) (count : ℕ) → length told.given ≡ count → length (noting (Some count) told).given ≡ count + 1
length_more told count is =
    let more = length-append told.given (record { number = count; place = told.nones } ∷ []) in omega (arith, more, is)

pub first_more : (told : NotesTold) (count : ℕ) → length told.given ≡ count → AreFirst told → AreFirst (noting (Some count) told)
first_more told count is first =
    let here : 0 + length told.given ≡ count = omega (arith, is) in
    let size : length told.given + 1 ≡ length (noting (Some count) told).given = omega (arith, is, length_more told count is) in
    map-append (λ g. g.number) told.given _ ∙ (ap (λ l. l ++ count ∷ []) first ∙ (sym (range_more 0 (length told.given) ∙ ap (λ x. range_with_len 0 (length told.given) ++ x ∷ []) here) ∙ ap (range_with_len 0) size))
