-- How a loop over length octets finds the place where another name begins.
use Rattle.std.proofs.Common.{◌≡◌, ℕ, zero, suc, ◌+◌, ◌<◌, ◌≤◌, Bool, true, false, ◌||◌, List, [], ◌∷◌, ◌++◌, length, map, get_or, drop, refl, sym, ap, ◌∙◌, arith}
use Rattle.std.proofs.lemmas.List.{drop-drop, drop_all, drop_more}
use Rattle.std.specs.List.{list_any}
use Rattle.name_text.specs.Wire.{tails, wire}
use Rattle.name_text.specs.Names.{is_same, is_under, rests, rests_after}

rests-skip : (k : ℕ) (name : List ℕ) → rests_after k name ≡ rests (drop k name)
rests-skip zero name = refl
rests-skip (suc k) [] = refl
rests-skip (suc k) (_ ∷ name) = rests-skip k name

-- from a label on there is this label, and what stands from the next label on
rests_here : (name : List ℕ) (at : ℕ) → at < length name → rests (drop at name) ≡ drop at name ∷ rests (drop (at + (1 + get_or name at 0)) name)
rests_here name at lt =
    let e : drop at name ≡ get_or name at 0 ∷ drop (at + 1) name = drop_more name at 0 lt in
    let there : drop (get_or name at 0) (drop (at + 1) name) ≡ drop (at + (1 + get_or name at 0)) name = drop-drop (get_or name at 0) (at + 1) name ∙ ap (λ (n : ℕ). drop n name) (omega arith) in
    ap rests e
    ∙ ap (λ (ls : List (List ℕ)). (get_or name at 0 ∷ drop (at + 1) name) ∷ ls) (rests-skip (get_or name at 0) (drop (at + 1) name) ∙ ap rests there)
    ∙ ap (λ (l : List ℕ). l ∷ rests (drop (at + (1 + get_or name at 0)) name)) (sym e)

here : (name apex : List ℕ) (at : ℕ) → at < length name → is_under (drop at name) apex ≡ (is_same (drop at name) apex || is_under (drop (at + (1 + get_or name at 0)) name) apex)
unfolding is_under
here name apex at lt = ap (list_any (λ rest. is_same rest apex)) (rests_here name at lt)

pub found : (name apex : List ℕ) (at : ℕ) (all : Bool) → at < length name → is_same (drop at name) apex ≡ true → is_under (drop at name) apex ≡ all → true ≡ all
found name apex at all lt same so_far = sym (here name apex at lt ∙ ap (λ (b : Bool). b || is_under (drop (at + (1 + get_or name at 0)) name) apex) same) ∙ so_far

pub goes_on : (name apex : List ℕ) (at : ℕ) (all : Bool) → at < length name → is_same (drop at name) apex ≡ false → is_under (drop at name) apex ≡ all → is_under (drop (at + (1 + get_or name at 0)) name) apex ≡ all
goes_on name apex at all lt other so_far = sym (here name apex at lt ∙ ap (λ (b : Bool). b || is_under (drop (at + (1 + get_or name at 0)) name) apex) other) ∙ so_far

pub past_all : (name apex : List ℕ) (at : ℕ) (all : Bool) → length name ≤ at → is_under (drop at name) apex ≡ all → false ≡ all
unfolding is_under
past_all name apex at all le so_far = sym (ap (λ (l : List ℕ). is_under l apex) (drop_all at name le)) ∙ so_far

-- behind a label's octets the next label stands
rests-label : (label octets : List ℕ) → rests_after (length label) (label ++ octets) ≡ rests octets
rests-label [] octets = refl
rests-label (b ∷ label) octets = rests-label label octets

-- what stands from each label on is spelled of the labels from it on
rests-wire : (labels : List (List ℕ)) → rests (wire labels) ≡ map wire (tails labels)
rests-wire [] = refl
rests-wire (label ∷ labels) = ap (λ (ls : List (List ℕ)). wire (label ∷ labels) ∷ ls) (rests-label label (wire labels) ∙ rests-wire labels)

any-map : (test : List ℕ → Bool) (ts : List (List (List ℕ))) → list_any test (map wire ts) ≡ list_any (λ t. test (wire t)) ts
any-map test [] = refl
any-map test (t ∷ ts) = ap (λ (b : Bool). test (wire t) || b) (any-map test ts)

pub by_labels : (name apex : List ℕ) (labels : List (List ℕ)) → name ≡ wire labels → is_under name apex ≡ list_any (λ rest. is_same (wire rest) apex) (tails labels)
unfolding is_under
by_labels name apex labels is = ap (λ (l : List ℕ). list_any (λ rest. is_same rest apex) (rests l)) is ∙ ap (list_any (λ rest. is_same rest apex)) (rests-wire labels) ∙ any-map (λ rest. is_same rest apex) (tails labels)
