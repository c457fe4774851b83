-- Where the first `::` of a text stands.
use Rattle.std.proofs.Common.{◌≡◌, ℕ, ◌+◌, ◌<◌, ◌≤◌, true, false, cond, List, [], ◌∷◌, ◌++◌, length, take, drop, get_or, Option, None, Some, option_map, refl, ap, sym, ◌∙◌, arith, append_assoc, append-nil}
use Rattle.std.proofs.lemmas.List.{drop_all, drop_more, take_more, drop-drop}
use Rattle.addr_text.specs.Groups.{begins_double, on_left, sides}

-- so many octets in front of the left side
abbrev pub behind : List ℕ → Option (List ℕ × List ℕ) → Option (List ℕ × List ℕ)
behind front o = option_map (λ s. (front ++ s.0, s.1)) o

pub behind_none : (o : Option (List ℕ × List ℕ)) → behind [] o ≡ o
behind_none None = refl
behind_none (Some s) = refl

behind_more : (front : List ℕ) (b : ℕ) (o : Option (List ℕ × List ℕ)) → behind front (option_map (on_left b) o) ≡ behind (front ++ b ∷ []) o
behind_more front b None = refl
behind_more front b (Some s) = ap (λ (l : List ℕ). Some (l, s.1)) (sym (append_assoc front (b ∷ []) s.0))

-- no `::` begins here
pub sides_on : (text : List ℕ) (i : ℕ) (all : Option (List ℕ × List ℕ)) → i < length text → begins_double (drop i text) ≡ false → behind (take i text) (sides (drop i text)) ≡ all → behind (take (i + 1) text) (sides (drop (i + 1) text)) ≡ all
sides_on text i all lt missed before =
    let cut : drop i text ≡ get_or text i 0 ∷ drop (i + 1) text = drop_more text i 0 lt in
    let no_here : begins_double (get_or text i 0 ∷ drop (i + 1) text) ≡ false = ap begins_double (sym cut) ∙ missed in
    let step : sides (drop i text) ≡ option_map (on_left (get_or text i 0)) (sides (drop (i + 1) text)) =
    ap sides cut ∙ ap (λ t. cond t (Some ([], drop 1 (drop (i + 1) text))) (option_map (on_left (get_or text i 0)) (sides (drop (i + 1) text)))) no_here in
    let front : take (i + 1) text ≡ take i text ++ get_or text i 0 ∷ [] = take_more text i 0 lt in
    ap (λ (l : List ℕ). behind l (sides (drop (i + 1) text))) front ∙ sym (behind_more (take i text) (get_or text i 0) (sides (drop (i + 1) text))) ∙ sym (ap (behind (take i text)) step) ∙ before

-- it begins here
pub sides_here : (text : List ℕ) (i : ℕ) (all : Option (List ℕ × List ℕ)) → i < length text → begins_double (drop i text) ≡ true → behind (take i text) (sides (drop i text)) ≡ all → Some (take i text, drop (i + 2) text) ≡ all
sides_here text i all lt hit before =
    let cut : drop i text ≡ get_or text i 0 ∷ drop (i + 1) text = drop_more text i 0 lt in
    let yes_here : begins_double (get_or text i 0 ∷ drop (i + 1) text) ≡ true = ap begins_double (sym cut) ∙ hit in
    let step : sides (drop i text) ≡ Some ([], drop 1 (drop (i + 1) text)) =
    ap sides cut ∙ ap (λ t. cond t (Some ([], drop 1 (drop (i + 1) text))) (option_map (on_left (get_or text i 0)) (sides (drop (i + 1) text)))) yes_here in
    let back : drop 1 (drop (i + 1) text) ≡ drop (i + 2) text = drop-drop 1 (i + 1) text ∙ ap (λ (n : ℕ). drop n text) (omega arith) in
    sym (ap (behind (take i text)) step ∙ ap (λ (l : List ℕ). Some (l, drop 1 (drop (i + 1) text))) (append-nil (take i text)) ∙ ap (λ (l : List ℕ). Some (take i text, l)) back) ∙ before
