-- The exchange that adds an entry keeps the rule.
use Rattle.std.proofs.Common.{◌≡◌, ℕ, zero, suc, ◌+◌, ◌<◌, ◌==◌, ◌⊎◌, Bool, true, false, List, [], ◌∷◌, ◌++◌, length, slice_get, Some, refl, ap, sym, ◌∙◌, subst, arith, inl, inr, ⊎_elim, length-append, None}
use Rattle.std.proofs.lemmas.List.{append-nil}
use Rattle.std.proofs.lemmas.Bool.Decides.{nat_tests}
use mathlib.Core.List.{IsPrefix}
use prog.Atomic.{either}
use Rattle.logbook.specs.Pages.{Cell, cell, keeps, no_nib, step, Moves, Goes}
use Rattle.published_map.specs.Version.{Version, IsVersion}
use Rattle.map_cell.specs.Histories.{IsHistory, MayFollow}
use Rattle.map_cell.specs.Rules.{IsCounted, Adds}
use Rattle.map_cell.proofs.Fronts.{prefix_whole}

abbrev pub shown : List Version → List Version
shown log = []

abbrev pub moved : List Version → List Version → ℕ → Type 0
moved xs ys n = Unit {0}

get_end : (l : List Version) (a b : Version) (n : ℕ) → slice_get (l ++ a ∷ []) n ≡ Some b → (slice_get l n ≡ Some b) ⊎ ((n ≡ length l) × (a ≡ b))
get_end [] a b zero e = inr (refl, cc e)
get_end [] a b (suc n) e = absurd (cc e)
get_end (x ∷ xs) a b zero e = inl e
get_end (x ∷ xs) a b (suc n) e = ⊎_elim (λ t. inl t) (λ t. inr (omega arith, t.1)) (get_end xs a b n e)

pub history_more : (h : List Version) (y : Version) → IsHistory h → MayFollow h y → IsHistory (h ++ y ∷ [])
history_more h y old may = record {
  at = λ n z e.
      ⊎_elim (λ (t : slice_get h n ≡ Some z). old.at n z t)
      (λ (t : (n ≡ length h) × (y ≡ z)). subst (λ (q : Version). IsVersion q × (q.serial ≡ n)) t.1 (may.good, may.next ∙ sym t.0))
      (get_end h y z n e);
  one = λ n k v w e f.
      ⊎_elim
      (λ (t : slice_get h n ≡ Some v).
      ⊎_elim (λ (u : slice_get h k ≡ Some w). old.one n k v w t u) (λ (u : (k ≡ length h) × (y ≡ w)). may.same n v t ∙ ap (λ (q : Version). q.plan) u.1) (get_end h y w k f))
      (λ (t : (n ≡ length h) × (y ≡ v)).
      ⊎_elim (λ (u : slice_get h k ≡ Some w). sym (may.same k w u ∙ ap (λ (q : Version). q.plan) t.1)) (λ (u : (k ≡ length h) × (y ≡ w)). ap (λ (q : Version). q.plan) (sym t.1 ∙ u.1)) (get_end h y w k f))
      (get_end h y v n e);
}

pub adds_goes : (log v : List Version) (e : Version) (old : ℕ) → length v ≡ old → MayFollow v e → IsHistory log → IsPrefix v log
    → (b : Bool) → (length log == old) ≡ b
    → Goes IsCounted shown moved 0 (v, (no_nib, None)) (λ n. either (n == old) (old + 1) n) (Adds (step 0 old (old + 1) e) (v, (no_nib, None))) ((length log, true) ∷ (0, true) ∷ []) log
adds_goes log v e old len may legal pre true is =
    let here : length log ≡ old = grind (arith, nat_tests) in
    let same : v ≡ log = prefix_whole v log pre (omega arith) in
    let legal' : IsHistory (log ++ e ∷ []) = history_more log e legal (subst (λ (l : List Version). MayFollow l e) same may) in
    let n : either (length log == old) (old + 1) (length log) ≡ length (log ++ e ∷ []) = rw is (omega (arith, length-append log (e ∷ []))) in (
      keeps,
      e ∷ [],
      None,
      tt,
      record { words = ap (λ (k : ℕ). (k, true) ∷ (0, true) ∷ []) n; history = legal' },
      inl (refl, refl),
      rw is (ap (λ w. w ++ e ∷ []) (sym same), legal'),
    )
adds_goes log v e old len may legal pre false is =
    let all : log ++ [] ≡ log = append-nil log in
    let legal' : IsHistory (log ++ []) = subst IsHistory (sym all) legal in
    let n : either (length log == old) (old + 1) (length log) ≡ length (log ++ []) = rw is (ap length (sym all)) in (
      keeps,
      [],
      None,
      tt,
      record { words = ap (λ (k : ℕ). (k, true) ∷ (0, true) ∷ []) n; history = legal' },
      inl (refl, refl),
      rw is (ap length all, legal'),
    )

-- whatever the book is, the exchange adds the entry to all that was seen, or finds that the history is longer
pub adds_moves : (v : List Version) (e : Version) (old : ℕ) → length v ≡ old → MayFollow v e
    → Moves IsCounted shown moved 0 (v, (no_nib, None)) (λ n. either (n == old) (old + 1) n) (Adds (step 0 old (old + 1) e) (v, (no_nib, None)))
adds_moves v e old len may cs log kept pre away =
    let P : List Cell → Type 0 = λ c. (0 < length c) × ((cell c 0).1 ≡ true) × Goes IsCounted shown moved 0 (v, (no_nib, None)) (λ n. either (n == old) (old + 1) n) (Adds (step 0 old (old + 1) e) (v, (no_nib, None))) c log in
    subst P (sym kept.words) (omega arith, refl, adds_goes log v e old len may kept.history pre (length log == old) refl)
