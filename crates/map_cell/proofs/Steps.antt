-- Each step of the cell keeps its rule.
use Rattle.std.proofs.Common.{◌≡◌, ◌≢◌, ℕ, true, List, [], ◌∷◌, ◌++◌, set, refl, sym, subst, ⊎_elim}
use mathlib.Core.Option.{some, some-ne-none}
use lib.ListN.{get_elem?}
use Rattle.atomic_table.proofs.Lists.{at_set, at_snoc}
use Rattle.map_cell.specs.declared.tag.Tag.{Tag}
use Rattle.map_cell.specs.Histories.{IsSealed}
use Rattle.map_cell.specs.Rules.{CopyState}
use Rattle.map_cell.specs.Tags.{tag_of, unknown, OneBook}
use Rattle.map_cell.specs.Cell.{Holds}

put : (b : Tag) (views : List Tag) (seat : ℕ) (w : Tag) → OneBook b views → (w.known ≡ true → w ≡ b) → OneBook b (set views seat w)
put b views seat w h ok j u e =
    ⊎_elim (λ (t : (j ≡ seat) × (w ≡ u)). subst (λ (z : Tag). z.known ≡ true → z ≡ b) t.1 ok) (λ (t : (j ≢ seat) × (get_elem? views j ≡ some u)). h j u t.1) (at_set views seat j w u e)

more : (b : Tag) (views : List Tag) (w : Tag) → OneBook b views → (w.known ≡ true → w ≡ b) → OneBook b (views ++ w ∷ [])
more b views w h ok j u e = ⊎_elim (λ (t : get_elem? views j ≡ some u). h j u t) (λ (t : w ≡ u). subst (λ (z : Tag). z.known ≡ true → z ≡ b) t ok) (at_snoc views w u j e)

pub admits : (x : CopyState) (views : List Tag) → Holds x views → Holds x (views ++ unknown ∷ [])
admits x views h = record { book = more (tag_of x.book) views unknown h.book (λ e. absurd cc); sealed = h.sealed }

pub looks : (x : CopyState) (seat : ℕ) (v : Tag) (views : List Tag) → Holds x views → get_elem? views seat ≡ some v
    → (w : Tag) × Holds x (set views seat w) × ((v.known ≡ true → v ≡ tag_of x.book) × IsSealed x.history x.version × (w ≡ v))
looks x seat v views h at = (v, record { book = put (tag_of x.book) views seat v h.book (h.book seat v at); sealed = h.sealed }, (h.book seat v at, h.sealed, refl))

pub names : (x y : CopyState) (seat : ℕ) (v : Tag) → tag_of y.book ≡ tag_of x.book → IsSealed y.history y.version → (views : List Tag) → Holds x views → get_elem? views seat ≡ some v
    → (w : Tag) × Holds y (set views seat w) × (w ≡ tag_of y.book)
names x y seat v same s views h at =
    let b = tag_of y.book in
    (b, record { book = subst (λ (c : Tag). OneBook c (set views seat b)) (sym same) (put (tag_of x.book) views seat b h.book (λ _. same)); sealed = s }, refl)

pub forks : (x : CopyState) (seat : ℕ) (v : Tag) (views : List Tag) → Holds x views → get_elem? views seat ≡ some v → Holds x (set views seat v ++ v ∷ [])
forks x seat v views h at = record { book = more (tag_of x.book) (set views seat v) v (put (tag_of x.book) views seat v h.book (h.book seat v at)) (h.book seat v at); sealed = h.sealed }

pub adopts : (x : CopyState) (seat : ℕ) (v : Tag) (other : ℕ) (w : Tag) (views : List Tag) → Holds x views → get_elem? views seat ≡ some v → ¬ (other ≡ seat) → get_elem? (set views seat w) other ≡ some w → Holds x (set (set views seat w) other unknown)
adopts x seat v other w views h at apart there =
    let b = tag_of x.book in
    let ok : w.known ≡ true → w ≡ b = ⊎_elim (λ (t : (other ≡ seat) × (w ≡ w)). absurd (apart t.0)) (λ (t : (other ≢ seat) × (get_elem? views other ≡ some w)). h.book other w t.1) (at_set views seat other w w there) in
    record { book = put b (set views seat w) other unknown (put b views seat w h.book ok) (λ e. absurd cc); sealed = h.sealed }
