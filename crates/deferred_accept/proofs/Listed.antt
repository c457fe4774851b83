-- A list of groups beside flags that tell who is on it.
use Rattle.std.proofs.Common.{◌≡◌, ℕ, ◌+◌, ◌<◌, ◌≤◌, ◌==◌, Bool, true, false, if◌then◌else◌, List, [], ◌∷◌, ◌++◌, length, drop, All, slice_set, refl, sym, ap, ◌∙◌, subst, inl, inr, arith}
use Rattle.std.specs.List.{sum_by}
use Rattle.std.proofs.lemmas.Bool.{cases_Bool, cases_eq, eq-eqb, ne_eqb}
use Rattle.std.proofs.lemmas.Grind.{get_or-set_at}
use Rattle.std.proofs.lemmas.List.{get_or-set_other, length-set}
use Rattle.std.proofs.lemmas.List.Elements.{All-head, All-push, All-tail}
use Rattle.std.proofs.lemmas.List.Sums.{sum_by-cons, sum_by_push}
use Rattle.map_model.specs.declared.instance.GroupId.{GroupId}
use Rattle.deferred_accept.specs.Work.{HoldsEachOnce, is_on, times}

-- 1 for what is so
abbrev one_if : Bool → ℕ
one_if b = if b then 1 else 0

-- one group more is named once more, and the others as often as before
pub times_more : (groups : List GroupId) (g : GroupId) (h : ℕ) → times (groups ++ g ∷ []) h ≡ times groups h + (if g.0 == h then 1 else 0)
times_more groups g h = sum_by_push (λ (x : GroupId). if x.0 == h then 1 else 0) groups g

-- one group more at the head is named once more, and the others as often as before
times_first : (groups : List GroupId) (g : GroupId) (h : ℕ) → times (g ∷ groups) h ≡ (if g.0 == h then 1 else 0) + times groups h
times_first groups g h = sum_by-cons (λ (x : GroupId). if x.0 == h then 1 else 0) g groups

-- the first group of a list is there
pub first_there : (groups rest : List GroupId) (on : List Bool) (g : GroupId) → groups ≡ g ∷ rest → HoldsEachOnce groups on → g.0 < length on
first_there groups rest on g is listed = All-head (λ (x : GroupId). x.0 < length on) g rest (subst (λ (gs : List GroupId). All (λ x. x.0 < length on) gs) is listed.there)

-- and on, by what is told of each group
pub first_on : (groups rest : List GroupId) (on : List Bool) (g : GroupId) → groups ≡ g ∷ rest → HoldsEachOnce groups on → is_on on g.0 ≡ true
first_on groups rest on g is listed = elim (cases_Bool (is_on on g.0)) [
  | inl e ↦ e
  | inr off ↦
      let none : times (g ∷ rest) g.0 ≡ 0 = ap (λ gs. times gs g.0) (sym is) ∙ listed.once g.0 (first_there groups rest on g is listed) ∙ ap one_if off in
      let this : (if g.0 == g.0 then 1 else 0) ≡ 1 = ap one_if (eq-eqb g.0 g.0 refl) in
      absurd (omega (arith, times_first rest g g.0, none, this))
]

-- that group is taken off
pub listed_less : (groups rest : List GroupId) (on : List Bool) (g : GroupId) → groups ≡ g ∷ rest → HoldsEachOnce groups on → HoldsEachOnce rest (slice_set on g.0 false)
listed_less groups rest on g is listed =
    let l = first_there groups rest on g is listed in
    let same : length (slice_set on g.0 false) ≡ length on = length-set on g.0 false in
    let all : All (λ (x : GroupId). x.0 < length on) (g ∷ rest) = subst (λ (gs : List GroupId). All (λ x. x.0 < length on) gs) is listed.there in
    record {
      there = subst (λ n. All (λ (x : GroupId). x.0 < n) rest) (sym same) (All-tail (λ (x : GroupId). x.0 < length on) g rest all);
      once = λ h lh.
          let before : times (g ∷ rest) h ≡ (if is_on on h then 1 else 0) = ap (λ gs. times gs h) (sym is) ∙ listed.once h (omega (arith, same)) in
          elim (cases_eq h g.0) [
            | inl e ↦
                let was : (if is_on on h then 1 else 0) ≡ 1 = ap one_if (ap (is_on on) e ∙ first_on groups rest on g is listed) in
                let now : (if is_on (slice_set on g.0 false) h then 1 else 0) ≡ 0 = ap one_if (get_or-set_at on g.0 h false false e l) in
                let this : (if g.0 == h then 1 else 0) ≡ 1 = ap one_if (eq-eqb g.0 h (sym e)) in
                omega (arith, times_first rest g h, before, was, now, this)
            | inr ne ↦
                let now : (if is_on (slice_set on g.0 false) h then 1 else 0) ≡ (if is_on on h then 1 else 0) = ap one_if (get_or-set_other on g.0 h false false ne) in
                let this : (if g.0 == h then 1 else 0) ≡ 0 = ap one_if (ne_eqb g.0 h (λ e. ne (sym e))) in
                omega (arith, times_first rest g h, before, now, this)
          ];
    }

-- nothing is on where the list is empty
pub listed_none : (groups : List GroupId) (on : List Bool) → groups ≡ [] → HoldsEachOnce groups on → (h : ℕ) → h < length on → is_on on h ≡ false
listed_none groups on is listed h l = elim (cases_Bool (is_on on h)) [
  | inr e ↦ e
  | inl e ↦
      let once : times groups h ≡ 1 = listed.once h l ∙ ap one_if e in
      let none : times groups h ≡ 0 = ap (λ gs. times gs h) is in
      absurd (omega arith)
]

-- where nothing is left of a list and nothing was taken off, it was empty
pub none_left : (groups rest : List GroupId) → groups ≡ rest → rest ≡ drop 1 groups → groups ≡ []
none_left [] rest e f = refl
none_left (g ∷ groups) rest e f = let one_less : length (g ∷ groups) ≡ length groups = ap length (e ∙ f) in absurd (omega arith)

-- a group past all that a list names is not named
times_none : (groups : List GroupId) (n h : ℕ) → All (λ x. x.0 < n) groups → n ≤ h → times groups h ≡ 0
times_none [] n h there le = refl
times_none (x ∷ xs) n h there le =
    let here : (if x.0 == h then 1 else 0) ≡ 0 = ap one_if (ne_eqb x.0 h (λ e. omega (arith, All-head (λ (y : GroupId). y.0 < n) x xs there))) in
    omega (arith, sum_by-cons (λ (y : GroupId). if y.0 == h then 1 else 0) x xs, here, times_none xs n h (All-tail (λ (y : GroupId). y.0 < n) x xs there) le)

-- the first so many groups, and one more
pub first_more : (groups : List GroupId) (g : ℕ) → All (λ x. x.0 < g) groups → ((h : ℕ) → h < g → times groups h ≡ 1) → (h : ℕ) → h < g + 1 → times (groups ++ record { 0 = g } ∷ []) h ≡ 1
first_more groups g there once h l = elim (cases_eq h g) [
  | inl e ↦
      let this : (if g == h then 1 else 0) ≡ 1 = ap one_if (eq-eqb g h (sym e)) in
      omega (arith, times_more groups (record { 0 = g }) h, times_none groups g h there (omega arith), this)
  | inr ne ↦
      let this : (if g == h then 1 else 0) ≡ 0 = ap one_if (ne_eqb g h (λ e. ne (sym e))) in
      omega (arith, times_more groups (record { 0 = g }) h, once h (omega arith), this)
]

pub there_more : (groups : List GroupId) (g : ℕ) → All (λ x. x.0 < g) groups → All (λ x. x.0 < g + 1) (groups ++ record { 0 = g } ∷ [])
there_more groups g there = All-push (λ (x : GroupId). x.0 < g + 1) groups (record { 0 = g }) (λ i d l. omega (arith, there i d l)) (omega arith)

-- how many groups are on a list of work
abbrev pub how_many : List Bool → ℕ
how_many work = sum_by (λ (b : Bool). if b then 1 else 0) work
