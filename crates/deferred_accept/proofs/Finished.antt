-- An ended state gives a good map.
use Rattle.std.proofs.Common.{◌≡◌, ℕ, zero, suc, ◌+◌, ◌-◌, ◌<◌, ◌≤◌, ◌==◌, Bool, true, false, ◌&&◌, nat_le, nat_lt, if◌then◌else◌, List, [], ◌∷◌, ◌++◌, length, append_assoc, Option, None, Some, All, slice_index, refl, sym, ap, ◌∙◌, subst, inl, inr, arith}
use Rattle.std.specs.List.{cons_option}
use Rattle.std.proofs.lemmas.List.Elements.{All-head, All-tail}
use Rattle.std.proofs.lemmas.Bool.{cases_Bool, cases_lt, eq-eqb, eqb-true, ltb-true, leb-false}
use Rattle.std.proofs.lemmas.List.Sums.{sum_by-cons}
use Rattle.map_model.specs.declared.lines.MapLine.{MapLine}
use Rattle.map_model.specs.declared.lines.NameLine.{NameLine}
use Rattle.map_model.specs.Market.{Market, choices_of, demand_of}
use Rattle.map_model.specs.Allocation.{IsGood, IsOffer, amount_at, is_wanted, name_of, placed_through, names_of, placed}
use Rattle.map_model.specs.Progress.{IsEnded}
use Rattle.map_model.proofs.MapForm.{offers-AreLines}
use Rattle.map_model.proofs.Units.{placed_through-below, placed_through-split}
use Rattle.stable_check.specs.Due.{due}
use Rattle.stable_check.proofs.Names.{due_done, due_step}
use Rattle.evict.specs.Standing.{IsReady, Standing}

-- where a group holds nothing at places after one, all its units stand up to there
pub placed-le-through : (m : Market) (lines : List MapLine) (g k : ℕ) → All (λ l. IsOffer m l.group.0 l.place) lines → ((j : ℕ) → IsOffer m g j → k < j → amount_at lines g j ≡ 0) → placed lines g ≤ placed_through lines g k
placed-le-through m [] g k offers none = omega arith
placed-le-through m (l ∷ ls) g k offers none =
    omega (
      arith,
      sum_by-cons (λ (x : MapLine). if x.group.0 == g then x.amount else 0) l ls,
      sum_by-cons (λ (x : MapLine). if (x.group.0 == g) && nat_le x.place k then x.amount else 0) l ls,
      here (l.group.0 == g) (nat_le l.place k) refl refl,
      placed-le-through m ls g k (All-tail (λ (x : MapLine). IsOffer m x.group.0 x.place) l ls offers) (λ j o past. omega (arith, more j, none j o past)),
    )
  where
    more : (j : ℕ) → amount_at (l ∷ ls) g j ≡ (if (l.group.0 == g) && (l.place == j) then l.amount else 0) + amount_at ls g j
    more j = sum_by-cons (λ (x : MapLine). if (x.group.0 == g) && (x.place == j) then x.amount else 0) l ls

    here : (of_group up_to : Bool) → (l.group.0 == g) ≡ of_group → nat_le l.place k ≡ up_to → (if of_group then l.amount else 0) ≤ (if of_group && up_to then l.amount else 0)
    here false up_to eg ek = omega arith
    here true true eg ek = omega arith
    here true false eg ek =
        let same : l.group.0 ≡ g = eqb-true l.group.0 g eg in
        let o : IsOffer m g l.place = subst (λ x. IsOffer m x l.place) same (All-head (λ (x : MapLine). IsOffer m x.group.0 x.place) l ls offers) in
        let this : (if (l.group.0 == g) && (l.place == l.place) then l.amount else 0) ≡ l.amount = rw (eg, eq-eqb l.place l.place refl) refl in
        omega (arith, more l.place, none l.place o (leb-false l.place k ek), this)

-- the lines of an ended state with their names are a good map
pub finished : (m : Market) (state : Standing) (names : List NameLine) → IsReady m state → IsEnded m state.pointers state.free → names ≡ names_of m state.lines → IsGood m state.lines names
finished m state names ready ended named =
    let r = ready.resumable in
    record { form = r.form; feasible = record { demands = λ g l. omega (arith, r.totals g l); capacities = r.capacities; limits = r.limits }; stable = λ g k o w. r.refused g k o (before g k o (ltb-true _ _ w)); named = named }
  where
    before : (g k : ℕ) → IsOffer m g k → placed_through state.lines g k < demand_of m g → k < slice_index state.pointers g
    before g k o wanted = elim (cases_lt k (slice_index state.pointers g)) [
      | inl l ↦ l
      | inr past ↦
          let r = ready.resumable in
          let none : slice_index state.free g ≡ 0 = ended g o.group (omega (arith, o.place)) in
          let all = placed-le-through m state.lines g k (offers-AreLines m state.lines r.form) (λ j oj lj. r.none_past g j oj (omega arith)) in
          absurd (omega (arith, r.totals g o.group))
    ]

-- a name that is due comes behind those so far
pub push_turn : (names here next all : List NameLine) (due_now : Option NameLine) (name : NameLine) → names ++ here ≡ all → here ≡ cons_option due_now next → due_now ≡ Some name → (names ++ name ∷ []) ++ next ≡ all
push_turn names here next all due_now name so_far is some = append_assoc names (name ∷ []) next ∙ ap (λ ys. names ++ ys) (sym (is ∙ ap (λ o. cons_option o next) some)) ∙ so_far

-- and where none is due, they stay
pub skip_turn : (names here next all : List NameLine) (due_now : Option NameLine) → names ++ here ≡ all → here ≡ cons_option due_now next → due_now ≡ None → names ++ next ≡ all
skip_turn names here next all due_now so_far is none = ap (λ ys. names ++ ys) (sym (is ∙ ap (λ o. cons_option o next) none)) ∙ so_far

not_less : (a b : ℕ) → b ≤ a → nat_lt a b ≡ false
not_less a b le = elim (cases_Bool (nat_lt a b)) [ inr n ↦ n | inl y ↦ absurd (omega (arith, ltb-true a b y, le)) ]

no_name : (wanted : Bool) (name : Option NameLine) → wanted ≡ false → (if wanted then name else None) ≡ None
no_name wanted name is = rw is refl

-- an offer that is not wanted has no name
unwanted : (m : Market) (lines : List MapLine) (g k : ℕ) → demand_of m g ≤ placed_through lines g k → name_of m lines (record { group = record { 0 = g }; place = k }) ≡ None
unwanted m lines g k met = no_name (is_wanted m lines g k) _ (not_less (placed_through lines g k) (demand_of m g) met)

-- from a place on up to which a group has all that it asks for, no name is due
pub due_met : (m : Market) (lines : List MapLine) (g k : ℕ) → demand_of m g ≤ placed_through lines g k → due m lines g k ≡ []
due_met m lines g k met = go (length (choices_of m g) - k) k (omega arith) met
  where
    go : (n k : ℕ) → length (choices_of m g) ≤ k + n → demand_of m g ≤ placed_through lines g k → due m lines g k ≡ []
    go zero k end met = due_done m lines g k (omega arith)
    go (suc n) k end met = elim (cases_lt k (length (choices_of m g))) [
      | inl within ↦
          due_step m lines g k within
          ∙ ap (λ o. cons_option o (due m lines g (k + 1))) (unwanted m lines g k met)
          ∙ go n (k + 1) (omega arith) (omega (arith, met, placed_through-below lines g k, placed_through-split lines g (k + 1)))
      | inr past ↦ due_done m lines g k past
    ]
