-- The join places as many units of each group as ours; a group that gains is placed whole in ours, and loses at its last place.
use Rattle.std.proofs.Common.{◌≡◌, ℕ, zero, suc, ◌+◌, ◌<◌, ◌≤◌, ◌==◌, true, ◌&&◌, nat_le, nat_lt, List, length, refl, sym, ap, subst, inl, inr, arith}
use Rattle.std.proofs.lemmas.Bool.{and_parts, and_from, cases_lt, cases_order, eq-eqb, eqb-true, leb-true, lt-ltb}
use Rattle.std.proofs.lemmas.Bool.Decides.{nat_tests}
use Rattle.map_model.specs.declared.lines.MapLine.{MapLine}
use Rattle.map_model.specs.Market.{Market, IsMarket, demand_of, pool_of}
use Rattle.map_model.specs.Allocation.{IsOffer, amount_at, placed, placed_through}
use Rattle.map_model.proofs.Units.{none-units, placed_below, placed_through-below, placed_through-split, through-le-placed, units_of-le}
use Rattle.best_laws.specs.Ahead.{IsRightMap}
use Rattle.map_laws.specs.Circles.{IsLastPlace}
use Rattle.map_laws.proofs.Totals.{total, total-le, total-lt, total-next, total-wider, total-within}
use Rattle.map_laws.proofs.Full.{counted, held_by, offer_of, size_of, units_all}
use Rattle.map_laws.proofs.Join.{IsGain, IsLoss, fits, gain_is, gained, joined, joined_is, refused_ours}

-- behind a place up to which the whole demand is placed there is nothing
pub none_behind : (m : Market) (lines : List MapLine) → IsRightMap m lines → (g i k : ℕ) → g < length m.groups → demand_of m g ≤ placed_through lines g i → i < k → amount_at lines g k ≡ 0
none_behind m lines right g i k l whole past = omega (
  arith,
  placed_through-split lines g k,
  through-le-placed lines g k,
  right.feasible.demands g l,
  whole,
  units_of-le (λ h j. (h == g) && nat_le j i) (λ h j. (h == g) && nat_lt j k) (λ h j t.
      let p = and_parts (h == g) (nat_le j i) t in
      and_from (h == g) (nat_lt j k) p.0 (lt-ltb j k (omega (arith, leb-true j i p.1, past)))) lines,
)

-- sums over the first groups, from those of each group
sums_le : (m : Market) (a b : ℕ → ℕ → ℕ) → ((g : ℕ) → g < length m.groups → total (size_of m) (λ h _. h == g) a ≤ total (size_of m) (λ h _. h == g) b) → (n : ℕ) → n ≤ length m.groups → total (size_of m) (λ h _. nat_lt h n) a ≤ total (size_of m) (λ h _. nat_lt h n) b
sums_le m a b each zero l = total-le (size_of m) (λ h _. nat_lt h 0) a b (λ h _ e. absurd (let none : h < 0 = ltb-none h e in omega (arith, none)))
  where
    ltb-none : (h : ℕ) → nat_lt h 0 ≡ true → h < 0
    ltb-none h e = grind (arith, nat_tests)
sums_le m a b each (suc n) l = omega (arith, total-next (size_of m) n a, total-next (size_of m) n b, each n (omega (arith, l)), sums_le m a b each n (omega (arith, l)))

sums_lt : (m : Market) (a b : ℕ → ℕ → ℕ) → ((g : ℕ) → g < length m.groups → total (size_of m) (λ h _. h == g) a ≤ total (size_of m) (λ h _. h == g) b)
    → (g : ℕ) → total (size_of m) (λ h _. h == g) a < total (size_of m) (λ h _. h == g) b → (n : ℕ) → n ≤ length m.groups → g < n → total (size_of m) (λ h _. nat_lt h n) a < total (size_of m) (λ h _. nat_lt h n) b
sums_lt m a b each g less zero l in_n = absurd (omega (arith, in_n))
sums_lt m a b each g less (suc n) l in_n = elim (cases_lt g n) [
  | inl low ↦ omega (arith, total-next (size_of m) n a, total-next (size_of m) n b, each n (omega (arith, l)), sums_lt m a b each g less n (omega (arith, l)) low)
  | inr high ↦
      let e : g ≡ n = omega (arith, in_n, high) in
      let here : total (size_of m) (λ h _. h == n) a < total (size_of m) (λ h _. h == n) b = subst (λ x. total (size_of m) (λ h _. h == x) a < total (size_of m) (λ h _. h == x) b) e less in
      omega (arith, total-next (size_of m) n a, total-next (size_of m) n b, here, sums_le m a b each n (omega (arith, l)))
]

-- sums of a group, from its places
of_group : (m : Market) (g : ℕ) (a b : ℕ → ℕ → ℕ) → ((k : ℕ) → a g k ≤ b g k) → total (size_of m) (λ h _. h == g) a ≤ total (size_of m) (λ h _. h == g) b
of_group m g a b each = total-le (size_of m) (λ h _. h == g) a b (λ h k e. subst (λ x. a x k ≤ b x k) (sym (eqb-true h g e)) (each k))

module _ (m : Market) (market : IsMarket m) (pools : (g k : ℕ) → pool_of m g k < length m.nodes) (ours theirs : List MapLine) (right : IsRightMap m ours) (other : IsRightMap m theirs) where
  abbrev both : ℕ → ℕ → ℕ
  both g k = joined m ours theirs g k

  -- the sum of a group
  abbrev sum_of : ℕ → (ℕ → ℕ → ℕ) → ℕ
  sum_of g f = total (size_of m) (λ h _. h == g) f

  loss_group : (g i : ℕ) → IsLoss m ours theirs g i → g < length m.groups
  loss_group g i loss = (offer_of m ours right.form g i (omega (arith, loss.less))).group

  -- a group with a loss is placed whole in the other map
  whole_theirs : (g i : ℕ) → IsLoss m ours theirs g i → placed theirs g ≡ demand_of m g
  whole_theirs g i loss = omega (arith, loss.unwanted, through-le-placed theirs g i, other.feasible.demands g (loss_group g i loss))

  -- and the join has no less of it than that
  loss_keeps : (g i : ℕ) → IsLoss m ours theirs g i → (k : ℕ) → amount_at theirs g k ≤ both g k
  loss_keeps g i loss k = elim (joined_is m ours theirs g k) [
    | inl x ↦ omega (arith, x.1)
    | inr (inl x) ↦ omega (arith, x.1)
    | inr (inr x) ↦ elim (cases_lt (amount_at ours g k) (amount_at theirs g k)) [
      | inr le ↦ omega (arith, le, x.2)
      | inl more ↦ elim (cases_lt (placed_through ours g k) (demand_of m g)) [
        | inl wanted ↦ absurd (x.0 (record { more = more; wanted = wanted }))
        | inr whole ↦ elim (cases_order i k) [
          | inl e ↦
              let same_ours : amount_at ours g i ≡ amount_at ours g k = ap (amount_at ours g) e in
              let same_theirs : amount_at theirs g i ≡ amount_at theirs g k = ap (amount_at theirs g) e in
              absurd (omega (arith, loss.less, more, same_ours, same_theirs))
          | inr (inl l) ↦ absurd (omega (arith, more, none_behind m theirs other g i k (loss_group g i loss) loss.unwanted l))
          | inr (inr l) ↦ absurd (omega (arith, loss.less, none_behind m ours right g k i (loss_group g i loss) whole l))
        ]
      ]
    ]
  ]

  -- a group without a loss has no less in the join than in ours
  no_loss : (g : ℕ) → ((i : ℕ) → IsLoss m ours theirs g i → ⊥) → (k : ℕ) → amount_at ours g k ≤ both g k
  no_loss g none k = elim (joined_is m ours theirs g k) [
    | inl x ↦ omega (arith, x.0.more, x.1)
    | inr (inl x) ↦ absurd (none k x.0)
    | inr (inr x) ↦ omega (arith, x.2)
  ]

  group_ge : (g : ℕ) → g < length m.groups → sum_of g (amount_at ours) ≤ sum_of g both
  group_ge g l = elim (cases_lt (sum_of g both) (sum_of g (amount_at ours))) [
    | inr le ↦ le
    | inl less ↦ absurd (omega (
      arith,
      less,
      of_group m g (amount_at ours) both (no_loss g (λ i loss. omega (
        arith,
        less,
        of_group m g (amount_at theirs) both (loss_keeps g i loss),
        units_all m market theirs other.form (λ h _. h == g),
        units_all m market ours right.form (λ h _. h == g),
        whole_theirs g i loss,
        right.feasible.demands g l,
      ))),
    ))
  ]

  -- in all the join has no more than ours
  total_le : total (size_of m) (λ _ _. true) both ≤ total (size_of m) (λ _ _. true) (amount_at ours)
  total_le = held_by m market pools ours right.form (λ _ _. true) (λ _. true) both (λ c b l. (λ g k on. refl, fits m market pools ours theirs right other c l)) (λ g k t more.
      let r = refused_ours m market pools ours theirs right other g k (gained m ours theirs g k more) in
      record { node = r.0; is = refl; there = r.1.there; full = r.1.full; on = r.1.on })

  -- so it has as much
  pub total_ge : total (size_of m) (λ _ _. true) (amount_at ours) ≤ total (size_of m) (λ _ _. true) both
  total_ge = omega (
    arith,
    total-within (length m.groups) (amount_at ours),
    sums_le m (amount_at ours) both group_ge (length m.groups) (omega arith),
    total-wider (size_of m) (λ h _. nat_lt h (length m.groups)) (λ _ _. true) both (λ h _ e. refl),
  )

  -- and of each group
  group_same : (g : ℕ) → g < length m.groups → sum_of g both ≡ sum_of g (amount_at ours)
  group_same g l = elim (cases_lt (sum_of g (amount_at ours)) (sum_of g both)) [
    | inr le ↦ omega (arith, le, group_ge g l)
    | inl less ↦ absurd (omega (
      arith,
      total-within (length m.groups) (amount_at ours),
      sums_lt m (amount_at ours) both group_ge g less (length m.groups) (omega arith) l,
      total-wider (size_of m) (λ h _. nat_lt h (length m.groups)) (λ _ _. true) both (λ h _ e. refl),
      total_le,
    ))
  ]

  gain_offer : (g i : ℕ) → IsGain m ours theirs g i → IsOffer m g i
  gain_offer g i gain = offer_of m theirs other.form g i (omega (arith, gain.more))

  -- a group that gains also loses
  also_loses : (g i : ℕ) → IsGain m ours theirs g i → ((j : ℕ) → IsLoss m ours theirs g j → ⊥) → ⊥
  also_loses g i gain none =
      let o = gain_offer g i gain in
      let less = total-lt (size_of m) (λ h _. h == g) (amount_at ours) both (λ h k e. subst (λ x. amount_at ours x k ≤ both x k) (sym (eqb-true h g e)) (no_loss g none k)) g i (counted m market g i o) (eq-eqb g g refl) (omega (arith, gain.more, gain_is m ours theirs g i gain)) in
      omega (arith, less, group_same g o.group)

  -- it is placed whole in ours
  pub whole_ours : (g i : ℕ) → IsGain m ours theirs g i → placed ours g ≡ demand_of m g
  whole_ours g i gain =
      let l = (gain_offer g i gain).group in
      elim (cases_lt (placed ours g) (demand_of m g)) [
        | inr le ↦ omega (arith, le, right.feasible.demands g l)
        | inl less ↦ absurd (also_loses g i gain (λ j loss. omega (
          arith,
          less,
          of_group m g (amount_at theirs) both (loss_keeps g j loss),
          units_all m market theirs other.form (λ h _. h == g),
          units_all m market ours right.form (λ h _. h == g),
          whole_theirs g j loss,
          group_same g l,
        )))
      ]

  -- a loss stands at its last place
  loss_moves : (g j k : ℕ) → IsLoss m ours theirs g j → IsLastPlace ours g k → IsLoss m ours theirs g k
  loss_moves g j k loss last = elim (cases_order j k) [
    | inl e ↦ subst (λ x. IsLoss m ours theirs g x) e loss
    | inr (inl l) ↦
        let none = none_behind m theirs other g j k (loss_group g j loss) loss.unwanted l in
        let more = units_of-le (λ x y. (x == g) && nat_le y j) (λ x y. (x == g) && nat_le y k) (λ x y t. grind (arith, nat_tests, t, l)) theirs in
        record { less = omega (arith, none, last.some); unwanted = omega (arith, loss.unwanted, more) }
    | inr (inr l) ↦ absurd (omega (arith, loss.less, last.last j l))
  ]

  pub last_is_loss : (g i k : ℕ) → IsGain m ours theirs g i → IsLastPlace ours g k → IsLoss m ours theirs g k
  last_is_loss g i k gain last = elim (cases_lt (amount_at theirs g k) (amount_at ours g k)) [
    | inr le ↦ absurd (also_loses g i gain (λ j loss. omega (arith, le, (loss_moves g j k loss last).less)))
    | inl less ↦ elim (cases_lt (placed_through theirs g k) (demand_of m g)) [
      | inl wanted ↦ absurd (also_loses g i gain (λ j loss. omega (arith, wanted, (loss_moves g j k loss last).unwanted)))
      | inr le ↦ record { less = less; unwanted = le }
    ]
  ]

  -- a group that the other map has more of up to some place gains
  pub first_gain : (g k : ℕ) → g < length m.groups → placed_through ours g k < placed_through theirs g k → (i : ℕ) × IsGain m ours theirs g i
  first_gain g zero l more =
      let none_ours = none-units (λ h j. (h == g) && nat_lt j 0) ours (λ h j. grind (arith, nat_tests)) in
      let none_theirs = none-units (λ h j. (h == g) && nat_lt j 0) theirs (λ h j. grind (arith, nat_tests)) in (
        0,
        record {
          more = omega (arith, more, placed_through-split ours g 0, placed_through-split theirs g 0, none_ours, none_theirs);
          wanted = omega (arith, more, through-le-placed theirs g 0, other.feasible.demands g l);
        },
      )
  first_gain g (suc k) l more = elim (cases_lt (placed_through ours g k) (placed_through theirs g k)) [
    | inl before ↦ first_gain g k l before
    | inr le ↦
        let next : k + 1 ≡ suc k = omega arith in
        let of_ours : placed_below ours g (k + 1) ≡ placed_below ours g (suc k) = ap (placed_below ours g) next in
        let of_theirs : placed_below theirs g (k + 1) ≡ placed_below theirs g (suc k) = ap (placed_below theirs g) next in (
          suc k,
          record {
            more = omega (
              arith,
              more,
              le,
              placed_through-split ours g (suc k),
              placed_through-split theirs g (suc k),
              placed_through-below ours g k,
              placed_through-below theirs g k,
              of_ours,
              of_theirs,
            );
            wanted = omega (arith, more, through-le-placed theirs g (suc k), other.feasible.demands g l);
          },
        )
  ]
