-- Who is next in line where a unit leaves a node, from who is at the node above it.
use Rattle.std.proofs.Common.{◌≡◌, ◌⊎◌, ℕ, ◌<◌, true, List, length, Option, None, Some, IfSome, MatchOption, slice_index_or, sym, ◌∙◌, subst, inl, inr, refl, arith}
use Rattle.map_model.specs.declared.instance.NodeId.{NodeId}
use Rattle.map_model.specs.declared.lines.MapLine.{MapLine}
use Rattle.map_model.specs.Market.{Market, IsMarket, key_of, limit_of, parent_of, pool_of}
use Rattle.map_model.specs.Allocation.{is_under, key_le}
use Rattle.map_model.proofs.Keys.{key_le_trans}
use Rattle.map_model.proofs.Paths.{parent_there}
use Rattle.map_model.proofs.Trees.{above_alone, above_parent, above_split, under_itself}
use Rattle.best_laws.specs.Ahead.{IsRightMap}
use Rattle.map_laws.specs.Circles.{IsInLine, IsNextInLine, MakesRoom}
use Rattle.map_laws.specs.Nearest.{IsFirstFull}
use Rattle.map_laws.proofs.Nearest.{has_nearest, room_at, room_from}
use Rattle.best_check.specs.declared.ranked.Ranked.{Ranked}
use Rattle.best_check.specs.Tables.{AreNextAt, AreRanked, IsBestBefore, IsEntry, IsNextAt, IsRanked, IsWaitingAt}
use Rattle.best_check.proofs.Above.{from_above}

-- who is next in line at the node above a node
abbrev pub IsNextAbove : Market → List MapLine → ℕ → Option Ranked → Type 0
IsNextAbove m lines n above = MatchOption above ((p : NodeId) → parent_of m n ≡ Some p → (h j : ℕ) → IsInLine m (limit_of m) lines h j → MakesRoom m lines p.0 h j → ⊥) (λ o. (p : NodeId) × (parent_of m n ≡ Some p) × IsNextInLine m (limit_of m) lines p.0 o.offer.group.0 o.offer.place)

some_one : (p q : NodeId) → Some p ≡ Some q → p ≡ q
some_one p q e = cc

none_some : (p : NodeId) → None ≡ Some p → ⊥
none_some p e = cc

-- from those at all nodes of lower numbers
pub above_from : (m : Market) (lines : List MapLine) (n : ℕ) (nexts : List (Option Ranked)) (above : Option Ranked) → AreNextAt m lines nexts → length nexts ≡ n → MatchOption (parent_of m n) (above ≡ None) (λ p. (p.0 < n) × (above ≡ slice_index_or nexts p.0 None)) → IsNextAbove m lines n above
above_from m lines n nexts above are size is = by_parent (parent_of m n) refl is
  where
    known : (p : NodeId) → parent_of m n ≡ Some p → (o : Option Ranked) → IsNextAt m lines p.0 o → IsNextAbove m lines n o
    known p parent None none = λ q also h j line room. none h j line (subst (λ (x : NodeId). MakesRoom m lines x.0 h j) (some_one q p (sym also ∙ parent)) room)
    known p parent (Some o) next = (p, parent, next)

    by_parent : (at : Option NodeId) → parent_of m n ≡ at → MatchOption at (above ≡ None) (λ p. (p.0 < n) × (above ≡ slice_index_or nexts p.0 None)) → IsNextAbove m lines n above
    by_parent None root none = subst (IsNextAbove m lines n) (sym none) (λ p parent h j line room. none_some p (sym root ∙ parent))
    by_parent (Some p) parent x = subst (IsNextAbove m lines n) (sym x.1) (known p parent (slice_index_or nexts p.0 None) (are p.0 (omega (arith, x.0, size))))

-- what is said of the node above is an offer with its key
pub above_ranked : (m : Market) (n : ℕ) (nexts : List (Option Ranked)) (above : Option Ranked) → AreRanked m nexts → length nexts ≡ n → MatchOption (parent_of m n) (above ≡ None) (λ p. (p.0 < n) × (above ≡ slice_index_or nexts p.0 None)) → IfSome above (λ o. IsRanked m o)
above_ranked m n nexts above are size is = elim (from_above m n (λ _ o. IfSome o (λ (x : Ranked). IsRanked m x)) nexts above are size is) [
  | inl x ↦ subst (λ o. IfSome o (λ (y : Ranked). IsRanked m y)) (sym x.1) tt
  | inr x ↦ x.2
]

-- and so is the better of it and another one
pub either_ranked : (m : Market) (o : Ranked) (above : Option Ranked) (new : Ranked) → IsRanked m o → IfSome above (λ a. IsRanked m a) → (new ≡ o) ⊎ (above ≡ Some new) → IsRanked m new
either_ranked m o above new here there (inl e) = subst (λ (x : Ranked). IsRanked m x) (sym e) here
either_ranked m o above new here there (inr e) = subst (λ a. IfSome a (λ (x : Ranked). IsRanked m x)) e there

pub keys_of : (m : Market) (above : Option Ranked) → IfSome above (λ a. IsRanked m a) → IfSome above (λ a. a.key ≡ key_of m a.offer.group.0 a.offer.place)
keys_of m None there = tt
keys_of m (Some a) there = there.key

module _ (m : Market) (market : IsMarket m) (lines : List MapLine) (right : IsRightMap m lines) (n : ℕ) (there : n < length m.nodes) where
  -- room is made for an offer that waits there, or at the node above
  room_parts : (h j : ℕ) → IsInLine m (limit_of m) lines h j → MakesRoom m lines n h j → IsWaitingAt m lines n h j ⊎ ((p : NodeId) × (parent_of m n ≡ Some p) × MakesRoom m lines p.0 h j)
  room_parts h j line room = by_parent (parent_of m n) refl
    where
      near : (c : ℕ) × IsFirstFull m lines (pool_of m h j) c
      near = has_nearest m market (limit_of m) (λ g k o. omega arith) lines right h j line

      under : is_under m near.0 n ≡ true
      under = room_at m lines n near.0 h j near.1 room

      here : near.0 ≡ n → IsWaitingAt m lines n h j
      here e = record { in_line = line; near = subst (λ x. IsFirstFull m lines (pool_of m h j) x) e near.1 }

      by_parent : (at : Option NodeId) → parent_of m n ≡ at → IsWaitingAt m lines n h j ⊎ ((p : NodeId) × (parent_of m n ≡ Some p) × MakesRoom m lines p.0 h j)
      by_parent None root = inl (here (above_alone m n near.0 root under))
      by_parent (Some p) parent = elim (above_split m n p parent near.0 under) [
        | inl e ↦ inl (here e)
        | inr up ↦ inr (p, parent, room_from m market lines p.0 near.0 h j (subst (λ x. IfSome x (λ (q : NodeId). q.0 < length m.nodes)) parent (parent_there m market n there)) near.1 up)
      ]

  room_here : (h j : ℕ) → IsWaitingAt m lines n h j → MakesRoom m lines n h j
  room_here h j w = room_from m market lines n n h j there w.near (under_itself m n)

  room_up : (p : NodeId) → parent_of m n ≡ Some p → (h j : ℕ) → MakesRoom m lines p.0 h j → MakesRoom m lines n h j
  room_up p parent h j room = λ c on full. above_parent m market n p there parent c (room c on full)

  -- where nobody waits there, it is who is next at the node above
  pub next_none : (above : Option Ranked) → ((h j : ℕ) → IsWaitingAt m lines n h j → ⊥) → IsNextAbove m lines n above → IsNextAt m lines n above
  next_none None nobody none = λ h j line room. elim (room_parts h j line room) [ inl w ↦ nobody h j w | inr x ↦ none x.0 x.1 h j line x.2 ]
  next_none (Some o) nobody next = record {
    in_line = next.2.in_line;
    room = room_up next.0 next.1 o.offer.group.0 o.offer.place next.2.room;
    best = λ h j line room. elim (room_parts h j line room) [
      | inl w ↦ absurd (nobody h j w)
      | inr x ↦ next.2.best h j line (subst (λ (q : NodeId). MakesRoom m lines q.0 h j) (some_one x.0 next.0 (sym x.1 ∙ next.1)) x.2)
    ];
  }

  -- and else the better ranked of the two
  pub next_some : (above : Option Ranked) (o new : Ranked) → IsBestBefore m lines (length m.groups) 0 n o → IsNextAbove m lines n above → (new ≡ o) ⊎ (above ≡ Some new) → new.key ≡ key_of m new.offer.group.0 new.offer.place → IfSome above (λ a. a.key ≡ key_of m a.offer.group.0 a.offer.place) → key_le new.key o.key ≡ true
      → IfSome above (λ a. key_le new.key a.key ≡ true) → IsNextInLine m (limit_of m) lines n new.offer.group.0 new.offer.place
  next_some above o new best next either key keys le les = record {
    in_line = (is either next).0;
    room = (is either next).1;
    best = λ h j line room. subst (λ x. key_le x (key_of m h j) ≡ true) key (elim (room_parts h j line room) [
      | inl w ↦ key_le_trans new.key o.key (key_of m h j) le (best.least h j (inl line.offer.group) w)
      | inr x ↦ up above next keys les h j line x.0 x.1 x.2
    ]);
  }
    where
      is : (new ≡ o) ⊎ (above ≡ Some new) → IsNextAbove m lines n above → IsInLine m (limit_of m) lines new.offer.group.0 new.offer.place × MakesRoom m lines n new.offer.group.0 new.offer.place
      is (inl e) next =
          (subst (λ (x : Ranked). IsInLine m (limit_of m) lines x.offer.group.0 x.offer.place) (sym e) best.waiting.in_line, subst (λ (x : Ranked). MakesRoom m lines n x.offer.group.0 x.offer.place) (sym e) (room_here o.offer.group.0 o.offer.place best.waiting))
      is (inr e) next =
          let a = subst (IsNextAbove m lines n) e next in
          (a.2.in_line, room_up a.0 a.1 new.offer.group.0 new.offer.place a.2.room)

      up : (above : Option Ranked) → IsNextAbove m lines n above → IfSome above (λ a. a.key ≡ key_of m a.offer.group.0 a.offer.place) → IfSome above (λ a. key_le new.key a.key ≡ true) → (h j : ℕ) → IsInLine m (limit_of m) lines h j → (p : NodeId) → parent_of m n ≡ Some p → MakesRoom m lines p.0 h j → key_le new.key (key_of m h j) ≡ true
      up None none keys les h j line p parent room = absurd (none p parent h j line room)
      up (Some a) next keys les h j line p parent room =
          key_le_trans new.key (key_of m a.offer.group.0 a.offer.place) (key_of m h j) (subst (λ x. key_le new.key x ≡ true) keys les) (next.2.best h j line (subst (λ (q : NodeId). MakesRoom m lines q.0 h j) (some_one p next.0 (sym parent ∙ next.1)) room))

-- where all offers were looked at and none is at a node, none waits there
pub nobody_waits : (m : Market) (lines : List MapLine) (n : ℕ) → IsEntry m lines (length m.groups) 0 n None → (h j : ℕ) → IsWaitingAt m lines n h j → ⊥
nobody_waits m lines n none = λ h j w. none h j (inl w.in_line.offer.group) w
