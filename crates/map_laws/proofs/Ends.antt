-- What a run ends in is determined by where it begins; the map from scratch by its instance.
use Rattle.std.proofs.Common.{◌≡◌, ℕ, ◌<◌, List, length, slice_index, sym, ap, ◌∙◌, arith}
use Rattle.map_model.specs.declared.lines.MapLine.{MapLine}
use Rattle.map_model.specs.declared.lines.NameLine.{NameLine}
use Rattle.map_model.specs.Market.{Market, IsMarket}
use Rattle.map_model.specs.Allocation.{IsGood, IsStable, amount_at, names_of}
use Rattle.map_model.specs.Progress.{IsGroupBest}
use Rattle.evict.specs.Standing.{IsReady, Standing}
use Rattle.best_laws.specs.Ahead.{IsRightMap}
use Rattle.best_laws.proofs.Ended.{best_within}
use Rattle.deferred_accept.specs.Runs.{AreProposals}
use Rattle.deferred_accept.proofs.Best.{within_many}
use Rattle.deferred_accept.proofs.Many.{ready_many}
use Rattle.map_laws.specs.Below.{IsBestBelow}
use Rattle.map_laws.proofs.Amounts.{same_amounts}
use Rattle.map_laws.proofs.Same.{same_lines}
use Rattle.map_laws.proofs.Within.{later_many}

-- stable lines of a resumable state are a right map
pub right_of : (m : Market) (state : Standing) → IsReady m state → IsStable m state.lines → IsRightMap m state.lines
right_of m state ready stable =
    let r = ready.resumable in
    record { form = r.form; feasible = record { demands = λ g l. omega (arith, r.totals g l); capacities = r.capacities; limits = r.limits }; stable = stable }

-- where proposals come to a stable map, it is the best of those within their start
pub best_below : (m : Market) (n : ℕ) (old new : Standing) → IsReady m old → AreProposals m n old new → IsStable m new.lines → IsBestBelow m old.lines old.pointers new.lines
best_below m n old new ready made stable =
    let done = ready_many m n old new ready made in
    record {
      right = right_of m new done stable;
      below = (later_many m n old new ready made).within;
      best = λ other right within. best_within m done.market new.lines other new.pointers new.free done.resumable stable right (within_many m n old new other ready made right within);
    }

-- there is one such map
pub best_below_one : (m : Market) → IsMarket m → (held : List MapLine) (pointers : List ℕ) (a b : List MapLine) → IsBestBelow m held pointers a → IsBestBelow m held pointers b → a ≡ b
best_below_one m market held pointers a b x y =
    same_lines m market a b x.right.form y.right.form (same_amounts m a b (λ g k o.
    omega (arith, x.best b y.right y.below g k o, y.best a x.right x.below g k o)))

-- it is determined by what is held and by the pointers of groups
pub best_below_from : (m : Market) (held other : List MapLine) (pointers also : List ℕ) (lines : List MapLine) → held ≡ other → ((g : ℕ) → g < length m.groups → slice_index pointers g ≡ slice_index also g) → IsBestBelow m held pointers lines → IsBestBelow m other also lines
best_below_from m held other pointers also lines same places x = record {
  right = x.right;
  below = λ g k o l. let e : amount_at held g k ≡ amount_at other g k = ap (λ (ls : List MapLine). amount_at ls g k) same in omega (arith, e, x.below g k o (omega (arith, l, places g o.group)));
  best = λ map right within. x.best map right (λ g k o l. let e : amount_at held g k ≡ amount_at other g k = ap (λ (ls : List MapLine). amount_at ls g k) same in omega (arith, e, within g k o (omega (arith, l, places g o.group))));
}

-- two runs from one state that come to stable maps come to the same
pub ends_one : (m : Market) (n j : ℕ) (old a b : Standing) → IsReady m old → AreProposals m n old a → AreProposals m j old b → IsStable m a.lines → IsStable m b.lines → a.lines ≡ b.lines
ends_one m n j old a b ready to_a to_b stable_a stable_b =
    best_below_one m ready.market old.lines old.pointers a.lines b.lines (best_below m n old a ready to_a stable_a) (best_below m j old b ready to_b stable_b)

-- the group-best map of an instance is one
pub group_best_one : (m : Market) → IsMarket m → (a b : List MapLine) (of_a of_b : List NameLine) → IsGood m a of_a → IsGood m b of_b → IsGroupBest m a → IsGroupBest m b → (a ≡ b) × (of_a ≡ of_b)
group_best_one m market a b of_a of_b good_a good_b best_a best_b =
    let e : a ≡ b = same_lines m market a b good_a.form good_b.form (same_amounts m a b (λ g k o.
    omega (arith, best_a b good_b.form good_b.feasible good_b.stable g k o, best_b a good_a.form good_a.feasible good_a.stable g k o))) in
    (e, good_a.named ∙ ap (names_of m) e ∙ sym good_b.named)
