-- Inside this crate alone, words of its proof: the topmost node of a path that is closed to an offer.
use Rattle.std.specs.Prelude.{ℕ, Bool, not, ◌&&◌, ◌==◌, if◌then◌else◌, List, [], ◌∷◌, Option, None, Some}
use Rattle.map_model.specs.declared.instance.Key.{Key}
use Rattle.map_model.specs.declared.lines.MapLine.{MapLine}
use Rattle.map_model.specs.Market.{Market, capacity_of, key_of, path, pool_of}
use Rattle.map_model.specs.Allocation.{counts_at, is_under, key_le, units_of}

-- the first of two that is there
abbrev pub later : Option ℕ → Option ℕ → Option ℕ
later None o = o
later (Some t) o = Some t

-- the last node of a path that passes a test
abbrev pub top_of : (ℕ → Bool) → List ℕ → Option ℕ
top_of closed [] = None
top_of closed (n ∷ ns) = later (top_of closed ns) (if closed n then Some n else None)

-- strictly below c, and full of units ranked above a key
unfoldable pub is_closed : Market → List MapLine → ℕ → Key → ℕ → Bool
is_closed m lines c key n =
    (is_under m c n && not (n == c)) && ((units_of (counts_at m n) lines == capacity_of m n) && (units_of (λ g k. counts_at m n g k && key_le key (key_of m g k)) lines == 0))

-- the topmost such node over an offer
abbrev pub top_over : Market → List MapLine → ℕ → Key → ℕ → ℕ → Option ℕ
top_over m lines c key g k = top_of (is_closed m lines c key) (path m (pool_of m g k))
