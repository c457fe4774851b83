use Rattle.std.proofs.Common.{◌≡◌, ℕ, ◌+◌, ◌<◌, ◌==◌, length, slice_index, take}
use Rattle.evict.specs.Evictions.{freed_units}
use Rattle.evict.proofs.settle.free_again.Given as goal

abbrev pub invariant-loop-eviction : goal.invariant-loop-eviction
invariant-loop-eviction l = (h : ℕ) → h < length l.free → slice_index l.free h ≡ slice_index l.fn.free h + freed_units (λ x _. x == h) (take l.eviction-index l.freed)
