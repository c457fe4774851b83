use Rattle.std.proofs.Common.{◌≡◌, ℕ, ◌+◌, ◌<◌, length, slice_index, take, if◌then◌else◌}
use Rattle.evict.specs.Evictions.{gave_up}
use Rattle.evict.proofs.settle.move_pointers.Given as goal

abbrev pub invariant-loop-eviction : goal.invariant-loop-eviction
invariant-loop-eviction l = (h : ℕ) → h < length l.pointers → slice_index l.pointers h
    ≡ (if gave_up (take l.eviction-index l.freed) h (slice_index l.fn.pointers h) then slice_index l.fn.pointers h + 1 else slice_index l.fn.pointers h)
