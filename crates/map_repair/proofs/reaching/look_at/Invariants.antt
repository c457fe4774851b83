use Rattle.std.proofs.Common.{◌≡◌, ◌<◌, ◌≤◌, ℕ, Bool, true, length, slice_index, slice_index_or}
use Rattle.map_model.specs.declared.instance.Offer.{Offer}
use Rattle.move_up.specs.Asked.{listed_at}
use Rattle.map_repair.specs.Marks.{AreDone, AreMarkedTo, HoldsInMarked, IsClosedForAll, IsMarking, IsWithin}
use Rattle.map_repair.proofs.reaching.look_at.Given as goal

abbrev pub invariant-loop-offer : goal.invariant-loop-offer
invariant-loop-offer l = record {
  marking : IsMarking l.fn.marks l.marks;
  groups : length l.done ≡ length l.fn.done;
  done : AreDone l.followed.old.now l.followed.state.now.lines l.marks.on l.done;
  ahead : l.ahead ≤ length l.followed.old.now.nodes;
  marked : AreMarkedTo l.followed.old.now l.marks.on l.ahead;
  followed : (i : ℕ) (o : Offer) → i < l.offer-index → slice_index_or (listed_at l.followed.asked.now l.fn.root.0) i o ≡ o → o.place < slice_index l.followed.state.now.pointers o.group.0 → HoldsInMarked l.followed.old.now l.followed.state.now.lines l.marks.on o.group.0;
  within : (trees : ℕ → Bool) → IsClosedForAll l.followed.old.now l.followed.state.now trees → trees l.fn.root.0 ≡ true → IsWithin l.fn.marks.on trees → IsWithin l.marks.on trees;
}
