use Rattle.std.proofs.Common.{inl, inr, arith}
use Rattle.std.proofs.lemmas.Bool.{cases_eq}
use Rattle.move_up.proofs.Listing.{listing_none, listing_said}
use Rattle.move_up.proofs.asked.list_all.Goals as goal

pub loop-g-init : goal.loop-g-init
loop-g-init c = listing_none c.args.instance.now c.args.lists.now c.requires.count c.requires.empty

pub loop-g-preserved : goal.loop-g-preserved
loop-g-preserved c = listing_said c.args.instance.now _ _ c.list_group.new.lists c.in_ok-list_group.ensures (λ g k o l. elim (cases_eq g c.loop-g.g) [
  | inl e ↦ inr e
  | inr apart ↦ inl (omega (arith, l, apart))
])

pub returns : goal.returns
returns c = listing_said c.args.instance.now _ _ c.loop-g.lists c.loop-g.invariant (λ g k o t. omega (arith, o.group, c.loop-g-test.false, c.groups-g-end.ensures.count))
