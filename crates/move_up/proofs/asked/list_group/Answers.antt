use Rattle.std.proofs.Common.{inl, inr, subst, arith}
use Rattle.std.proofs.lemmas.Bool.{cases_eq}
use Rattle.map_model.specs.Market.{Market}
use Rattle.map_model.specs.Allocation.{IsOffer}
use Rattle.move_up.specs.Asked.{IsListed, offer_of}
use Rattle.move_up.proofs.Listing.{listing_more, listing_said}
use Rattle.move_up.proofs.InTrees.{tree_in}
use Rattle.move_up.proofs.asked.list_group.Goals as goal

pub loop-place-init : goal.loop-place-init
loop-place-init c = listing_said c.args.instance.now _ _ c.args.lists.now c.requires.listed (λ g k o is. elim is [ inl l ↦ l | inr e ↦ absurd (omega (arith, e.1)) ])

pub list_offer-requires : goal.list_offer-requires
list_offer-requires c =
    let m : Market = c.args.instance.now in
    let o : IsOffer m c.args.group.0 c.loop-place.place = record { group = c.requires.group; place = omega (arith, c.loop-place-test.true, c.list_len-place-end.ensures) } in
    let at = tree_in m c.args.state.now c.requires.ready.market c.requires.ready.shape c.args.group.0 c.loop-place.place c.pool_at.result c.root-root.result.0 o c.pool_at.ensures c.root-root.ensures in
    omega (arith, at.1, c.loop-place.invariant.count)

pub loop-place-preserved : goal.loop-place-preserved
loop-place-preserved c =
    let m : Market = c.args.instance.now in
    let g = c.args.group.0 in
    let k = c.loop-place.place in
    let o : IsOffer m g k = record { group = c.requires.group; place = omega (arith, c.loop-place-test.true, c.list_len-place-end.ensures) } in
    let at = tree_in m c.args.state.now c.requires.ready.market c.requires.ready.shape g k c.pool_at.result c.root-root.result.0 o c.pool_at.ensures c.root-root.ensures in
    listing_more m _ _ c.loop-place.lists c.list_offer.new.lists g k c.loop-place.invariant (subst (λ x. IsListed c.loop-place.lists c.list_offer.new.lists x (offer_of g k)) at.0 c.in_ok-list_offer.ensures) o (λ h j is. elim is [
      | inl l ↦ inl (inl l)
      | inr e ↦ elim (cases_eq j k) [
        | inl same ↦ inr (e.0, same)
        | inr apart ↦ inl (inr (e.0, omega (arith, e.1, apart)))
      ]
    ])

pub returns : goal.returns
returns c = listing_said c.args.instance.now _ _ c.loop-place.lists c.loop-place.invariant (λ g k o is. elim is [
  | inl l ↦ inl l
  | inr e ↦ inr (e, omega (arith, c.loop-place-test.false, c.list_len-place-end.ensures, subst (λ x. IsOffer c.args.instance.now x k) e o))
])
