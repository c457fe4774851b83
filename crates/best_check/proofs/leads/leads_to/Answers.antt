use Rattle.std.proofs.Common.{◌≡◌, ℕ, Some, IfSome, sym, ap, ◌∙◌, subst}
use Rattle.map_model.specs.Market.{Market, demand_of, pool_of, choice_at}
use Rattle.map_model.specs.Allocation.{placed}
use Rattle.map_laws.specs.Circles.{IsLastPlace}
use Rattle.best_check.specs.declared.ranked.Ranked.{Ranked}
use Rattle.best_check.proofs.Leading.{none_is_last, last_is}
use Rattle.best_check.proofs.leads.leads_to.Goals as goal

pub returns-in_err-place-clause-leads : goal.returns-in_err-place-clause-leads
returns-in_err-place-clause-leads c =
    let m : Market = c.args.instance.now in
    subst (λ x. IfSome x (λ (o : Ranked). (j : ℕ) → placed c.args.state.now.lines o.offer.group.0 ≡ demand_of m o.offer.group.0 → IsLastPlace c.args.state.now.lines o.offer.group.0 j → c.from_residual-in_err-place.result ≡ Some (record { 0 = pool_of m o.offer.group.0 j }))) (sym c.in_ok-group.was)
    (λ j whole last. absurd (none_is_last j (sym c.in_err-place.was ∙ c.last_place.ensures.last j last)))

pub returns-clause-leads : goal.returns-clause-leads
returns-clause-leads c =
    let m : Market = c.args.instance.now in
    subst (λ x. IfSome x (λ (o : Ranked). (j : ℕ) → placed c.args.state.now.lines o.offer.group.0 ≡ demand_of m o.offer.group.0 → IsLastPlace c.args.state.now.lines o.offer.group.0 j → Some c.pool_at.result ≡ Some (record { 0 = pool_of m o.offer.group.0 j }))) (sym c.in_ok-group.was)
    (λ j whole last. ap Some c.pool_at.ensures ∙ ap (λ k. Some (choice_at m c.in_ok-group.field-0.offer.group.0 k).pool) (last_is c.in_ok-place.place j (sym c.in_ok-place.was ∙ c.last_place.ensures.last j last)))
