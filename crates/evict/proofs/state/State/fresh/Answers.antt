use Rattle.std.proofs.Common.{◌≡◌, [], true, length, replicate, sym, ap, ◌∙◌, subst, arith}
use Rattle.std.proofs.lemmas.Grind.{common_steps}
use Rattle.map_model.specs.Market.{Market}
use Rattle.offer_pool.specs.Holdings.{Holdings}
use Rattle.evict.specs.Standing.{IsFresh}
use Rattle.evict.proofs.Done.{seen}
use Rattle.evict.proofs.Fresh.{fresh, sound_fresh}
use Rattle.evict.proofs.state.State.fresh.Goals as goal

pub invariant_of-result : goal.invariant_of-result
invariant_of-result c = λ _.
    let m : Market = c.args.instance.now in
    let nothing : c.in_ok-build.field-0 ≡ record { market = m; lines = [] } = c.in_ok-build.ensures.held ∙ ap (λ ls. record { market = m; lines = ls }) c.new.ensures.items in
    sound_fresh m c.in_ok-build.field-0 c.in_ok-build-2.field-0 c.in_ok-demands.field-0.items c.in_ok-demands-2.field-0.items c.groups.ensures.market nothing
    c.in_ok-build-2.ensures.trees c.in_ok-build-2.ensures.empty c.in_ok-demands.ensures.count c.in_ok-demands.ensures.each c.in_ok-demands-2.ensures.count c.in_ok-demands-2.ensures.each

pub returns-clause-fresh : goal.returns-clause-fresh
returns-clause-fresh c =
    let m : Market = c.args.instance.now in
    let nothing : c.in_ok-build.field-0 ≡ record { market = m; lines = [] } = c.in_ok-build.ensures.held ∙ ap (λ ls. record { market = m; lines = ls }) c.new.ensures.items in
    let zeros : c.in_ok-vec.field-0.items ≡ replicate (length m.groups) 0 = grind (arith, common_steps, c.in_ok-vec.ensures, c.groups.ensures.count) in
    subst (λ (h : Holdings). IsFresh m (seen h c.in_ok-vec.field-0.items c.in_ok-demands.field-0.items true)) (sym nothing)
    (fresh m c.groups.ensures.market c.in_ok-vec.field-0.items c.in_ok-demands.field-0.items zeros c.in_ok-demands.ensures.count c.in_ok-demands.ensures.each)
