use Rattle.std.proofs.Common.{◌∙◌, ap, sym, nat_eq, length, arith, ◌<◌}
use Rattle.map_model.specs.Market.{choices_of}
use Rattle.map_text.proofs.Firsts.{position_here, position_nowhere}
use Rattle.map_text.proofs.offer.find_place.Goals as goal

pub returns-then-eq-clause-place : goal.returns-then-eq-clause-place
returns-then-eq-clause-place c =
    let lt : c.loop-place.place < length (choices_of c.args.instance.now c.args.group.0) = omega arith in
    sym (position_here (λ x. nat_eq x.pool.0 c.args.pool.0) (choices_of c.args.instance.now c.args.group.0) c.loop-place.place (record { pool = record { 0 = 0 }; score = 0; limit = 0 }) lt c.loop-place.invariant
    (ap (λ n. nat_eq n.0 c.args.pool.0) (sym c.pool_at.ensures) ∙ sym c.eq.ensures ∙ c.if-eq.true))

pub returns-clause-place : goal.returns-clause-place
returns-clause-place c =
    sym (position_nowhere (λ x. nat_eq x.pool.0 c.args.pool.0) (choices_of c.args.instance.now c.args.group.0) (record { pool = record { 0 = 0 }; score = 0; limit = 0 }) (λ k lt. c.loop-place.invariant k (omega arith)))
