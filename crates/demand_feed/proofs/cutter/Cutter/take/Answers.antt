use Rattle.std.proofs.Common.{◌+◌, ◌++◌, ◌-◌, length, take, ap, ◌∙◌}
use Rattle.demand_feed.specs.Limits.{longest_line}
use Rattle.demand_feed.proofs.Fronts.{front_more}
use Rattle.demand_feed.proofs.cutter.Cutter.take.Goals as goal

pub returns-in-Some-clause-cut : goal.returns-in-Some-clause-cut
returns-in-Some-clause-cut c = (
  c.in-Some.before.now,
  c.in-Some.ensures.parts,
  λ line h. c.push.ensures ∙ ap (λ old. old ++ take (longest_line + 1 - length old) c.in-Some.before.now) h ∙ front_more line c.in-Some.before.now,
)

pub returns-in-None-clause-open : goal.returns-in-None-clause-open
returns-in-None-clause-open c = λ line h. c.push-in-None.ensures ∙ ap (λ old. old ++ take (longest_line + 1 - length old) c.args.piece.now) h ∙ front_more line c.args.piece.now
