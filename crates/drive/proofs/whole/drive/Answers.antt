use Rattle.std.proofs.Common.{rules, sym, ◌∙◌}
use Rattle.drive.specs.AllDone.{IsFresh}
use Rattle.drive.proofs.Holding.{numbered_as}
use Rattle.drive.proofs.Several.{no_more}
use Rattle.drive.proofs.Told.{ok_weaker}
use Rattle.drive.proofs.whole.drive.Goals as goal

pub drive_one-requires-clause-fresh : goal.drive_one-requires-clause-fresh
drive_one-requires-clause-fresh g c κs within = c.in-Ok.ensures.held c.args.crew.mapper.history c.requires.viewers

pub drive_one-requires-clause-listener : goal.drive_one-requires-clause-listener
drive_one-requires-clause-listener g c κs within = numbered_as (IsFresh c.args.crew.mapper.history c.args.lent.now.turns) _ _ _ (sym c.in-Ok.ensures.len) (c.in-Ok.ensures.listener c.args.crew.mapper.history c.requires.listener)

pub drive_one-requires-clause-one : goal.drive_one-requires-clause-one
drive_one-requires-clause-one g c κs within = no_more c.args.lent.now.more.now (search rules)

pub drive_several-requires-clause-fresh : goal.drive_several-requires-clause-fresh
drive_several-requires-clause-fresh g c κs within = c.in-Ok.ensures.held c.args.crew.mapper.history c.requires.viewers

pub drive_several-requires-clause-listener : goal.drive_several-requires-clause-listener
drive_several-requires-clause-listener g c κs within = numbered_as (IsFresh c.args.crew.mapper.history c.args.lent.now.turns) _ _ _ (sym c.in-Ok.ensures.len) (c.in-Ok.ensures.listener c.args.crew.mapper.history c.requires.listener)

pub returns-then-count-eq0-2-clause-driven : goal.returns-then-count-eq0-2-clause-driven
returns-then-count-eq0-2-clause-driven g c = let d = c.drive_one.ensures.driven in (d.0, d.1 ∙ c.in-Ok.ensures.len, d.2, d.3, d.4)

pub returns-clause-driven : goal.returns-clause-driven
returns-clause-driven g c = ok_weaker _ _ c.drive_several.result (λ r d. (d.0, d.1 ∙ c.in-Ok.ensures.len, d.2, d.3, d.4)) c.drive_several.ensures.driven
