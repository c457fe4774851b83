use Rattle.std.proofs.lemmas.Bool.{OnTrue_at, OnTrue_from}
use Rattle.best_check.proofs.Barred.{refused_in_table}
use Rattle.best_check.proofs.resumable.is_refused.Goals as goal

pub returns-then-is_behind : goal.returns-then-is_behind
returns-then-is_behind c = OnTrue_from _ _ (λ yes. refused_in_table c.args.instance.now c.requires.open.market c.args.state.now.lines c.args.offer.group.0 c.args.offer.place c.requires.offer c.args.bars.now c.requires.bars c.key-key.result c.key-key.ensures (OnTrue_at yes c.is_behind.ensures))
