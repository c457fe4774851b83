use Rattle.std.proofs.Common.{rules, ◌∙◌}
use Rattle.command_line.proofs.Positionals.{one_more}
use Rattle.command_line.proofs.declared.command.Goals as goal

pub loop-id-preserved : goal.loop-id-preserved
loop-id-preserved c = record {
  app = c.in_ok-command.ensures.shape c.positional.ensures.local
      ∙ one_more _ _ _ _ _ _ c.loop-id-test.true c.loop-id.invariant.app c.positional.ensures.rule;
  local = search rules;
}
