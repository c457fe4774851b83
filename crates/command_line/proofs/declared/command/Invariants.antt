use Rattle.std.proofs.Common.{◌≡◌, [], map, take, false}
use Rattle.clap.specs.Words.{app_of}
use Rattle.clap.specs.declared.builder.command.Command.TheViews.{out-Command}
use Rattle.command_line.specs.Declaration.{command}
use Rattle.command_line.proofs.declared.command.Given as goal

abbrev pub invariant-loop-id : goal.invariant-loop-id
invariant-loop-id l = record {
  app : app_of l.command ≡ record { top = command l.fn.name (map (λ id. id.now) (take l.id-index l.ids)); subs = [] };
  local : (out-Command l.command).has_globals ≡ false;
}
