use Rattle.std.proofs.Common.{arith}
use Rattle.prefix_lookup.proofs.Chosen.{after_all, longest_after_all}
use Rattle.prefix_lookup.proofs.Defaults.{some_after_all}
use Rattle.prefix_lookup_tests.proofs.tests.plain.longest.Goals as goal

pub returns-clause-exact : goal.returns-clause-exact
returns-clause-exact c = after_all c.args.addr c.loop-entry.entry-index c.args.table.now c.loop-entry.best (omega arith) c.loop-entry.invariant

pub returns-clause-most : goal.returns-clause-most
returns-clause-most c = longest_after_all c.args.addr c.loop-entry.entry-index c.args.table.now c.loop-entry.best (omega arith) c.loop-entry.invariant

pub returns-clause-some : goal.returns-clause-some
returns-clause-some c = some_after_all c.args.addr c.loop-entry.entry-index c.args.table.now c.loop-entry.best (omega arith) c.loop-entry.invariant c.width.ensures.fits
