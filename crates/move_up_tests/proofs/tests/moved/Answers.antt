use Rattle.move_up.proofs.Moving.{open_of_cut}
use Rattle.move_up_tests.proofs.tests.moved.Goals as goal

pub move_up-requires-clause-is_open : goal.move_up-requires-clause-is_open
move_up-requires-clause-is_open c = open_of_cut c.args.old.now c.args.new.now c.in_ok-state.state c.cut_and_trim.new.state c.in_ok-state.ensures.ready c.nodes.ensures.market c.requires c.cut_and_trim.ensures
