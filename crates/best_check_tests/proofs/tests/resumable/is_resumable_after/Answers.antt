use Rattle.best_check_tests.proofs.Cut.{can_cut, open_if_cut}
use Rattle.best_check_tests.proofs.tests.resumable.is_resumable_after.Goals as goal

pub cut_and_trim-requires : goal.cut_and_trim-requires
cut_and_trim-requires c = can_cut c.args.instance.now c.args.new.now c.nodes-count.ensures.market c.requires.shape c.in_ok-state.state c.in_ok-state.ensures.ready

pub is_resumable-requires : goal.is_resumable-requires
is_resumable-requires c = open_if_cut c.args.instance.now c.args.new.now c.nodes-count.ensures.market c.requires.shape c.in_ok-state.state c.in_ok-state.ensures.ready _ c.cut_and_trim.ensures
