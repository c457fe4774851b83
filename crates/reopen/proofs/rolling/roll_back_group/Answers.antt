use Rattle.reopen.proofs.Removing.{none_released}
use Rattle.reopen.proofs.rolling.roll_back_group.Goals as goal

pub set_pointer-requires-clause-nothing_past : goal.set_pointer-requires-clause-nothing_past
set_pointer-requires-clause-nothing_past c = λ j o past. none_released c.args.instance.now c.args.group.0 c.back_place-place.result c.args.state.now c.release_past.new.state c.release_past.ensures j past
