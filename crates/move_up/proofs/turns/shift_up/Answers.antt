use Rattle.std.proofs.lemmas.Result.{on_ok_weaker}
use Rattle.move_up.proofs.Moving.{moved_trans}
use Rattle.move_up.proofs.turns.shift_up.Goals as goal

pub returns : goal.returns
returns c =
    let m = c.args.instance.now in
    let marks = c.args.marks.now in
    let s = c.args.state.now in
    let freed = moved_trans m marks s c.make_room.new.state c.free_source.new.state c.make_room.ensures c.free_source.ensures in
    on_ok_weaker c.take_up.result (moved_trans m marks s c.free_source.new.state c.take_up.new.state freed) c.take_up.ensures
