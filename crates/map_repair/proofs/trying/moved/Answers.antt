use Rattle.std.proofs.lemmas.Result.{on_ok_weaker}
use Rattle.map_repair.proofs.Middle.{IsMiddle, can_roll_back}
use Rattle.map_repair.proofs.Ways.{can_cut}
use Rattle.map_repair.proofs.trying.moved.Goals as goal

pub cut_and_trim-requires : goal.cut_and_trim-requires
cut_and_trim-requires c = can_cut c.args.old.now c.args.new.now c.args.state.now c.groups-groups.ensures.market c.requires.shape c.requires.of_map

pub move_up-requires-clause-is_open : goal.move_up-requires-clause-is_open
move_up-requires-clause-is_open c =
    let middle : IsMiddle c.args.old.now c.args.new.now c.args.state.now c.cut_and_trim.new.state c.args.marks.now = record { market = c.groups-groups.ensures.market; shape = c.requires.shape; of = c.requires.of_map; reached = c.requires.marks; cut = c.cut_and_trim.ensures } in
    (can_roll_back _ _ _ _ _ middle).is_open

pub returns-clause-moved : goal.returns-clause-moved
returns-clause-moved c = on_ok_weaker c.move_up.result (λ is_moved. record { cut = c.cut_and_trim.new.state; is_cut = c.cut_and_trim.ensures; is_moved = is_moved }) c.move_up.ensures.moved
