use Rattle.std.proofs.Common.{◌≡◌, ◌+◌, ◌<◌, length, slice_index, slice_set, arith}
use Rattle.map_model.specs.Market.{Market}
use Rattle.map_model.specs.Allocation.{line_at}
use Rattle.map_model.proofs.MapForm.{IsLineAt-from}
use Rattle.offer_pool.specs.Table.{amount_in, place_at}
use Rattle.offer_pool.proofs.Refiled.{place_there}
use Rattle.offer_pool.proofs.Tables.{line_clear, line_put, line_room, lines-none}
use Rattle.offer_pool.proofs.table.put_lines.Goals as goal

pub loop-line-init : goal.loop-line-init
loop-line-init c = record { held = c.requires.held; so_far = lines-none c.args.amounts.now 0 c.requires.empty; clear = λ j _. c.requires.empty j }

pub put_units-requires-clause-offer : goal.put_units-requires-clause-offer
put_units-requires-clause-offer c = (IsLineAt-from c.args.lists.now c.args.lines.now c.loop-line.line-index (c.requires.form c.loop-line.line-index c.loop-line-test.true)).offer

pub put_units-requires-clause-room : goal.put_units-requires-clause-room
put_units-requires-clause-room c =
    let i = c.loop-line.line-index in
    let l = line_at c.args.lines.now i in
    let none : slice_index c.loop-line.amounts (place_at l.group.0 l.place) ≡ 0 =
    line_room c.args.lists.now c.args.lines.now c.loop-line.amounts i c.requires.held.market c.requires.form c.loop-line-test.true c.loop-line.invariant.clear (place_at l.group.0 l.place) (omega arith) in omega arith

pub loop-line-preserved : goal.loop-line-preserved
loop-line-preserved c =
    let m : Market = c.args.lists.now in
    let i = c.loop-line.line-index in
    let a = c.loop-line.amounts in
    let b = c.put_units.new.amounts in
    let l = line_at c.args.lines.now i in
    let here = IsLineAt-from m c.args.lines.now i (c.requires.form i c.loop-line-test.true) in
    let there : place_at l.group.0 l.place < length a = place_there m a c.requires.held.market c.loop-line.invariant.held.table l.group.0 l.place here.offer in
    let clear = line_room m c.args.lines.now a i c.requires.held.market c.requires.form c.loop-line-test.true c.loop-line.invariant.clear in
    let set : b ≡ slice_set a (place_at l.group.0 l.place) (amount_in a l.group.0 l.place + l.amount) = c.in_ok-put_units.ensures.ok in
    record {
      held = c.put_units.ensures.held;
      so_far = line_put m c.args.lines.now a b i c.requires.held.market c.requires.form c.loop-line-test.true c.loop-line.invariant.held.table clear c.loop-line.invariant.so_far set there;
      clear = line_clear m c.args.lines.now a b i (amount_in a l.group.0 l.place + l.amount) clear set;
    }
