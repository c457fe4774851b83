use Rattle.std.proofs.Common.{ℕ, subst, arith}
use Rattle.map_model.specs.Market.{Market, pool_of}
use Rattle.best_check.specs.Fullness.{FirstFull}
use Rattle.best_check.proofs.Tables.{first_at, first_there, noted, passed_other}
use Rattle.best_check.proofs.table.note_offer.Goals as goal

pub slice_copy_out-goes_before : goal.slice_copy_out-goes_before
slice_copy_out-goes_before c =
    let m : Market = c.args.instance.now in
    let g : ℕ = c.args.offer.group.0 in
    let k : ℕ = c.args.offer.place in
    let found = first_at m c.requires.ready.market c.args.state.now.lines g k c.requires.offer c.args.nearest.now c.requires.nearest c.key-key.result c.key-key.ensures in
    omega (arith, first_there m c.requires.ready.market c.args.state.now.lines g k c.in-Some.node.0 (subst (FirstFull m c.args.state.now.lines (pool_of m g k)) c.in-Some.is found) c.requires.offer, c.requires.table.size)

pub bounds-table-at : goal.bounds-table-at
bounds-table-at c =
    let m : Market = c.args.instance.now in
    let g : ℕ = c.args.offer.group.0 in
    let k : ℕ = c.args.offer.place in
    let found = first_at m c.requires.ready.market c.args.state.now.lines g k c.requires.offer c.args.nearest.now c.requires.nearest c.key-key.result c.key-key.ensures in
    omega (arith, first_there m c.requires.ready.market c.args.state.now.lines g k c.in-Some.node.0 (subst (FirstFull m c.args.state.now.lines (pool_of m g k)) c.in-Some.is found) c.requires.offer, c.requires.table.size)

pub returns-then-goes_before : goal.returns-then-goes_before
returns-then-goes_before c =
    let m : Market = c.args.instance.now in
    let g : ℕ = c.args.offer.group.0 in
    let k : ℕ = c.args.offer.place in
    let found = first_at m c.requires.ready.market c.args.state.now.lines g k c.requires.offer c.args.nearest.now c.requires.nearest c.key-key.result c.key-key.ensures in
    noted m c.requires.ready.market c.args.state.now.lines _ c.in-Some.node.0 c.args.table.now (record { offer = c.args.offer; key = c.key-key.result }) c.requires.table c.requires.offer (c.requires.past g c.requires.offer.group) c.requires.before c.if-goes_before.ensures.room
    (subst (FirstFull m c.args.state.now.lines (pool_of m g k)) c.in-Some.is found) c.key-key.ensures c.if-goes_before.ensures.before

pub returns-else-goes_before : goal.returns-else-goes_before
returns-else-goes_before c =
    let m : Market = c.args.instance.now in
    let g : ℕ = c.args.offer.group.0 in
    let k : ℕ = c.args.offer.place in
    let found = first_at m c.requires.ready.market c.args.state.now.lines g k c.requires.offer c.args.nearest.now c.requires.nearest c.key-key.result c.key-key.ensures in
    passed_other m c.requires.ready.market c.args.state.now.lines g k c.in-Some.node.0 c.args.table.now c.key-key.result c.requires.table (subst (FirstFull m c.args.state.now.lines (pool_of m g k)) c.in-Some.is found) c.key-key.ensures c.if-goes_before.ensures.otherwise
