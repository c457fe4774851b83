use Rattle.std.proofs.Common.{◌≡◌, ◌+◌, ◌-◌, ◌<◌, ◌^◌, length, take, slice_index, refl, ap, ◌∙◌, subst, arith}
use Rattle.std.proofs.Math.ListN.{length-set}
use Rattle.std.proofs.lemmas.List.{take_all}
use Rattle.map_model.specs.declared.instance.NodeId.{NodeId}
use Rattle.map_model.specs.declared.lines.MapLine.{MapLine}
use Rattle.map_model.specs.Market.{Market, demand_of}
use Rattle.map_model.specs.Allocation.{IsOffer, line_at, placed}
use Rattle.map_model.proofs.MapForm.{IsLineAt-from, no_line}
use Rattle.map_model.proofs.Paths.{pool_there}
use Rattle.evict.specs.Putting.{AgreesWith}
use Rattle.evict.proofs.Fresh.{agrees-nothing}
use Rattle.evict.proofs.Settled.{small_demand}
use Rattle.evict.proofs.OfMap.{free_more, line_fits, loaded_more, loaded_room}
use Rattle.evict.proofs.loading.load_lines.Goals as goal

pub loop-line-init : goal.loop-line-init
loop-line-init c = record {
  agrees = agrees-nothing c.args.instance.now c.args.tree.now c.requires.trees c.requires.empty;
  count = refl;
  free = λ g l. let none : placed (take 0 c.args.lines.now) g ≡ 0 = refl in omega (arith, c.requires.all g l, none);
}

pub pool_at-pool-requires : goal.pool_at-pool-requires
pool_at-pool-requires c = (IsLineAt-from c.args.instance.now c.args.lines.now c.loop-line.line-index (c.requires.form c.loop-line.line-index c.loop-line-test.true)).offer

pub add-requires-clause-pool : goal.add-requires-clause-pool
add-requires-clause-pool c =
    let m : Market = c.args.instance.now in
    let x : MapLine = line_at c.args.lines.now c.loop-line.line-index in
    let o : IsOffer m x.group.0 x.place = (IsLineAt-from m c.args.lines.now c.loop-line.line-index (c.requires.form c.loop-line.line-index c.loop-line-test.true)).offer in
    omega (arith, pool_there m c.requires.market x.group.0 x.place o, ap (λ (p : NodeId). p.0) c.pool_at-pool.ensures, c.loop-line.invariant.agrees.trees.nodes)

pub add-requires-clause-room : goal.add-requires-clause-room
add-requires-clause-room c = λ n l on.
    let m : Market = c.args.instance.now in
    let i = c.loop-line.line-index in
    let x : MapLine = line_at c.args.lines.now i in
    let o : IsOffer m x.group.0 x.place = (IsLineAt-from m c.args.lines.now i (c.requires.form i c.loop-line-test.true)).offer in
    let fits = line_fits m c.args.lines.now i no_line c.requires.feasible c.loop-line-test.true o.group in
    let small : c.from-units.result < 2 ^ 32 = omega (arith, fits, small_demand m c.requires.market x.group.0 o.group, c.from-units.ensures) in
    loaded_room m c.requires.market c.args.lines.now i c.requires.feasible c.loop-line.tree c.loop-line.invariant.agrees n c.from-units.result l small

pub overflow_sub-free : goal.overflow_sub-free
overflow_sub-free c =
    let m : Market = c.args.instance.now in
    let i = c.loop-line.line-index in
    let x : MapLine = line_at c.args.lines.now i in
    let o : IsOffer m x.group.0 x.place = (IsLineAt-from m c.args.lines.now i (c.requires.form i c.loop-line-test.true)).offer in
    let fits = line_fits m c.args.lines.now i no_line c.requires.feasible c.loop-line-test.true o.group in
    omega (arith, fits, c.loop-line.invariant.free x.group.0 o.group, c.from-units.ensures)

pub loop-line-preserved : goal.loop-line-preserved
loop-line-preserved c =
    let m : Market = c.args.instance.now in
    let i = c.loop-line.line-index in
    let x : MapLine = line_at c.args.lines.now i in
    let o : IsOffer m x.group.0 x.place = (IsLineAt-from m c.args.lines.now i (c.requires.form i c.loop-line-test.true)).offer in
    let fits = line_fits m c.args.lines.now i no_line c.requires.feasible c.loop-line-test.true o.group in
    let was = c.loop-line.invariant.free x.group.0 o.group in
    let count : length c.loop-line.free ≡ length m.groups = c.loop-line.invariant.count ∙ c.requires.count in
    record {
      agrees = loaded_more m c.args.lines.now i no_line c.loop-line-test.true c.loop-line.tree c.add.new.self c.pool_at-pool.result.0 c.from-units.result c.loop-line.invariant.agrees (ap (λ (p : NodeId). p.0) c.pool_at-pool.ensures) c.from-units.ensures c.add.ensures;
      count = length-set c.loop-line.free x.group.0 _ ∙ c.loop-line.invariant.count;
      free = free_more m c.args.lines.now i no_line c.loop-line-test.true c.loop-line.free (slice_index c.loop-line.free x.group.0 - c.from-units.result) count o.group c.loop-line.invariant.free (omega (arith, fits, was, c.from-units.ensures));
    }

pub returns-clause-agrees : goal.returns-clause-agrees
returns-clause-agrees c = subst (λ ls. AgreesWith c.args.instance.now ls c.loop-line.tree) (take_all _ c.args.lines.now c.loop-line-test.false) c.loop-line.invariant.agrees

pub returns-clause-free : goal.returns-clause-free
returns-clause-free c = λ g l. subst (λ ls. placed ls g + slice_index c.loop-line.free g ≡ demand_of c.args.instance.now g) (take_all _ c.args.lines.now c.loop-line-test.false) (c.loop-line.invariant.free g l)
