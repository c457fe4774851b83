use Rattle.std.proofs.Common.{arith, sym, ◌∙◌}
use Rattle.mapper.specs.Mappers.{IsMapping}
use Rattle.big_run.proofs.Whole.{run_or_none}
use Rattle.big_run.proofs.run.run_world.Goals as goal

pub returns : goal.returns
returns g c =
    let topology = c.in_ok-topology-2.topology in
    let mapping : IsMapping topology.market c.in-Ok.mapper.newest.lines 0 c.count.result = rw (c.new-proposals.ensures, sym c.count.ensures) at c.in-Ok.ensures.counted in
    run_or_none c.args.groups topology c.in-Ok.mapper c.work-done.new.mapper c.as_slice-2.result.now c.work-done.result c.count.result
    c.requires.some
    c.requires.most
    c.in_ok-topology-2.ensures
    (c.as_slice-2.ensures.value ∙ c.in_ok-topology.ensures.feed)
    c.in-Ok.ensures.mapper
    c.work-done.ensures.done
    c.work-done.ensures.sums
    mapping
    (omega (arith, c.count.ensures, c.new-proposals.ensures, c.in-Ok.ensures.steps))
