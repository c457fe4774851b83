use Rattle.std.proofs.Common.{◌≡◌, [], ◌∷◌, refl, arith}
use Rattle.text_parts.specs.Parts.{but_last, parts}
use Rattle.demand_feed.specs.Task.{tasks_of, up_to_stop}
use Rattle.demand_feed.specs.Taking.{AllDo}
use Rattle.big_run.specs.Publishing.{TaskPublishes}
use Rattle.big_run.proofs.Taken.{cut_off, ended, from_first, stops, taken, went_on}
use Rattle.big_run.proofs.work.take_lines.Goals as goal

pub returns-then-not-branch-clause-done : goal.returns-then-not-branch-clause-done
returns-then-not-branch-clause-done g c =
    let t = c.args.topology.now in
    let line = c.in-Some.line.now in
    let more = but_last (parts 10 c.in-Some.behind.now) in
    let done = ended t line c.in_ok-take_line.field-0 c.lines.clerk.ledger c.take_line.new.clerk.ledger c.lines.mapper c.take_line.new.mapper c.if-not-branch.true c.in_ok-take_line.ensures.taken in
    let lines = cut_off c.lines.rest.now line c.in-Some.behind.now c.in-Some.ensures.parts in
    let last : AllDo TaskPublishes (tasks_of t c.lines.clerk.ledger (up_to_stop (but_last (parts 10 c.lines.rest.now)))) c.lines.mapper c.lines.mapper = rw lines (stops t c.lines.clerk.ledger line more c.lines.mapper done.0) in
    let all = c.lines.invariant.whole c.lines.mapper last in
    rw done.1 (from_first t c.args.feed.now c.args.clerk.now.ledger c.args.mapper.now c.lines.mapper c.requires.fresh all)

pub lines-preserved : goal.lines-preserved
lines-preserved g c =
    let t = c.args.topology.now in
    let line = c.in-Some.line.now in
    let behind = c.in-Some.behind.now in
    let more = but_last (parts 10 behind) in
    let i = c.lines.invariant in
    let e = c.in_ok-take_line.ensures in
    let on = went_on t line c.in_ok-take_line.field-0 c.lines.clerk.ledger c.take_line.new.clerk.ledger c.lines.mapper c.take_line.new.mapper c.if-not-branch.false e.taken in
    let lines = cut_off c.lines.rest.now line behind c.in-Some.ensures.parts in
    record {
      work = e.work;
      number = omega (arith, i.number, e.number, c.in-Some.ensures.shorter);
      serial = omega (arith, i.serial, e.serial, c.in-Some.ensures.shorter);
      whole = λ last all.
          let longer : AllDo TaskPublishes (tasks_of t c.lines.clerk.ledger (up_to_stop (but_last (parts 10 c.lines.rest.now)))) c.lines.mapper last =
          rw lines (taken t c.lines.clerk.ledger c.take_line.new.clerk.ledger line more c.lines.mapper c.take_line.new.mapper last on.0 on.1 on.2 all) in
          i.whole last longer;
    }

pub returns-clause-done : goal.returns-clause-done
returns-clause-done g c =
    let t = c.args.topology.now in
    let rest = c.lines.rest.now in
    let whole : parts 10 rest ≡ rest ∷ [] = c.in_default.ensures.parts in
    let last : AllDo TaskPublishes (tasks_of t c.lines.clerk.ledger (up_to_stop (but_last (parts 10 rest)))) c.lines.mapper c.lines.mapper = rw whole refl in
    from_first t c.args.feed.now c.args.clerk.now.ledger c.args.mapper.now c.lines.mapper c.requires.fresh (c.lines.invariant.whole c.lines.mapper last)
