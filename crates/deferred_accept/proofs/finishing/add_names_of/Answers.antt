use Rattle.std.proofs.Common.{◌≡◌, ◌+◌, ◌<◌, ◌≤◌, ◌++◌, length, append-nil, sym, ap, ◌∙◌, refl, arith}
use Rattle.map_model.specs.Market.{choices_of, demand_of}
use Rattle.map_model.specs.Allocation.{placed_through}
use Rattle.stable_check.proofs.Blocking.{placed_below-zero, so_far_more, so_far_next}
use Rattle.stable_check.proofs.Names.{due_step, due_done}
use Rattle.evict.proofs.Settled.{small_demand}
use Rattle.map_model.proofs.Units.{through-le-placed}
use Rattle.deferred_accept.proofs.Finished.{due_met, push_turn, skip_turn}
use Rattle.deferred_accept.proofs.finishing.add_names_of.Goals as goal
use Rattle.deferred_accept.proofs.finishing.add_names_of.Goals.{in-Some+in_ok-push, in_default}

pub loop-place-init : goal.loop-place-init
loop-place-init c = record { so_far = placed_below-zero c.args.state.now.lines c.args.group.0; named = refl }

pub name-requires-clause-wanted : goal.name-requires-clause-wanted
name-requires-clause-wanted c =
    let here : c.loop-place.through + c.units-through.result ≡ placed_through c.args.state.now.lines c.args.group.0 c.loop-place.place
    = so_far_more c.args.state.now.lines c.args.group.0 c.loop-place.place _ _ c.loop-place.invariant.so_far c.units-through.ensures in
    omega (arith, here, c.if-through-demand.false, c.from-demand.ensures, c.demand.ensures)

pub returns-then-through-demand : goal.returns-then-through-demand
returns-then-through-demand c =
    let m = c.args.instance.now in
    let lines = c.args.state.now.lines in
    let here : c.loop-place.through + c.units-through.result ≡ placed_through lines c.args.group.0 c.loop-place.place
    = so_far_more lines c.args.group.0 c.loop-place.place _ _ c.loop-place.invariant.so_far c.units-through.ensures in
    let met : demand_of m c.args.group.0 ≤ placed_through lines c.args.group.0 c.loop-place.place = omega (arith, here, c.if-through-demand.true, c.from-demand.ensures, c.demand.ensures) in
    sym (append-nil c.loop-place.names.items) ∙ ap (λ ys. c.loop-place.names.items ++ ys) (sym (due_met m lines c.args.group.0 c.loop-place.place met)) ∙ c.loop-place.invariant.named

pub overflow_add-through : goal.overflow_add-through
overflow_add-through c =
    let here : c.loop-place.through + c.units-through.result ≡ placed_through c.args.state.now.lines c.args.group.0 c.loop-place.place
    = so_far_more c.args.state.now.lines c.args.group.0 c.loop-place.place _ _ c.loop-place.invariant.so_far c.units-through.ensures in
    let total = c.requires.ready.resumable.totals c.args.group.0 c.requires.group in
    omega (arith, here, through-le-placed c.args.state.now.lines c.args.group.0 c.loop-place.place, total, small_demand c.args.instance.now c.requires.ready.market c.args.group.0 c.requires.group)

pub loop-place-preserved : goal.loop-place-preserved
loop-place-preserved c =
    let m = c.args.instance.now in
    let lines = c.args.state.now.lines in
    let within : c.loop-place.place < length (choices_of c.args.instance.now c.args.group.0) = omega arith in
    let step = due_step m lines c.args.group.0 c.loop-place.place within in
    record {
      so_far = so_far_next lines c.args.group.0 c.loop-place.place _ (so_far_more lines c.args.group.0 c.loop-place.place _ _ c.loop-place.invariant.so_far c.units-through.ensures);
      named = elim c.match-name.branch [
        | in-Some+in_ok-push w ↦ rw w.names-is (rw w.in_ok-push.ensures.items (push_turn c.loop-place.names.items _ _ _ _ w.in-Some.name c.loop-place.invariant.named step (sym c.name.ensures ∙ w.in-Some.is)))
        | in_default w ↦ rw w.names-is (skip_turn c.loop-place.names.items _ _ _ _ c.loop-place.invariant.named step (sym c.name.ensures ∙ w.in_default.is))
      ];
    }

pub returns : goal.returns
returns c =
    let m = c.args.instance.now in
    let lines = c.args.state.now.lines in
    sym (append-nil c.loop-place.names.items) ∙ ap (λ ys. c.loop-place.names.items ++ ys) (sym (due_done m lines c.args.group.0 c.loop-place.place (omega arith))) ∙ c.loop-place.invariant.named
