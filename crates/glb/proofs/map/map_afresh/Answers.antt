use Rattle.std.proofs.Common.{Result, Ok, Err, IfOk, List, sym, subst}
use Rattle.std.proofs.lemmas.Result.{IfOk-weaker}
use Rattle.map_model.specs.declared.lines.MapLine.{MapLine}
use Rattle.map_model.specs.declared.lines.MapLines.{MapLines}
use Rattle.map_model.specs.Market.{Market, IsMarket}
use Rattle.map_model.specs.Allocation.{IsGood, IsMapForm}
use Rattle.map_model.proofs.NameForm.{IsMapForm-IsGood}
use Rattle.no_memory.specs.declared.NoMemory.{NoMemory}
use Rattle.mapper.specs.Mappers.{IsFromScratch}
use Rattle.mapper.proofs.Fresh.{ended_best}
use Rattle.glb.proofs.Scratch.{scratch_of}
use Rattle.glb.proofs.map.map_afresh.Goals as goal

-- a map that is good is in the form of a map
in_form : (m : Market) → IsMarket m → (r : Result MapLines NoMemory) → IfOk r (λ map. IsGood m map.lines.items map.names.items) → IfOk r (λ map. IsMapForm m map.lines.items map.names.items)
in_form m market (Ok map) good = IsMapForm-IsGood m market map.lines.items map.names.items good
in_form m market (Err e) good = tt

pub returns-clause-form : goal.returns-clause-form
returns-clause-form c = in_form c.args.instance.now c.in_ok-state.ensures.fresh.ready.market c.finish.result c.finish.ensures.good

pub returns-clause-scratch : goal.returns-clause-scratch
returns-clause-scratch c =
    let run = c.in_ok-run.ensures in
    let made = scratch_of c.args.instance.now c.in_ok-state.state c.run.new.state c.new-steps.result c.run.new.steps c.in_ok-state.ensures.fresh c.new-steps.ensures run.counted run.steps
    (ended_best c.args.instance.now c.in_ok-state.state c.run.new.state c.in_ok-state.ensures.fresh run.run run.ended run.ahead) in
    IfOk-weaker c.finish.result _ _ (λ map lines. subst (λ (ls : List MapLine). IsFromScratch c.args.instance.now ls) (sym lines) made) c.finish.ensures.lines
