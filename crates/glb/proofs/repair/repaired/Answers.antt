use Rattle.std.proofs.Common.{◌∙◌, [], ◌∷◌, List, ℕ, ap, refl, subst}
use Rattle.map_model.specs.Market.{IsMarket, Market}
use Rattle.map_model.specs.Batch.{IsApplied}
use Rattle.map_model.proofs.NameForm.{IsMapForm-IsGood}
use Rattle.map_model.proofs.Shapes.{IsMapForm-shape, shape_sym}
use Rattle.map_repair.specs.Repaired.{IsKept, IsLocal, IsWithinTwiceSpread}
use Rattle.map_repair.specs.Resumed.{HasRepaired}
use Rattle.map_text.specs.Writing.{mapped}
use Rattle.glb.proofs.repair.repaired.Goals as goal

pub write_map-requires : goal.write_map-requires
write_map-requires c =
    let map = c.in_ok-map.map in
    let applied : IsApplied c.args.topology.now.market c.args.changes.now c.apply.new.instance = subst (λ (m : Market). IsApplied m c.args.changes.now c.apply.new.instance) (c.in_ok-instance.ensures ∙ c.instance.ensures.instance) c.apply.ensures in
    IsMapForm-shape c.apply.new.instance c.args.topology.now.market (shape_sym c.args.topology.now.market c.apply.new.instance applied.shape) map.lines.items map.names.items
    (IsMapForm-IsGood c.apply.new.instance (subst IsMarket c.instance-3.view_is c.instance-3.invariant) map.lines.items map.names.items c.in_ok-map.ensures.good)

pub returns : goal.returns
returns c =
    let map = c.in_ok-map.map in
    let old = c.args.map.now.lines.items in
    record {
      status = refl;
      repaired = record {
        good = c.requires.good;
        changed = c.apply.new.instance;
        applied = subst (λ (m : Market). IsApplied m c.args.changes.now c.apply.new.instance) (c.in_ok-instance.ensures ∙ c.instance.ensures.instance) c.apply.ensures;
        repaired = mapped map;
        good_again = c.in_ok-map.ensures.good;
        kept = subst (λ (m : Market). IsKept m old c.apply.new.instance map.lines.items) c.instance-2.ensures.instance c.in_ok-map.ensures.kept;
        local = subst (λ (m : Market). IsLocal m old c.apply.new.instance map.lines.items) c.instance-2.ensures.instance c.in_ok-map.ensures.local;
        steps = c.repair.new.steps;
        counted = subst (λ (n : ℕ). HasRepaired c.args.topology.now.market old c.apply.new.instance map.lines.items n c.repair.new.steps) c.new-steps.ensures (subst (λ (m : Market). HasRepaired m old c.apply.new.instance map.lines.items c.new-steps.result c.repair.new.steps) c.instance-2.ensures.instance c.in_ok-map.ensures.counted);
        few = subst (λ (n : ℕ). IsWithinTwiceSpread c.args.topology.now.market old c.apply.new.instance n c.repair.new.steps) c.new-steps.ensures (subst (λ (m : Market). IsWithinTwiceSpread m old c.apply.new.instance c.new-steps.result c.repair.new.steps) c.instance-2.ensures.instance c.in_ok-map.ensures.steps);
        text = ap (λ (text : List ℕ). text ∷ []) c.in_ok-text.ensures.text;
      };
    }
