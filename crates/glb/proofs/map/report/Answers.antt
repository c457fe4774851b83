use Rattle.std.proofs.Common.{rules, ◌∷◌, [], List, ℕ, ap, refl, subst}
use Rattle.map_model.specs.Market.{Market}
use Rattle.map_model.specs.Allocation.{IsGood}
use Rattle.map_text.specs.Writing.{mapped}
use Rattle.mapper.specs.Mappers.{IsFromScratch}
use Rattle.glb.proofs.map.report.Goals as goal

pub returns : goal.returns
returns c =
    let map = c.in_ok-map.map in
    record {
      ended = record {
        status = refl;
        text = (
          mapped map,
          subst (λ (m : Market). IsGood m map.lines.items map.names.items) c.instance.ensures.instance c.in_ok-map.ensures.good,
          subst (λ (m : Market). IsFromScratch m map.lines.items) c.instance.ensures.instance c.in_ok-map.ensures.scratch,
          ap (λ (text : List ℕ). text ∷ []) c.in_ok-text.ensures.text,
        );
      };
      source = search rules;
    }
