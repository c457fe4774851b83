-- Inside this crate alone. What changes from one map to another, published.
use Rattle.std.proofs.Common.{◌≡◌, ℕ, ◌+◌, true, List, refl, sym, ap, subst, ◌∙◌}
use Rattle.map_model.specs.declared.lines.MapLine.{MapLine}
use Rattle.map_model.specs.declared.lines.NameLine.{NameLine}
use Rattle.map_model.specs.Market.{Market, IsMarket, IsSameShape}
use Rattle.map_model.specs.Allocation.{IsGood, IsMapForm}
use Rattle.map_model.proofs.NameForm.{IsMapForm-IsGood}
use Rattle.map_model.proofs.Shapes.{shape_trans}
use Rattle.topology_text.specs.Plan.{Plan}
use Rattle.published_map.specs.declared.delta.Delta.{Delta}
use Rattle.published_map.specs.Between.{IsBetween}
use Rattle.published_map.specs.Changes.{after, is_within}
use Rattle.published_map.specs.Version.{Version}
use Rattle.published_map.proofs.Within.{within}
use Rattle.world_versions.specs.declared.GoodMap.{GoodMap}
use Rattle.map_cell_tests.specs.Examples.{IsOf}

-- a version is that of its parts
whole : (g : GoodMap) (v : Version) → IsOf g v → v ≡ record { serial = v.serial; market = g.instance; lines = g.map.lines.items; names = g.map.names.items; plan = v.plan }
whole g v is = rw (← is.market, ← is.of_lines, ← is.of_names) refl

abbrev pub Between : GoodMap → GoodMap → ℕ → Delta → Type 0
Between g h s d = (plan : Plan) → IsBetween (record { serial = s; market = g.instance; lines = g.map.lines.items; names = g.map.names.items; plan = plan }) (record { serial = s + 1; market = h.instance; lines = h.map.lines.items; names = h.map.names.items; plan = plan }) d

pub fits : (g : GoodMap) (h : GoodMap) (v : Version) (d : Delta) → IsOf g v → Between g h v.serial d → is_within v d ≡ true
fits g h v d is b = subst (λ (w : Version). is_within w d ≡ true) (sym (whole g v is)) (within _ _ d (b v.plan))

pub leads : (g : GoodMap) (h : GoodMap) (v : Version) (d : Delta) → IsOf g v → Between g h v.serial d
    → after v d ≡ record { serial = v.serial + 1; market = h.instance; lines = h.map.lines.items; names = h.map.names.items; plan = v.plan }
leads g h v d is b = ap (λ (w : Version). after w d) (whole g v is) ∙ (b v.plan).leads

pub next_is : (g : GoodMap) (h : GoodMap) (v : Version) (d : Delta) → IsOf g v → IsMarket h.instance → IsGood h.instance h.map.lines.items h.map.names.items → IsSameShape g.instance h.instance
    → Between g h v.serial d → IsOf h (after v d)
next_is g h v d is market good shape b =
    let p = leads g h v d is b in
    let same : IsSameShape v.plan.market g.instance = subst (λ (k : Market). IsSameShape v.plan.market k) is.market is.good.shape in
    subst (IsOf h) (sym p) (record {
      good = record { plan = is.good.plan; market = market; shape = shape_trans v.plan.market g.instance h.instance same shape; good = good };
      market = refl;
      of_lines = refl;
      of_names = refl;
    })

pub form_of : (g : GoodMap) (v : Version) → IsMarket g.instance → IsOf g v → IsMapForm g.instance g.map.lines.items g.map.names.items
form_of g v market is = IsMapForm-IsGood g.instance market g.map.lines.items g.map.names.items (subst (λ (k : Market). IsGood k g.map.lines.items g.map.names.items) is.market (subst (λ (ls : List MapLine). IsGood v.market ls g.map.names.items) is.of_lines (subst (λ (ns : List NameLine). IsGood v.market v.lines ns) is.of_names is.good.good)))
