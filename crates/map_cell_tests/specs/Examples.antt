-- Inside this crate alone. The version of an instance and a map.
use Rattle.std.specs.Prelude.{◌≡◌}
use Rattle.map_model.specs.Market.{IsSameShape}
use Rattle.map_model.specs.Allocation.{IsGood}
use Rattle.published_map.specs.Version.{Version, IsVersion}
use Rattle.world_versions.specs.declared.GoodMap.{GoodMap}

-- it is good, and of that instance and map
pub record IsOf (g : GoodMap) (v : Version) : Type 0 where
  pub good : IsVersion v
  pub market : v.market ≡ g.instance
  pub of_lines : v.lines ≡ g.map.lines.items
  pub of_names : v.names ≡ g.map.names.items

-- both are good maps of their instances, of one shape
pub record AreGood (g : GoodMap) (h : GoodMap) : Type 0 where
  pub there : IsSameShape g.instance h.instance
  pub back : IsSameShape h.instance g.instance
  pub old_good : IsGood g.instance g.map.lines.items g.map.names.items
  pub new_good : IsGood h.instance h.map.lines.items h.map.names.items

-- and the newest version is the first, of serial 0
pub record IsReady (g : GoodMap) (h : GoodMap) (v : Version) : Type 0 where
  pub newest : IsOf g v
  pub first : v.serial ≡ 0
  pub both : AreGood g h
