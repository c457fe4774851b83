-- The first version, published alone.
use Rattle.std.proofs.Common.{◌≡◌, [], ◌∷◌, refl}
use Rattle.map_model.specs.Allocation.{IsGood}
use Rattle.map_model.specs.Progress.{IsGroupBest}
use Rattle.topology_text.specs.Plan.{Plan}
use Rattle.published_map.specs.Version.{IsVersion, Version}
use Rattle.mapper.specs.Mappers.{IsFirst}

pub first_is : (t : Plan) (v : Version) → IsVersion v × (v.serial ≡ 0) × (v.market ≡ t.market) → v.plan ≡ t → IsGroupBest t.market v.lines → IsFirst t (record { history = v ∷ []; newest = v })
first_is t v (is, serial, market) plan best =
    let good : IsGood t.market v.lines v.names = rw market at is.good in
    record { history = refl; serial = serial; plan = plan; market = market; good = good; best = best }
