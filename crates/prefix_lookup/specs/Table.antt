-- What prefixes a lookup can be made of.
use Rattle.std.specs.Prelude.{◌≡◌, List, map, All, AllPairs, Contains}
use Rattle.addr_text.specs.declared.address.Prefix.{Prefix}
use Rattle.addr_text.specs.Addresses.{IsPrefix, default_v4, default_v6}
use Rattle.map_model.specs.declared.instance.GroupId.{GroupId}

-- each has a length within its family's and no bit beyond it, each stands once, and both that hold all addresses of a family are there
pub record IsTable (table : List (Prefix × GroupId)) : Type 0 where
  pub each : All (λ e. IsPrefix e.0) table
  pub once : AllPairs (λ e f. e.0 ≡ f.0 → ⊥) table
  pub all_v4 : Contains (map (λ e. e.0) table) default_v4
  pub all_v6 : Contains (map (λ e. e.0) table) default_v6
