-- What a version's table of prefixes says of an address.
use Rattle.addr_text.specs.declared.address.Addr.{Addr}
use Rattle.prefix_lookup.specs.Longest.{IsAddress}
use Rattle.prefix_lookup.proofs.Defaults.{has_group}
use Rattle.prefix_lookup.proofs.Scopes.{scope_is}
use Rattle.published_map.specs.Version.{Version, IsVersion}
use Rattle.answer_core.specs.Outcome.{IsLookedUp}

pub looked_up : (v : Version) (a : Addr) → IsVersion v → IsAddress a → IsLookedUp v a
looked_up v a kept fits =
    let prefixes = kept.plan.prefixes in
    record {
      group = has_group a v.plan.prefixes fits (record { each = prefixes.each; once = prefixes.once; all_v4 = prefixes.all_v4; all_v6 = prefixes.all_v6 });
      scope = scope_is a v.plan.prefixes fits prefixes.each;
    }
