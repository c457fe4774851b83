-- The addresses that answer for a service, by the steps that find them.
use Rattle.std.proofs.Common.{◌≡◌, ℕ, Bool, true, false, List, Some, None, sym, ap, ◌∙◌}
use Rattle.std.specs.Prelude.{if◌then◌else◌, not}
use Rattle.std.specs.Option.{option_and_then}
use Rattle.addr_text.specs.declared.address.Addr.{Addr}
use Rattle.map_model.specs.declared.instance.GroupId.{GroupId}
use Rattle.prefix_lookup.specs.Longest.{group_of}
use Rattle.topology_text.specs.Plan.{addresses_of, unit_of}
use Rattle.published_map.specs.Version.{Version}
use Rattle.answer_core.specs.Grammar.{Request}
use Rattle.answer_core.specs.declared.outcome.Outcome.{Outcome}
use Rattle.answer_core.specs.Outcome.{NoData, answered_kind, at_service, client_of, is_address_kind, of_addresses, of_pool, pool_for, pool_for_unit, told_scope}

by_kind : (b : Bool) (kind answered : ℕ) (found : ℕ → Outcome (List Addr)) → Some kind ≡ (if b then Some answered else None) → found kind ≡ (if not b then NoData else found answered)
by_kind true kind answered found e = let same : kind ≡ answered = cc in ap found same
by_kind false kind answered found e = absurd cc

pub chosen : (v : Version) (r : Request) (from : Addr) (draw kind scope pool service : ℕ) (g : GroupId) → Some kind ≡ (if is_address_kind r.asked.kind then Some (answered_kind r.asked.kind) else None) → scope ≡ told_scope v r.subnet → group_of v.plan.prefixes (client_of r.subnet from) ≡ Some g
    → Some pool ≡ pool_for_unit v draw (unit_of v.plan g.0 service) → of_addresses kind (addresses_of v.plan pool kind) scope ≡ at_service v r from draw service
chosen v r from draw kind scope pool service g is told group found =
    let at : Some pool ≡ pool_for v (client_of r.subnet from) service draw = found ∙ sym (ap (option_and_then (λ (h : GroupId). pool_for_unit v draw (unit_of v.plan h.0 service))) group) in
    ap (λ (s : ℕ). of_addresses kind (addresses_of v.plan pool kind) s) told
    ∙ ap (of_pool v kind (told_scope v r.subnet)) at
    ∙ by_kind (is_address_kind r.asked.kind) kind (answered_kind r.asked.kind) (λ k. of_pool v k (told_scope v r.subnet) (pool_for v (client_of r.subnet from) service draw)) is
