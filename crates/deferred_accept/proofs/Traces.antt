-- Hops one after another, from a group on, until they come back to it.
use Rattle.std.proofs.Common.{◌≡◌, ℕ, ◌<◌, List, [], ◌∷◌, ◌++◌, All, map, slice_index, sym, ap, ◌∙◌, subst}
use Rattle.std.proofs.lemmas.List.{map-append}
use Rattle.std.proofs.lemmas.List.Elements.{All-push}
use Rattle.map_model.specs.Market.{Market}
use Rattle.evict.specs.Standing.{Standing}
use Rattle.deferred_accept.specs.declared.circle.Hop.{Hop}
use Rattle.deferred_accept.specs.Turning.{AreRound, IsHop, displaced, hopper}

-- hops from a group on, each of the group that the one before displaces, and the group that the last one displaces
pub record IsTrace (m : Market) (state : Standing) (start : ℕ) (hops : List Hop) (next : ℕ) : Type 0 where
  pub first : Hop
  pub rest : List Hop
  pub listed : hops ≡ first ∷ rest
  pub starts : hopper first ≡ start
  pub all : All (λ h. IsHop m state h) (first ∷ rest)
  pub linked : map displaced (first ∷ rest) ≡ map hopper rest ++ next ∷ []
  pub once : All (λ h. hopper h ≡ start → ⊥) rest
  pub idle : All (λ h. slice_index state.free (hopper h) ≡ 0) rest

-- one hop more
pub trace_more : (m : Market) (state : Standing) (start next : ℕ) (hops more : List Hop) (hop : Hop) → IsTrace m state start hops next → IsHop m state hop → hopper hop ≡ next → slice_index state.free (hopper hop) ≡ 0 → (next ≡ start → ⊥) → more ≡ hops ++ hop ∷ []
    → IsTrace m state start more (displaced hop)
trace_more m state start next hops more hop trace is at idle apart listed = record {
  first = trace.first;
  rest = trace.rest ++ hop ∷ [];
  listed = listed ∙ ap (λ hs. hs ++ hop ∷ []) trace.listed;
  starts = trace.starts;
  all = All-push (λ h. IsHop m state h) (trace.first ∷ trace.rest) hop trace.all is;
  linked = map-append displaced (trace.first ∷ trace.rest) (hop ∷ []) ∙ ap (λ gs. gs ++ displaced hop ∷ []) (trace.linked ∙ ap (λ g. map hopper trace.rest ++ g ∷ []) (sym at) ∙ sym (map-append hopper trace.rest (hop ∷ [])));
  once = All-push (λ h. hopper h ≡ start → ⊥) trace.rest hop trace.once (λ e. apart (sym at ∙ e));
  idle = All-push (λ h. slice_index state.free (hopper h) ≡ 0) trace.rest hop trace.idle idle;
}

-- back at the first group
pub trace_done : (m : Market) (state : Standing) (start next : ℕ) (hops : List Hop) → IsTrace m state start hops next → next ≡ start → 0 < slice_index state.free start → AreRound m state hops (slice_index state.free start)
trace_done m state start next hops trace back some = record {
  first = trace.first;
  rest = trace.rest;
  listed = trace.listed;
  circle = record {
    hops = trace.all;
    linked = trace.linked ∙ ap (λ g. map hopper trace.rest ++ g ∷ []) (back ∙ sym trace.starts);
    once = subst (λ g. All (λ h. hopper h ≡ g → ⊥) trace.rest) (sym trace.starts) trace.once;
    some = some;
    free = ap (slice_index state.free) trace.starts;
    idle = trace.idle;
  };
}
