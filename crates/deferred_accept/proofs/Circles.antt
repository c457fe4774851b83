-- The hops of a circle: all displaced groups differ, and all full nodes.
use Rattle.std.proofs.Common.{◌≡◌, ℕ, zero, suc, ◌+◌, ◌-◌, ◌<◌, List, [], ◌∷◌, AllPairs, get_or, length, map, sym, ap, ◌∙◌, inl, inr, arith}
use Rattle.std.proofs.lemmas.Bool.{cases_order}
use Rattle.std.proofs.lemmas.List.{get_or-map, get_or_append_left, get_or_default, get_or_push, length-map}
use Rattle.map_model.specs.Market.{Market, IsMarket}
use Rattle.evict.specs.Standing.{Standing}
use Rattle.deferred_accept.specs.declared.circle.Hop.{Hop}
use Rattle.deferred_accept.specs.Turning.{IsCircle, displaced, hopper}
use Rattle.deferred_accept.proofs.Nearest.{hop_one, node_one}

-- each hop but the last displaces the group of the next one
pub displaces_next : (m : Market) (state : Standing) (first : Hop) (rest : List Hop) (units : ℕ) → IsCircle m state first rest units → (i : ℕ) (d : Hop) → i < length rest → displaced (get_or (first ∷ rest) i d) ≡ hopper (get_or rest i d)
displaces_next m state first rest units circle i d l =
    let there : i < length (map hopper rest) = omega (arith, length-map rest hopper) in
    sym (get_or-map displaced (first ∷ rest) i d 0 (omega arith)) ∙ ap (λ (xs : List ℕ). get_or xs i 0) circle.linked ∙ get_or_append_left (map hopper rest) (hopper first ∷ []) 0 i there ∙ get_or-map hopper rest i d 0 l

-- and the last one displaces the first group
pub displaces_first : (m : Market) (state : Standing) (first : Hop) (rest : List Hop) (units : ℕ) → IsCircle m state first rest units → (i : ℕ) (d : Hop) → i ≡ length rest → displaced (get_or (first ∷ rest) i d) ≡ hopper first
displaces_first m state first rest units circle i d e =
    sym (get_or-map displaced (first ∷ rest) i d 0 (omega arith)) ∙ ap (λ (xs : List ℕ). get_or xs i 0) circle.linked ∙ get_or_push (map hopper rest) (hopper first) 0 i (length-map rest hopper ∙ sym e)

-- Were one group displaced by two hops, the hops after them would be of one group, and so on, up to the last one: so the first group would come back too early.
apart : (m : Market) (state : Standing) → IsMarket m → (first : Hop) (rest : List Hop) (units : ℕ) → IsCircle m state first rest units → (more i j : ℕ) (d : Hop) → i < j → length rest ≡ j + more
    → displaced (get_or (first ∷ rest) i d) ≡ displaced (get_or (first ∷ rest) j d) → ⊥
apart m state market first rest units circle zero i j d l e same =
    circle.once i d (omega arith) (sym (displaces_next m state first rest units circle i d (omega arith)) ∙ same ∙ displaces_first m state first rest units circle j d (omega arith))
apart m state market first rest units circle (suc more) i j d l e same =
    let groups : hopper (get_or rest i d) ≡ hopper (get_or rest j d) = sym (displaces_next m state first rest units circle i d (omega arith)) ∙ same ∙ displaces_next m state first rest units circle j d (omega arith) in
    apart m state market first rest units circle more (suc i) (suc j) d (omega arith) (omega arith)
    (hop_one m state market (get_or rest i d) (get_or rest j d) (circle.hops (suc i) d (omega arith)) (circle.hops (suc j) d (omega arith)) groups)

-- all displaced groups differ
pub displaced_apart : (m : Market) (state : Standing) → IsMarket m → (first : Hop) (rest : List Hop) (units : ℕ) → IsCircle m state first rest units → AllPairs (λ a b. displaced a ≡ displaced b → ⊥) (first ∷ rest)
displaced_apart m state market first rest units circle i j d l there same = apart m state market first rest units circle (length rest - j) i j d l (omega arith) same

-- all full nodes differ
pub nodes_apart : (m : Market) (state : Standing) → IsMarket m → (first : Hop) (rest : List Hop) (units : ℕ) → IsCircle m state first rest units → AllPairs (λ a b. a.rival.node.0 ≡ b.rival.node.0 → ⊥) (first ∷ rest)
nodes_apart m state market first rest units circle i j d l there same =
    displaced_apart m state market first rest units circle i j d l there (node_one m state market (get_or (first ∷ rest) i d) (get_or (first ∷ rest) j d) (circle.hops i d (omega arith)) (circle.hops j d there) same).0

-- two hops that displace one group are one
pub same_hop : (m : Market) (state : Standing) → IsMarket m → (first : Hop) (rest : List Hop) (units : ℕ) → IsCircle m state first rest units → (i j : ℕ) (d e : Hop) → i < length (first ∷ rest) → j < length (first ∷ rest)
    → displaced (get_or (first ∷ rest) i d) ≡ displaced (get_or (first ∷ rest) j e) → get_or (first ∷ rest) i d ≡ get_or (first ∷ rest) j e
same_hop m state market first rest units circle i j d e l l' same =
    let hops : List Hop = first ∷ rest in
    let at : get_or hops j e ≡ get_or hops j d = get_or_default hops j e d l' in
    elim (cases_order i j) [
      | inl k ↦ ap (λ (x : ℕ). get_or hops x d) k ∙ sym at
      | inr (inl k) ↦ absurd (displaced_apart m state market first rest units circle i j d k l' (same ∙ ap displaced at))
      | inr (inr k) ↦ absurd (displaced_apart m state market first rest units circle j i d k l (sym (same ∙ ap displaced at)))
    ]
