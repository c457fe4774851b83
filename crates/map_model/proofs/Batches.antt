-- Batches: one change more keeps the shape and gives its number.
use Rattle.std.proofs.Common.{◌≡◌, ℕ, ◌<◌, ◌==◌, Bool, true, false, if◌then◌else◌, List, [], ◌∷◌, ◌++◌, length, Option, None, Some, refl, sym, ap, ◌∙◌, inl, inr, slice_set, unwrap_or, append-nil, arith}
use Rattle.std.specs.List.{filter_map, last_or, cons_option}
use Rattle.std.proofs.Math.ListN.{length-set}
use Rattle.std.proofs.lemmas.Bool.{cases_eq, eq-eqb, ne_eqb}
use Rattle.std.proofs.lemmas.List.Elements.{filter_map-append}
use Rattle.std.proofs.lemmas.Grind.{common_steps}
use Rattle.map_model.specs.declared.change.Change.{Change}
use Rattle.map_model.specs.declared.change.Change.TheVariants.{Demand, Capacity}
use Rattle.map_model.specs.declared.instance.GroupId.{GroupId}
use Rattle.map_model.specs.declared.instance.NodeId.{NodeId}
use Rattle.map_model.specs.Market.{Market, IsSameShape, capacity_of, demand_of, group_at, node_at}
use Rattle.map_model.specs.Batch.{IsApplied, capacity_by, demand_by}
use Rattle.map_model.proofs.Shapes.{shape_itself, shape_trans}

-- the instance with another demand of one group
abbrev pub with_demand : Market → ℕ → ℕ → Market
with_demand m g d = record m { groups = slice_set m.groups g (record (group_at m g) { demand = d }) }

-- the instance with another capacity of one node
abbrev pub with_capacity : Market → ℕ → ℕ → Market
with_capacity m n c = record m { nodes = slice_set m.nodes n (record (node_at m n) { capacity = c }) }

pub shape-with_demand : (m : Market) (g d : ℕ) → g < length m.groups → IsSameShape m (with_demand m g d)
shape-with_demand m g d within = record {
  groups = length-set m.groups g (record (group_at m g) { demand = d });
  nodes = refl;
  lists = λ h. grind (arith, common_steps, cases_eq h g);
  trees = λ n. refl;
  pools = λ n. refl;
}

pub shape-with_capacity : (m : Market) (n c : ℕ) → n < length m.nodes → IsSameShape m (with_capacity m n c)
shape-with_capacity m n c within = record {
  groups = refl;
  nodes = length-set m.nodes n (record (node_at m n) { capacity = c });
  lists = λ h. refl;
  trees = λ x. grind (arith, common_steps, cases_eq x n);
  pools = λ x. grind (arith, common_steps, cases_eq x n);
}

-- exactly one number is another one
pub demand_of-with_demand : (m : Market) (g d : ℕ) → g < length m.groups → (h : ℕ) → demand_of (with_demand m g d) h ≡ (if g == h then d else demand_of m h)
demand_of-with_demand m g d within h = elim (cases_eq g h) [
  | inl e ↦ rw (eq-eqb g h e) (grind (arith, common_steps))
  | inr ne ↦ rw (ne_eqb g h ne) (grind (arith, common_steps))
]

pub capacity_of-with_capacity : (m : Market) (n c : ℕ) → n < length m.nodes → (x : ℕ) → capacity_of (with_capacity m n c) x ≡ (if n == x then c else capacity_of m x)
capacity_of-with_capacity m n c within x = elim (cases_eq n x) [
  | inl e ↦ rw (eq-eqb n x e) (grind (arith, common_steps))
  | inr ne ↦ rw (ne_eqb n x ne) (grind (arith, common_steps))
]

last_or-push : {X : Type 0} (o : Option X) (xs : List X) (x : X) → last_or o (xs ++ x ∷ []) ≡ Some x
last_or-push o [] x = refl
last_or-push o (y ∷ ys) x = last_or-push (Some y) ys x

-- one change more that is of another name, and one of this name
last-other : (f : Change → Option ℕ) (cs : List Change) (c : Change) → f c ≡ None → last_or None (filter_map f (cs ++ c ∷ [])) ≡ last_or None (filter_map f cs)
last-other f cs c e = ap (last_or None) (filter_map-append f cs (c ∷ []) ∙ ap (λ o. filter_map f cs ++ cons_option o []) e ∙ append-nil (filter_map f cs))

last-this : (f : Change → Option ℕ) (cs : List Change) (c : Change) (d : ℕ) → f c ≡ Some d → last_or None (filter_map f (cs ++ c ∷ [])) ≡ Some d
last-this f cs c d e = ap (last_or None) (filter_map-append f cs (c ∷ []) ∙ ap (λ o. filter_map f cs ++ cons_option o []) e) ∙ last_or-push None (filter_map f cs) d

-- one change more, of which the number is in place
step : (f : Change → Option ℕ) (cs : List Change) (c : Change) (this : Bool) (d was mid new : ℕ) → f c ≡ (if this then Some d else None) → new ≡ (if this then d else mid)
    → mid ≡ unwrap_or (last_or None (filter_map f cs)) was → new ≡ unwrap_or (last_or None (filter_map f (cs ++ c ∷ []))) was
step f cs c true d was mid new is now before = now ∙ sym (ap (λ o. unwrap_or o was) (last-this f cs c d is))
step f cs c false d was mid new is now before = now ∙ before ∙ sym (ap (λ o. unwrap_or o was) (last-other f cs c is))

-- a change of a demand after others
pub IsApplied-demand : (old mid : Market) (cs : List Change) (g : GroupId) (d : ℕ) → IsApplied old cs mid → g.0 < length old.groups → IsApplied old (cs ++ Demand g d ∷ []) (with_demand mid g.0 d)
IsApplied-demand old mid cs g d applied within =
    let there : g.0 < length mid.groups = omega (arith, applied.shape.groups) in
    record {
      shape = shape_trans old mid (with_demand mid g.0 d) applied.shape (shape-with_demand mid g.0 d there);
      demands = λ h l. step (demand_by h) cs (Demand g d) (g.0 == h) d (demand_of old h) (demand_of mid h) _ refl (demand_of-with_demand mid g.0 d there h) (applied.demands h l);
      capacities = λ n l. step (capacity_by n) cs (Demand g d) false d (capacity_of old n) (capacity_of mid n) _ refl refl (applied.capacities n l);
    }

-- a change of a capacity after others
pub IsApplied-capacity : (old mid : Market) (cs : List Change) (n : NodeId) (c : ℕ) → IsApplied old cs mid → n.0 < length old.nodes → IsApplied old (cs ++ Capacity n c ∷ []) (with_capacity mid n.0 c)
IsApplied-capacity old mid cs n c applied within =
    let there : n.0 < length mid.nodes = omega (arith, applied.shape.nodes) in
    record {
      shape = shape_trans old mid (with_capacity mid n.0 c) applied.shape (shape-with_capacity mid n.0 c there);
      demands = λ h l. step (demand_by h) cs (Capacity n c) false c (demand_of old h) (demand_of mid h) _ refl refl (applied.demands h l);
      capacities = λ x l. step (capacity_by x) cs (Capacity n c) (n.0 == x) c (capacity_of old x) (capacity_of mid x) _ refl (capacity_of-with_capacity mid n.0 c there x) (applied.capacities x l);
    }
