-- An instance to which a batch was applied is determined.
use Rattle.std.proofs.Common.{◌≡◌, ℕ, ◌<◌, Bool, List, length, Option, None, false, [], sym, ap, ◌∙◌, arith}
use Rattle.std.proofs.lemmas.List.{ext_get_or}
use Rattle.map_model.specs.declared.change.Change.{Change}
use Rattle.map_model.specs.declared.instance.Choice.{Choice}
use Rattle.map_model.specs.declared.instance.Node.{Node}
use Rattle.map_model.specs.declared.instance.NodeId.{NodeId}
use Rattle.map_model.specs.Batch.{IsApplied}
use Rattle.map_model.specs.Market.{Group, Market, group_at, node_at}

group_is : (x y : Group) → x.demand ≡ y.demand → x.choices ≡ y.choices → x ≡ y
group_is x y e f = ap (λ (d : ℕ). record { demand = d; choices = x.choices }) e ∙ ap (λ (cs : List Choice). record { demand = y.demand; choices = cs }) f

node_is : (x y : Node) → x.capacity ≡ y.capacity → x.parent ≡ y.parent → x.is_pool ≡ y.is_pool → x ≡ y
node_is x y e f h =
    ap (λ (c : ℕ). record { capacity = c; parent = x.parent; is_pool = x.is_pool }) e
    ∙ ap (λ (p : Option NodeId). record { capacity = y.capacity; parent = p; is_pool = x.is_pool }) f
    ∙ ap (λ (b : Bool). record { capacity = y.capacity; parent = y.parent; is_pool = b }) h

pub applied_one : (old a b : Market) (changes : List Change) → IsApplied old changes a → IsApplied old changes b → a ≡ b
applied_one old a b changes x y = ap (λ (gs : List Group). record { groups = gs; nodes = a.nodes }) groups ∙ ap (λ (ns : List Node). record { groups = b.groups; nodes = ns }) nodes
  where
    groups : a.groups ≡ b.groups
    groups = ext_get_or (record { demand = 0; choices = [] }) a.groups b.groups (x.shape.groups ∙ sym y.shape.groups) (λ g l.
        let there : g < length old.groups = omega (arith, l, x.shape.groups) in
        group_is (group_at a g) (group_at b g) (x.demands g there ∙ sym (y.demands g there)) (x.shape.lists g ∙ sym (y.shape.lists g)))

    nodes : a.nodes ≡ b.nodes
    nodes = ext_get_or (record { capacity = 0; parent = None; is_pool = false }) a.nodes b.nodes (x.shape.nodes ∙ sym y.shape.nodes) (λ n l.
        let there : n < length old.nodes = omega (arith, l, x.shape.nodes) in
        node_is (node_at a n) (node_at b n) (x.capacities n there ∙ sym (y.capacities n there)) (x.shape.trees n ∙ sym (y.shape.trees n)) (x.shape.pools n ∙ sym (y.shape.pools n)))
