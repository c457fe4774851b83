use Rattle.std.proofs.Common.{◌≡◌, ℕ, ◌<◌, arith, length, refl, sym, subst, ◌∙◌}
use Rattle.map_model.specs.declared.instance.NodeId.{NodeId}
use Rattle.map_model.specs.Market.{capacity_of}
use Rattle.published_map.specs.Gathered.{NodesChanged}
use Rattle.published_map.proofs.Gathered.{gathered, none_yet}
use Rattle.published_map.proofs.delta.changed_capacities.Goals as goal

pub loop-number-init : goal.loop-number-init
loop-number-init c =
    subst (NodesChanged c.args.old.now c.args.new.now 0) (sym c.new-nodes.ensures.items) (none_yet (λ (n : NodeId × ℕ). n.0.0) (λ (n : NodeId × ℕ). n.1) (capacity_of c.args.old.now) (capacity_of c.args.new.now) (length c.args.old.now.nodes))

pub loop-number-preserved : goal.loop-number-preserved
loop-number-preserved c =
    let n = c.loop-number.number in
    let lt : n < length c.args.old.now.nodes = omega (arith, c.loop-number-test.true, c.nodes-number-end.ensures.count) in
    let old : c.capacity.result ≡ capacity_of c.args.old.now n = c.capacity.ensures in
    let new : c.capacity-in-loop-number.result ≡ capacity_of c.args.new.now n = c.capacity-in-loop-number.ensures in
    gathered (λ (n : NodeId × ℕ). n.0.0) (λ (n : NodeId × ℕ). n.1) (capacity_of c.args.old.now) (capacity_of c.args.new.now) (length c.args.old.now.nodes) n
    (c.capacity.result ≡ c.capacity-in-loop-number.result) c.loop-number.nodes.items (record { 0 = n }, c.capacity-in-loop-number.result) c.push_capacity.new.nodes.items lt refl new
    (λ same. sym old ∙ same ∙ new) (λ same. old ∙ same ∙ sym new) c.in_ok-push_capacity.ensures c.loop-number.invariant
