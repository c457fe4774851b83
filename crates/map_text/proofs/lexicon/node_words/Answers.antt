use Rattle.std.proofs.Common.{◌<◌, ◌≤◌, ◌++◌, [], ◌∷◌, ℕ, List, length, take, subst, sym, ap, ◌∙◌, arith, take_all}
use Rattle.std.proofs.lemmas.List.{take_more}
use Rattle.map_model.specs.Market.{Market}
use Rattle.map_text.proofs.Copied.{short_name}
use Rattle.map_text.proofs.lexicon.node_words.Goals as goal

pub of-requires : goal.of-requires
of-requires c =
    let plan = c.instance-instance.ensures.plan in
    let count = ap (λ (m : Market). length m.nodes) c.instance-instance.ensures.instance in
    subst (λ (name : List ℕ). length name ≤ 32) (sym c.node_name.ensures.name) (short_name _ (plan.nodes.each c.loop-n.n [] (omega (arith, c.loop-n-test.true, c.nodes-n-end.ensures.count, count, plan.nodes.as_many))))

pub loop-n-preserved : goal.loop-n-preserved
loop-n-preserved c =
    let plan = c.instance-instance.ensures.plan in
    let names = c.args.topology.now.node_names in
    let count = ap (λ (m : Market). length m.nodes) c.instance-instance.ensures.instance in
    let there : c.loop-n.n < length names = omega (arith, c.loop-n-test.true, c.nodes-n-end.ensures.count, count, plan.nodes.as_many) in
    c.in_ok-push.ensures.items ∙ ap (λ (ws : List (List ℕ)). ws ++ c.of.result ∷ []) c.loop-n.invariant
    ∙ ap (λ (w : List ℕ). take c.loop-n.n names ++ w ∷ []) (c.of.ensures ∙ c.node_name.ensures.name) ∙ sym (take_more names c.loop-n.n [] there)

pub returns : goal.returns
returns c =
    let plan = c.instance-instance.ensures.plan in
    let count = ap (λ (m : Market). length m.nodes) c.instance-instance.ensures.instance in
    c.loop-n.invariant ∙ take_all c.loop-n.n c.args.topology.now.node_names (omega (arith, c.loop-n-test.false, c.nodes-n-end.ensures.count, count, plan.nodes.as_many))
