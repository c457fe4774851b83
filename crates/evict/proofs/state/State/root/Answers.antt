use Rattle.std.proofs.Common.{◌≡◌, sym, subst, ◌∙◌, IsTrue}
use Rattle.map_model.specs.Progress.{root_of}
use Rattle.evict.specs.Standing.{Standing}
use Rattle.evict.proofs.OfMap.{root-trees}
use Rattle.evict.proofs.state.State.root.Goals as goal

pub returns : goal.returns
returns c =
    let s = c.self.inside in
    let whole : IsTrue s.whole = subst (λ (x : Standing). IsTrue x.is_whole) (sym c.self.view_is) c.requires.whole in
    let same : c.root.result.0 ≡ root_of s.held.market c.args.node.0 = c.root.ensures ∙ root-trees s.held.market s.tree.trees (c.self.invariant whole).agrees.trees c.args.node.0 in
    subst (λ (x : Standing). c.root.result.0 ≡ root_of x.market c.args.node.0) c.self.view_is same
