use Rattle.std.proofs.Common.{◌≡◌, ◌++◌, [], ◌∷◌, subst, sym, rules}
use Rattle.map_model.specs.Market.{Market}
use Rattle.deferred_accept.specs.Bars.{IsBarAt}
use Rattle.deferred_accept.proofs.Barred.{pushed}
use Rattle.deferred_accept.proofs.bars.bars_of.Goals as goal

pub loop-n-preserved : goal.loop-n-preserved
loop-n-preserved c =
    let m : Market = c.args.instance.now in
    let i = c.loop-n.invariant in
    let more : c.push.new.self.items ≡ c.loop-n.bars.items ++ c.bar_at-bar.result ∷ [] = c.in_ok-push.ensures.items in
    record {
      size = search (rules, i.size, more);
      bars_at = pushed m c.args.state.now.lines c.loop-n.bars.items c.push.new.self.items c.bar_at-bar.result more i.bars_at (subst (λ n. IsBarAt m c.args.state.now.lines n c.bar_at-bar.result) (sym i.size) c.bar_at-bar.ensures);
    }
