use Rattle.std.proofs.Common.{◌≡◌, ◌++◌, [], ◌∷◌, IfSome, subst, sym, rules}
use Rattle.map_model.specs.declared.instance.Key.{Key}
use Rattle.map_model.specs.Market.{Market}
use Rattle.best_check.specs.Open.{IsBar}
use Rattle.best_check.proofs.Pushed.{pushed}
use Rattle.best_check.proofs.bars.bars_of.Goals as goal

pub loop-n-preserved : goal.loop-n-preserved
loop-n-preserved c =
    let m : Market = c.args.instance.now in
    let i = c.loop-n.invariant in
    let more : c.push.new.self.items ≡ c.loop-n.bars.items ++ c.bar_at-bar.result ∷ [] = c.in_ok-push.ensures.items in
    record {
      size = search (rules, i.size, more);
      bars_at = pushed (λ n bar. IfSome bar (λ (b : Key). IsBar m c.args.state.now.lines n b)) c.loop-n.bars.items c.push.new.self.items c.bar_at-bar.result more i.bars_at
          (subst (λ n. IfSome c.bar_at-bar.result (λ (b : Key). IsBar m c.args.state.now.lines n b)) (sym i.size) c.bar_at-bar.ensures);
    }
