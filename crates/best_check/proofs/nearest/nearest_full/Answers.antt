use Rattle.std.proofs.Common.{◌≡◌, ◌++◌, [], ◌∷◌, subst, sym, rules}
use Rattle.map_model.specs.Market.{Market}
use Rattle.best_check.specs.Fullness.{FirstFull}
use Rattle.best_check.proofs.Pushed.{pushed}
use Rattle.best_check.proofs.nearest.nearest_full.Goals as goal

pub loop-n-preserved : goal.loop-n-preserved
loop-n-preserved c =
    let m : Market = c.args.instance.now in
    let i = c.loop-n.invariant in
    let more : c.push.new.self.items ≡ c.loop-n.nearest.items ++ c.nearest_at-full.result ∷ [] = c.in_ok-push.ensures.items in
    record {
      size = search (rules, i.size, more);
      first = pushed (FirstFull m c.args.state.now.lines) c.loop-n.nearest.items c.push.new.self.items c.nearest_at-full.result more i.first (subst (λ n. FirstFull m c.args.state.now.lines n c.nearest_at-full.result) (sym i.size) c.nearest_at-full.ensures);
    }
