use Rattle.std.proofs.Common.{◌≡◌, ◌++◌, ◌+◌, ◌<◌, [], ◌∷◌, ℕ, length, IfSome, subst, sym, arith, rules}
use Rattle.map_model.specs.declared.instance.NodeId.{NodeId}
use Rattle.map_model.specs.Market.{Market}
use Rattle.best_check.proofs.Leading.{IsLead, lead_is}
use Rattle.best_check.proofs.Pushed.{pushed}
use Rattle.best_check.proofs.leads.leads_of.Goals as goal

pub loop-next-preserved : goal.loop-next-preserved
loop-next-preserved c =
    let m : Market = c.args.instance.now in
    let at : ℕ = c.loop-next.next-index in
    let i = c.loop-next.invariant in
    let more : c.push.new.self.items ≡ c.loop-next.leads.items ++ c.leads_to.result ∷ [] = c.in_ok-push.ensures.items in
    let size : length c.push.new.self.items ≡ at + 1 = search (rules, i.size, more) in
    let lead : IsLead m c.args.state.now.lines at c.leads_to.result = lead_is m c.requires.ready.market c.args.state.now.lines at _ c.leads_to.result (c.requires.nexts at c.loop-next-test.true) c.leads_to.ensures.leads in
    record {
      size = size;
      inside = λ n l. pushed (λ n o. IfSome o (λ (p : NodeId). p.0 < length m.nodes)) c.loop-next.leads.items c.push.new.self.items c.leads_to.result more (λ k b. i.inside k (omega (arith, b, i.size))) c.leads_to.ensures.inside n (omega (arith, l, size));
      leads = λ n l. pushed (λ n o. IsLead m c.args.state.now.lines n o) c.loop-next.leads.items c.push.new.self.items c.leads_to.result more (λ k b. i.leads k (omega (arith, b, i.size))) (subst (λ k. IsLead m c.args.state.now.lines k c.leads_to.result) (sym i.size) lead) n (omega (arith, l, size));
    }
