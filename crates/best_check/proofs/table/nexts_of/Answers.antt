use Rattle.std.proofs.Common.{◌≡◌, ◌++◌, [], ◌∷◌, List, IfSome, subst, sym, rules}
use Rattle.best_check.specs.declared.ranked.Ranked.{Ranked}
use Rattle.map_model.specs.declared.lines.MapLine.{MapLine}
use Rattle.map_model.specs.Market.{Market}
use Rattle.best_check.specs.Tables.{AreNextAt, IsNextAt, IsRanked, IsWhole}
use Rattle.best_check.proofs.Pushed.{pushed}
use Rattle.best_check.proofs.table.nexts_of.Goals as goal

pub loop-n-preserved : goal.loop-n-preserved
loop-n-preserved c =
    let m : Market = c.args.instance.now in
    let i = c.loop-n.invariant in
    let more : c.push.new.self.items ≡ c.loop-n.nexts.items ++ c.next_at-next.result ∷ [] = c.in_ok-push.ensures.items in
    let all : (lines : List MapLine) → IsWhole m lines c.args.table.now → AreNextAt m lines c.loop-n.nexts.items → IsNextAt m lines c.loop-n.n c.next_at-next.result = subst (λ xs. (lines : List MapLine) → IsWhole m lines c.args.table.now → AreNextAt m lines xs → IsNextAt m lines c.loop-n.n c.next_at-next.result) c.as_slice.ensures.value c.next_at-next.ensures.next in
    record {
      size = search (rules, i.size, more);
      offers = pushed (λ n o. IfSome o (λ (x : Ranked). IsRanked m x)) c.loop-n.nexts.items c.push.new.self.items c.next_at-next.result more i.offers c.next_at-next.ensures.offer;
      nexts = λ lines whole. pushed (λ n o. IsNextAt m lines n o) c.loop-n.nexts.items c.push.new.self.items c.next_at-next.result more (i.nexts lines whole) (subst (λ n. IsNextAt m lines n c.next_at-next.result) (sym i.size) (all lines whole (i.nexts lines whole)));
    }
