use Rattle.std.proofs.Common.{rules, ◌≡◌, ◌+◌, ◌∷◌, ◌++◌, [], ap, sym, subst, ◌∙◌}
use Rattle.map_cell.specs.Additions.{added}
use Rattle.published_map.specs.Changes.{after}
use Rattle.map_cell.specs.Ends.{PublisherState}
use Rattle.published_map.specs.Version.{IsVersion}
use Rattle.map_cell.proofs.Shown.{may_follow, sealed_more}
use Rattle.map_cell.proofs.publisher.Publisher.publish.Goals as goal

pub add-requires-clause-next : goal.add-requires-clause-next
add-requires-clause-next g c =
    let v = c.self.inside.newest.value in
    let e : added c.next.result ≡ after v c.args.delta = search rules in
    let good : IsVersion (after v c.args.delta) = subst (λ (p : PublisherState). IsVersion (after p.newest c.args.delta)) (sym c.self.view_is) c.requires.good in
    rw (c.again-front.ensures, e) (may_follow c.self.inside.front v c.args.delta c.len.ensures.history c.self.invariant.1 good)

pub show-requires-clause-last : goal.show-requires-clause-last
show-requires-clause-last g c =
    let v = c.self.inside.newest.value in
    let h : c.new-step.result.history ≡ c.self.inside.front ++ after v c.args.delta ∷ [] = search rules in
    let n : c.unwrap-writer.result.desk.shown.value.version ≡ v = search rules in
    let d : c.new-step.result.delta ≡ c.args.delta = search rules in
    let s : c.new-step.result.serial ≡ c.args.delta.base + 1 = search rules in
    let b : c.args.delta.base + 1 ≡ v.serial + 1 = ap (λ k. k + 1) (c.requires.base ∙ sym (ap (λ (p : PublisherState). p.newest.serial) c.self.view_is)) in
    rw (h, n, d, s) (sealed_more c.self.inside.front v c.args.delta (c.args.delta.base + 1) c.self.invariant.1 b)
