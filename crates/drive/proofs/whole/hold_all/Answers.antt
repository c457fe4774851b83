use Rattle.std.proofs.Common.{rules, refl, ◌≡◌, ◌≤◌, ◌+◌, ◌∷◌, ◌++◌, [], All, length, subst, arith, vec_len, vec_capacity}
use Rattle.std.proofs.lemmas.Grind.{common_steps}
use Rattle.drive.proofs.Holding.{all_front, held_more}
use Rattle.drive.proofs.whole.hold_all.Goals as goal

pub loop-viewer-preserved : goal.loop-viewer-preserved
loop-viewer-preserved g c =
    let i = c.loop-viewer.invariant in
    let all : vec_len c.pop.new.self + vec_len c.push_reserved.new.self ≡ vec_len c.args.viewers = search rules in
    let room : vec_len c.args.viewers ≤ vec_capacity c.push_reserved.new.self = search rules in
    let whole : c.loop-viewer.left.items ≡ c.pop.new.self.items ++ c.in-Some.viewer ∷ [] = search rules in
    let number : 0 + length c.loop-viewer.works.items ≡ c.new.result.number = grind (arith, common_steps) in (
      all,
      room,
      λ h e.
          let q = i.2 h e in
          let p = all_front (λ k. (k.seen ≡ h) × (k.heard ≡ h)) _ _ (subst (λ l. All (λ k. (k.seen ≡ h) × (k.heard ≡ h)) l) whole q.0) in
          let n = c.new.ensures in (p.0, rw c.push_reserved.ensures.items (held_more _ 0 c.new.result.number _ _ q.1 number (refl, n.2, rw n.0 p.1.0, rw n.0 p.1.1, refl))),
    )

pub returns-clause-held : goal.returns-clause-held
returns-clause-held g c = λ h all. (c.loop-viewer.invariant.2 h all).1
