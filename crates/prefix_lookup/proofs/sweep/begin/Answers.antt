use Rattle.std.proofs.Common.{◌≡◌, ◌∷◌, ◌++◌, [], ℕ, List, Some, sym, subst, ◌∙◌}
use Rattle.std.proofs.lemmas.Bool.{false≢true}
use Rattle.map_model.specs.declared.instance.GroupId.{GroupId}
use Rattle.prefix_lookup.specs.Sweep.{CoversTo}
use Rattle.prefix_lookup.proofs.Pushes.{goes_on, pushed}
use Rattle.prefix_lookup.proofs.sweep.begin.Goals as goal

pub returns-in_ok-push-2-clause-begun : goal.returns-in_ok-push-2-clause-begun
returns-in_ok-push-2-clause-begun c = λ family table stop covers all up.
    let one : c.push.new.self.items ≡ c.args.ranges.now.starts.items ++ c.args.start ∷ [] = c.in_ok-push.ensures.items in
    let two : c.push-then-not-is_last.new.self.items ≡ c.args.ranges.now.groups.items ++ c.args.block.group ∷ [] = c.in_ok-push-2.ensures.items in
    let made = pushed family table c.args.ranges.now.starts.items c.args.ranges.now.groups.items c.args.ranges.now.last c.args.block c.args.start stop covers (λ e. false≢true (sym c.if-not-is_last.true ∙ c.is_last.ensures.1 e)) all up in
    subst (λ (starts : List ℕ). CoversTo stop family table starts c.push-then-not-is_last.new.self.items (Some c.args.block)) (sym one)
    (subst (λ (groups : List GroupId). CoversTo stop family table (c.args.ranges.now.starts.items ++ c.args.start ∷ []) groups (Some c.args.block)) (sym two) made)

pub returns-else-not-is_last-clause-begun : goal.returns-else-not-is_last-clause-begun
returns-else-not-is_last-clause-begun c = λ family table stop covers all up. goes_on family table c.args.ranges.now.starts.items c.args.ranges.now.groups.items c.args.ranges.now.last c.args.block c.args.start stop covers (c.is_last.ensures.0 c.if-not-is_last.false) all up
