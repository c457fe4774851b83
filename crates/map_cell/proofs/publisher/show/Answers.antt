use Rattle.std.proofs.Common.{rules, ◌≡◌, ◌∷◌, [], drop, ap, sym, subst, ◌∙◌, IsOk}
use Rattle.map_cell.specs.Histories.{IsSealed}
use Rattle.map_cell.specs.Rules.{CopyState}
use Rattle.map_cell.specs.Tags.{tag_of}
use Rattle.map_cell.proofs.Steps.{names}
use Rattle.published_map.specs.Changes.{moved}
use Rattle.map_cell.proofs.Shown.{after_step, ok_part}
use Rattle.map_cell.proofs.publisher.show.Goals as goal

pub publish_as-writer-requires : goal.publish_as-writer-requires
publish_as-writer-requires g c next is views h at =
    let old = c.args.writer.desk.shown.value in
    let same : c.append.new.self.desk.shown.value ≡ old = search rules in
    let pend : drop c.append.new.self.behind c.append.new.self.log.items ≡ c.args.step ∷ [] = search rules in
    let e = after_step old _ next c.args.step _ same pend c.requires.within is in
    let last : IsSealed next.history next.version = subst (λ (n : CopyState). IsSealed n.history n.version) (sym e) c.requires.last in
    let book : tag_of next.book ≡ tag_of c.append.new.self.desk.shown.value.book = ap (λ (n : CopyState). tag_of n.book) e ∙ (ap tag_of c.requires.book ∙ sym (ap (λ (n : CopyState). tag_of n.book) same)) in
    names c.append.new.self.desk.shown.value next _ _ book last views h at

pub returns-clause-ok : goal.returns-clause-ok
returns-clause-ok g c =
    let old = c.args.writer.desk.shown.value in
    let new : CopyState = record { book = c.args.step.book; history = c.args.step.history; version = moved old.version c.args.step.delta c.args.step.serial } in
    let same : c.append.new.self.desk.shown.value ≡ old = search rules in
    let pend : drop c.append.new.self.behind c.append.new.self.log.items ≡ c.args.step ∷ [] = search rules in
    let ok : IsOk c.publish_as-writer.result.1 = c.publish_as-writer.ensures.succeeds tt in
    let v = ok_part c.publish_as-writer.result.1 _ _ ok c.publish_as-writer.ensures.values in
    let r = ok_part c.publish_as-writer.result.1 _ _ ok c.publish_as-writer.ensures.rule in
    let e : c.publish_as-writer.result.0.desk.shown.value ≡ new = after_step old _ _ c.args.step _ same pend c.requires.within v.0 in
    (r ∙ ap (λ (n : CopyState). tag_of n.book) e, e, v.1)
