use Rattle.std.proofs.Common.{◌≡◌, ◌∙◌, ◌-◌, ◌<◌, ◌++◌, ℕ, List, length, take, ap, position, IfSome, subst, sym}
use Rattle.name_text.specs.Names.{is_same, labels_part}
use Rattle.answer_core.proofs.Labels.{by_labels, position_within}
use Rattle.answer_core.proofs.services.service_of.Goals as goal

pub returns : goal.returns
returns c =
    let zone = c.args.zone.now in
    let name = c.args.name.now in
    let labels : List ℕ = take (length name - length c.wire.result.now) name in
    let front : labels ≡ take (length name - length zone.apex) name = ap (λ (l : List ℕ). take (length name - length l) name) c.wire.ensures.octets in
    let exact = c.place_of.ensures
    ∙ ap (λ (services : List (List ℕ)). position (λ s. is_same labels (labels_part s)) services) c.as_slice.ensures
    ∙ by_labels name zone.apex labels zone.services c.requires front in
    record {
      exact = exact;
      there = subst (λ o. IfSome o (λ n. n < length zone.services)) (sym exact) (position_within (λ s. is_same name (labels_part s ++ zone.apex)) zone.services);
    }
