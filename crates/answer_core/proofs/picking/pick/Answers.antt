use Rattle.std.proofs.Common.{◌≡◌, ap, sym, ◌∙◌}
use Rattle.std.specs.Prelude.{sum}
use Rattle.map_model.specs.Allocation.{placed}
use Rattle.published_map.specs.Version.{amounts_of}
use Rattle.answer_core.specs.Pick.{slot_of}
use Rattle.answer_core.proofs.Laid.{nothing_found, pick_is, picked}
use Rattle.answer_core.proofs.picking.pick.Goals as goal

pub returns-clause-exact : goal.returns-clause-exact
returns-clause-exact c =
    let v = c.args.version.now in
    let items : c.deref.result.now ≡ amounts_of v c.args.group.0 = c.deref.ensures.0 ∙ c.amounts-amounts.ensures.amounts in
    let units : c.total.result ≡ placed v.lines c.args.group.0 = c.total.ensures ∙ ap sum c.deref-2.ensures.0 ∙ c.amounts-amounts.ensures.total in
    pick_is v c.args.group.0 c.args.draw c.slot.result c.deref.result.now c.place.result c.requires.group items (c.slot.ensures.exact ∙ ap (slot_of c.args.draw) units) c.place.ensures.found c.place.ensures.there c.place.ensures.from c.place.ensures.to

pub returns-clause-picked : goal.returns-clause-picked
returns-clause-picked c =
    let v = c.args.version.now in
    let items : c.deref.result.now ≡ amounts_of v c.args.group.0 = c.deref.ensures.0 ∙ c.amounts-amounts.ensures.amounts in
    let units : c.total.result ≡ placed v.lines c.args.group.0 = c.total.ensures ∙ ap sum c.deref-2.ensures.0 ∙ c.amounts-amounts.ensures.total in
    picked v c.args.group.0 c.args.draw c.slot.result c.deref.result.now c.place.result c.requires.group items (c.slot.ensures.exact ∙ ap (slot_of c.args.draw) units) c.place.ensures.there c.place.ensures.from c.place.ensures.to

pub returns-clause-none : goal.returns-clause-none
returns-clause-none c =
    let v = c.args.version.now in
    let units : c.total.result ≡ placed v.lines c.args.group.0 = c.total.ensures ∙ ap sum c.deref-2.ensures.0 ∙ c.amounts-amounts.ensures.total in
    let same : c.total.result ≡ sum c.deref.result.now = c.total.ensures ∙ ap sum c.deref-2.ensures.0 ∙ sym (ap sum c.deref.ensures.0) in
    let it = nothing_found c.deref.result.now c.slot.result c.total.result c.place.result same c.slot.ensures.within c.place.ensures.found c.place.ensures.to in
    (λ none. sym units ∙ it.0 none, λ e. it.1 (units ∙ e))
