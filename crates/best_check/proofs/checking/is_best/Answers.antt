use Rattle.std.proofs.Common.{◌≡◌, ℕ, true, List, subst, sym}
use Rattle.std.proofs.lemmas.Result.{IfOk-weaker}
use Rattle.map_model.specs.Market.{Market}
use Rattle.map_model.specs.Progress.{IsGroupBest}
use Rattle.map_laws.proofs.Best.{best_if_free}
use Rattle.best_check.specs.Leads.{FallAlong, LeadInside}
use Rattle.best_check.proofs.Leading.{free_of_circles}
use Rattle.best_check.proofs.Tables.{right_of_state}
use Rattle.best_check.proofs.checking.is_best.Goals as goal

pub all_end-requires-clause-inside : goal.all_end-requires-clause-inside
all_end-requires-clause-inside c = subst LeadInside (sym c.as_slice.ensures.value) c.in_ok-leads.ensures.leads.inside

pub returns : goal.returns
returns c =
    let m : Market = c.args.instance.now in
    let value : c.as_slice.result.now ≡ c.in_ok-leads.leads.items = c.as_slice.ensures.value in
    IfOk-weaker c.all_end.result (λ ends. ends ≡ true → (numbers : List ℕ) × FallAlong c.as_slice.result.now numbers) (λ best. best ≡ true → IsGroupBest m c.args.state.now.lines)
    (λ ends found is. best_if_free m c.args.state.now.lines c.requires.ready.market (right_of_state m c.args.state.now c.requires.ready c.requires.past)
    (free_of_circles m c.args.state.now.lines c.in_ok-leads.leads.items (found is).0 c.in_ok-leads.ensures.leads c.in_ok-leads.ensures.size (subst (λ leads. FallAlong leads (found is).0) value (found is).1))) c.all_end.ensures
