use Rattle.std.proofs.Common.{rules, ◌≡◌, ◌∷◌, [], List, ℕ, ap, refl, subst}
use Rattle.map_model.specs.Market.{Market}
use Rattle.map_model.specs.Allocation.{IsGood, names_of}
use Rattle.map_model.specs.Progress.{IsGroupBest}
use Rattle.place_counts.specs.Places.{places_text}
use Rattle.glb.proofs.placing.report.Goals as goal

pub returns : goal.returns
returns c =
    let s = c.in_ok-state.state in
    let same = c.instance-instance.ensures.instance in
    record {
      ended = record {
        status = refl;
        text = (
          record { lines = s.lines; names = names_of c.instance-instance.result.now s.lines },
          subst (λ (m : Market). IsGood m s.lines (names_of c.instance-instance.result.now s.lines)) same c.in_ok-state.ensures.good,
          subst (λ (m : Market). IsGroupBest m s.lines) same c.in_ok-state.ensures.best,
          ap (λ (text : List ℕ). text ∷ []) (subst (λ (m : Market). c.in_ok-text.text.items ≡ places_text m s.lines) same c.in_ok-text.ensures),
        );
      };
      source = search rules;
    }
