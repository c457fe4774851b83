use Rattle.std.proofs.Common.{List, length, ap, sym, subst, ◌∙◌, ◌≡◌, ℕ}
use Rattle.published_map.specs.Version.{Version}
use Rattle.mapper.specs.Notes.{AreTold}
use Rattle.mapper.proofs.desk.Desk.announce.Goals as goal

pub returns-in-Done-say-clause-told : goal.returns-in-Done-say-clause-told
returns-in-Done-say-clause-told g c = λ whole earlier len all.
    let front : c.note-note.result.front ≡ c.args.self.now.published.now.history = c.note-note.ensures ∙ ap (λ p. p.now.history) c.say.ensures.alone.0 in
    subst (λ (h : List Version). AreTold h c.tell.new.self) front (c.tell.ensures.told earlier (ap length front ∙ len) (subst (λ (n : ℕ). AreTold earlier n) (sym c.say.ensures.alone.3) all))
