use Rattle.std.proofs.Common.{◌≡◌, ◌+◌, ℕ, arith, sym, ap, subst, ◌∙◌}
use Rattle.map_model.proofs.NameForm.{IsMapForm-IsGood}
use Rattle.published_map.specs.Version.{Version}
use Rattle.map_cell_tests.proofs.Published.{Between, fits, form_of, next_is}
use Rattle.map_cell_tests.proofs.tests.publish_to.Given.{Over}
use Rattle.map_cell_tests.proofs.tests.publish_to.Goals as goal

pub between-requires-clause-old : goal.between-requires-clause-old
between-requires-clause-old g c = form_of _ _ c.groups.ensures.market c.requires.newest

pub between-requires-clause-new : goal.between-requires-clause-new
between-requires-clause-new g c = IsMapForm-IsGood _ c.groups-2.ensures.market _ _ c.requires.good

between_at : (g : Over) (c : goal.After-publish-arg-1 g) → Between c.args.old.now c.args.new.now c.args.publisher.now.newest.serial c.in-Ok.delta
between_at g c = let at : c.serial-base.result ≡ c.args.publisher.now.newest.serial = c.serial-base.ensures ∙ ap (λ (v : Version). v.serial) c.newest.ensures in
    subst (λ (s : ℕ). Between c.args.old.now c.args.new.now s c.in-Ok.delta) at c.in-Ok.ensures

pub publish-requires-clause-base : goal.publish-requires-clause-base
publish-requires-clause-base g c = (between_at g c c.args.publisher.now.newest.plan).base

pub publish-requires-clause-within : goal.publish-requires-clause-within
publish-requires-clause-within g c = fits c.args.old.now c.args.new.now c.args.publisher.now.newest c.in-Ok.delta c.requires.newest (between_at g c)

pub publish-requires-clause-good : goal.publish-requires-clause-good
publish-requires-clause-good g c = (next_is c.args.old.now c.args.new.now c.args.publisher.now.newest c.in-Ok.delta c.requires.newest c.groups-2.ensures.market c.requires.good c.requires.shape (between_at g c)).good

pub publish-requires-clause-room : goal.publish-requires-clause-room
publish-requires-clause-room g c = omega (arith, (between_at g c c.args.publisher.now.newest.plan).base, c.requires.room)

pub returns-in-Ok-publish-clause-newest : goal.returns-in-Ok-publish-clause-newest
returns-in-Ok-publish-clause-newest g c =
    let at : c.serial-base.result ≡ c.args.publisher.now.newest.serial = c.serial-base.ensures ∙ ap (λ (v : Version). v.serial) c.newest.ensures in
    let b : Between c.args.old.now c.args.new.now c.args.publisher.now.newest.serial c.in-Ok.delta = subst (λ (s : ℕ). Between c.args.old.now c.args.new.now s c.in-Ok.delta) at c.in-Ok.ensures in
    let e = c.in-Ok-publish.ensures.ok in
    let base = (b c.args.publisher.now.newest.plan).base in
    let more : c.args.publisher.now.newest.serial + 1 ≡ c.in-Ok.delta.base + 1 = omega (arith, base) in (
      rw e.1 (next_is c.args.old.now c.args.new.now c.args.publisher.now.newest c.in-Ok.delta c.requires.newest c.groups-2.ensures.market c.requires.good c.requires.shape b),
      ap (λ (v : Version). v.serial) e.1 ∙ more ∙ sym e.2,
    )
