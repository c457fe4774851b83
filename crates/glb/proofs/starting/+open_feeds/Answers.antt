use Rattle.std.proofs.Common.{rules, ◌≡◌, ◌∷◌, Some, map}
use Rattle.std.specs.Prelude.{option_map}
use Rattle.glb.specs.Words.{given}
use Rattle.glb.proofs.Named.{named_on}
use Rattle.glb.proofs.starting.+open_feeds.Goals as goal

pub returns-in-Ready-clause-named : goal.returns-in-Ready-clause-named
returns-in-Ready-clause-named g t c =
    let all : c.args.names.now ≡ c.in-Some.first.now ∷ c.in-Some.rest.now = search rules in
    let one : c.in-Some.first.now ≡ Some c.in-Some-first.name = search rules in
    rw (all, one)
    (named_on g.N.Source.told c.in-Some-first.name.now (given (map (option_map (λ n. n.now)) c.in-Some.rest.now)) c.open_feeds-in-Ready.result c.args.feeds.now _ _ c.open_feed.new.feeds c.open_feeds-in-Ready.new.feeds c.split_at_mut-one.ensures.value
    (search rules) c.in-Ready.ensures.named c.open_feeds-in-Ready.ensures.named)
