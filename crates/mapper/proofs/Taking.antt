-- What came of a line, where something comes of it.
use Rattle.std.proofs.Common.{◌≡◌, ◌≢◌, refl}
use Rattle.std.specs.Prelude.{IsSome, None, Option, Some}
use Rattle.demand_feed.specs.Task.{Task}
use Rattle.demand_feed.specs.Taking.{HasTaken}
use Rattle.demand_feed.specs.declared.takes.Taken.TheVariants as taken

pub done_by : {X : Type 0} (does cuts : Task → X → X → Type 0) (o : Option Task) (a b : X) → o ≢ None → ((task : Task) → o ≡ Some task → does task a b) → HasTaken does cuts taken.Done o a b
done_by does cuts None a b some f = absurd (some refl)
done_by does cuts (Some task) a b some f = f task refl

pub some_of : {X : Type 0} (o : Option X) → o ≢ None → IsSome o
some_of None some = absurd (some refl)
some_of (Some x) some = cc
