-- What tasks do to who takes them.
use Rattle.std.specs.Prelude.{◌≡◌, List, [], ◌∷◌, ◌++◌, Option, None, Some}
use Rattle.demand_feed.specs.Task.{Task}
use Rattle.demand_feed.specs.declared.takes.Taken.{Taken}
use Rattle.demand_feed.specs.declared.takes.Taken.TheVariants.{Done, Failed}

-- what came of a line was taken whole, or broken off; where nothing came of it, nothing is done
abbrev pub HasTaken : {X : Type 0} → (Task → X → X → Type 0) → (Task → X → X → Type 0) → Taken → Option Task → X → X → Type 0
HasTaken does cuts Done None before after = after ≡ before
HasTaken does cuts Done (Some task) before after = does task before after
HasTaken does cuts Failed None before after = ⊥
HasTaken does cuts Failed (Some task) before after = cuts task before after

-- these tasks were taken, one after another
abbrev pub AllDo : {X : Type 0} → (Task → X → X → Type 0) → List Task → X → X → Type 0
AllDo does [] before after = after ≡ before
AllDo {X} does (task ∷ tasks) before after = (mid : X) × does task before mid × AllDo does tasks mid after

-- one of these tasks was broken off: those before it were taken, and those behind it were not looked at
abbrev pub BrokeOff : {X : Type 0} → (Task → X → X → Type 0) → (Task → X → X → Type 0) → List Task → X → X → Type 0
BrokeOff {X} does cuts tasks before after =
    (done : List Task) × (task : Task) × (later : List Task) × (mid : X) × (tasks ≡ done ++ task ∷ later) × AllDo does done before mid × cuts task mid after
