-- Inside this crate alone: what one task comes to.
use Rattle.std.specs.Prelude.{◌≡◌, ◌⊎◌, ℕ, List, Option, None, Some}
use Rattle.outside.specs.Faults.{BothTell}
use Rattle.outside.specs.Sink.{IsPut, Written}
use Rattle.outside.specs.declared.sink.Put.{Put}
use Rattle.outside.specs.declared.sink.Put.TheVariants as put
use Rattle.demand_feed.specs.Task.{Task}
use Rattle.mapper.specs.Control.{Comes, Course}
use Rattle.mapper.specs.Scenes.{IsAt, IsCutAt, Scene}

-- a course came to another one, which is what is told, unless a put failed on the way
abbrev pub Came : Put → Scene → Course → (Course → Type 0) → Scene → Type 0
Came put.Done before c To after = (d : Course) × To d × IsAt before d after
Came put.Failed before c To after = (d : Course) × To d × IsCutAt before c d after

-- both pieces were put, or one of the puts failed
abbrev pub BothPut : Put → List ℕ → List ℕ → Option Written → Option Written → Option Written → Option Written → Type 0
BothPut put.Done text line maps_before maps_after out_before out_after =
    BothTell maps_before maps_after (IsPut put.Done text) × BothTell out_before out_after (IsPut put.Done line)
BothPut put.Failed text line maps_before maps_after out_before out_after =
    (BothTell maps_before maps_after (IsPut put.Done text) × BothTell out_before out_after (IsPut put.Failed line))
    ⊎ (BothTell maps_before maps_after (IsPut put.Failed text) × (out_after ≡ out_before))

-- what comes of a line, if anything
abbrev pub ComesOf : Option Task → Course → Course → Type 0
ComesOf None c d = d ≡ c
ComesOf (Some task) c d = Comes task c d

-- from whatever course is told, a task leads to another one, which is then told
abbrev pub Does : Task → Scene → Scene → Type 0
Does task now then = (before : Scene) (c : Course) → IsAt before c now → (d : Course) × Comes task c d × IsAt before d then

-- from whatever course is told, a put of a task failed on the way to another one
abbrev pub Cuts : Task → Scene → Scene → Type 0
Cuts task now then = (before : Scene) (c : Course) → IsAt before c now → (d : Course) × Comes task c d × IsCutAt before c d then
