-- What is promised of the program behind its words.
use Rattle.std.specs.Prelude.{◌≡◌, ◌⊎◌, ◌^◌, ℕ, List}
use Rattle.glb.specs.declared.status.Status.{Status}
use Rattle.glb.specs.declared.status.Status.TheVariants as status
use Rattle.glb.specs.Program.{IsPromised}
use Rattle.glb.specs.Told.{Surroundings}
use Rattle.glb.specs.Words.{asked}

-- It ran as some words ask; or there was no memory to read the words, and nothing was touched.
abbrev pub Ran : Surroundings → Surroundings → Status → Type 0
Ran before after result = ((result ≡ status.NoMemory) × (after ≡ before)) ⊎ ((words : List (List ℕ)) × IsPromised (2 ^ 48) (asked words) before after result)
