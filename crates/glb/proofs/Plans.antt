-- What the octets of a topology say is a topology.
use Rattle.std.proofs.Common.{◌≡◌, ℕ, List, [], ◌∷◌, length, Bool, true, false, if◌then◌else◌, Option, None, Some, Result, Ok, Err, refl, ap, subst}
use Rattle.std.specs.Prelude.{nat_lt}
use Rattle.glb.specs.Loads.{Files}
use Rattle.topology_text.specs.Faults.{document, faults_of, found_or, reading, reading_of}
use Rattle.topology_text.specs.Names.{entries_of}
use Rattle.topology_text.specs.Plan.{IsPlan, Plan}
use Rattle.topology_text.specs.Prefixes.{all_prefixes}
use Rattle.topology_text.specs.Topology.{plan_of}
use Rattle.topology_text.specs.Walk.{first, walk}
use Rattle.topology_text.specs.declared.fault.TopologyFault.{TopologyFault}
use Rattle.topology_text.specs.declared.fault.TopologyFault.TheVariants.{NotToml}
use Rattle.topology_text.proofs.Clean.{sound}
use Rattle.topology_text.proofs.Plans.{plan_good}
use Rattle.topology_text.proofs.SoundPrefixes.{prefixes_sound}
use Rattle.glb.specs.Files.{Kind, Says, said, topology_file, topology_of, with_text}
use Rattle.glb.specs.Texts as text

without_fault : (plan : Plan) (faults : List TopologyFault) (t : Plan) → found_or plan (first faults) ≡ Ok t → (faults ≡ []) × (plan ≡ t)
without_fault plan [] t h = (refl, cc)
without_fault plan (f ∷ fs) t h = absurd (cc)

plan_of_sound : (plan : Plan) (faults : List TopologyFault) (t : Plan) → (faults ≡ [] → IsPlan plan) → found_or plan (first faults) ≡ Ok t → IsPlan t
plan_of_sound plan faults t sound h = let found = without_fault plan faults t h in subst IsPlan found.1 (sound found.0)

no_plan : (r : Result Plan TopologyFault) (f : TopologyFault) (t : Plan) → r ≡ Err f → r ≡ Ok t → ⊥
no_plan r f t is h = cc

pub bytes_are_plan : (bytes : List ℕ) (t : Plan) → reading bytes ≡ Ok t → IsPlan t
bytes_are_plan bytes t = elim (document bytes) as (λ o. reading_of o ≡ Ok t → IsPlan t) [
  | None ↦ λ h. absurd (no_plan (Err NotToml) NotToml t refl h)
  | Some top ↦ λ h. plan_of_sound (plan_of (entries_of top) (all_prefixes (walk top))) (faults_of top) t (λ none. plan_good (entries_of top) (all_prefixes (walk top)) (sound top none) (prefixes_sound top none)) h
]

read_as : (r : Result Plan TopologyFault) (t : Plan) → with_text text.topology_fault r ≡ Ok t → r ≡ Ok t
read_as (Ok u) t h = let same : u ≡ t = cc in ap Ok same
read_as (Err f) t h = absurd (cc)

within : {T : Type 0} (kind : Kind T) (bytes : List ℕ) (t : T) → said kind bytes ≡ Ok t → kind.reading bytes ≡ Ok t
within {T = T} kind bytes t = go (nat_lt kind.limit (length bytes))
  where
    go : (b : Bool) → (if b then Err kind.too_long else kind.reading bytes) ≡ Ok t → kind.reading bytes ≡ Ok t
    go true h = absurd (cc)
    go false h = h

pub is_plan : (files : Option Files) (name : List ℕ) (t : Plan) → Says topology_file files name t → IsPlan t
unfolding topology_of
is_plan files name t says = bytes_are_plan says.0 t (read_as (reading says.0) t (within topology_file says.0 t says.2))
