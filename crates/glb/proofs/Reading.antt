-- Files that are read one after the other.
use Rattle.std.proofs.Common.{◌≡◌, ◌<◌, ◌≤◌, ℕ, suc, List, [], ◌∷◌, ◌++◌, length, replicate, Option, None, Some, IfSome, Result, Ok, Err, IfOk, IsSomeAnd, MatchResult, Vec, inl, inr, refl, ap, sym, subst, ◌∙◌, arith}
use Rattle.std.specs.declared.alloc.Global.{Global}
use Rattle.std.proofs.lemmas.List.{length-replicate}
use Rattle.no_memory.specs.declared.NoMemory.{NoMemory}
use Rattle.map_model.specs.declared.change.Change.{Change}
use Rattle.map_model.specs.declared.lines.MapLines.{MapLines}
use Rattle.outside.specs.Faults.{BothTell, DeviceState}
use Rattle.outside.specs.Shelf.{IsLoad, Load, Shelved}
use Rattle.outside.specs.declared.shelf.LoadFault.TheVariants.{TooLong}
use Rattle.outside.specs.declared.shelf.LoadFault.TheVariants as load
use Rattle.topology_text.specs.Plan.{Plan}
use Rattle.map_text.specs.Reading.{Mapped}
use Rattle.map_text.specs.Writing.{mapped}
use Rattle.glb.specs.Loads.{AreLoadsOf, DueLoad, Files, files_between}
use Rattle.glb.specs.Outcome.{Outcome}
use Rattle.glb.specs.Files.{IsRefused, Kind, Reads, Says, changes_file, loads_from, map_file, only, refused, topology_file}
use Rattle.glb.specs.Ending.{EndsBy, IsEnd, IsFaulty, IsGiven, IsReading, IsSaidBy, IsTooLong, StopsBy}
use Rattle.glb.specs.declared.ending.Report.{Report}
use Rattle.glb.specs.declared.ending.Stop.{Stop}
use Rattle.glb.specs.declared.ending.Stop.TheVariants as stop
use Rattle.glb.proofs.Loads.{given_here, given_wider, grows, last_ends, stopped, stopped_only, stops_weaker, then_ends}

-- a load that gave octets
given_of : (name : List ℕ) (limit : ℕ) (bytes : List ℕ) (octets : Option (List ℕ)) (x y : Shelved) → octets ≡ Some bytes → y.loads ≡ x.loads ++ record { name = name; limit = limit; octets = octets } ∷ [] → y.holds ≡ x.holds
    → IfSome x.holds (λ held. IfSome octets (λ bs. held name ≡ Some bs)) → IsGiven name limit bytes x y
given_of name limit bytes octets x y is noted holds held = record {
  loads = noted ∙ ap (λ (o : Option (List ℕ)). x.loads ++ (record { name = name; limit = limit; octets = o }) ∷ []) is;
  holds = holds;
  held = subst (λ (o : Option (List ℕ)). IfSome x.holds (λ held. IfSome o (λ bs. held name ≡ Some bs))) is held;
}

-- one that is too long gave more than the limit
long_bytes : (s t : Option Shelved) (name : List ℕ) (limit : ℕ) → BothTell s t (IsLoad name limit (Err TooLong)) → (bytes : List ℕ) × BothTell s t (IsGiven name limit bytes) × (limit < length bytes)
long_bytes None None name limit h = (replicate (suc limit) 0, tt, omega (arith, length-replicate {A = ℕ} (suc limit) 0))
long_bytes None (Some y) name limit h = absurd h
long_bytes (Some x) None name limit h = absurd h
long_bytes (Some x) (Some y) name limit h = go h.octets h.answer h.noted h.held
  where
    go : (octets : Option (List ℕ)) → IsSomeAnd octets (λ bytes. limit < length bytes) → y.loads ≡ x.loads ++ record { name = name; limit = limit; octets = octets } ∷ []
        → IfSome x.holds (λ held. IfSome octets (λ bs. held name ≡ Some bs)) → (bytes : List ℕ) × IsGiven name limit bytes x y × (limit < length bytes)
    go None more noted held = absurd more
    go (Some bytes) more noted held = (bytes, given_of name limit bytes (Some bytes) x y refl noted h.holds held, more)

-- and its refusal is that of such a file
pub long_refused : (s t : Option Shelved) (name : List ℕ) (limit : ℕ) (words : List ℕ) (made : Result (Vec ℕ Global) NoMemory) (e : Stop) → BothTell s t (IsLoad name limit (Err TooLong)) → IfOk made (λ v. v.items ≡ words)
    → StopsBy (λ due. MatchResult made (λ v. due ≡ refused v.items) (λ _. ⊥)) e → StopsBy (IsTooLong s t name limit words) e
long_refused s t name limit words (Ok v) e load made ends =
    let long = long_bytes s t name limit load in
    stops_weaker (λ due. due ≡ refused v.items) (IsTooLong s t name limit words) e (λ due h. (long.0, long.1, long.2, h ∙ ap refused made)) ends
long_refused s t name limit words (Err f) e load made ends = stops_weaker (λ due. ⊥) (IsTooLong s t name limit words) e (λ due h. absurd h) ends

-- what was read behind some loads was read in the run that they began
reads_wider : {T : Type 0} (kind : Kind T) (a b c : Option Shelved) (before later : List Load → List DueLoad) → BothTell a b (AreLoadsOf before) → BothTell b c (AreLoadsOf later)
    → (name : List ℕ) (Next : T → Outcome → Type 0) (o : Outcome) → Reads kind (files_between b c) name Next o → Reads kind (files_between a c) name Next o
reads_wider kind a b c before later one two name Next o (inl r) = inl (r.0, r.1, given_wider name kind.limit r.0 a b c (grows before a b one) (grows later b c two) r.2, r.3, r.4)
reads_wider kind a b c before later one two name Next o (inr n) = inr (n.0, (n.1.0, given_wider name kind.limit n.1.0 a b c (grows before a b one) (grows later b c two) n.1.1, n.1.2), n.2)

-- what was read, by what the result was
pub came : {X T : Type 0} {kind : Kind T} {see : X → T} {name : List ℕ} {before after : DeviceState Shelved} {r s : Result X Stop} → r ≡ s → IsReading kind see name before after r → IsReading kind see name before after s
came {kind = kind} {see = see} {name = name} {before = before} {after = after} is read = subst (IsReading kind see name before after) is read

-- the end of a command that reads a topology and a map over it
abbrev EndsOver : List ℕ → List ℕ → (Plan → Mapped → Outcome → Type 0) → DeviceState Shelved → DeviceState Shelved → Result Report Stop → Type 0
EndsOver topology map Next before after e = IsEnd (loads_from topology_file topology (λ t. only (map_file t) map)) (Reads topology_file (files_between before.past after.past) topology (λ t. Reads (map_file t) (files_between before.past after.past) map (Next t))) before after e

-- the topology is refused or could not be loaded
pub stopped_first : (topology map : List ℕ) (Next : Plan → Mapped → Outcome → Type 0) (before after : DeviceState Shelved) (s : Stop) (e : Result Report Stop) → IsReading topology_file (λ (t : Plan). t) topology before after (Err s) → Err s ≡ e
    → EndsOver topology map Next before after e
stopped_first topology map Next before after s e first is =
    stopped topology_file (λ (t : Plan). t) topology (λ t. only (map_file t) map) (λ t. Reads (map_file t) (files_between before.past after.past) map (Next t)) before after s e first is

-- a topology was read, and then the command ended over it
over_topology : (topology map : List ℕ) (Next : Plan → Mapped → Outcome → Type 0) (before mid after : DeviceState Shelved) (t : Plan) (e : Result Report Stop) → IsReading topology_file (λ (t : Plan). t) topology before mid (Ok t)
    → IsEnd (only (map_file t) map) (Reads (map_file t) (files_between mid.past after.past) map (Next t)) mid after e → EndsOver topology map Next before after e
over_topology topology map Next before mid after t e first end =
    then_ends topology_file (λ (t : Plan). t) topology (λ t. only (map_file t) map) (λ t. Reads (map_file t) (files_between before.past after.past) map (Next t)) (λ t. Reads (map_file t) (files_between mid.past after.past) map (Next t)) before mid after t e first
    (reads_wider (map_file t) before.past mid.past after.past (only topology_file topology) (only (map_file t) map) first.noted end.noted map (Next t)) end

-- a topology was read, and a map over it is refused or could not be loaded
pub stopped_behind : (topology map : List ℕ) (Next : Plan → Mapped → Outcome → Type 0) (before mid after : DeviceState Shelved) (t : Plan) (s : Stop) (e : Result Report Stop)
    → IsReading topology_file (λ (t : Plan). t) topology before mid (Ok t) → IsReading (map_file t) mapped map mid after (Err s) → Err s ≡ e → EndsOver topology map Next before after e
stopped_behind topology map Next before mid after t s e first second is = over_topology topology map Next before mid after t e first (stopped_only (map_file t) mapped map (Next t) mid after s e second is)

-- a topology was read and a map over it, and the command ended by what they say
pub behind_both : (topology map : List ℕ) (Next : Plan → Mapped → Outcome → Type 0) (before mid after : DeviceState Shelved) (t : Plan) (m : MapLines) (e : Result Report Stop) → IsReading topology_file (λ (t : Plan). t) topology before mid (Ok t)
    → IsReading (map_file t) mapped map mid after (Ok m) → EndsBy (Next t (mapped m)) e → (e ≡ Err stop.SourceFault → ⊥) → EndsOver topology map Next before after e
behind_both topology map Next before mid after t m e first second ends other = over_topology topology map Next before mid after t e first (last_ends (map_file t) mapped map (Next t) mid after m e second ends other)

-- what follows of what a file leads on to
reads_weaker : {T : Type 0} (kind : Kind T) (files : Option Files) (name : List ℕ) (Next Later : T → Outcome → Type 0) (o : Outcome) → ((t : T) → Next t o → Later t o) → Reads kind files name Next o → Reads kind files name Later o
reads_weaker kind files name Next Later o follows (inl r) = inl r
reads_weaker kind files name Next Later o follows (inr n) = inr (n.0, n.1, follows n.0 n.2)

-- the end of a command that reads a topology, and a map and changes over it
abbrev EndsOverAll : List ℕ → List ℕ → List ℕ → (Plan → Mapped → List Change → Outcome → Type 0) → DeviceState Shelved → DeviceState Shelved → Result Report Stop → Type 0
EndsOverAll topology map changes Next before after e =
    IsEnd (loads_from topology_file topology (λ t. loads_from (map_file t) map (λ m. only (changes_file t) changes))) (Reads topology_file (files_between before.past after.past) topology (λ t. Reads (map_file t) (files_between before.past after.past) map (λ m. Reads (changes_file t) (files_between before.past after.past) changes (Next t m)))) before after e

-- the topology is refused or could not be loaded
pub stopped_first_of : (topology map changes : List ℕ) (Next : Plan → Mapped → List Change → Outcome → Type 0) (before after : DeviceState Shelved) (s : Stop) (e : Result Report Stop) → IsReading topology_file (λ (t : Plan). t) topology before after (Err s) → Err s ≡ e
    → EndsOverAll topology map changes Next before after e
stopped_first_of topology map changes Next before after s e first is =
    stopped topology_file (λ (t : Plan). t) topology (λ t. loads_from (map_file t) map (λ m. only (changes_file t) changes)) (λ t. Reads (map_file t) (files_between before.past after.past) map (λ m. Reads (changes_file t) (files_between before.past after.past) changes (Next t m))) before after s e first is

-- a topology was read, and then the command ended over it
over_first : (topology map changes : List ℕ) (Next : Plan → Mapped → List Change → Outcome → Type 0) (before mid after : DeviceState Shelved) (t : Plan) (e : Result Report Stop) → IsReading topology_file (λ (t : Plan). t) topology before mid (Ok t)
    → IsEnd (loads_from (map_file t) map (λ m. only (changes_file t) changes)) (Reads (map_file t) (files_between mid.past after.past) map (λ m. Reads (changes_file t) (files_between mid.past after.past) changes (Next t m))) mid after e → EndsOverAll topology map changes Next before after e
over_first topology map changes Next before mid after t e first end =
    then_ends topology_file (λ (t : Plan). t) topology (λ t. loads_from (map_file t) map (λ m. only (changes_file t) changes)) (λ t. Reads (map_file t) (files_between before.past after.past) map (λ m. Reads (changes_file t) (files_between before.past after.past) changes (Next t m)))
    (λ t. Reads (map_file t) (files_between mid.past after.past) map (λ m. Reads (changes_file t) (files_between mid.past after.past) changes (Next t m))) before mid after t e first
    (λ due h. reads_wider (map_file t) before.past mid.past after.past (only topology_file topology) (loads_from (map_file t) map (λ m. only (changes_file t) changes)) first.noted end.noted map (λ m. Reads (changes_file t) (files_between before.past after.past) changes (Next t m)) due
    (reads_weaker (map_file t) (files_between mid.past after.past) map (λ m. Reads (changes_file t) (files_between mid.past after.past) changes (Next t m)) (λ m. Reads (changes_file t) (files_between before.past after.past) changes (Next t m)) due
    (λ m k. reads_wider (changes_file t) before.past mid.past after.past (only topology_file topology) (loads_from (map_file t) map (λ m. only (changes_file t) changes)) first.noted end.noted changes (Next t m) due k) h)) end

-- a topology and a map were read, and the changes are refused or could not be loaded, or the command ended by what all three say
pub behind_three : (topology map changes : List ℕ) (Next : Plan → Mapped → List Change → Outcome → Type 0) (before mid late after : DeviceState Shelved) (t : Plan) (m : MapLines) (e : Result Report Stop)
    → IsReading topology_file (λ (t : Plan). t) topology before mid (Ok t) → IsReading (map_file t) mapped map mid late (Ok m)
    → IsEnd (only (changes_file t) changes) (Reads (changes_file t) (files_between late.past after.past) changes (Next t (mapped m))) late after e → EndsOverAll topology map changes Next before after e
behind_three topology map changes Next before mid late after t m e first second end = over_first topology map changes Next before mid after t e first
    (then_ends (map_file t) mapped map (λ m. only (changes_file t) changes) (λ m. Reads (changes_file t) (files_between mid.past after.past) changes (Next t m)) (λ m. Reads (changes_file t) (files_between late.past after.past) changes (Next t m)) mid late after m e second
    (λ due h. reads_wider (changes_file t) mid.past late.past after.past (only (map_file t) map) (only (changes_file t) changes) second.noted end.noted changes (Next t (mapped m)) due h) end)

-- a topology was read, and a map over it is refused or could not be loaded
pub stopped_second : (topology map changes : List ℕ) (Next : Plan → Mapped → List Change → Outcome → Type 0) (before mid after : DeviceState Shelved) (t : Plan) (s : Stop) (e : Result Report Stop)
    → IsReading topology_file (λ (t : Plan). t) topology before mid (Ok t) → IsReading (map_file t) mapped map mid after (Err s) → Err s ≡ e → EndsOverAll topology map changes Next before after e
stopped_second topology map changes Next before mid after t s e first second is = over_first topology map changes Next before mid after t e first
    (stopped (map_file t) mapped map (λ m. only (changes_file t) changes) (λ m. Reads (changes_file t) (files_between mid.past after.past) changes (Next t m)) mid after s e second is)

-- what a load said, as what the loads of its run say
pub said_here : {T : Type 0} (kind : Kind T) (name : List ℕ) (s t : Option Shelved) (x : T) → IsSaidBy kind name s t x → Says kind (files_between s t) name x
said_here kind name s t x h = (h.0, given_here name kind.limit h.0 s t h.1, h.2)

-- the same where it is refused
pub faulty_here : {T : Type 0} (kind : Kind T) (name : List ℕ) (s t : Option Shelved) (e : Stop) → StopsBy (IsFaulty kind name s t) e → StopsBy (IsRefused kind (files_between s t) name) e
faulty_here kind name s t e h = stops_weaker (IsFaulty kind name s t) (IsRefused kind (files_between s t) name) e (λ due f. (f.0, f.1, given_here name kind.limit f.0 s t f.2, f.3, f.4)) h
