-- The loads of one file after another.
use Rattle.std.proofs.Common.{◌≡◌, ◌≢◌, ◌≤◌, ℕ, zero, suc, List, [], ◌∷◌, ◌++◌, length, take, drop, map, All, Contains, Option, None, Some, IsSome, IfSome, Result, Ok, Err, option_map, refl, ap, sym, subst, ◌∙◌, append_assoc, append-nil, inl, inr, arith}
use Rattle.std.proofs.Math.Seq.{drop-append_seam, take-nil}
use Rattle.std.proofs.lemmas.List.Elements.{All-append, All-cons, Contains-append_left, Contains-append_right}
use Rattle.outside.specs.Faults.{BothTell, DeviceState, Rose}
use Rattle.outside.specs.Shelf.{Load, Shelved}
use Rattle.demand_feed.proofs.Tellings.{tell_trans}
use Rattle.glb.specs.Loads.{AreLoaded, AreLoadsOf, AreMade, DueLoad, HaveGiven, due_of, files_between, load_with}
use Rattle.glb.specs.Outcome.{Outcome}
use Rattle.glb.specs.Files.{IsRefused, Kind, Reads, Says, said, load_of, loads_behind, loads_from, only, refused, with_text}
use Rattle.glb.specs.Ending.{EndsBy, IsEnd, IsFaulty, IsGiven, IsReading, IsRefusedBy, IsSaidBy, StopsBy, outcome_of}
use Rattle.glb.specs.declared.ending.Report.{Report}
use Rattle.glb.specs.declared.ending.Stop.{Stop}
use Rattle.glb.specs.declared.ending.Stop.TheVariants as stop

-- what follows of a refusal
pub stops_weaker : (P Q : Outcome → Type 0) (s : Stop) → ((due : Outcome) → P due → Q due) → StopsBy P s → StopsBy Q s
stops_weaker P Q (stop.Refused text) follows h = follows _ h
stops_weaker P Q stop.SourceFault follows h = tt
stops_weaker P Q stop.NoMemory follows h = tt

-- what is refused with the text of a fault is refused by what was read
pub refused_by : {T F : Type 0} (words : F → List ℕ) (none fault : F) (read : Result T F) (s : Stop) → (fault ≢ none → read ≡ Err fault) → StopsBy (λ due. (fault ≢ none) × (due ≡ refused (words fault))) s → StopsBy (IsRefusedBy (with_text words read)) s
refused_by words none fault read s is = stops_weaker (λ due. (fault ≢ none) × (due ≡ refused (words fault))) (IsRefusedBy (with_text words read)) s (λ due h. (words fault, ap (with_text words) (is h.0), h.1))

-- what follows of an outcome
pub ends_weaker : (P Q : Outcome → Type 0) (e : Result Report Stop) → ((due : Outcome) → P due → Q due) → EndsBy P e → EndsBy Q e
ends_weaker P Q (Ok report) follows h = follows (outcome_of report) h
ends_weaker P Q (Err s) follows h = stops_weaker P Q s follows h

-- what follows of what two moments tell
pub tell_weaker : {A : Type 0} (R S : A → A → Type 0) (a b : Option A) → ((x y : A) → R x y → S x y) → BothTell a b R → BothTell a b S
tell_weaker R S None None f h = tt
tell_weaker R S (Some x) (Some y) f h = f x y h
tell_weaker R S None (Some y) f h = absurd h
tell_weaker R S (Some x) None f h = absurd h

-- of none all holds
none_all : {X : Type 0} (P : X → Type 0) → All P []
none_all P k d lt = absurd (omega (arith, lt))

-- the octets of a load, if some came, are those that are held
abbrev IsHeld : (List ℕ → Option (List ℕ)) → Load → Type 0
IsHeld held load = IfSome load.octets (λ bytes. held load.name ≡ Some bytes)

abbrev HasOctets : Load → Type 0
HasOctets load = IsSome load.octets

-- loads that were made one after another
made_then : (one two : List Load) (x y z : Shelved) → AreMade one x y → AreMade two y z → AreMade (one ++ two) x z
made_then one two x y z first second = record {
  loads = second.loads ∙ ap (λ ls. ls ++ two) first.loads ∙ append_assoc x.loads one two;
  holds = second.holds ∙ first.holds;
  held = both x.holds first.held (subst (λ o. IfSome o (λ held. All (IsHeld held) two)) first.holds second.held);
}
  where
    both : (o : Option (List ℕ → Option (List ℕ))) → IfSome o (λ held. All (IsHeld held) one) → IfSome o (λ held. All (IsHeld held) two) → IfSome o (λ held. All (IsHeld held) (one ++ two))
    both None h k = tt
    both (Some held) h k = All-append (IsHeld held) one two h k

-- one load, as loads that were made
first_made : (name : List ℕ) (limit : ℕ) (bytes : List ℕ) (x y : Shelved) → IsGiven name limit bytes x y → AreMade (load_with name limit bytes ∷ []) x y
first_made name limit bytes x y given = record { loads = given.loads; holds = given.holds; held = all x.holds given.held }
  where
    all : (o : Option (List ℕ → Option (List ℕ))) → IfSome o (λ held. held name ≡ Some bytes) → IfSome o (λ held. All (IsHeld held) (load_with name limit bytes ∷ []))
    all None h = tt
    all (Some held) h = All-cons (IsHeld held) (load_with name limit bytes) [] h (none_all (IsHeld held))

-- the files of a run that made these loads
made_between : (made : List Load) (x y : Shelved) → AreMade made x y → drop (length x.loads) y.loads ≡ made
made_between made x y h = ap (λ (ls : List Load). drop (length x.loads) ls) h.loads ∙ drop-append_seam x.loads made

-- no load was made
pub none_held : (o : Option (List ℕ → Option (List ℕ))) → IfSome o (λ held. All (λ (load : Load). IfSome load.octets (λ bytes. held load.name ≡ Some bytes)) [])
none_held None = tt
none_held (Some held) = none_all (IsHeld held)

pub none_made : (due : List Load → List DueLoad) (x y : Shelved) → y.loads ≡ x.loads → y.holds ≡ x.holds → AreLoadsOf due x y
none_made due x y noted holds = ([], record { loads = noted ∙ sym (append-nil x.loads); holds = holds; held = none_held x.holds }, (0, refl))

-- some loads were made
abbrev Grows : Option Shelved → Option Shelved → Type 0
Grows s t = BothTell s t (λ x y. (made : List Load) × AreMade made x y)

pub grows : (due : List Load → List DueLoad) (s t : Option Shelved) → BothTell s t (AreLoadsOf due) → Grows s t
grows due s t = tell_weaker (AreLoadsOf due) (λ x y. (made : List Load) × AreMade made x y) s t (λ x y h. (h.0, h.1))

-- the octets that one load gave were given in a run that went on
given_later : (name : List ℕ) (limit : ℕ) (bytes : List ℕ) (s t u : Option Shelved) → BothTell s t (IsGiven name limit bytes) → Grows t u → HaveGiven (files_between s u) name limit bytes
given_later name limit bytes None None None one more = tt
given_later name limit bytes None None (Some z) one more = absurd more
given_later name limit bytes None (Some y) u one more = absurd one
given_later name limit bytes (Some x) None u one more = absurd one
given_later name limit bytes (Some x) (Some y) None one more = absurd more
given_later name limit bytes (Some x) (Some y) (Some z) one (made, more) =
    let a = load_with name limit bytes in
    let first = first_made name limit bytes x y one in
    (subst (λ (ls : List Load). Contains ls a) (sym (made_between (a ∷ made) x z (made_then (a ∷ []) made x y z first more))) (Contains-append_left (a ∷ []) made a (0, omega arith, refl)), one.held)

-- and in that of the load alone
pub given_here : (name : List ℕ) (limit : ℕ) (bytes : List ℕ) (s t : Option Shelved) → BothTell s t (IsGiven name limit bytes) → HaveGiven (files_between s t) name limit bytes
given_here name limit bytes s t one = given_later name limit bytes s t t one (same t)
  where
    same : (t : Option Shelved) → Grows t t
    same None = tt
    same (Some x) = ([], record { loads = sym (append-nil x.loads); holds = refl; held = none_held x.holds })

-- what was given behind some loads was given in the run that they began
pub given_wider : (name : List ℕ) (limit : ℕ) (bytes : List ℕ) (s t u : Option Shelved) → Grows s t → Grows t u → HaveGiven (files_between t u) name limit bytes → HaveGiven (files_between s u) name limit bytes
given_wider name limit bytes None None None one two h = tt
given_wider name limit bytes None None (Some z) one two h = absurd two
given_wider name limit bytes None (Some y) u one two h = absurd one
given_wider name limit bytes (Some x) None u one two h = absurd one
given_wider name limit bytes (Some x) (Some y) None one two h = absurd two
given_wider name limit bytes (Some x) (Some y) (Some z) (front, one) (made, two) h =
    let a = load_with name limit bytes in
    let there : Contains made a = subst (λ (ls : List Load). Contains ls a) (made_between made y z two) h.0 in (
      subst (λ (ls : List Load). Contains ls a) (sym (made_between (front ++ made) x z (made_then front made x y z one two))) (Contains-append_right front made a there),
      subst (λ o. IfSome o (λ held. held name ≡ Some bytes)) one.holds h.1,
    )

-- what a file says that was loaded first
says_later : {T : Type 0} (kind : Kind T) (name : List ℕ) (t : T) (a b c : Option Shelved) → IsSaidBy kind name a b t → Grows b c → Says kind (files_between a c) name t
says_later kind name t a b c says more = (says.0, given_later name kind.limit says.0 a b c says.1 more, says.2)

says_here : {T : Type 0} (kind : Kind T) (name : List ℕ) (t : T) (a b : Option Shelved) → IsSaidBy kind name a b t → Says kind (files_between a b) name t
says_here kind name t a b says = (says.0, given_here name kind.limit says.0 a b says.1, says.2)

refused_here : {T : Type 0} (kind : Kind T) (name : List ℕ) (due : Outcome) (a b : Option Shelved) → IsFaulty kind name a b due → IsRefused kind (files_between a b) name due
refused_here kind name due a b h = (h.0, h.1, given_here name kind.limit h.0 a b h.2, h.3, h.4)

-- the loads that follow on a file that says something
behind_said : {T : Type 0} (kind : Kind T) (next : T → List Load → List DueLoad) (that : T) (bytes : List ℕ) (made : List Load)
    → said kind bytes ≡ Ok that → loads_behind (Some (said kind bytes)) (λ t. next t made) ≡ next that made
behind_said kind next that bytes made says = ap (λ r. loads_behind (Some r) (λ t. next t made)) says

-- a file that says something, and then the first of the loads that follow on it
noted_then : {T : Type 0} (kind : Kind T) (name : List ℕ) (next : T → List Load → List DueLoad) (that : T) (s t u : Option Shelved)
    → IsSaidBy kind name s t that → BothTell t u (AreLoadsOf (next that)) → BothTell s u (AreLoadsOf (loads_from kind name next))
noted_then kind name next that s t u says two =
    tell_trans s t u (IsGiven name kind.limit says.0) (AreLoadsOf (next that)) (AreLoadsOf (loads_from kind name next)) says.1 two
    (λ x y z one two.
    let a = load_with name kind.limit says.0 in (
      a ∷ two.0,
      made_then (a ∷ []) two.0 x y z (first_made name kind.limit says.0 x y one) two.1,
      (
        suc two.2.0,
        ap (λ ds. load_of kind name ∷ ds) (two.2.1 ∙ ap (take two.2.0) (sym (behind_said kind next that says.0 two.0 says.2))),
      ),
    ))

-- and all of them
loaded_then : {T : Type 0} (kind : Kind T) (name : List ℕ) (next : T → List Load → List DueLoad) (that : T) (s t u : Option Shelved)
    → IsSaidBy kind name s t that → BothTell t u (AreLoaded (next that)) → BothTell s u (AreLoaded (loads_from kind name next))
loaded_then kind name next that s t u says two =
    tell_trans s t u (IsGiven name kind.limit says.0) (AreLoaded (next that)) (AreLoaded (loads_from kind name next)) says.1 two
    (λ x y z one two.
    let a = load_with name kind.limit says.0 in (
      a ∷ two.0,
      made_then (a ∷ []) two.0 x y z (first_made name kind.limit says.0 x y one) two.1,
      ap (λ ds. load_of kind name ∷ ds) (two.2 ∙ sym (behind_said kind next that says.0 two.0 says.2)),
      All-cons HasOctets a two.0 refl two.3,
    ))

-- one load was made, of the only file
loaded_only : {T : Type 0} (kind : Kind T) (name bytes : List ℕ) (s t : Option Shelved) → BothTell s t (IsGiven name kind.limit bytes) → BothTell s t (AreLoaded (only kind name))
loaded_only kind name bytes s t given =
    tell_weaker (IsGiven name kind.limit bytes) (AreLoaded (only kind name)) s t
    (λ x y one. (load_with name kind.limit bytes ∷ [], first_made name kind.limit bytes x y one, refl, All-cons HasOctets (load_with name kind.limit bytes) [] refl (none_all HasOctets))) given

-- nothing follows on a file that is refused
loaded_first : {T : Type 0} (kind : Kind T) (name : List ℕ) (next : T → List Load → List DueLoad) (s t : Option Shelved) (due : Outcome) → IsFaulty kind name s t due → BothTell s t (AreLoaded (loads_from kind name next))
loaded_first kind name next s t due faulty =
    tell_weaker (IsGiven name kind.limit faulty.0) (AreLoaded (loads_from kind name next)) s t
    (λ x y one.
    let a = load_with name kind.limit faulty.0 in
    (a ∷ [], first_made name kind.limit faulty.0 x y one, ap (λ ds. load_of kind name ∷ ds) (sym (ap (λ r. loads_behind (Some r) (λ t. next t [])) faulty.3)), All-cons HasOctets a [] refl (none_all HasOctets))) faulty.2

-- the first load may have failed
first_due : {T : Type 0} (kind : Kind T) (name : List ℕ) (next : T → List Load → List DueLoad) (made : List Load) (k : ℕ) → map due_of made ≡ take k (load_of kind name ∷ []) → (j : ℕ) × (map due_of made ≡ take j (loads_from kind name next made))
first_due kind name next [] k is = (0, refl)
first_due kind name next (l ∷ ls) zero is = absurd (cc)
first_due kind name next (l ∷ ls) (suc k) is = (1, is ∙ ap (λ ds. load_of kind name ∷ ds) (take-nil k))

noted_first : {T : Type 0} (kind : Kind T) (name : List ℕ) (next : T → List Load → List DueLoad) (s t : Option Shelved) → BothTell s t (AreLoadsOf (only kind name)) → BothTell s t (AreLoadsOf (loads_from kind name next))
noted_first kind name next s t h =
    tell_weaker (AreLoadsOf (only kind name)) (AreLoadsOf (loads_from kind name next)) s t
    (λ x y h. (h.0, h.1, first_due kind name next h.0 h.2.0 h.2.1)) h

rose_later : (a b c : ℕ) → a ≤ b → Rose b c → Rose a c
rose_later a b c le rose = omega (arith, le, rose)

source_of : {X Y : Type 0} (s : Stop) (read : Result X Stop) (ended : Result Y Stop) → read ≡ Err s → ended ≡ Err s → ended ≡ Err stop.SourceFault → read ≡ Err stop.SourceFault
source_of s read ended one two is = cc

read_well : {X : Type 0} (x : X) (read : Result X Stop) → read ≡ Ok x → read ≡ Err stop.SourceFault → ⊥
read_well x read one two = cc

-- the only file of a command is refused, or could not be loaded
pub stopped_only : {X T : Type 0} (kind : Kind T) (see : X → T) (name : List ℕ) (Next : T → Outcome → Type 0) (before after : DeviceState Shelved) (s : Stop) (e : Result Report Stop)
    → IsReading kind see name before after (Err s) → Err s ≡ e → IsEnd (only kind name) (Reads kind (files_between before.past after.past) name Next) before after e
stopped_only kind see name Next before after s e r is =
    subst (λ (e : Result Report Stop). IsEnd (only kind name) (Reads kind (files_between before.past after.past) name Next) before after e) is
    (record {
      noted = r.noted;
      loaded = stops_weaker (IsFaulty kind name before.past after.past) (λ _. BothTell before.past after.past (AreLoaded (only kind name))) s (λ due h. loaded_only kind name h.0 before.past after.past h.2) r.said;
      due = stops_weaker (IsFaulty kind name before.past after.past) (Reads kind (files_between before.past after.past) name Next) s (λ due h. inl (refused_here kind name due before.past after.past h)) r.said;
      later = r.later;
      cause = λ is. r.cause (source_of s (Err s) (Err s) refl refl is);
      stays = λ other. r.stays (λ is. other (source_of s (Err s) (Err s) refl refl is));
    })

-- and so is a file on which others would have followed
pub stopped : {X T : Type 0} (kind : Kind T) (see : X → T) (name : List ℕ) (next : T → List Load → List DueLoad) (Next : T → Outcome → Type 0) (before after : DeviceState Shelved) (s : Stop) (e : Result Report Stop)
    → IsReading kind see name before after (Err s) → Err s ≡ e → IsEnd (loads_from kind name next) (Reads kind (files_between before.past after.past) name Next) before after e
stopped kind see name next Next before after s e r is =
    let end = stopped_only kind see name Next before after s (Err s) r refl in
    subst (λ (e : Result Report Stop). IsEnd (loads_from kind name next) (Reads kind (files_between before.past after.past) name Next) before after e) is
    (record {
      noted = noted_first kind name next before.past after.past r.noted;
      loaded = stops_weaker (IsFaulty kind name before.past after.past) (λ _. BothTell before.past after.past (AreLoaded (loads_from kind name next))) s (λ due h. loaded_first kind name next before.past after.past due h) r.said;
      due = end.due;
      later = end.later;
      cause = end.cause;
      stays = end.stays;
    })

always_ends : (P : Type 0) (e : Result Report Stop) → P → EndsBy (λ _. P) e
always_ends P (Ok report) h = h
always_ends P (Err (stop.Refused text)) h = h
always_ends P (Err stop.SourceFault) h = tt
always_ends P (Err stop.NoMemory) h = tt

-- the end of a command behind its last file
pub last_ends : {X T : Type 0} (kind : Kind T) (see : X → T) (name : List ℕ) (Next : T → Outcome → Type 0) (before after : DeviceState Shelved) (x : X) (e : Result Report Stop) → IsReading kind see name before after (Ok x)
    → EndsBy (Next (see x)) e → (e ≡ Err stop.SourceFault → ⊥) → IsEnd (only kind name) (Reads kind (files_between before.past after.past) name Next) before after e
last_ends kind see name Next before after x e r ends other = record {
  noted = r.noted;
  loaded = always_ends (BothTell before.past after.past (AreLoaded (only kind name))) e (loaded_only kind name r.said.0 before.past after.past r.said.1);
  due = ends_weaker (Next (see x)) (Reads kind (files_between before.past after.past) name Next) e (λ due h. inr (see x, says_here kind name (see x) before.past after.past r.said, h)) ends;
  later = r.later;
  cause = λ is. absurd (other is);
  stays = λ _. r.stays (read_well x (Ok x) refl);
}

-- the end of a command behind a file on which others follow
pub then_ends : {X T : Type 0} (kind : Kind T) (see : X → T) (name : List ℕ) (next : T → List Load → List DueLoad) (Next Later : T → Outcome → Type 0) (before mid after : DeviceState Shelved) (x : X) (e : Result Report Stop)
    → IsReading kind see name before mid (Ok x) → ((due : Outcome) → Later (see x) due → Next (see x) due) → IsEnd (next (see x)) (Later (see x)) mid after e
    → IsEnd (loads_from kind name next) (Reads kind (files_between before.past after.past) name Next) before after e
then_ends kind see name next Next Later before mid after x e r back end = record {
  noted = noted_then kind name next (see x) before.past mid.past after.past r.said end.noted;
  loaded = ends_weaker (λ _. BothTell mid.past after.past (AreLoaded (next (see x)))) (λ _. BothTell before.past after.past (AreLoaded (loads_from kind name next))) e
      (λ due made. loaded_then kind name next (see x) before.past mid.past after.past r.said made) end.loaded;
  due = ends_weaker (Later (see x)) (Reads kind (files_between before.past after.past) name Next) e
      (λ due h. inr (see x, says_later kind name (see x) before.past mid.past after.past r.said (grows (next (see x)) mid.past after.past end.noted), back due h)) end.due;
  later = omega (arith, r.later, end.later);
  cause = λ is. rose_later before.faults mid.faults after.faults r.later (end.cause is);
  stays = λ other. end.stays other ∙ r.stays (read_well x (Ok x) refl);
}
