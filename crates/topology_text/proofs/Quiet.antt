-- What it says of a table's parts that a rule finds nothing on the walk.
use Rattle.std.proofs.Common.{◌≡◌, ℕ, ◌+◌, ◌<◌, suc, zero, Bool, true, false, List, [], ◌∷◌, ◌++◌, length, get_or, map, Option, None, Some, refl, ap, sym, ◌∙◌, subst, arith}
use Rattle.std.specs.List.{cons_option, flat_map}
use Rattle.std.proofs.lemmas.List.Concat.{flat_map-append}
use Rattle.topology_text.specs.Schema.{keys_of}
use Rattle.toml.specs.Data.{Data, Members, boolean, table}
use Rattle.topology_text.specs.Walk.{Visit, entries_from, entry_spot, items_at, places_at, places_in, places_of, value_at, visit_of, walk, zone_visits}
use Rattle.topology_text.specs.Values.{whole_if}
use Rattle.topology_text.specs.declared.schema.At.{At}
use Rattle.topology_text.specs.declared.schema.Key.{Key}
use Rattle.topology_text.specs.declared.schema.Key.TheVariants.{Zone, Node, Group, Class}
use Rattle.topology_text.specs.declared.schema.Spot.TheVariants.{Top, ZoneTable, NodeTable, GroupTable, ClassTable}

pub empty_first : {A : Type 0} (xs ys : List A) → xs ++ ys ≡ [] → xs ≡ []
empty_first [] ys h = refl
empty_first (x ∷ xs) ys h = cc

pub empty_second : {A : Type 0} (xs ys : List A) → xs ++ ys ≡ [] → ys ≡ []
empty_second [] ys h = h
empty_second (x ∷ xs) ys h = cc

pub empty_map : {A B : Type 0} (f : A → B) (xs : List A) → map f xs ≡ [] → xs ≡ []
empty_map f [] h = refl
empty_map f (x ∷ xs) h = cc

pub not_whole : (b : Bool) → whole_if b ≡ [] → b ≡ false
not_whole true h = cc
not_whole false h = refl

-- nothing in any part
pub quiet_at : {X A : Type 0} (f : X → List A) (xs : List X) (j : ℕ) (d : X) → flat_map f xs ≡ [] → j < length xs → f (get_or xs j d) ≡ []
quiet_at f [] j d h l = absurd (omega arith)
quiet_at f (x ∷ xs) zero d h l = empty_first (f x) (flat_map f xs) h
quiet_at f (x ∷ xs) (suc j) d h l = quiet_at f xs j d (empty_second (f x) (flat_map f xs) h) (omega arith)

quiet_option : {X A : Type 0} (f : X → List A) (o : Option X) (xs : List X) → flat_map f (cons_option o xs) ≡ [] → flat_map f xs ≡ []
quiet_option f None xs h = h
quiet_option f (Some x) xs h = empty_second (f x) (flat_map f xs) h

-- nothing in any entry that is a table
pub quiet_entries : {A : Type 0} (f : Visit → List A) (key : Key) (i : ℕ) (ds : List Data) (j : ℕ) (ms : Members) → flat_map f (entries_from key i ds) ≡ [] → j < length ds
    → get_or ds j (boolean false) ≡ table ms → f (record { spot = entry_spot key (i + j); members = ms }) ≡ []
quiet_entries f key i [] j ms h l is = absurd (omega arith)
quiet_entries f key i (d ∷ ds) zero ms h l is =
    let seen : flat_map f (cons_option (visit_of (entry_spot key i) (table ms)) (entries_from key (i + 1) ds)) ≡ [] = subst (λ (e : Data). flat_map f (cons_option (visit_of (entry_spot key i) e) (entries_from key (i + 1) ds)) ≡ []) is h in
    let e : i + 0 ≡ i = omega arith in
    rw e (empty_first _ (flat_map f (entries_from key (i + 1) ds)) seen)
quiet_entries f key i (d ∷ ds) (suc j) ms h l is =
    let e : i + suc j ≡ (i + 1) + j = omega arith in
    rw e (quiet_entries f key (i + 1) ds j ms (quiet_option f (visit_of (entry_spot key i) d) _ h) (omega arith) is)

-- the five parts of a walk
flat_five : {A : Type 0} (f : Visit → List A) (t : Visit) (z n g c : List Visit) → flat_map f (t ∷ z ++ n ++ g ++ c) ≡ [] → (f t ≡ []) × (flat_map f z ≡ []) × (flat_map f n ≡ []) × (flat_map f g ≡ []) × (flat_map f c ≡ [])
flat_five f t z n g c h =
    let three : flat_map f (z ++ n ++ g) ≡ (flat_map f z ++ flat_map f n) ++ flat_map f g = flat_map-append f (z ++ n) g ∙ ap (λ xs. xs ++ flat_map f g) (flat_map-append f z n) in
    let all : f t ++ (((flat_map f z ++ flat_map f n) ++ flat_map f g) ++ flat_map f c) ≡ [] = ap (λ xs. f t ++ xs) (sym (flat_map-append f (z ++ n ++ g) c ∙ ap (λ xs. xs ++ flat_map f c) three)) ∙ h in
    let rest = empty_second (f t) _ all in
    let most = empty_first _ (flat_map f c) rest in
    let front = empty_first _ (flat_map f g) most in
    (empty_first (f t) _ all, empty_first _ (flat_map f n) front, empty_second (flat_map f z) _ front, empty_second _ (flat_map f g) most, empty_second _ (flat_map f c) rest)

walk_five : {A : Type 0} (f : Visit → List A) (top : Members) → flat_map f (walk top) ≡ []
    → (f (record { spot = Top; members = top }) ≡ []) × (flat_map f (zone_visits (value_at top Zone)) ≡ []) × (flat_map f (entries_from Node 0 (items_at top Node)) ≡ []) × (flat_map f (entries_from Group 0 (items_at top Group)) ≡ []) × (flat_map f (entries_from Class 0 (items_at top Class)) ≡ [])
walk_five f top h = flat_five f (record { spot = Top; members = top }) (zone_visits (value_at top Zone)) (entries_from Node 0 (items_at top Node)) (entries_from Group 0 (items_at top Group)) (entries_from Class 0 (items_at top Class)) h

quiet_key : (finds : Visit → Key → List At) (v : Visit) (j : ℕ) → places_in finds v ≡ [] → j < length (keys_of v.spot) → finds v (get_or (keys_of v.spot) j Zone) ≡ []
quiet_key finds v j h l = empty_map _ _ (quiet_at (places_at finds v) (keys_of v.spot) j Zone h l)

-- a key of the top table, of a node, of a group and of a class
pub quiet_top : (finds : Visit → Key → List At) (top : Members) (j : ℕ) → places_of finds (walk top) ≡ [] → j < 4 → finds (record { spot = Top; members = top }) (get_or (keys_of Top) j Zone) ≡ []
quiet_top finds top j h l = quiet_key finds (record { spot = Top; members = top }) j (walk_five (places_in finds) top h).0 l

pub quiet_node : (finds : Visit → Key → List At) (top : Members) (i : ℕ) (ms : Members) (j : ℕ) → places_of finds (walk top) ≡ [] → i < length (items_at top Node) → get_or (items_at top Node) i (boolean false) ≡ table ms → j < 6
    → finds (record { spot = NodeTable i; members = ms }) (get_or (keys_of (NodeTable i)) j Zone) ≡ []
quiet_node finds top i ms j h l is within =
    let e : 0 + i ≡ i = omega arith in
    let at : places_in finds (record { spot = NodeTable (0 + i); members = ms }) ≡ [] = quiet_entries (places_in finds) Node 0 (items_at top Node) i ms (walk_five (places_in finds) top h).2 l is in
    quiet_key finds (record { spot = NodeTable i; members = ms }) j (rw (← e) at) within

pub quiet_group : (finds : Visit → Key → List At) (top : Members) (i : ℕ) (ms : Members) (j : ℕ) → places_of finds (walk top) ≡ [] → i < length (items_at top Group) → get_or (items_at top Group) i (boolean false) ≡ table ms → j < 6
    → finds (record { spot = GroupTable i; members = ms }) (get_or (keys_of (GroupTable i)) j Zone) ≡ []
quiet_group finds top i ms j h l is within =
    let e : 0 + i ≡ i = omega arith in
    let at : places_in finds (record { spot = GroupTable (0 + i); members = ms }) ≡ [] = quiet_entries (places_in finds) Group 0 (items_at top Group) i ms (walk_five (places_in finds) top h).3 l is in
    quiet_key finds (record { spot = GroupTable i; members = ms }) j (rw (← e) at) within

pub quiet_class : (finds : Visit → Key → List At) (top : Members) (i : ℕ) (ms : Members) (j : ℕ) → places_of finds (walk top) ≡ [] → i < length (items_at top Class) → get_or (items_at top Class) i (boolean false) ≡ table ms → j < 7
    → finds (record { spot = ClassTable i; members = ms }) (get_or (keys_of (ClassTable i)) j Zone) ≡ []
quiet_class finds top i ms j h l is within =
    let e : 0 + i ≡ i = omega arith in
    let at : places_in finds (record { spot = ClassTable (0 + i); members = ms }) ≡ [] = quiet_entries (places_in finds) Class 0 (items_at top Class) i ms (walk_five (places_in finds) top h).4 l is in
    quiet_key finds (record { spot = ClassTable i; members = ms }) j (rw (← e) at) within

-- and a key of the zone
pub quiet_zone : (finds : Visit → Key → List At) (top ms : Members) (j : ℕ) → places_of finds (walk top) ≡ [] → value_at top Zone ≡ Some (table ms) → j < 11
    → finds (record { spot = ZoneTable; members = ms }) (get_or (keys_of ZoneTable) j Zone) ≡ []
quiet_zone finds top ms j h is within =
    let at : flat_map (places_in finds) (zone_visits (Some (table ms))) ≡ [] = ap (λ o. flat_map (places_in finds) (zone_visits o)) (sym is) ∙ (walk_five (places_in finds) top h).1 in
    quiet_key finds (record { spot = ZoneTable; members = ms }) j (empty_first _ [] at) within
