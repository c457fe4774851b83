-- Places that the first door was asked for, with more lanes behind it.
use Rattle.std.proofs.Common.{◌≡◌, ℕ, ◌≤◌, List, [], ◌∷◌, ◌++◌, length, ap, subst, Result, Ok, Err, IfOk, IfErr, OnOk}
use Rattle.std.specs.Prelude.{slice_set}
use Rattle.std.proofs.Common.{get_or}
use Rattle.outside.specs.Faults.{raised}
use Rattle.map_cell.specs.declared.door.OpenFault.TheVariants.{CellFault as Shut}
use Rattle.map_cell.specs.declared.door.OpenFault.{OpenFault}
use Rattle.drive.specs.Done.{LaneTold}
use Rattle.glb.specs.Serve.{AskedFirst, FirstDoor, PlacedFirst}
use Rattle.glb.specs.Starting.{IsAskedSome}

more_first : (Counts : ℕ → ℕ → Type 0) (x : LaneTold) (c b : List LaneTold) → FirstDoor Counts (x ∷ []) c → FirstDoor Counts (x ∷ b) (c ++ b)
more_first Counts x [] b h = absurd h
more_first Counts x (y ∷ c) b h = h

more_asked : (n : ℕ) (xs a b c : List LaneTold) → xs ≡ a ++ b → length a ≡ 1 → AskedFirst n a c → AskedFirst n xs (c ++ b)
more_asked n xs (x ∷ []) b c is one h = rw is (h.0, h.1, ap (λ ys. ys ++ b) h.2)
more_asked n xs [] b c is one h = absurd (cc)
more_asked n xs (x ∷ y ∷ a) b c is one h = absurd (cc)

more_refused : (n : ℕ) (fault : OpenFault) (xs a b c : List LaneTold) → xs ≡ a ++ b → length a ≡ 1 → IsAskedSome n fault a c → IsAskedSome n fault xs (c ++ b)
more_refused n fault xs (x ∷ []) b c is one h = (
  (h.0.0, h.0.1, more_asked h.0.0 xs (x ∷ []) b c is one h.0.2),
  λ shut. rw is (more_first (λ b c. c ≡ raised b 1) x c b (h.1 shut)),
  λ other. rw is (more_first (λ b c. c ≡ b) x c b (h.2 other)),
)
more_refused n fault xs [] b c is one h = absurd (cc)
more_refused n fault xs (x ∷ y ∷ a) b c is one h = absurd (cc)

-- one lane whose door was asked
door_asked : (n : ℕ) (x y : LaneTold) → y.asked ≡ raised x.asked n → y ≡ record x { asked = y.asked; door_faults = y.door_faults } → x.door_faults ≤ y.door_faults → AskedFirst n (x ∷ []) (y ∷ [])
door_asked n x y count is later = (y.door_faults, later, ap (λ z. z ∷ []) (subst (λ k. y ≡ record x { asked = k; door_faults = y.door_faults }) count is))

pub placed_by : {T : Type 0} (r : Result T OpenFault) (n : ℕ) (x y : LaneTold) → OnOk r (y.asked ≡ raised x.asked n) → y ≡ record x { asked = y.asked; door_faults = y.door_faults } → ((r ≡ Err Shut → ⊥) → y.door_faults ≡ x.door_faults) → IfOk r (λ _. PlacedFirst n (x ∷ []) (y ∷ []))
placed_by (Ok t) n x y count is stays =
    let counted : y ≡ record x { asked = raised x.asked n; door_faults = y.door_faults } = subst (λ k. y ≡ record x { asked = k; door_faults = y.door_faults }) count is in
    ap (λ z. z ∷ []) (subst (λ f. y ≡ record x { asked = raised x.asked n; door_faults = f }) (stays (λ e. cc)) counted)
placed_by (Err e) n x y count is stays = tt

pub refused_by : {T : Type 0} (r : Result T OpenFault) (n : ℕ) (x y : LaneTold) → ((k : ℕ) × (k ≤ n) × (y.asked ≡ raised x.asked k)) → y ≡ record x { asked = y.asked; door_faults = y.door_faults } → x.door_faults ≤ y.door_faults
    → IfErr r (λ e. e ≡ Shut → y.door_faults ≡ raised x.door_faults 1) → ((r ≡ Err Shut → ⊥) → y.door_faults ≡ x.door_faults) → IfErr r (λ e. IsAskedSome n e (x ∷ []) (y ∷ []))
refused_by (Ok t) n x y count is later cause stays = tt
refused_by (Err e) n x y count is later cause stays = ((count.0, count.1, door_asked count.0 x y count.2 is later), cause, λ other. stays (λ h. other (cc)))

more_placed : (n : ℕ) (xs a b c : List LaneTold) → xs ≡ a ++ b → length a ≡ 1 → PlacedFirst n a c → PlacedFirst n xs (c ++ b)
more_placed n xs (x ∷ []) b c is one h = rw is (ap (λ ys. ys ++ b) h)
more_placed n xs [] b c is one h = absurd (cc)
more_placed n xs (x ∷ y ∷ a) b c is one h = absurd (cc)

pub placed_more : {T E : Type 0} (r : Result T E) (n : ℕ) (xs a b c : List LaneTold) → xs ≡ a ++ b → length a ≡ 1 → IfOk r (λ _. PlacedFirst n a c) → IfOk r (λ _. PlacedFirst n xs (c ++ b))
placed_more (Ok t) n xs a b c is one h = more_placed n xs a b c is one h
placed_more (Err e) n xs a b c is one h = tt

pub refused_more : {T : Type 0} (r : Result T OpenFault) (n : ℕ) (xs a b c : List LaneTold) → xs ≡ a ++ b → length a ≡ 1 → IfErr r (λ e. IsAskedSome n e a c) → IfErr r (λ e. IsAskedSome n e xs (c ++ b))
refused_more (Ok t) n xs a b c is one h = tt
refused_more (Err e) n xs a b c is one h = more_refused n e xs a b c is one h

-- the only lane
pub one_placed : {T E : Type 0} (r : Result T E) (n : ℕ) (xs : List LaneTold) (d y : LaneTold) → length xs ≡ 1 → IfOk r (λ _. PlacedFirst n (get_or xs 0 d ∷ []) (y ∷ [])) → IfOk r (λ _. PlacedFirst n xs (slice_set xs 0 y))
one_placed r n (x ∷ []) d y one h = h
one_placed r n [] d y one h = absurd (cc)
one_placed r n (x ∷ z ∷ xs) d y one h = absurd (cc)

pub one_refused : {T : Type 0} (r : Result T OpenFault) (n : ℕ) (xs : List LaneTold) (d y : LaneTold) → length xs ≡ 1 → IfErr r (λ e. IsAskedSome n e (get_or xs 0 d ∷ []) (y ∷ [])) → IfErr r (λ e. IsAskedSome n e xs (slice_set xs 0 y))
one_refused r n (x ∷ []) d y one h = h
one_refused r n [] d y one h = absurd (cc)
one_refused r n (x ∷ z ∷ xs) d y one h = absurd (cc)
