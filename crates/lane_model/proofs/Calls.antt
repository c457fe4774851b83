-- What a whole call of a lane promises.
use Rattle.std.proofs.Common.{◌≡◌, ℕ, zero, suc, ◌+◌, ◌<◌, ◌≤◌, Bool, true, false, if◌then◌else◌, List, [], ◌∷◌, length, fold, sum_by, All, refl, sym, ap, subst, ◌∙◌, arith}
use Rattle.std.proofs.lemmas.List.Sums.{sum_by-cons, sum_by_push}
use Rattle.outside.specs.Faults.{Rose, raised}
use Rattle.lane_model.specs.declared.ended.Ended.TheVariants as end
use Rattle.lane_model.specs.Lanes.{Answers}
use Rattle.lane_model.specs.Turns.{Turn, Came, IsCame, IsFated, count_after, fails_of, failures, floor_after, is_calm, is_refused, looks_of, refused_of, idle, oversize, ended, failed, took, silent, refused, tried}
use Rattle.lane_model.specs.Calls.{IsEnd, IsLaneLog, AreTurns, Moment}
use Rattle.lane_model.proofs.Prefixes.{prefix_length}
use Rattle.lane_model.proofs.Runs.{IsInOrder, turns_notes, turns_port, turns_rises, turns_run, turns_told}

pub calm_not_refused : (came : Came) → is_calm came ≡ true → is_refused came ≡ false
calm_not_refused idle c = refl
calm_not_refused oversize c = refl
calm_not_refused ended c = refl
calm_not_refused failed c = refl
calm_not_refused (took d silent) c = refl
calm_not_refused (took d refused) c = absurd (cc c)
calm_not_refused (took d (tried serial octets went)) c = refl

all_cons : {A : Type 0} (P : A → Type 0) (x : A) (xs : List A) → P x → All P xs → All P (x ∷ xs)
all_cons P x xs p q zero d lt = p
all_cons P x xs p q (suc k) d lt = q k d (omega (arith, lt))

turns_within : {V : Type 0} (a : Answers V) (w : ℕ) (log : List Turn) (m m' : Moment V) → AreTurns a w log m m' → All (λ t. floor_after t.known t.came < length m'.eyes.heard) log
turns_within a w [] m m' s = λ k d lt. absurd (omega (arith, lt))
turns_within a w (t ∷ log) m m' s =
    let r = turns_rises a w log s.0 m' s.2 in
    let l = prefix_length s.0.eyes.heard m'.eyes.heard r.heard in
    all_cons (λ x. floor_after x.known x.came < length m'.eyes.heard) t log (omega (arith, s.1.knows, l)) (turns_within a w log s.0 m' s.2)

turns_known : {V : Type 0} (a : Answers V) (w : ℕ) (log : List Turn) (m m' : Moment V) → AreTurns a w log m m' → All (λ t. t.known < length m'.eyes.heard) log
turns_known a w [] m m' s = λ k d lt. absurd (omega (arith, lt))
turns_known a w (t ∷ log) m m' s =
    let r = turns_rises a w log s.0 m' s.2 in
    let l = prefix_length s.0.eyes.heard m'.eyes.heard r.heard in
    all_cons (λ x. x.known < length m'.eyes.heard) t log (omega (arith, s.1.floor, s.1.knows, l)) (turns_known a w log s.0 m' s.2)

raised_none : (n : ℕ) → n ≡ raised n 0
raised_none n = omega arith

raised_more : (n j k : ℕ) → raised (raised n j) k ≡ raised n (j + k)
raised_more n j k = omega arith

turns_looks : {V : Type 0} (a : Answers V) (w : ℕ) (log : List Turn) (m m' : Moment V) → AreTurns a w log m m' → m'.eyes.looks ≡ raised m.eyes.looks (sum_by (λ t. looks_of t.came) log)
turns_looks a w [] m m' s = ap (λ k. k.eyes.looks) s ∙ raised_none m.eyes.looks
turns_looks a w (t ∷ log) m m' s =
    turns_looks a w log s.0 m' s.2 ∙ (ap (λ k. raised k (sum_by (λ x. looks_of x.came) log)) s.1.looks ∙ (raised_more m.eyes.looks (looks_of t.came) (sum_by (λ x. looks_of x.came) log) ∙ ap (λ k. raised m.eyes.looks k) (sym (sum_by-cons (λ x. looks_of x.came) t log))))

raised_through : (x y z j k : ℕ) → raised x j ≤ y → raised y k ≤ z → raised x (j + k) ≤ z
raised_through x y z j k p q = omega (arith, p, q)

-- the port's count rises by at least as many as its calls fail
turns_failures : {V : Type 0} (a : Answers V) (w : ℕ) (log : List Turn) (m m' : Moment V) → AreTurns a w log m m' → raised m.port_faults (failures log) ≤ m'.port_faults
turns_failures a w [] m m' s = subst (λ k. raised m.port_faults 0 ≤ k.port_faults) (sym s) (omega arith)
turns_failures a w (t ∷ log) m m' s =
    let through = raised_through m.port_faults s.0.port_faults m'.port_faults (fails_of t.came) (failures log) s.1.port_faults (turns_failures a w log s.0 m' s.2) in
    subst (λ (k : ℕ). raised m.port_faults k ≤ m'.port_faults) (sym (sum_by-cons (λ x. fails_of x.came) t log)) through

-- where none failed, it stays
turns_port_stays : {V : Type 0} (a : Answers V) (w : ℕ) (log : List Turn) (m m' : Moment V) → AreTurns a w log m m' → failures log ≡ 0 → m'.port_faults ≡ m.port_faults
turns_port_stays a w [] m m' s none = ap (λ k. k.port_faults) s
turns_port_stays a w (t ∷ log) m m' s none =
    let sum = sum_by-cons (λ x. fails_of x.came) t log in
    turns_port_stays a w log s.0 m' s.2 (omega (arith, sum, none)) ∙ s.1.port_stays (omega (arith, sum, none))

rose_later : (x y z : ℕ) → x ≤ y → Rose y z → Rose x z
rose_later x y z le r = omega (arith, le, r)

later_rose : (x y z : ℕ) → Rose x y → y ≤ z → Rose x z
later_rose x y z r le = omega (arith, le, r)

-- a count that rises where some part of a sum isn't 0
rises_by : (n k x y z : ℕ) → x ≤ y → y ≤ z → (0 < n → Rose x y) → (0 < k → Rose y z) → 0 < n + k → Rose x z
rises_by zero k x y z le le' f g lt = rose_later x y z le (g (omega (arith, lt)))
rises_by (suc n) k x y z le le' f g lt = later_rose x y z (f (omega arith)) le'

refused_by : (b : Bool) → 0 < (if b then 1 else 0) → b ≡ true
refused_by true lt = refl
refused_by false lt = absurd (omega (arith, lt))

turns_refusal : {V : Type 0} (a : Answers V) (w : ℕ) (log : List Turn) (m m' : Moment V) → AreTurns a w log m m' → 0 < sum_by (λ t. refused_of t.came) log → Rose m.eyes.faults m'.eyes.faults
turns_refusal a w [] m m' s lt = absurd (omega (arith, lt))
turns_refusal a w (t ∷ log) m m' s lt =
    rises_by (refused_of t.came) (sum_by (λ x. refused_of x.came) log) m.eyes.faults s.0.eyes.faults m'.eyes.faults s.1.eyes.faults (turns_rises a w log s.0 m' s.2).faults (λ l. s.1.refusal (refused_by (is_refused t.came) l)) (turns_refusal a w log s.0 m' s.2) (subst (λ (k : ℕ). 0 < k) (sum_by-cons (λ x. refused_of x.came) t log) lt)

-- where no look was refused, the door's count stays
calm_by : (b : Bool) (n : ℕ) → n ≡ (if b then 1 else 0) → n ≡ 0 → b ≡ false
calm_by true n is none = absurd (omega (arith, is, none))
calm_by false n is none = refl

turns_stays : {V : Type 0} (a : Answers V) (w : ℕ) (log : List Turn) (m m' : Moment V) → AreTurns a w log m m' → sum_by (λ t. refused_of t.came) log ≡ 0 → m'.eyes.faults ≡ m.eyes.faults
turns_stays a w [] m m' s none = ap (λ k. k.eyes.faults) s
turns_stays a w (t ∷ log) m m' s none =
    let sum = sum_by-cons (λ x. refused_of x.came) t log in
    turns_stays a w log s.0 m' s.2 (omega (arith, sum, none)) ∙ s.1.stays (calm_by (is_refused t.came) (refused_of t.came) refl (omega (arith, sum, none)))

-- what became of a datagram fits its octets
fated : {V : Type 0} (a : Answers V) (h : List V) (w n known : ℕ) (c : Came) → IsCame a h w n known c → IsFated a c
fated a h w n known idle is = tt
fated a h w n known oversize is = tt
fated a h w n known ended is = tt
fated a h w n known failed is = tt
fated a h w n known (took d silent) is = is
fated a h w n known (took d refused) is = is
fated a h w n known (took d (tried serial octets went)) is = is.0

turns_fates : {V : Type 0} (a : Answers V) (w : ℕ) (log : List Turn) (m m' : Moment V) → AreTurns a w log m m' → All (λ t. IsFated a t.came) log
turns_fates a w [] m m' s = λ k d lt. absurd (omega (arith, lt))
turns_fates a w (t ∷ log) m m' s = all_cons (λ x. IsFated a x.came) t log (fated a s.0.eyes.seen w m.count t.known t.came s.1.came) (turns_fates a w log s.0 m' s.2)

-- datagrams are counted on
turns_count : {V : Type 0} (a : Answers V) (w : ℕ) (log : List Turn) (m m' : Moment V) → AreTurns a w log m m' → m'.count ≡ fold (λ n t. count_after n t.came) m.count log
turns_count a w [] m m' s = ap (λ k. k.count) s
turns_count a w (t ∷ log) m m' s = turns_count a w log s.0 m' s.2 ∙ ap (λ n. fold (λ k x. count_after k x.came) n log) s.1.count

-- a lane that a refused look ended met one
pub refused_last : (turns : ℕ) (log : List Turn) → IsEnd turns log end.CellFault → 0 < sum_by (λ t. refused_of t.came) log
refused_last turns log is =
    let one : refused_of is.1.came ≡ 1 = rw is.5 refl in
    let count : sum_by (λ t. refused_of t.came) log ≡ sum_by (λ t. refused_of t.came) is.0 + refused_of is.1.came = ap (sum_by (λ t. refused_of t.came)) is.2 ∙ sum_by_push (λ (t : Turn). refused_of t.came) is.0 is.1 in
    omega (arith, count, one)

-- a lane that a failed call ended met eight of them
pub failed_last : (turns : ℕ) (log : List Turn) → IsEnd turns log end.PortFault → failures log ≡ 8
failed_last turns log is =
    let count : failures log ≡ failures is.0 + fails_of is.1.came = ap failures is.2 ∙ sum_by_push (λ (t : Turn). fails_of t.came) is.0 is.1 in
    omega (arith, count, is.4, is.5)

pub log_of : {V : Type 0} (a : Answers V) (w : ℕ) (log : List Turn) (m m' : Moment V) → AreTurns a w log m m' → IsInOrder log → IsLaneLog a w log m m'
log_of a w log m m' s o = record {
  run = λ floor lt. turns_run a w floor log m m' s o lt;
  told = λ floor lt. turns_told a w floor log m m' s lt;
  port = turns_port a w log m m' s;
  notes = turns_notes a w log m m' s;
  rise = turns_rises a w log m m' s;
  known = turns_known a w log m m' s;
  within = turns_within a w log m m' s;
  looks = turns_looks a w log m m' s;
  port_faults = turns_failures a w log m m' s;
  port_stays = turns_port_stays a w log m m' s;
  refusal = turns_refusal a w log m m' s;
  stays = turns_stays a w log m m' s;
  fates = turns_fates a w log m m' s;
  count = turns_count a w log m m' s;
}
