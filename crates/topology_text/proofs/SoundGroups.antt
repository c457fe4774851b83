-- A table without faults is sound: what the rules say of a group.
use Rattle.std.proofs.Common.{◌≡◌, ℕ, ◌+◌, ◌-◌, ◌^◌, ◌<◌, ◌≤◌, suc, zero, Bool, true, false, not, ◌&&◌, ◌||◌, ◌==◌, nat_lt, cond, List, [], ◌∷◌, length, get_or, Option, None, Some, is_some, refl, arith}
use Rattle.std.proofs.lemmas.Bool.Decides.{nat_tests}
use Rattle.std.specs.List.{cons_option}
use Rattle.std.proofs.lemmas.Bool.{not-false}
use Rattle.toml.specs.Data.{Data, string, integer, float, boolean, datetime, array, table}
use Rattle.topology_text.specs.Schema.{kind_of, is_item_kind, is_kind}
use Rattle.topology_text.specs.Walk.{items_from, items_of_value, items_where, list_of}
use Rattle.topology_text.specs.Values.{failing, is_out_of_range, whole_if, wrong_in}
use Rattle.topology_text.specs.Names.{Entries, is_pool_number, is_unknown_name, number_of}
use Rattle.topology_text.specs.Topology.{natural, natural_in, pool_number}
use Rattle.topology_text.specs.declared.schema.At.TheVariants.{Whole, Item}
use Rattle.topology_text.specs.declared.schema.Key.{Key}
use Rattle.topology_text.specs.declared.schema.Key.TheVariants.{Demand, Pools, Scores, Limits}
use Rattle.topology_text.proofs.Quiet.{not_whole}
use Rattle.topology_text.proofs.Sound.{within_high, within_low}

pub is_there : (o : Option Data) → whole_if (true && not (is_some o)) ≡ [] → is_some o ≡ true
is_there None h = cc
is_there (Some d) h = refl

pub demand_low : (o : Option Data) → is_some o ≡ true → wrong_in Demand o ≡ [] → failing (is_out_of_range Demand) o ≡ [] → 1 ≤ natural_in o
demand_low None there kind range = cc
demand_low (Some (integer z)) there kind range = within_low 1 (2 ^ 32 - 1) z (not_whole _ range)
demand_low (Some (string t)) there kind range = cc
demand_low (Some (float x)) there kind range = cc
demand_low (Some (boolean b)) there kind range = cc
demand_low (Some (datetime t)) there kind range = cc
demand_low (Some (array ds)) there kind range = cc
demand_low (Some (table ms)) there kind range = cc

-- no item fails a test
pub items_pass : (test : Data → Bool) (i : ℕ) (ds : List Data) → items_from test i ds ≡ [] → (j : ℕ) (d : Data) → j < length ds → test (get_or ds j d) ≡ false
items_pass test i [] h j d l = absurd (omega arith)
items_pass test i (e ∷ ds) h zero d l = fails (test e) h
  where
    fails : (b : Bool) → cons_option (cond b (Some (Item i)) None) (items_from test (i + 1) ds) ≡ [] → b ≡ false
    fails true q = cc
    fails false q = refl
items_pass test i (e ∷ ds) h (suc j) d l = items_pass test (i + 1) ds (rest (test e) h) j d (omega arith)
  where
    rest : (b : Bool) → cons_option (cond b (Some (Item i)) None) (items_from test (i + 1) ds) ≡ [] → items_from test (i + 1) ds ≡ []
    rest true q = cc
    rest false q = q

-- no item of an array fails a test
pub array_passes : (test : Data → Bool) (o : Option Data) → failing test o ≡ [] → (j : ℕ) (d : Data) → j < length (items_of_value o) → test (get_or (items_of_value o) j d) ≡ false
array_passes test None h j d l = absurd (omega arith)
array_passes test (Some (array ds)) h j d l = items_pass test 0 (list_of ds) h j d l
array_passes test (Some (integer z)) h j d l = absurd (omega arith)
array_passes test (Some (string t)) h j d l = absurd (omega arith)
array_passes test (Some (float x)) h j d l = absurd (omega arith)
array_passes test (Some (boolean b)) h j d l = absurd (omega arith)
array_passes test (Some (datetime t)) h j d l = absurd (omega arith)
array_passes test (Some (table ms)) h j d l = absurd (omega arith)

pub score_fits : (d : Data) → is_out_of_range Scores d ≡ false → natural d < 2 ^ 32
score_fits (integer z) h = let high : natural (integer z) ≤ 2 ^ 32 - 1 = within_high 0 (2 ^ 32 - 1) z h in omega arith
score_fits (string t) h = omega arith
score_fits (float x) h = omega arith
score_fits (boolean b) h = omega arith
score_fits (datetime t) h = omega arith
score_fits (array ds) h = omega arith
score_fits (table ms) h = omega arith

-- an item of a list of limits is a number in range
pub limit_fits : (d : Data) → not (is_item_kind (kind_of Limits) d) ≡ false → is_out_of_range Limits d ≡ false → (1 ≤ natural d) × (natural d < 2 ^ 32)
limit_fits (integer z) kind h =
    let high : natural (integer z) ≤ 2 ^ 32 - 1 = within_high 1 (2 ^ 32 - 1) z h in
    let low : 1 ≤ natural (integer z) = within_low 1 (2 ^ 32 - 1) z h in
    (low, omega arith)
limit_fits (string t) kind h = cc
limit_fits (float x) kind h = cc
limit_fits (boolean b) kind h = cc
limit_fits (datetime t) kind h = cc
limit_fits (array ds) kind h = cc
limit_fits (table ms) kind h = cc

-- an item of the right kind that is not unknown names a pool
pub pool_there : (d : Entries) (e : Data) → not (is_item_kind (kind_of Pools) e) ≡ false → is_unknown_name d Pools e ≡ false → is_pool_number d.nodes (pool_number d.nodes e) ≡ true
pool_there d (string t) kind known = not-false (is_pool_number d.nodes (number_of d.nodes t)) known
pool_there d (integer z) kind known = cc
pool_there d (float x) kind known = cc
pool_there d (boolean b) kind known = cc
pool_there d (datetime t) kind known = cc
pool_there d (array ds) kind known = cc
pool_there d (table ms) kind known = cc

-- the kind of the items of a list of pools or of scores
pub kinds_pass : (k : Key) (o : Option Data) → wrong_in k o ≡ [] → (j : ℕ) (d : Data) → j < length (items_of_value o) → not (is_item_kind (kind_of k) (get_or (items_of_value o) j d)) ≡ false
kinds_pass k None h j d l = absurd (omega arith)
kinds_pass k (Some v) h j d l = go (is_kind (kind_of k) v) h
  where
    go : (b : Bool) → cond b (items_where (λ e. not (is_item_kind (kind_of k) e)) (items_of_value (Some v))) (Whole ∷ []) ≡ [] → not (is_item_kind (kind_of k) (get_or (items_of_value (Some v)) j d)) ≡ false
    go true q = items_pass (λ e. not (is_item_kind (kind_of k) e)) 0 (items_of_value (Some v)) q j d l
    go false q = cc

pub shape_pools : (there : Bool) (n : ℕ) (repeats : Bool) → there ≡ true → (there && ((n == 0 || nat_lt 16 n) || repeats)) ≡ false → (1 ≤ n) × (n ≤ 16) × (repeats ≡ false)
shape_pools true n true here h = grind (arith, nat_tests)
shape_pools true n false here h = grind (arith, nat_tests)
shape_pools false n repeats here h = cc

pub shape_scores : (there : Bool) (n m : ℕ) → there ≡ true → (there && not (n == m)) ≡ false → n ≡ m
shape_scores true n m here h = grind (arith, nat_tests)
shape_scores false n m here h = cc
