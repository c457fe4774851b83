-- What depends on the shape of an instance alone.
use Rattle.std.proofs.Common.{◌≡◌, ℕ, ◌<◌, refl, sym, ap, ◌∙◌, Some, subst, length, List, slice_index, slice_index_or, ◌==◌, ◌-◌, IsTrue, arith}
use Rattle.std.specs.List.{list_any}
use Rattle.map_model.specs.declared.instance.Choice.{Choice}
use Rattle.map_model.specs.declared.instance.Key.{Key}
use Rattle.map_model.specs.declared.lines.By.{By}
use Rattle.map_model.specs.declared.lines.By.TheVariants.{Limit, Node}
use Rattle.map_model.specs.declared.lines.MapLine.{MapLine}
use Rattle.map_model.specs.declared.lines.NameLine.{NameLine}
use Rattle.map_model.specs.Market.{Market, IsSameShape, choice_at, key_of, limit_of, path, pool_of}
use Rattle.map_model.specs.Allocation.{IsMapForm, IsOffer, counts_at, is_by, is_line, is_name, is_under, line_at, name_at}
use Rattle.map_model.specs.Progress.{root_of, tree_of}
use Rattle.map_model.proofs.Markets.{climb-same}

-- an instance has its own shape
pub shape_itself : (m : Market) → IsSameShape m m
shape_itself m = record { groups = refl; nodes = refl; lists = λ g. refl; trees = λ n. refl; pools = λ n. refl }

pub shape_sym : (m m' : Market) → IsSameShape m m' → IsSameShape m' m
shape_sym m m' s = record { groups = sym s.groups; nodes = sym s.nodes; lists = λ g. sym (s.lists g); trees = λ n. sym (s.trees n); pools = λ n. sym (s.pools n) }

pub shape_trans : (a b c : Market) → IsSameShape a b → IsSameShape b c → IsSameShape a c
shape_trans a b c s t = record {
  groups = t.groups ∙ s.groups;
  nodes = t.nodes ∙ s.nodes;
  lists = λ g. t.lists g ∙ s.lists g;
  trees = λ n. t.trees n ∙ s.trees n;
  pools = λ n. t.pools n ∙ s.pools n;
}

-- what depends on the shape alone: offers, pools, keys, paths and trees
pub IsOffer-shape : (m m' : Market) → IsSameShape m m' → (g k : ℕ) → IsOffer m g k → IsOffer m' g k
IsOffer-shape m m' s g k o = record { group = omega (arith, s.groups, o.group); place = subst (λ (cs : List Choice). k < length cs) (sym (s.lists g)) o.place }

pub choice_at-shape : (m m' : Market) → IsSameShape m m' → (g k : ℕ) → choice_at m' g k ≡ choice_at m g k
choice_at-shape m m' s g k = ap (λ (cs : List Choice). slice_index_or cs k (record { pool = record { 0 = 0 }; score = 0; limit = 0 })) (s.lists g)

pub limit_of-shape : (m m' : Market) → IsSameShape m m' → (g k : ℕ) → limit_of m' g k ≡ limit_of m g k
limit_of-shape m m' s g k = ap (λ (c : Choice). c.limit) (choice_at-shape m m' s g k)

pub pool_of-shape : (m m' : Market) → IsSameShape m m' → (g k : ℕ) → pool_of m' g k ≡ pool_of m g k
pool_of-shape m m' s g k = ap (λ (c : Choice). c.pool.0) (choice_at-shape m m' s g k)

pub key_of-shape : (m m' : Market) → IsSameShape m m' → (g k : ℕ) → key_of m' g k ≡ key_of m g k
key_of-shape m m' s g k = ap (λ (c : Choice). key g c) (choice_at-shape m m' s g k)
  where
    key : ℕ → Choice → Key
    key g c = record { score = c.score; group = record { 0 = g }; pool = c.pool }

pub path-shape : (m m' : Market) → IsSameShape m m' → (n : ℕ) → path m' n ≡ path m n
path-shape m m' s n = climb-same m m' s.trees 8 (Some (record { 0 = n }))

pub is_under-shape : (m m' : Market) → IsSameShape m m' → (n pool : ℕ) → is_under m' n pool ≡ is_under m n pool
is_under-shape m m' s n pool = ap (list_any (λ x. x == n)) (path-shape m m' s pool)

pub counts_at-shape : (m m' : Market) → IsSameShape m m' → (n g k : ℕ) → counts_at m' n g k ≡ counts_at m n g k
counts_at-shape m m' s n g k = ap (is_under m' n) (pool_of-shape m m' s g k) ∙ is_under-shape m m' s n (pool_of m g k)

pub root_of-shape : (m m' : Market) → IsSameShape m m' → (n : ℕ) → root_of m' n ≡ root_of m n
root_of-shape m m' s n = ap (λ (ns : List ℕ). slice_index ns (length ns - 1)) (path-shape m m' s n)

pub tree_of-shape : (m m' : Market) → IsSameShape m m' → (g k : ℕ) → tree_of m' g k ≡ tree_of m g k
tree_of-shape m m' s g k = ap (root_of m') (pool_of-shape m m' s g k) ∙ root_of-shape m m' s (pool_of m g k)

-- what a name says is there by the shape alone
pub is_by-shape : (m m' : Market) → IsSameShape m m' → (by : By) → is_by m' by ≡ is_by m by
is_by-shape m m' s Limit = refl
is_by-shape m m' s (Node n) = rw s.nodes refl

-- a map's form rests on the shape alone
pub IsMapForm-shape : (m m' : Market) → IsSameShape m m' → (lines : List MapLine) (names : List NameLine) → IsMapForm m lines names → IsMapForm m' lines names
IsMapForm-shape m m' s lines names form = record {
  of_lines = λ i l. subst IsTrue (sym (is_line-shape i)) (form.of_lines i l);
  of_names = λ i l. subst IsTrue (sym (is_name-shape i)) (form.of_names i l);
}
  where
    is_line-shape : (i : ℕ) → is_line m' lines i ≡ is_line m lines i
    is_line-shape i = rw (s.groups, s.lists (line_at lines i).group.0) refl

    is_name-shape : (i : ℕ) → is_name m' names i ≡ is_name m names i
    is_name-shape i = rw (s.groups, s.lists (name_at names i).group.0, is_by-shape m m' s (name_at names i).by) refl
