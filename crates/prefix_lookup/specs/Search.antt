-- How many comparisons the search for an address makes.
use Rattle.std.specs.Prelude.{ℕ, ◌*◌, ◌^◌, ◌≤◌, List}
use Rattle.std.specs.List.{count_by}
use Rattle.addr_text.specs.declared.address.Addr.{Addr}
use Rattle.addr_text.specs.declared.address.Prefix.{Prefix}
use Rattle.map_model.specs.declared.instance.GroupId.{GroupId}
use Rattle.prefix_lookup.specs.Longest.{is_of_family}

-- how many prefixes there are of the address's family
abbrev pub prefixes_beside : List (Prefix × GroupId) → Addr → ℕ
prefixes_beside table a = count_by (λ e. is_of_family a e.0.addr) table

-- each comparison halves what is left, of at most twice as many ranges as there are prefixes
abbrev pub IsFew : List (Prefix × GroupId) → Addr → ℕ → Type 0
IsFew table a comparisons = 2 ^ comparisons ≤ 4 * prefixes_beside table a
