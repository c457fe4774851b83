-- Faults that one value shows by itself: missing, of the wrong kind, against its rule or out of its range.
use Rattle.std.specs.Prelude.{ℕ, ◌+◌, ◌-◌, ◌^◌, ℤ, pos, negsuc, List, [], ◌∷◌, length, Bool, true, false, not, ◌&&◌, nat_le, nat_lt, if◌then◌else◌, Option, None, Some, is_some}
use Rattle.std.specs.List.{list_any, list_all}
use Rattle.std.specs.Str.{bytes_eq}
use Rattle.toml.specs.Data.{Data, Members, string, integer, array}
use Rattle.topology_text.specs.Schema.{key_text, kind_of, is_required, keys_of, is_kind, is_item_kind}
use Rattle.addr_text.specs.Addresses.{prefix_of}
use Rattle.topology_text.specs.Texts.{is_name, service_name, v4_address, v6_address, zone_name}
use Rattle.topology_text.specs.Walk.{Visit, items_at, items_of_value, items_where, list_of, names_of, value_at}
use Rattle.topology_text.specs.declared.schema.At.{At}
use Rattle.topology_text.specs.declared.schema.At.TheVariants.{Whole}
use Rattle.topology_text.specs.declared.schema.Key.{Key}
use Rattle.topology_text.specs.declared.schema.Key.TheVariants.{Node, Group, Class, Apex, Mname, Rname, Serial, Refresh, Retry, Expire, Minimum, Ttl, Ns, Services, Name, Capacity, A, Aaaa, Demand, Scores, Limits, Prefixes}
use Rattle.topology_text.specs.declared.schema.Place.{Place}
use Rattle.topology_text.specs.declared.schema.Spot.{Spot}

-- the value as a whole, if something is so
abbrev pub whole_if : Bool → List At
whole_if b = if b then Whole ∷ [] else []

-- where a test fails a value: at its items, if it is an array
abbrev pub failing : (Data → Bool) → Option Data → List At
failing test None = []
failing test (Some (array ds)) = items_where test (list_of ds)
failing test (Some d) = whole_if (test d)

-- a required key that isn't there
abbrev pub missing : Visit → Key → List At
missing v k = whole_if (is_required k && not (is_some (value_at v.members k)))

-- a value that isn't of its kind, or the items of an array that aren't
abbrev pub wrong_in : Key → Option Data → List At
wrong_in k None = []
wrong_in k (Some d) = if is_kind (kind_of k) d then items_where (λ e. not (is_item_kind (kind_of k) e)) (items_of_value (Some d)) else Whole ∷ []

-- a value or an item at a key that isn't of its kind
abbrev pub wrong_kind : Visit → Key → List At
wrong_kind v k = wrong_in k (value_at v.members k)

-- the text is a key of the table
abbrev pub is_key_of : Spot → List ℕ → Bool
is_key_of spot text = list_any (λ k. bytes_eq (key_text k) text) (keys_of spot)

-- a table with another key
abbrev pub unknown : Visit → List Place
unknown v = if list_all (is_key_of v.spot) (names_of v.members) then [] else record { spot = v.spot; key = None; at = Whole } ∷ []

-- a name against the rule of its key
abbrev pub is_bad_name : Key → Data → Bool
is_bad_name Apex (string t) = not (is_some (zone_name t))
is_bad_name Mname (string t) = not (is_some (zone_name t))
is_bad_name Rname (string t) = not (is_some (zone_name t))
is_bad_name Ns (string t) = not (is_some (zone_name t))
is_bad_name Services (string t) = not (is_some (service_name t))
is_bad_name Name (string t) = not (is_name t)
is_bad_name _ _ = false

-- a number is from low to high
abbrev pub is_within : ℕ → ℕ → ℤ → Bool
is_within low high (pos n) = nat_le low n && nat_le n high
is_within low high (negsuc n) = false

-- the range of a key's numbers
abbrev pub is_in_range : Key → ℤ → Bool
is_in_range Serial z = is_within 0 (2 ^ 32 - 1) z
is_in_range Refresh z = is_within 0 (2 ^ 32 - 1) z
is_in_range Retry z = is_within 0 (2 ^ 32 - 1) z
is_in_range Expire z = is_within 0 (2 ^ 32 - 1) z
is_in_range Minimum z = is_within 0 (2 ^ 31 - 1) z
is_in_range Ttl z = is_within 0 (2 ^ 31 - 1) z
is_in_range Capacity z = is_within 0 (2 ^ 48) z
is_in_range Demand z = is_within 1 (2 ^ 32 - 1) z
is_in_range Scores z = is_within 0 (2 ^ 32 - 1) z
is_in_range Limits z = is_within 1 (2 ^ 32 - 1) z
is_in_range _ z = true

-- a number out of its key's range
abbrev pub is_out_of_range : Key → Data → Bool
is_out_of_range k (integer z) = not (is_in_range k z)
is_out_of_range k _ = false

-- a text in `a` or `aaaa` that is no address of its family
abbrev pub is_bad_address : Key → Data → Bool
is_bad_address A (string t) = not (is_some (v4_address t))
is_bad_address Aaaa (string t) = not (is_some (v6_address t))
is_bad_address _ _ = false

-- a text in `prefixes` that is no prefix
abbrev pub is_bad_prefix : Key → Data → Bool
is_bad_prefix Prefixes (string t) = not (is_some (prefix_of t))
is_bad_prefix _ _ = false

-- how many items an array may have
abbrev pub limit_of : Key → Option ℕ
limit_of Node = Some 8192
limit_of Group = Some 65536
limit_of Ns = Some 4
limit_of Services = Some 64
limit_of A = Some 40
limit_of Aaaa = Some 40
limit_of _ = None

-- a count past its limit, if there is one
abbrev pub is_over : Option ℕ → ℕ → Bool
is_over None n = false
is_over (Some limit) n = nat_lt limit n

-- groups and classes together are past the groups' limit
abbrev pub are_many_units : Members → Bool
are_many_units ms = nat_lt 65536 (length (items_at ms Group) + length (items_at ms Class))

-- an array past its limit; that of classes is over groups and classes together
abbrev pub too_many : Visit → Key → List At
too_many v Class = whole_if (are_many_units v.members)
too_many v k = whole_if (is_over (limit_of k) (length (items_of_value (value_at v.members k))))
