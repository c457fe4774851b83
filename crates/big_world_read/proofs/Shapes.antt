-- Each table of a big world has its keys and no others, each value is of its kind, and no list is too long or out of shape.
use Rattle.std.proofs.Common.{◌+◌, ◌≡◌, ℕ, ◌==◌, ◌≤◌, Bool, false, not, List, [], length, map, refl, ap, sym, ◌∙◌, arith}
use Rattle.std.specs.Prelude.{◌||◌, nat_lt}
use Rattle.std.specs.List.{flat_map, range_with_len}
use Rattle.std.proofs.lemmas.Bool.{eq-eqb, le-ltb, ne_eqb}
use Rattle.std.proofs.lemmas.List.FromFn.{length-map-range_with_len}
use Rattle.toml.specs.Data.{Data}
use Rattle.topology_text.specs.Names.{has_repeat, list_shape, texts_of}
use Rattle.topology_text.specs.Schema.{is_item_kind}
use Rattle.topology_text.specs.Values.{missing, too_many, unknown, whole_if, wrong_kind}
use Rattle.topology_text.specs.Walk.{list_of, places_in, places_of}
use Rattle.topology_text.specs.declared.schema.Kind.TheVariants.{Integers, Tables, Texts}
use Rattle.topology_text.specs.declared.schema.Spot.TheVariants.{GroupTable, NodeTable}
use Rattle.big_world.specs.declared.TheConstants.{LARGEST_WORLD}
use Rattle.big_world.specs.Topology.{nodes_of}
use Rattle.big_world.specs.World.{array_of, groups_data, nodes_data, pools_data, prefixes_data}
use Rattle.big_world_read.proofs.Names.{listed_once}
use Rattle.big_world_read.proofs.Numbered.{listed_again, none_where}
use Rattle.big_world_read.proofs.Members.{group_cases, node_cases}
use Rattle.big_world_read.proofs.Passes.{groups_pass, nodes_pass, pools_pass, prefixes_pass, scores_pass}
use Rattle.big_world_read.proofs.Quiet.{IsQuiet, nothing_found, nothing_seen, quiet_by}
use Rattle.big_world_read.proofs.Visits.{visits, zone_visit}

-- every key that is required is there
pub none_missing : (n : ℕ) → places_of missing (visits n) ≡ []
none_missing n =
    nothing_seen (places_in missing) n refl refl
    (λ p below. node_cases (λ ms. places_in missing (record { spot = NodeTable p; members = ms }) ≡ []) n p below (λ i c within small. refl) (λ i j c within fits small. refl))
    (λ i below. group_cases (λ ms. places_in missing (record { spot = GroupTable i; members = ms }) ≡ []) n i (λ demand s length x drawn. refl))

-- and no other
pub none_unknown : (n : ℕ) → flat_map unknown (visits n) ≡ []
none_unknown n =
    nothing_seen unknown n refl refl
    (λ p below. node_cases (λ ms. unknown (record { spot = NodeTable p; members = ms }) ≡ []) n p below (λ i c within small. refl) (λ i j c within fits small. refl))
    (λ i below. group_cases (λ ms. unknown (record { spot = GroupTable i; members = ms }) ≡ []) n i (λ demand s length x drawn. refl))

-- each value is of its kind
pub none_wrong : (n : ℕ) → places_of wrong_kind (visits n) ≡ []
none_wrong n =
    nothing_found wrong_kind n
    (refl, (nodes_pass (λ e. not (is_item_kind Tables e)) n (λ ms. refl), (groups_pass (λ e. not (is_item_kind Tables e)) n (λ ms. refl), (refl, tt))))
    (quiet_by wrong_kind zone_visit refl)
    (λ p below. node_cases (λ ms. IsQuiet wrong_kind (record { spot = NodeTable p; members = ms })) n p below
    (λ i c within small. (refl, (refl, (refl, (refl, (refl, (refl, tt))))))) (λ i j c within fits small. (refl, (refl, (refl, (refl, (refl, (refl, tt))))))))
    (λ i below. group_cases (λ ms. IsQuiet wrong_kind (record { spot = GroupTable i; members = ms })) n i (λ demand s length x drawn. (
      refl,
      (
        refl,
        (
          pools_pass (λ e. not (is_item_kind Texts e)) n s length (λ t. refl),
          (
            scores_pass (λ e. not (is_item_kind Integers e)) x length (λ y small. refl),
            (refl, (none_where (λ e. not (is_item_kind Texts e)) (prefixes_data i) (prefixes_pass (λ e. not (is_item_kind Texts e)) (λ t. refl) i), tt)),
          ),
        ),
      ),
    )))

-- how many there are
made_again : (f : ℕ → Data) (k : ℕ) → length (list_of (array_of (map f (range_with_len 0 k)))) ≡ k
made_again f k = ap (λ (ds : List Data). length ds) (listed_again (map f (range_with_len 0 k))) ∙ length-map-range_with_len f 0 k

within_limit : (limit m k : ℕ) → m ≡ k → k ≤ limit → whole_if (nat_lt limit m) ≡ []
within_limit limit m k is small = ap (λ b. whole_if b) (le-ltb limit m (omega arith))

-- no class is added
no_more : (m k : ℕ) → m ≡ k → m + 0 ≡ k
no_more m k e = omega (arith, e)

pub none_too_many : (n : ℕ) → n ≤ LARGEST_WORLD → places_of too_many (visits n) ≡ []
none_too_many n small =
    nothing_found too_many n (
      refl,
      (
        within_limit 8192 (length (list_of (array_of (nodes_data n)))) (nodes_of n) (made_again _ (nodes_of n)) (omega arith),
        (within_limit 65536 (length (list_of (array_of (groups_data n)))) n (made_again _ n) (omega arith), (within_limit 65536 (length (list_of (array_of (groups_data n))) + 0) n (no_more (length (list_of (array_of (groups_data n)))) n (made_again _ n)) (omega arith), tt)),
      ),
    )
    (quiet_by too_many zone_visit refl)
    (λ p below. node_cases (λ ms. IsQuiet too_many (record { spot = NodeTable p; members = ms })) n p below
    (λ i c within little. (refl, (refl, (refl, (refl, (refl, (refl, tt))))))) (λ i j c within fits little. (refl, (refl, (refl, (refl, (refl, (refl, tt))))))))
    (λ i below. group_cases (λ ms. IsQuiet too_many (record { spot = GroupTable i; members = ms })) n i (λ demand s length x drawn. (refl, (refl, (refl, (refl, (refl, (refl, tt))))))))

-- one to sixteen pools, none of them twice, and as many scores
neither : (a b c : Bool) → a ≡ false → b ≡ false → c ≡ false → whole_if ((a || b) || c) ≡ []
neither a b c p q r = ap (λ d. whole_if ((d || b) || c)) p ∙ (ap (λ d. whole_if (d || c)) q ∙ ap (λ d. whole_if d) r)

alike : (a b : ℕ) → a ≡ b → whole_if (not (a == b)) ≡ []
alike a b p = ap (λ e. whole_if (not e)) (eq-eqb a b p)

fine_list : (ds : List Data) (k : ℕ) → length ds ≡ k → 1 ≤ k → k ≤ 16 → has_repeat (texts_of ds) ≡ false → whole_if ((length ds == 0 || nat_lt 16 (length ds)) || has_repeat (texts_of ds)) ≡ []
fine_list ds k is some few once = neither (length ds == 0) (nat_lt 16 (length ds)) (has_repeat (texts_of ds)) (ne_eqb (length ds) 0 (λ e. omega arith)) (le-ltb 16 (length ds) (omega arith)) once

pub none_misshapen : (n : ℕ) → n ≤ LARGEST_WORLD → places_of list_shape (visits n) ≡ []
none_misshapen n little =
    nothing_found list_shape n
    (refl, (refl, (refl, (refl, tt))))
    (quiet_by list_shape zone_visit refl)
    (λ p below. node_cases (λ ms. IsQuiet list_shape (record { spot = NodeTable p; members = ms })) n p below
    (λ i c within small. (refl, (refl, (refl, (refl, (refl, (refl, tt))))))) (λ i j c within fits small. (refl, (refl, (refl, (refl, (refl, (refl, tt))))))))
    (λ i below. group_cases (λ ms. IsQuiet list_shape (record { spot = GroupTable i; members = ms })) n i (λ demand s length x drawn. (
      refl,
      (
        refl,
        (
          fine_list (list_of (array_of (pools_data n s length))) length (made_again _ length) drawn.some (omega arith) (ap (λ (ds : List Data). has_repeat (texts_of ds)) (listed_again (pools_data n s length)) ∙ listed_once n s length little drawn.start (omega arith)),
          (
            alike _ _ (made_again _ length ∙ sym (made_again _ length)),
            (refl, (refl, tt)),
          ),
        ),
      ),
    )))
