-- Each number of a big world is in its range, and each address and each prefix is one.
use Rattle.std.proofs.Common.{◌≡◌, ℕ, ◌-◌, ◌^◌, ◌≤◌, false, not, [], refl, ap, ◌∙◌, arith}
use Rattle.std.specs.Prelude.{◌&&◌, nat_le, pos}
use Rattle.std.proofs.lemmas.Bool.{le-leb}
use Rattle.topology_text.specs.Faults.{failures}
use Rattle.topology_text.specs.Values.{is_bad_address, is_bad_prefix, is_out_of_range, is_within}
use Rattle.topology_text.specs.declared.schema.Key.TheVariants.{Prefixes}
use Rattle.big_world.specs.declared.TheConstants.{LARGEST_WORLD}
use Rattle.big_world_read.proofs.Passes.{Passes, failing_at, passes, prefixes_pass}
use Rattle.big_world_read.proofs.Prefixes.{no_bad_host, no_bad_prefix}
use Rattle.big_world_read.proofs.Quiet.{quiet_by}
use Rattle.big_world_read.proofs.Visits.{visits, zone_visit}

-- numbers
within : (low high c : ℕ) → low ≤ c → c ≤ high → not (is_within low high (pos c)) ≡ false
within low high c p q = ap (λ b. not (b && nat_le c high)) (le-leb low c p) ∙ ap (λ b. not b) (le-leb c high q)

in_range : (n : ℕ) → Passes is_out_of_range n
in_range n = record {
  whole_zone = λ ms. refl;
  nodes = λ ms. refl;
  groups = λ ms. refl;
  zone = quiet_by (failing_at is_out_of_range) zone_visit refl;
  region = λ i within. refl;
  pool = λ i j within fits. refl;
  parent = λ i within. refl;
  capacity = λ c small. within 0 (2 ^ 48) c (omega arith) (omega arith);
  flag = refl;
  host = λ i j within fits. refl;
  group = λ i below. refl;
  demand = λ d some small. within 1 (2 ^ 32 - 1) d some (omega arith);
  pools = λ s t start. refl;
  scores = λ y small. within 0 (2 ^ 32 - 1) y (omega arith) (omega arith);
  prefixes = λ i below. prefixes_pass (is_out_of_range Prefixes) (λ t. refl) i;
}

pub none_out_of_range : (n : ℕ) → failures is_out_of_range (visits n) ≡ []
none_out_of_range n = passes is_out_of_range n (in_range n)

-- addresses
good_addresses : (n : ℕ) → n ≤ LARGEST_WORLD → Passes is_bad_address n
good_addresses n small = record {
  whole_zone = λ ms. refl;
  nodes = λ ms. refl;
  groups = λ ms. refl;
  zone = quiet_by (failing_at is_bad_address) zone_visit refl;
  region = λ i within. refl;
  pool = λ i j within fits. refl;
  parent = λ i within. refl;
  capacity = λ c low. refl;
  flag = refl;
  host = λ i j within fits. no_bad_host i j (omega arith) (omega arith);
  group = λ i below. refl;
  demand = λ d some low. refl;
  pools = λ s t start. refl;
  scores = λ y low. refl;
  prefixes = λ i below. prefixes_pass (is_bad_address Prefixes) (λ t. refl) i;
}

pub none_bad_address : (n : ℕ) → n ≤ LARGEST_WORLD → failures is_bad_address (visits n) ≡ []
none_bad_address n small = passes is_bad_address n (good_addresses n small)

-- prefixes
good_prefixes : (n : ℕ) → n ≤ LARGEST_WORLD → Passes is_bad_prefix n
good_prefixes n small = record {
  whole_zone = λ ms. refl;
  nodes = λ ms. refl;
  groups = λ ms. refl;
  zone = quiet_by (failing_at is_bad_prefix) zone_visit refl;
  region = λ i within. refl;
  pool = λ i j within fits. refl;
  parent = λ i within. refl;
  capacity = λ c low. refl;
  flag = refl;
  host = λ i j within fits. refl;
  group = λ i below. refl;
  demand = λ d some low. refl;
  pools = λ s t start. refl;
  scores = λ y low. refl;
  prefixes = λ i below. no_bad_prefix i (omega arith);
}

pub none_bad_prefix : (n : ℕ) → n ≤ LARGEST_WORLD → failures is_bad_prefix (visits n) ≡ []
none_bad_prefix n small = passes is_bad_prefix n (good_prefixes n small)
