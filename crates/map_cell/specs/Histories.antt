-- Histories of versions.
use Rattle.std.specs.Prelude.{ℕ, ◌≡◌, ◌+◌, List, length, slice_get, Some}
use Rattle.published_map.specs.Version.{Version, IsVersion}

-- each version is good, its serial is its place, and all are over one topology
pub record IsHistory (h : List Version) : Type 0 where
  pub at : (n : ℕ) (v : Version) → slice_get h n ≡ Some v → IsVersion v × (v.serial ≡ n)
  pub one : (n k : ℕ) (v w : Version) → slice_get h n ≡ Some v → slice_get h k ≡ Some w → v.plan ≡ w.plan

-- v may follow h
pub record MayFollow (h : List Version) (v : Version) : Type 0 where
  pub good : IsVersion v
  pub next : v.serial ≡ length h
  pub same : (n : ℕ) (w : Version) → slice_get h n ≡ Some w → w.plan ≡ v.plan

-- the version is the last of the history
pub record IsSealed (history : List Version) (version : Version) : Type 0 where
  pub last : slice_get history version.serial ≡ Some version
  pub whole : length history ≡ version.serial + 1
