use Rattle.std.proofs.Common.{◌≡◌, ℕ, ◌<◌, ◌≤◌, All}
use Rattle.deferred_accept.specs.Work.{times}
use Rattle.deferred_accept.proofs.work_list.first_groups.Given as goal

abbrev pub invariant-loop-g : goal.invariant-loop-g
invariant-loop-g l = record {
  within : l.g ≤ l.count;
  there : All (λ x. x.0 < l.g) l.groups.items;
  once : (h : ℕ) → h < l.g → times l.groups.items h ≡ 1;
}
