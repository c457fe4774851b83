use Rattle.std.proofs.Common.{◌≡◌, ◌≤◌}
use Rattle.std.specs.Prelude.{count_by}
use Rattle.std.specs.List.{range_with_len}
use Rattle.big_run.specs.Replies.{has_code}
use Rattle.big_run.proofs.replies.count_replies.Given as goal

abbrev pub invariant-loop-group : goal.invariant-loop-group
invariant-loop-group g l = record {
  so_far : l.count ≡ count_by (has_code l.mapper.newest l.code) (range_with_len 0 l.group);
  small : l.count ≤ l.group;
}
