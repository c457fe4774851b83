use Rattle.std.proofs.Common.{◌≡◌, ◌<◌, ◌^◌, take}
use Rattle.addr_text.specs.Numbers.{in_base}
use Rattle.addr_text.proofs.read.v6_value.Given as goal

abbrev pub invariant-loop-group : goal.invariant-loop-group
invariant-loop-group l =
    record {
      so_far : l.value ≡ in_base 65536 (take l.group-index l.groups);
      below : l.value < 65536 ^ l.group-index;
    }
