use Rattle.std.proofs.Common.{◌<◌, ◌-◌, suc, length, sym, arith}
use Rattle.addr_text.proofs.Bases.{all_moved, digit_moved, is_full, not_full}
use Rattle.addr_text.proofs.write.groups_of.Goals as goal

pub loop-groups-preserved : goal.loop-groups-preserved
loop-groups-preserved c =
    let room : length c.loop-groups.groups.items < 8 = not_full 8 (length c.loop-groups.groups.items) (sym c.loop-groups-test.ensures.value) c.loop-groups.invariant.few in record {
      few = omega (arith, c.insert.ensures.len);
      so_far = rw c.insert.ensures.items (digit_moved 65536 (8 - suc (length c.loop-groups.groups.items)) (8 - length c.loop-groups.groups.items) c.loop-groups.rest c.loop-groups.groups.items _ (omega arith) c.loop-groups.invariant.so_far);
    }

pub returns-clause-groups : goal.returns-clause-groups
returns-clause-groups c = all_moved 65536 (8 - length c.loop-groups.groups.items) c.loop-groups.rest c.loop-groups.groups.items _ (is_full 8 (length c.loop-groups.groups.items) (sym c.loop-groups-test.ensures.value)) c.loop-groups.invariant.so_far
