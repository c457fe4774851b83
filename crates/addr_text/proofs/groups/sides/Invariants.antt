use Rattle.std.proofs.Common.{◌≡◌, take, drop}
use Rattle.addr_text.specs.Groups.{sides}
use Rattle.addr_text.proofs.Sides.{behind}
use Rattle.addr_text.proofs.groups.sides.Given as goal

abbrev pub invariant-loop-i : goal.invariant-loop-i
invariant-loop-i l = behind (take l.i l.text) (sides (drop l.i l.text)) ≡ sides l.text
