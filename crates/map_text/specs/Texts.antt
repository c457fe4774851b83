-- The words that say what is wrong with a map's text.
use Rattle.std.specs.Prelude.{ℕ, codes, List, ◌++◌}
use Rattle.std.specs.Fmt.{decimal}
use Rattle.map_text.specs.declared.fault.MapFault.{MapFault}
use Rattle.map_text.specs.declared.fault.MapFault.TheVariants.{BadLine, UnknownName, OrderBroken, Truncated, NoMemory}

abbrev pub fault_text : MapFault → List ℕ
fault_text (BadLine line) = codes "bad line at line " ++ decimal line
fault_text (UnknownName line) = codes "unknown name at line " ++ decimal line
fault_text (OrderBroken line) = codes "order at line " ++ decimal line
fault_text Truncated = codes "truncated"
fault_text NoMemory = codes "out of memory"
