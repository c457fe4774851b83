use Rattle.std.proofs.Common.{◌≡◌, take}
use Rattle.outside.specs.Faults.{BothTell}
use Rattle.mapper.specs.Scenes.{IsPrinted}
use Rattle.big_run.specs.Summary.{lines_of}
use Rattle.big_run.proofs.putting.put_lines.Given as goal

abbrev pub invariant-loop-number : goal.invariant-loop-number
invariant-loop-number g l = record {
  puts : BothTell (g.K.Sink.told l.initial.out).past (g.K.Sink.told l.out).past (IsPrinted (take l.number (lines_of l.summary)));
  stays : (g.K.Sink.told l.out).faults ≡ (g.K.Sink.told l.initial.out).faults;
}
