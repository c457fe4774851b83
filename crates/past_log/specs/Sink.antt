-- What a sink tells after a put.
use Rattle.std.specs.Prelude.{[], ◌++◌, take}
use Rattle.outside.specs.Faults.{raised}
use Rattle.outside.specs.Sink.{Written}
use Rattle.past_log.specs.declared.sink.SinkEvent.{SinkEvent}

-- a sink that got nothing
abbrev pub new_sink : Written
new_sink = record { bytes = []; puts = 0 }

-- a sink after a put
abbrev pub noted : SinkEvent → Written → Written
noted event sink = record { bytes = sink.bytes ++ take event.taken event.piece.now; puts = raised sink.puts 1 }
