-- All that the program is lent, before anything is asked of it: nothing was loaded, opened, read, put or taken, and no count has risen.
use Rattle.std.specs.Prelude.{replicate, Some}
use Rattle.outside.specs.Faults.{DeviceState}
use Rattle.outside.specs.Source.{Fed}
use Rattle.drive.specs.Done.{LaneTold, StreamLaneTold}
use Rattle.glb.specs.Told.{Surroundings}
use Rattle.past_log.specs.Gate.{new_gate}
use Rattle.past_log.specs.Notes.{no_notes}
use Rattle.past_log.specs.Pace.{new_pace}
use Rattle.past_log.specs.Port.{new_port}
use Rattle.past_log.specs.Shelf.{no_loads, of_loads}
use Rattle.past_log.specs.Sink.{new_sink}
use Rattle.past_log.specs.Source.{new_source}
use Rattle.past_log.specs.Streams.{new_streams}

-- a lane of which nothing was asked
abbrev pub new_lane : LaneTold
new_lane = record { port = Some new_port; port_faults = 0; gate = Some new_gate; gate_faults = 0; asked = 0; looks = 0; greatest = 0; door_faults = 0; notes = no_notes }

-- a lane for conversations of which nothing was asked
abbrev pub new_stream_lane : StreamLaneTold
new_stream_lane = record { port = Some new_streams; port_faults = 0; gate = Some new_gate; gate_faults = 0; asked = 0; looks = 0; greatest = 0; door_faults = 0; notes = no_notes }

-- a feed of which nothing was asked, which was opened under no name
abbrev pub new_feed : DeviceState Fed
new_feed = record { past = Some new_source; faults = 0 }

-- files of which none was loaded, and which don't tell what they hold, and a feed, three further ones, two outputs, a pace, sixteen lanes and one for conversations, all new
abbrev pub new_surroundings : Surroundings
new_surroundings = record {
  files = record { past = Some (of_loads no_loads); faults = 0 };
  lent = record {
    feed = new_feed;
    more = replicate 3 new_feed;
    out = record { past = Some new_sink; faults = 0 };
    maps = record { past = Some new_sink; faults = 0 };
    pace = record { past = Some new_pace; faults = 0 };
    lanes = replicate 16 new_lane;
    stream = new_stream_lane;
  };
}
