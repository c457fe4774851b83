-- What a port tells after a call.
use Rattle.std.specs.Prelude.{false, [], ◌∷◌, ◌++◌, None}
use Rattle.outside.specs.Port.{PortTold, is_sent, received, trying}
use Rattle.past_log.specs.declared.port.PortEvent.{PortEvent}
use Rattle.past_log.specs.declared.port.PortEvent.TheVariants.{Opened, Received, Tried}

-- a port that was asked nothing, and tells not what waits
abbrev pub new_port : PortTold
new_port = record { opens = []; waiting = None; taken = []; tries = []; places = []; recvs = 0; failed = 0; is_ended = false; greatest = 0 }

-- a port after a call
abbrev pub noted : PortEvent → PortTold → PortTold
noted (Opened listen) port = record port { opens = port.opens ++ listen ∷ [] }
noted (Received known buffer arrival) port = received known buffer.now arrival port
noted (Tried octets to serial sending) port = trying (record { octets = octets.now; to = to; serial = serial; went = is_sent sending }) port
