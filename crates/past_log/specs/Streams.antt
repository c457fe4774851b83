-- What streams tell after a call.
use Rattle.std.specs.Prelude.{ℕ, List, true, false, [], ◌∷◌, ◌++◌, length, take, None}
use Rattle.outside.specs.Streams.{StreamsTold, answered, answered_into, closing, coming, failing, hearing, resting, writing}
use Rattle.outside.specs.declared.streams.Accepting.{Accepting}
use Rattle.outside.specs.declared.streams.Accepting.TheVariants as came
use Rattle.outside.specs.declared.streams.Reading.{Reading}
use Rattle.outside.specs.declared.streams.Reading.TheVariants as read
use Rattle.outside.specs.declared.streams.Writing.{Writing}
use Rattle.outside.specs.declared.streams.Writing.TheVariants as put
use Rattle.past_log.specs.declared.streams.StreamsEvent.{StreamsEvent}
use Rattle.past_log.specs.declared.streams.StreamsEvent.TheVariants.{Opened, Accepted, Heard, Said, Closed}

-- streams that were asked nothing
abbrev pub new_streams : StreamsTold
new_streams = record { opens = []; closed = []; current = None; answers = 0; failed = 0; is_ended = false; greatest = 0; shortest = None }

-- streams after an accept
abbrev pub accepted : ℕ → Accepting → StreamsTold → StreamsTold
accepted known (came.Come peer) streams = coming peer (answered known streams)
accepted known came.Idle streams = answered known streams
accepted known came.End streams = record (answered known streams) { is_ended = true }
accepted known came.Failed streams = failing (answered known streams)

-- streams after a read that was handed a buffer, which it left so
abbrev pub heard : ℕ → List ℕ → Reading → StreamsTold → StreamsTold
heard known buffer (read.Got n) streams = hearing (record { octets = take n buffer; known = known; place = streams.answers }) (answered_into known (length buffer) streams)
heard known buffer read.Quiet streams = resting (answered_into known (length buffer) streams)
heard known buffer read.Closed streams = answered_into known (length buffer) streams
heard known buffer read.Failed streams = failing (answered_into known (length buffer) streams)

-- streams after a write, by the octets that were written
abbrev pub said : ℕ → List ℕ → Writing → StreamsTold → StreamsTold
said serial octets put.Done streams = writing serial octets streams
said serial octets put.Failed streams = failing (writing serial octets streams)

-- streams after a call
abbrev pub noted : StreamsEvent → StreamsTold → StreamsTold
noted (Opened listen) streams = record streams { opens = streams.opens ++ listen ∷ [] }
noted (Accepted known accepting) streams = accepted known accepting streams
noted (Heard known buffer reading) streams = heard known buffer.now reading streams
noted (Said serial octets writing) streams = said serial octets.now writing streams
noted Closed streams = closing streams
