-- Limits of a feed. Each constant of the code is the number that stands here.
use Rattle.std.specs.Prelude.{ℕ}

-- the most octets of a line, its LF left out
abbrev pub longest_line : ℕ
longest_line = 8300

-- the most changes of a batch
abbrev pub most_changes : ℕ
most_changes = 4096

-- how many octets a read of a feed may give
abbrev pub read_size : ℕ
read_size = 32768

-- the most reads of one run
abbrev pub most_turns : ℕ
most_turns = 281474976710656
