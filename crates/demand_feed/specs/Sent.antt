-- What comes of a feed's lines, as it is sent.
use Rattle.std.specs.Prelude.{◌≡◌, ◌⊎◌, ℕ, List}
use Rattle.addr_text.specs.declared.address.Addr.{Addr}
use Rattle.demand_feed.specs.Task.{Task, refused, batch, empty, spoiled, query, totals}
use Rattle.demand_feed.specs.declared.sent.What.{What}
use Rattle.demand_feed.specs.declared.sent.What.TheVariants as what

-- a query of that address and these octets
abbrev pub IsAsk : Addr → List ℕ → What → Type 0
IsAsk addr octets (what.Ask from held) = (from ≡ addr) × (held.items ≡ octets)
IsAsk addr octets _ = ⊥

-- what is sent for what comes of a line: a batch itself, or that there was no memory for it, and else the same
abbrev pub Becomes : Task → What → Type 0
Becomes (refused number why) w = w ≡ what.Refused number why
Becomes (batch changes) w = (w ≡ what.Commit changes) ⊎ (w ≡ what.Memory)
Becomes empty w = w ≡ what.Empty
Becomes (spoiled lines) w = w ≡ what.Lines lines
Becomes (query addr octets) w = IsAsk addr octets w
Becomes totals w = w ≡ what.Show
