-- A line of the code, as what it says.
use Rattle.std.specs.Prelude.{ℕ, ◌≤◌, length}
use Rattle.demand_feed.specs.Line.{Said, demand, capacity, commit, ask, show, stop}
use Rattle.demand_feed.specs.declared.line.Line.{Line}
use Rattle.demand_feed.specs.declared.line.Line.TheVariants.{Demand, Capacity, Commit, Ask, Show, Stop}

-- what a line says
abbrev pub said_by : Line → Said
said_by (Demand name number) = demand name.now number
said_by (Capacity name number) = capacity name.now number
said_by Commit = commit
said_by (Ask addr digits) = ask addr digits.now
said_by Show = show
said_by Stop = stop

-- the digits of a query are no more than that
abbrev pub IsShort : ℕ → Line → Type 0
IsShort most (Ask addr digits) = length digits.now ≤ most
IsShort most _ = Unit {0}
