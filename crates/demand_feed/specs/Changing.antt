-- A line of the code, as a change.
use Rattle.std.specs.Prelude.{List, Result, Err}
use Rattle.map_model.specs.declared.change.Change.{Change}
use Rattle.topology_text.specs.Plan.{Plan}
use Rattle.demand_feed.specs.Batch.{with_capacity, with_demand}
use Rattle.demand_feed.specs.declared.line.Line.{Line}
use Rattle.demand_feed.specs.declared.line.Line.TheVariants.{Demand, Capacity}
use Rattle.demand_feed.specs.declared.fault.BatchFault.{BatchFault}
use Rattle.demand_feed.specs.declared.fault.BatchFault.TheVariants.{UnknownName}

-- a line that changes something
abbrev pub IsChangeLine : Line → Type 0
IsChangeLine (Demand name number) = Unit {0}
IsChangeLine (Capacity name number) = Unit {0}
IsChangeLine _ = ⊥

-- a batch with the change of a line
abbrev pub with_line : Plan → List Change → Line → Result (List Change) BatchFault
with_line t changes (Demand name number) = with_demand t changes name.now number
with_line t changes (Capacity name number) = with_capacity t changes name.now number
with_line t changes _ = Err UnknownName
