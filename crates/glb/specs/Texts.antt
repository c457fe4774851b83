-- The texts that the program puts on its output.
use Rattle.std.specs.Prelude.{ℕ, List, [], ◌∷◌, ◌++◌, Option, None, Some, codes, slice_index_or}
use Rattle.std.specs.Fmt.{decimal}
use Rattle.hex.specs.Hex.{encode_lower}
use Rattle.map_model.specs.Market.{pool_of}
use Rattle.stable_check.specs.declared.verdict.Verdict.{Verdict}
use Rattle.stable_check.specs.declared.verdict.Verdict.TheVariants.{Good, BadLine, OverDemand, OverLimit, OverCapacity, Blocking, BadName}
use Rattle.topology_text.specs.Plan.{Plan}
use Rattle.topology_text.specs.declared.fault.TopologyFault.{TopologyFault}
use Rattle.topology_text.specs.FaultTexts.{fault_text as topology_words}
use Rattle.map_text.specs.declared.fault.MapFault.{MapFault}
use Rattle.map_text.specs.Texts.{fault_text as map_words}
use Rattle.demand_feed.specs.declared.changes.ChangesFault.{ChangesFault}
use Rattle.demand_feed.specs.ChangesTexts.{changes_words}

-- a text and the end of its line
abbrev pub line : List ℕ → List ℕ
line text = text ++ 10 ∷ []

-- the line for words that are not taken
abbrev pub usage : List ℕ
usage = line (codes "usage: glb check, answer, map, repair, serve or large")

abbrev pub topology_too_long : List ℕ
topology_too_long = line (codes "refused topology too long")

abbrev pub topology_fault : TopologyFault → List ℕ
topology_fault fault = line (codes "refused topology " ++ topology_words fault)

abbrev pub map_too_long : List ℕ
map_too_long = line (codes "refused map too long")

abbrev pub map_fault : MapFault → List ℕ
map_fault fault = line (codes "refused map " ++ map_words fault)

abbrev pub changes_too_long : List ℕ
changes_too_long = line (codes "refused changes too long")

abbrev pub changes_fault : ChangesFault → List ℕ
changes_fault fault = line (codes "refused changes " ++ changes_words fault)

-- the name of a group
abbrev pub group_name : Plan → ℕ → List ℕ
group_name t g = slice_index_or t.group_names g []

-- the name of a node
abbrev pub node_name : Plan → ℕ → List ℕ
node_name t n = slice_index_or t.node_names n []

-- a map is good
abbrev pub good : List ℕ
good = line (codes "good")

-- what is written of a verdict
abbrev pub verdict : Plan → Verdict → List ℕ
verdict t Good = good
verdict t (BadLine i) = line (codes "bad line " ++ decimal i)
verdict t (OverDemand g units) = line (codes "over demand " ++ group_name t g.0 ++ 32 ∷ [] ++ decimal units)
verdict t (OverLimit g k units) = line (codes "over limit " ++ group_name t g.0 ++ 32 ∷ [] ++ node_name t (pool_of t.market g.0 k) ++ 32 ∷ [] ++ decimal units)
verdict t (OverCapacity n units) = line (codes "over capacity " ++ node_name t n.0 ++ 32 ∷ [] ++ decimal units)
verdict t (Blocking g k) = line (codes "blocking " ++ group_name t g.0 ++ 32 ∷ [] ++ node_name t (pool_of t.market g.0 k))
verdict t (BadName i) = line (codes "bad name " ++ decimal i)

-- the line for a reply: its octets as hexadecimal digits in lower case, or that there is none
abbrev pub answer : Option (List ℕ) → List ℕ
answer None = line (codes "answer -")
answer (Some octets) = line (codes "answer " ++ encode_lower octets)
