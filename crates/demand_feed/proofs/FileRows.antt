-- A worked file of changes: three lines, of which the last is refused, and the first two alone.
use Rattle.std.proofs.Common.{◌≡◌, ℕ, true, [], ◌∷◌, List, codes, ap, ap₂, refl, arith}
use Rattle.std.specs.Prelude.{Ok, Err}
use Rattle.map_model.specs.declared.change.Change.{Change}
use Rattle.map_model.specs.declared.change.Change.TheVariants.{Demand, Capacity}
use Rattle.text_parts.specs.Parts.{unfinished, whole_lines}
use Rattle.topology_text.specs.Plan.{Plan, number_in}
use Rattle.demand_feed.specs.Batch.{capacity_change, demand_change}
use Rattle.demand_feed.specs.Changes.{change_line_of, changes_of}
use Rattle.demand_feed.specs.Lines.{lines_of}
use Rattle.demand_feed.specs.Saying.{AskFor, change_at, of_batch}
use Rattle.demand_feed.specs.declared.changes.ChangesFault.TheVariants.{Refused}
use Rattle.demand_feed.specs.declared.fault.BatchFault.TheVariants.{Range, UnknownName}
use Rattle.demand_feed.specs.declared.fault.LineFault.TheVariants.{UnknownWord}
use Rattle.demand_feed.specs.declared.fault.Refusal.TheVariants.{Batch, Line}
use Rattle.demand_feed.proofs.FileLaws.{bad_file, good_file}

-- a topology of two groups and one node, by their names
abbrev Named : Plan → Type 0
Named t = (t.group_names ≡ codes "home" ∷ codes "work" ∷ []) × (t.node_names ≡ codes "hub" ∷ [])

abbrev two_lines : List ℕ
two_lines = codes "demand work 7\ncapacity hub 0\n"

abbrev three_lines : List ℕ
three_lines = codes "demand work 7\ncapacity hub 0\ndemand school 5"

abbrev two_changes : List Change
two_changes = Demand (record { 0 = 1 }) 7 ∷ Capacity (record { 0 = 0 }) 0 ∷ []

work_asks : (t : Plan) → Named t → change_at t (codes "demand work 7") ≡ Ok (Demand (record { 0 = 1 }) 7)
work_asks t named = unfold change_line_of in ap (λ names. of_batch (demand_change (number_in names (codes "work")) 7)) named.0

hub_asks : (t : Plan) → Named t → change_at t (codes "capacity hub 0") ≡ Ok (Capacity (record { 0 = 0 }) 0)
hub_asks t named = unfold change_line_of in ap (λ names. of_batch (capacity_change (number_in names (codes "hub")) 0)) named.1

school_refused : (t : Plan) → Named t → change_at t (codes "demand school 5") ≡ Err (Batch UnknownName)
school_refused t named = unfold change_line_of in ap (λ names. of_batch (demand_change (number_in names (codes "school")) 5)) named.0

-- an unknown name comes ahead of a number out of range, and other lines of a feed are unknown here
school_refused_first : (t : Plan) → Named t → change_at t (codes "demand school 0") ≡ Err (Batch UnknownName)
school_refused_first t named = unfold change_line_of in ap (λ names. of_batch (demand_change (number_in names (codes "school")) 0)) named.0

work_refused : (t : Plan) → Named t → change_at t (codes "demand work 0") ≡ Err (Batch Range)
work_refused t named = unfold change_line_of in ap (λ names. of_batch (demand_change (number_in names (codes "work")) 0)) named.0

commit_refused : (t : Plan) → change_at t (codes "commit") ≡ Err (Line UnknownWord)
commit_refused t = unfold change_line_of in refl

two_ask : (t : Plan) → Named t → AskFor t (codes "demand work 7" ∷ codes "capacity hub 0" ∷ []) two_changes
two_ask t named = ap₂ (λ x y. x ∷ y ∷ []) (work_asks t named) (hub_asks t named)

two_are : lines_of true two_lines ≡ codes "demand work 7" ∷ codes "capacity hub 0" ∷ []
two_are = unfold whole_lines in unfold unfinished in refl

three_are : lines_of true three_lines ≡ codes "demand work 7" ∷ codes "capacity hub 0" ∷ codes "demand school 5" ∷ []
three_are = unfold whole_lines in unfold unfinished in refl

-- the first two lines alone are a good file
two_changed : (t : Plan) → Named t → changes_of t two_lines ≡ Ok two_changes
two_changed t named = (good_file t two_lines two_changes).1 (rw two_are (two_ask t named), omega arith)

-- with the third, which no LF ends and whose group is unknown, the file is refused there
third_refused : (t : Plan) → Named t → changes_of t three_lines ≡ Err (Refused 3 (Batch UnknownName))
third_refused t named = (bad_file t three_lines 3 (Batch UnknownName)).1 (record {
  ahead = codes "demand work 7" ∷ codes "capacity hub 0" ∷ [];
  line = codes "demand school 5";
  behind = [];
  changes = two_changes;
  parts = three_are;
  place = refl;
  good = two_ask t named;
  few = omega arith;
  refused = rw (school_refused t named) refl;
})
