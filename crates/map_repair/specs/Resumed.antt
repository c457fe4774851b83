-- How a repair comes to its map: what is given up, which trees are opened and how, and the proposals from there.
use Rattle.std.specs.Prelude.{◌≡◌, ◌⊎◌, ℕ, ◌/◌, max, Bool, List, length}
use Rattle.map_model.specs.declared.lines.MapLine.{MapLine}
use Rattle.map_model.specs.Market.{Market}
use Rattle.map_model.specs.Progress.{IsGroupBest}
use Rattle.evict.specs.Standing.{IsReady, Standing}
use Rattle.deferred_accept.specs.Runs.{HasProposed}
use Rattle.reopen.specs.Rolling.{CanRollBack, IsRolledBack}
use Rattle.move_up.specs.Moved.{IsMoved}
use Rattle.map_repair.specs.Determined.{IsCutFor}

-- Groups went back, each to the first place before its pointer in a marked tree, and so many proposals lead from there to the later state as a counter rose by.
pub record HasGoneBack (m : Market) (marks : List Bool) (cut to : Standing) (before after : ℕ) : Type 0 where
  pub back : Standing
  pub rolled_back : IsRolledBack m marks cut back
  pub proposed : HasProposed m back to before after

-- Units were moved within marked trees alone, to a resumable state; so many proposals lead from there to the later state as a counter rose by.
pub record HasTried (m : Market) (marks : List Bool) (cut to : Standing) (before after : ℕ) : Type 0 where
  pub moved : Standing
  pub is_moved : IsMoved m marks cut moved
  pub ready : IsReady m moved
  pub proposed : HasProposed m moved to before after

-- the same, and the later state holds the group-best map
pub record HasMovedUp (m : Market) (marks : List Bool) (cut to : Standing) (before after : ℕ) : Type 0 where
  pub tried : HasTried m marks cut to before after
  pub best : IsGroupBest m to.lines

-- A try whose map was not taken: a state that holds the lines was cut for the new numbers, and with the reached trees marked it was tried, as a counter rose by the proposals.
pub record HasTriedInVain (old : Market) (lines : List MapLine) (new : Market) (before after : ℕ) : Type 0 where
  pub begun : IsCutFor old lines new
  pub to : Standing
  pub tried : HasTried new begun.marks begun.cut to before after

-- what a counter rose by ahead of the way that was taken: by nothing, or by the proposals of a try whose map was not taken
abbrev pub HasThrown : Market → List MapLine → Market → ℕ → ℕ → Type 0
HasThrown old lines new before after = (after ≡ before) ⊎ HasTriedInVain old lines new before after

-- in how many turns units may move up: half as many as there are groups, but 64 in small worlds
abbrev pub most_turns : Market → ℕ
most_turns m = max (length m.groups / 2) 64

-- From the lines of a good map to a later state, as a counter rose: first by the proposals of a try that was thrown away, if there was one. Then a state that holds the lines was cut for the new numbers, and with the reached trees marked it came to the later state in one of two ways, as the counter rose by the proposals of that. Whichever it took, it could have gone back.
pub record HasResumed (old : Market) (lines : List MapLine) (new : Market) (to : Standing) (before tried after : ℕ) : Type 0 where
  pub thrown : HasThrown old lines new before tried
  pub begun : IsCutFor old lines new
  pub can_go_back : CanRollBack new begun.marks begun.cut
  pub way : HasGoneBack new begun.marks begun.cut to tried after ⊎ HasMovedUp new begun.marks begun.cut to tried after

-- the same to other lines: to a state that holds them
pub record HasRepaired (old : Market) (lines : List MapLine) (new : Market) (repaired : List MapLine) (before after : ℕ) : Type 0 where
  pub to : Standing
  pub tried : ℕ
  pub resumed : HasResumed old lines new to before tried after
  pub makes : to.lines ≡ repaired
