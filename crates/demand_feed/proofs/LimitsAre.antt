-- The constants of the code are the numbers of the definitions.
use Rattle.std.proofs.Common.{◌≡◌, refl}
use Rattle.demand_feed.specs.Limits.{longest_line, most_changes, most_turns, read_size}
use Rattle.demand_feed.specs.declared.limits.TheConstants.{LONGEST_LINE, MOST_CHANGES, MOST_TURNS, READ_SIZE}

pub line_is : LONGEST_LINE ≡ longest_line
line_is = refl

pub changes_are : MOST_CHANGES ≡ most_changes
changes_are = refl

pub size_is : READ_SIZE ≡ read_size
size_is = refl

pub turns_are : MOST_TURNS ≡ most_turns
turns_are = refl
