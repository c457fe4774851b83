use Rattle.std.proofs.Common.{length}
use Rattle.drive.proofs.whole.drive.Given as goal

-- the numbers of the mapper's topology
abbrev pub ghosts-drive_several : goal.ghosts-drive_several
ghosts-drive_several g a = record { groups = length a.mapper.newest.plan.market.groups; nodes = length a.mapper.newest.plan.market.nodes }
