use Rattle.std.proofs.Common.{◌≡◌, All, Option, Some, reverse, vec_len}
use Rattle.published_map.specs.Version.{Version}
use Rattle.lane_model.specs.Histories.{Follows}
use Rattle.lane_model.specs.Lawful.{IsLawful}
use Rattle.lane_model.specs.Machine.{Machine}
use Rattle.lane_model.specs.Replies.{replies}
use Rattle.serve_core.specs.declared.event.StepFault.{StepFault}
use Rattle.serve_core.specs.Events.{IsEventFor, RunsTo, newest_of}
use Rattle.serve_core.proofs.world.World.run.Given as goal

abbrev pub invariant-loop-event : goal.invariant-loop-event
invariant-loop-event l =
    ((m' : Machine Version) (fault : Option StepFault) → RunsTo (reverse l.behind.items) l.self m' fault → RunsTo l.fn.events.items l.fn.self m' fault)
    × ((v : Version) → newest_of l.self.history ≡ Some v → All (IsEventFor v.market) (reverse l.behind.items))
    × ((first : Version) → IsLawful replies Follows first l.fn.self → IsLawful replies Follows first l.self)

abbrev pub decreases-loop-event : goal.decreases-loop-event
decreases-loop-event l = vec_len l.behind
