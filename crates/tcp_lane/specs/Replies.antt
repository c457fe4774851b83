-- The replies of lanes that serve streams.
use Rattle.published_map.specs.Version.{Version}
use Rattle.answer_core.specs.declared.way.Way.TheVariants.{Stream}
use Rattle.lane_model.specs.Lanes.{Answers}
use Rattle.lane_model.specs.Replies.{replies_by}

abbrev pub stream_replies : Answers Version
stream_replies = replies_by Stream
