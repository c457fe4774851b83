-- Inside this crate alone: which ends of feeds were noted.
use Rattle.std.specs.Prelude.{◌≡◌, List}
use Rattle.demand_feed.specs.declared.sent.Item.{Item}
use Rattle.feed_queue.specs.Whole.{ends_in}
use Rattle.mapper.specs.Feeds.{has_one, is_no_memory, is_source_fault, is_spent_end}
use Rattle.mapper.specs.declared.ends.Ends.{Ends}

-- the ends among these items were noted
pub record AreNoted (items : List Item) (e : Ends) : Type 0 where
  pub count : e.count ≡ ends_in items
  pub source : e.source_fault ≡ has_one is_source_fault items
  pub memory : e.no_memory ≡ has_one is_no_memory items
  pub spent : e.spent ≡ has_one is_spent_end items
