-- What the control text says of a version.
use Rattle.std.specs.Prelude.{ℕ, ◌-◌, ◌==◌, List, length, sum_by, count_by, Option}
use Rattle.std.specs.List.{range_with_len}
use Rattle.addr_text.specs.declared.address.Addr.{Addr}
use Rattle.map_model.specs.Market.{capacity_of, demand_of}
use Rattle.map_model.specs.Allocation.{load, placed}
use Rattle.published_map.specs.Version.{Version}
use Rattle.map_text.specs.Writing.{text_of_map}
use Rattle.answer_core.specs.Reply.{reply_of}
use Rattle.answer_core.specs.declared.way.Way.TheVariants as way
use Rattle.mapper.specs.declared.saying.Totals.{Totals}

-- the text of its map
unfoldable pub map_text : Version → List ℕ
map_text v = text_of_map v.plan (record { lines = v.lines; names = v.names })

-- its reply to octets from an address, with draw 0
unfoldable pub reply_by : Version → Addr → List ℕ → Option (List ℕ)
reply_by v from octets = reply_of v from octets 0 way.Datagram

-- units that are placed and units of demand that are not, over all groups, and the number of nodes with as many units as their capacity
unfoldable pub totals_of : Version → Totals
totals_of v = record {
  placed = sum_by (λ g. placed v.lines g) (range_with_len 0 (length v.market.groups));
  unplaced = sum_by (λ g. demand_of v.market g - placed v.lines g) (range_with_len 0 (length v.market.groups));
  full = count_by (λ n. load v.market v.lines n == capacity_of v.market n) (range_with_len 0 (length v.market.nodes));
}
