-- One offer before another.
use Rattle.std.specs.Prelude.{Bool}
use Rattle.std.specs.Ordering.{is_lt}
use Rattle.map_model.specs.declared.instance.Key.{Key}
use Rattle.map_model.specs.declared.instance.Offer.{Offer}
use Rattle.map_model.specs.Market.{Market, key_of}
use Rattle.map_model.specs.Allocation.{key_cmp}

-- a key is less than another: by score, then by group, then by pool
abbrev pub key_lt : Key → Key → Bool
key_lt a b = is_lt (key_cmp a b)

-- an offer is better than another: its key is less
abbrev pub is_better : Market → Offer → Offer → Bool
is_better m a b = key_lt (key_of m a.group.0 a.place) (key_of m b.group.0 b.place)
