-- What one line of a map's text says, over a topology.
use Rattle.std.specs.Prelude.{ℕ, ◌<◌, Bool, ◌||◌, ◌==◌, if◌then◌else◌, List, length, Option, None, Some, codes, IsTrue, position, option_map, option_and_then}
use Rattle.std.specs.Str.{bytes_eq}
use Rattle.map_model.specs.declared.instance.Offer.{Offer}
use Rattle.map_model.specs.declared.lines.By.TheVariants.{Limit, Node}
use Rattle.map_model.specs.Market.{Market, choices_of}
use Rattle.map_model.specs.Allocation.{IsOffer, is_by}
use Rattle.topology_text.specs.Plan.{Plan, number_in}
use Rattle.text_parts.specs.Counts.{count_of}
use Rattle.text_parts.specs.Parts.{parts}
use Rattle.map_text.specs.Words.{Three, Words, four_of, three_of}
use Rattle.map_text.specs.declared.line.Line.{Line}
use Rattle.map_text.specs.declared.line.Version.TheVariants.{First, Second}
use Rattle.map_text.specs.declared.line.Line.TheVariants.{Header, Place, Named, End, Unknown, UnknownLimit, Bad}

-- the place of a pool in a group's list
abbrev pub place_of : Market → ℕ → ℕ → Option ℕ
place_of m g pool = position (λ c. c.pool.0 == pool) (choices_of m g)

-- the offer of a group to a pool of its list, by their names
abbrev pub offer_of : Plan → List ℕ → List ℕ → Option Offer
offer_of t group pool =
    option_and_then (λ g. option_and_then (λ n. option_map (λ k. record { group = record { 0 = g }; place = k }) (place_of t.market g n)) (number_in t.node_names pool)) (number_in t.group_names group)

-- the amount that a word writes: 1 to 2^32-1
abbrev pub amount_of : List ℕ → Option ℕ
amount_of word = count_of 4294967295 word

-- so many units at an offer
abbrev pub place_line : Option Offer → Option ℕ → Line
place_line offer None = Bad
place_line None (Some amount) = Unknown
place_line (Some o) (Some amount) = Place (record { group = o.group; place = o.place; amount = amount })

-- the node that refuses an offer
abbrev pub full_line : Option Offer → Option ℕ → Line
full_line None n = Unknown
full_line (Some o) None = Unknown
full_line (Some o) (Some n) = Named (record { group = o.group; place = o.place; by = Node (record { 0 = n }) })

-- the limit that refuses an offer
abbrev pub limit_line : Option Offer → Line
limit_line None = UnknownLimit
limit_line (Some o) = Named (record { group = o.group; place = o.place; by = Limit })

-- a word has at least one octet
abbrev pub has_no_word : Words → Bool
has_no_word w = (length w.group == 0) || (length w.pool == 0) || (length w.last == 0)

-- a line by its three words
abbrev pub three_entry : Plan → Option Three → Line
three_entry t None = Bad
three_entry t (Some w) =
    if (length w.group == 0) || (length w.pool == 0) then Bad
    else if bytes_eq w.keyword (codes "limit") then limit_line (offer_of t w.group w.pool)
    else Bad

-- a line by its words, three or four
abbrev pub entry_of : Plan → Option Three → Option Words → Line
entry_of t three None = three_entry t three
entry_of t three (Some w) =
    if has_no_word w then Bad
    else if bytes_eq w.keyword (codes "place") then place_line (offer_of t w.group w.pool) (amount_of w.last)
    else if bytes_eq w.keyword (codes "full") then full_line (offer_of t w.group w.pool) (number_in t.node_names w.last)
    else Bad

-- a line
abbrev pub line_of : Plan → List ℕ → Line
line_of t line =
    if bytes_eq line (codes "glb map 1") then Header First
    else if bytes_eq line (codes "glb map 2") then Header Second
    else if bytes_eq line (codes "end") then End
    else entry_of t (three_of (parts 32 line)) (four_of (parts 32 line))

-- the numbers of a line are those of the instance, and an amount is at least 1
abbrev pub IsInRange : Market → Line → Type 0
IsInRange m (Place x) = IsOffer m x.group.0 x.place × (0 < x.amount)
IsInRange m (Named x) = IsOffer m x.group.0 x.place × IsTrue (is_by m x.by)
IsInRange m _ = Unit {0}
