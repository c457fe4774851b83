-- When all that feeders sent was taken.
use Rattle.std.specs.Prelude.{◌≡◌, ℕ, ◌<◌, Bool, true, false, List, [], ◌∷◌, count_by, Option}
use mathlib.Core.List.{IsPrefix}
use Rattle.outside.specs.Source.{Fed}
use Rattle.topology_text.specs.Plan.{Plan}
use Rattle.demand_feed.specs.declared.sent.Item.{Item}
use Rattle.demand_feed.specs.declared.sent.What.{What}
use Rattle.demand_feed.specs.declared.sent.What.TheVariants as what
use Rattle.feed_queue.specs.Feeder.{HasSent}
use Rattle.feed_queue.specs.Items.{AreTaken, sent_by}

-- a feed's end
abbrev pub is_end : What → Bool
is_end (what.End end) = true
is_end _ = false

-- how many ends were taken
abbrev pub ends_in : List Item → ℕ
ends_in items = count_by (λ (x : Item). is_end x.what) items

-- an end stands last, and nowhere else
abbrev pub EndsLast : List What → Type 0
EndsLast [] = ⊥
EndsLast (w ∷ []) = is_end w ≡ true
EndsLast (w ∷ v ∷ ws) = (is_end w ≡ false) × EndsLast (v ∷ ws)

-- Where as many ends were taken as there are feeders, each of which sent one as its last item and no other, all that each sent was taken.
abbrev pub AllIsTaken : Type 0
AllIsTaken = (groups nodes feeders : ℕ) (taken : List Item) (sent : ℕ → List What) → AreTaken groups nodes feeders taken
    → ((k : ℕ) → k < feeders → IsPrefix (sent_by k taken) (sent k) × EndsLast (sent k)) → ends_in taken ≡ feeders → (k : ℕ) → k < feeders → sent_by k taken ≡ sent k

-- What a feeder sends of its feed has its end last, and no other.
abbrev pub RunsEndLast : Type 0
RunsEndLast = (t : Plan) (turns : ℕ) (before after : Option Fed) (sent : List What) → HasSent t turns before after sent → EndsLast sent
