-- Which batches of each feeder are in the history.
use Rattle.std.specs.Prelude.{◌≡◌, ℕ, ◌==◌, Bool, true, false, List, [], ◌∷◌, map, is_some}
use Rattle.std.specs.List.{filter, filter_map}
use Rattle.map_model.specs.declared.change.Change.{Change}
use Rattle.demand_feed.specs.declared.sent.Item.{Item}
use Rattle.demand_feed.specs.declared.sent.What.{What}
use Rattle.feed_queue.specs.Items.{sent_by}
use Rattle.mapper.specs.Merged.{Entry, batches_of, changes_of}

-- the entries of one feeder
abbrev pub of_feeder : ℕ → List Entry → List Entry
of_feeder k log = filter (λ (e : Entry). e.item.feeder == k) log

-- the batches that are not empty among what was sent
abbrev pub commits_of : List What → List (List Change)
commits_of ws = filter_map changes_of ws

-- whether it is one of these
abbrev pub is_commit : What → Bool
is_commit w = is_some (changes_of w)

-- those that are marked
abbrev pub kept : {X : Type 0} → List Bool → List X → List X
kept [] xs = []
kept (b ∷ bs) [] = []
kept (true ∷ bs) (x ∷ xs) = x ∷ kept bs xs
kept (false ∷ bs) (x ∷ xs) = kept bs xs

-- the answers to the batches of some entries: whether each was published
abbrev pub answers_of : List Entry → List Bool
answers_of log = map (λ (e : Entry). e.raises) (filter (λ (e : Entry). is_commit e.item.what) log)

-- Of each feeder, the batches in the history are those among what was taken of it, once each and in its order, but for those that were answered `refused commit memory`.
abbrev pub AreGiven : List Item → List Entry → Type 0
AreGiven items log = (k : ℕ) → batches_of (of_feeder k log) ≡ kept (answers_of (of_feeder k log)) (commits_of (sent_by k items))
