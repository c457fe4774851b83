-- One feed or several, read to their ends.
use Rattle.std.specs.Prelude.{◌≡◌, ◌≢◌, ◌⊎◌, ℕ, ◌+◌, ◌<◌, ◌≤◌, List, [], ◌∷◌, length, map}
use Rattle.outside.specs.Faults.{DeviceState, Rose}
use Rattle.outside.specs.Source.{Fed}
use Rattle.topology_text.specs.Plan.{Plan}
use Rattle.demand_feed.specs.declared.run.FeedEnd.{FeedEnd}
use Rattle.demand_feed.specs.declared.run.FeedEnd.TheVariants.{SinkFault, SourceFault}
use Rattle.demand_feed.specs.declared.sent.Item.{Item}
use Rattle.demand_feed.specs.declared.sent.What.{What}
use Rattle.feed_queue.specs.Feeder.{EndsWith, HasSent}
use Rattle.feed_queue.specs.Items.{sent_by}
use Rattle.mapper.specs.Feeding.{IsFeed}
use Rattle.mapper.specs.Feeds.{AreFeeds, HasMerged}
use Rattle.mapper.specs.Scenes.{Scene}

-- what the feeders sent of their feeds, by their numbers from k on
abbrev pub AreSent : Plan → ℕ → ℕ → (ℕ → List What) → List (DeviceState Fed) → List (DeviceState Fed) → Type 0
AreSent t turns k sent [] [] = Unit {0}
AreSent t turns k sent (b ∷ before) (c ∷ after) = HasSent t turns b.past c.past (sent k) × AreSent t turns (k + 1) sent before after
AreSent t turns k sent _ _ = ⊥

-- a feed was broken off only where its count rose, and where it was not broken off, its count stands
pub record IsTied (Broken : Type 0) (before after : DeviceState Fed) : Type 0 where
  pub rose : Broken → Rose before.faults after.faults
  pub stays : (Broken → ⊥) → after.faults ≡ before.faults

-- the same of feeds, by their numbers from k on: one was broken off where a fault of its source is the end that its feeder sent
abbrev pub AreTied : ℕ → (ℕ → List What) → List (DeviceState Fed) → List (DeviceState Fed) → Type 0
AreTied k sent [] after = after ≡ []
AreTied k sent (b ∷ before) (c ∷ after) = IsTied (EndsWith (sent k) SourceFault) b c × AreTied (k + 1) sent before after
AreTied k sent (b ∷ before) [] = ⊥

-- Several feeds, each of which a feeder of its own read: what each sent of its feed, and that each which was broken off had failed, and no other; all of that was taken, and nothing else, and worked up to a put that failed; and what it came to.
pub record AreFedTogether (t : Plan) (turns : ℕ) (end : FeedEnd) (feed feed_after : DeviceState Fed) (more more_after : List (DeviceState Fed)) (start stop : Scene) : Type 0 where
  pub sent : ℕ → List What
  pub items : List Item
  pub feeds : AreSent t turns 0 sent (feed ∷ more) (feed_after ∷ more_after)
  pub tied : AreTied 0 sent (feed ∷ more) (feed_after ∷ more_after)
  pub run : AreFeeds (length (feed ∷ more)) end items start stop
  pub merged : end ≢ SinkFault → HasMerged items start stop
  pub whole : (k : ℕ) → k < length (feed ∷ more) → sent_by k items ≡ sent k
  pub others : (k : ℕ) → length (feed ∷ more) ≤ k → sent_by k items ≡ []

-- One feed by itself, whose count rose where its run ended by a fault of its source, and else stands; or it together with further ones.
abbrev pub AreFed : Plan → ℕ → FeedEnd → DeviceState Fed → List (DeviceState Fed) → DeviceState Fed → List (DeviceState Fed) → Scene → Scene → Type 0
AreFed t turns end feed [] feed_after more_after start stop = IsFeed t turns end feed.past feed_after.past start stop × IsTied (end ≡ SourceFault) feed feed_after × (more_after ≡ [])
AreFed t turns end feed (m ∷ more) feed_after more_after start stop = AreFedTogether t turns end feed feed_after (m ∷ more) more_after start stop

-- the count of one of these rose
abbrev pub AnyRose : List (DeviceState Fed) → List (DeviceState Fed) → Type 0
AnyRose [] after = ⊥
AnyRose (b ∷ before) (c ∷ after) = Rose b.faults c.faults ⊎ AnyRose before after
AnyRose (b ∷ before) [] = ⊥

-- no count of these fell
abbrev pub NoneFell : List (DeviceState Fed) → List (DeviceState Fed) → Type 0
NoneFell [] after = after ≡ []
NoneFell (b ∷ before) (c ∷ after) = (b.faults ≤ c.faults) × NoneFell before after
NoneFell (b ∷ before) [] = ⊥

-- all of these counts stand
abbrev pub AllStand : List (DeviceState Fed) → List (DeviceState Fed) → Type 0
AllStand before after = map (λ (x : DeviceState Fed). x.faults) after ≡ map (λ (x : DeviceState Fed). x.faults) before
