-- The versions that a feed's run publishes go on one from the other.
use Rattle.std.proofs.Common.{◌≡◌, ℕ, suc, ◌-◌, List, [], ◌∷◌, ◌++◌, length, slice_get, Option, Some, inl, inr, refl, sym, ap, subst, ◌∙◌, arith, append_assoc, append-nil, length-append}
use Rattle.map_model.specs.declared.change.Change.{Change}
use Rattle.outside.specs.Faults.{DeviceState}
use Rattle.outside.specs.Sink.{Written}
use Rattle.outside.specs.Source.{Fed}
use Rattle.outside.specs.declared.pace.PaceCall.{PaceCall}
use Rattle.topology_text.specs.Plan.{Plan}
use Rattle.demand_feed.specs.Task.{Task, refused, batch, empty, spoiled, query, totals}
use Rattle.demand_feed.specs.declared.run.FeedEnd.{FeedEnd}
use Rattle.demand_feed.specs.declared.run.FeedEnd.TheVariants.{Ended, SourceFault, SinkFault, Spent, NoMemory}
use Rattle.published_map.specs.Version.{IsVersion, Version}
use Rattle.map_cell.specs.Histories.{IsHistory}
use Rattle.lane_model.specs.Histories.{Follows}
use Rattle.lane_model.specs.Machine.{GoesOn}
use Rattle.demand_feed.specs.declared.sent.Item.{Item}
use Rattle.demand_feed.specs.declared.sent.What.{What}
use Rattle.demand_feed.specs.declared.sent.What.TheVariants as what
use Rattle.mapper.specs.Control.{AllCome, Comes, Course, IsNext, start}
use Rattle.mapper.specs.Feeding.{AllCame, HasEnded, IsFeed, WasCut}
use Rattle.mapper.specs.Feeds.{AreFeeds, HaveEnded}
use Rattle.mapper.specs.Items.{AllWork, WorksAs}
use Rattle.mapper.specs.Scenes.{Scene, scene}
use Rattle.drive.specs.Driven.{Succeeds}
use Rattle.drive.specs.Feeds.{AreFedTogether}

-- each version comes of the one before it, from an old one to the last
abbrev pub Chain : Version → List Version → Version → Type 0
Chain old [] last = last ≡ old
Chain old (v ∷ versions) last = ((changes : List Change) × IsNext old changes v) × Chain v versions last

chained : (a b c : Version) (xs ys : List Version) → Chain a xs b → Chain b ys c → Chain a (xs ++ ys) c
chained a b c [] ys p q = subst (λ v. Chain v ys c) p q
chained a b c (x ∷ xs) ys p q = (p.0, chained x b c xs ys p.1 q)

-- a course went on to another one
abbrev pub Went : Course → Course → Type 0
Went c d = (versions : List Version) × (d.versions ≡ c.versions ++ versions) × Chain c.newest versions d.newest

stays : (c d : Course) → d.versions ≡ c.versions → d.newest ≡ c.newest → Went c d
stays c d versions newest = ([], versions ∙ sym (append-nil c.versions), newest)

goes : (b c d : Course) → Went b c → Went c d → Went b d
goes b c d p q = (p.0 ++ q.0, q.1 ∙ (ap (λ l. l ++ q.0) p.1 ∙ append_assoc b.versions p.0 q.0), chained b.newest c.newest d.newest p.0 q.0 p.2 q.2)

item_went : (task : Task) (c d : Course) → Comes task c d → Went c d
item_went (refused number why) c d is = stays c d (ap (λ x. x.versions) is) (ap (λ x. x.newest) is)
item_went (batch changes) c d (inl p) = (p.0 ∷ [], ap (λ x. x.versions) p.2, ((changes, p.1), ap (λ x. x.newest) p.2))
item_went (batch changes) c d (inr is) = stays c d (ap (λ x. x.versions) is) (ap (λ x. x.newest) is)
item_went empty c d is = stays c d (ap (λ x. x.versions) is) (ap (λ x. x.newest) is)
item_went (spoiled lines) c d is = stays c d (ap (λ x. x.versions) is) (ap (λ x. x.newest) is)
item_went (query addr octets) c d is = stays c d (ap (λ x. x.versions) is) (ap (λ x. x.newest) is)
item_went totals c d is = stays c d (ap (λ x. x.versions) is) (ap (λ x. x.newest) is)

items_went : (tasks : List Task) (c d : Course) → AllCome tasks c d → Went c d
items_went [] c d is = stays c d (ap (λ x. x.versions) is) (ap (λ x. x.newest) is)
items_went (task ∷ tasks) c d p = goes c p.0 d (item_went task c p.0 p.1) (items_went tasks p.0 d p.2)

-- what is told went on
abbrev pub Grew : Scene → Scene → Type 0
Grew before after = (versions : List Version) × (after.history ≡ before.history ++ versions) × Chain before.newest versions after.newest

grew : (before after : Scene) (c : Course) → Went (start before.newest) c → after.newest ≡ c.newest → after.history ≡ before.history ++ c.versions → Grew before after
grew before after c w newest history = (w.0, history ∙ ap (λ l. before.history ++ l) w.1, subst (λ v. Chain before.newest w.0 v) (sym newest) w.2)

came_grew : (tasks : List Task) (before after : Scene) → AllCame tasks before after → Grew before after
came_grew tasks before after p = grew before after p.0 (items_went tasks (start before.newest) p.0 p.1) p.2.newest p.2.history

cut_grew : (tasks : List Task) (before after : Scene) → WasCut tasks before after → Grew before after
cut_grew tasks before after p =
    let done = p.0 in
    let task = p.1 in
    let c = p.3 in
    let d = p.4 in grew before after d (goes (start before.newest) c d (items_went done (start before.newest) c p.6) (item_went task c d p.7)) p.8.newest p.8.history

ended_grew : (end : FeedEnd) (t : Plan) (turns : ℕ) (pieces : List (List ℕ)) (fed fed' : Option Fed) (before after : Scene) → HasEnded end t turns pieces fed fed' before after → Grew before after
ended_grew Ended t turns pieces fed fed' before after (inl p) = came_grew _ before after p.2
ended_grew Ended t turns pieces fed fed' before after (inr p) = came_grew _ before after p.2
ended_grew SourceFault t turns pieces fed fed' before after p = came_grew _ before after p.2
ended_grew Spent t turns pieces fed fed' before after p = came_grew _ before after p.2
ended_grew SinkFault t turns pieces fed fed' before after (inl p) = cut_grew _ before after p.2
ended_grew SinkFault t turns pieces fed fed' before after (inr p) = cut_grew _ before after p.2
ended_grew NoMemory t turns pieces fed fed' before after p = absurd p

pub feed_grew : (t : Plan) (turns : ℕ) (end : FeedEnd) (fed fed' : Option Fed) (before after : Scene) → IsFeed t turns end fed fed' before after → Grew before after
feed_grew t turns end fed fed' before after f = ended_grew end t turns f.run.0 fed fed' before (record after { pace = f.calls }) f.run.2

-- the same of what was taken of several feeders
works_went : (mark : Option ℕ) (w : What) (c d : Course) → WorksAs mark w c d → Went c d
works_went mark (what.Refused number why) c d is = stays c d (ap (λ x. x.versions) is) (ap (λ x. x.newest) is)
works_went mark (what.Commit []) c d is = stays c d (ap (λ x. x.versions) is) (ap (λ x. x.newest) is)
works_went mark (what.Commit (change ∷ changes)) c d (inl p) = (p.0 ∷ [], ap (λ x. x.versions) p.2, ((change ∷ changes, p.1), ap (λ x. x.newest) p.2))
works_went mark (what.Commit (change ∷ changes)) c d (inr is) = stays c d (ap (λ x. x.versions) is) (ap (λ x. x.newest) is)
works_went mark what.Memory c d is = stays c d (ap (λ x. x.versions) is) (ap (λ x. x.newest) is)
works_went mark what.Empty c d is = stays c d (ap (λ x. x.versions) is) (ap (λ x. x.newest) is)
works_went mark (what.Lines lines) c d is = stays c d (ap (λ x. x.versions) is) (ap (λ x. x.newest) is)
works_went mark (what.Ask addr octets) c d is = stays c d (ap (λ x. x.versions) is) (ap (λ x. x.newest) is)
works_went mark what.Show c d is = stays c d (ap (λ x. x.versions) is) (ap (λ x. x.newest) is)
works_went mark (what.End end) c d is = stays c d (ap (λ x. x.versions) is) (ap (λ x. x.newest) is)

work_went : (items : List Item) (c d : Course) → AllWork items c d → Went c d
work_went [] c d is = stays c d (ap (λ x. x.versions) is) (ap (λ x. x.newest) is)
work_went (x ∷ xs) c d p = goes c p.0 d (works_went (Some x.feeder) x.what c p.0 p.1) (work_went xs p.0 d p.2)

work_grew : (end : FeedEnd) (items : List Item) (before after : Scene) → HaveEnded end items before after → Grew before after
work_grew end items before after (inl p) =
    let w = p.1 in grew before after w.course (work_went items (start before.newest) w.course w.works) w.told.newest w.told.history
work_grew end items before after (inr p) =
    let w = p.1 in
    grew before after w.next (goes (start before.newest) w.course w.next (work_went w.done (start before.newest) w.course w.works) (works_went (Some w.item.feeder) w.item.what w.course w.next w.last)) w.cut.newest w.cut.history

feeds_grew : (feeders : ℕ) (end : FeedEnd) (items : List Item) (before after : Scene) → AreFeeds feeders end items before after → Grew before after
feeds_grew feeders end items before after f = work_grew end items before (record after { pace = f.calls }) f.ended

pub last_appended : (h : List Version) (v : Version) → slice_get (h ++ v ∷ []) (length (h ++ v ∷ []) - 1) ≡ Some v
last_appended [] v = refl
last_appended (x ∷ h) v =
    let size : length (x ∷ h ++ v ∷ []) - 1 ≡ suc (length (h ++ v ∷ []) - 1) = omega (arith, length-append h (v ∷ [])) in
    rw size (last_appended h v)

-- versions in a chain from the last of a history go on from it
pub goes_on : (h : List Version) (old : Version) (versions : List Version) (last : Version) → slice_get h (length h - 1) ≡ Some old → Chain old versions last → ((k : ℕ) (v : Version) → slice_get versions k ≡ Some v → IsVersion v) → GoesOn Succeeds h versions
goes_on h old [] last is c all = tt
goes_on h old (v ∷ versions) last is c all = ((old, c.0.0, is, c.0.1, all 0 v refl), goes_on (h ++ v ∷ []) v versions last (last_appended h v) c.1 (λ k x at. all (suc k) x at))

grew_on : (before after : Scene) (first : Version) (rest : List Version) → Grew before after → before.newest ≡ first → before.history ≡ first ∷ [] → after.history ≡ first ∷ rest → IsHistory after.history → GoesOn Succeeds (first ∷ []) rest
grew_on before after first rest g newest opened history good =
    let same : g.0 ≡ rest = cc (g.1, opened, history) in
    goes_on (first ∷ []) first rest after.newest refl (subst (λ l. Chain first l after.newest) same (subst (λ v. Chain v g.0 after.newest) newest g.2)) (λ k v at. (good.at (suc k) v (subst (λ l. slice_get l (suc k) ≡ Some v) (sym history) at)).0)

-- of a feed's run from the first version on
pub feed_goes_on : (t : Plan) (turns : ℕ) (end : FeedEnd) (fed fed' : Option Fed) (before after : Scene) (first : Version) (rest : List Version) → IsFeed t turns end fed fed' before after → before.newest ≡ first → before.history ≡ first ∷ [] → after.history ≡ first ∷ rest → IsHistory after.history → GoesOn Succeeds (first ∷ []) rest
feed_goes_on t turns end fed fed' before after first rest f newest opened history good = grew_on before after first rest (feed_grew t turns end fed fed' before after f) newest opened history good

-- of several at once
pub feeds_go_on : (feeders : ℕ) (end : FeedEnd) (items : List Item) (before after : Scene) (first : Version) (rest : List Version) → AreFeeds feeders end items before after → before.newest ≡ first → before.history ≡ first ∷ [] → after.history ≡ first ∷ rest → IsHistory after.history → GoesOn Succeeds (first ∷ []) rest
feeds_go_on feeders end items before after first rest f newest opened history good = grew_on before after first rest (feeds_grew feeders end items before after f) newest opened history good

-- what succeeds follows
pub follow_all : (h rest : List Version) → GoesOn Succeeds h rest → GoesOn Follows h rest
follow_all h [] g = tt
follow_all h (v ∷ rest) g = ((g.0.0, g.0.1, g.0.2, record { serial = g.0.3.serial; plan = g.0.3.plan; applied = g.0.3.applied; version = g.0.4 }), follow_all (h ++ v ∷ []) rest g.1)

-- a feed's run, whose histories are told by equations
pub feed_over : (t : Plan) (turns : ℕ) (end : FeedEnd) (fed fed' : Option Fed) (first last : Version) (h h' g g' : List Version) (out maps out' maps' : Option Written) (pace pace' : Option (List PaceCall)) → h ≡ g → h' ≡ g'
    → IsFeed t turns end fed fed' (scene first h out maps pace) (scene last h' out' maps' pace') → IsFeed t turns end fed fed' (scene first g out maps pace) (scene last g' out' maps' pace')
feed_over t turns end fed fed' first last h h' g g' out maps out' maps' pace pace' same same' f =
    subst (λ (x : List Version). IsFeed t turns end fed fed' (scene first g out maps pace) (scene last x out' maps' pace')) same' (subst (λ (x : List Version). IsFeed t turns end fed fed' (scene first x out maps pace) (scene last h' out' maps' pace')) same f)

-- the same of several feeds
pub together_over : (t : Plan) (turns : ℕ) (end : FeedEnd) (feed feed' : DeviceState Fed) (more more' : List (DeviceState Fed)) (first last : Version) (h h' g g' : List Version) (out maps out' maps' : Option Written) (pace pace' : Option (List PaceCall)) → h ≡ g → h' ≡ g'
    → AreFedTogether t turns end feed feed' more more' (scene first h out maps pace) (scene last h' out' maps' pace') → AreFedTogether t turns end feed feed' more more' (scene first g out maps pace) (scene last g' out' maps' pace')
together_over t turns end feed feed' more more' first last h h' g g' out maps out' maps' pace pace' same same' f =
    subst (λ (x : List Version). AreFedTogether t turns end feed feed' more more' (scene first g out maps pace) (scene last x out' maps' pace')) same' (subst (λ (x : List Version). AreFedTogether t turns end feed feed' more more' (scene first x out maps pace) (scene last h' out' maps' pace')) same f)
