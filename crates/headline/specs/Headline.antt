-- THE HEADLINE. Every map that is ever published places no group beyond its demand, fills no tree
-- node beyond its capacity and no offer beyond its limit, and names, for each pool that a group
-- would rather use, the group's own limit there, which is reached, or a full node on that pool's
-- path holding only offers ranked at least as high; every reply, to any bytes, is the stated reply
-- of one published map, never older than one its worker used or was told of.
-- This page says it over numbers and lists. Taken from elsewhere: what devices tell (`outside`,
-- `drive`), the octets of a reply (`reply_of`), and plain words for what happens (View). Runs says
-- which of it each command promises, and src/laws.rt carries the proof from the clauses of `glb`.
use Rattle.std.specs.Prelude.{◌≡◌, ◌≢◌, ◌⊎◌, ℕ, zero, suc, ◌+◌, ◌-◌, ◌*◌, ◌^◌, ◌%◌, ◌<◌, ◌≤◌, max}
use Rattle.std.specs.Prelude.{Bool, ◌&&◌, ◌==◌, nat_le, IsTrue}
use Rattle.std.specs.Prelude.{List, [], ◌∷◌, ◌++◌, length, map, filter, sum, take, flat_map}
use Rattle.std.specs.Prelude.{All, AllPairs, Contains, slice_get, slice_index_or}
use Rattle.std.specs.Prelude.{Option, None, Some, option_and_then, option_map}
use Rattle.std.specs.List.{filter_map, last_or, list_any, range_with_len}
use Rattle.std.specs.Option.{unwrap_or}
use Rattle.outside.specs.Faults.{BothTell, Rose, raised}
use Rattle.outside.specs.Notes.{Given}
use Rattle.outside.specs.Port.{Packet, Taken, Try}
use Rattle.outside.specs.Streams.{Piece, StreamsTold, Talk}
use Rattle.tcp_frames.specs.Split.{framed}
use Rattle.topology_text.specs.Plan.{Plan}
use Rattle.published_map.specs.Version.{Version}
use Rattle.answer_core.specs.Reply.{reply_of}
use Rattle.answer_core.specs.declared.way.Way.{Way}
use Rattle.answer_core.specs.declared.way.Way.TheVariants as way
use Rattle.drive.specs.Done.{LaneTold, ServerTold, StreamLaneTold}
use Rattle.glb.specs.declared.status.Status.{Status}
use Rattle.glb.specs.declared.status.Status.TheVariants as status
use Rattle.headline.specs.View.{Change, Choice, Group, Instance, Line, Name, Node}
use Rattle.headline.specs.View.{capacity_by, demand_by, instance, line, name}
use Rattle.headline.specs.View.{Event, Message, told, replied, silent, missed}
use Rattle.headline.specs.View.{came, heard, knew, lost, taken, tried}

-- 1. MAPS. An instance is a list of groups, each with its demand and its list of choices, best
-- first, and a list of nodes, each with its capacity and the node above it. A choice is a pool, the
-- score that the pool gives the group (lower is better), and the group's limit there. Groups, nodes
-- and places are numbers from 0. A map is a list of lines (so many units of a group at a place of
-- its list) and of names (what keeps a group from a place: a node, or, as None, its limit).

-- group g has the choice c at place k of its list
abbrev pub Has : Instance → ℕ → ℕ → Choice → Type 0
Has i g k c =
    (group : Group) × (slice_get i.groups g ≡ Some group) × (slice_get group.choices k ≡ Some c)

-- the path of a pool: itself and the nodes above it (no path has more nodes than there are); the
-- tree in which it stands, as the number of the root
abbrev pub up : ℕ → List Node → Option ℕ → List ℕ
up zero nodes at = []
up (suc most) nodes None = []
up (suc most) nodes (Some n) =
    n ∷ up most nodes (option_and_then (λ (node : Node). node.parent) (slice_get nodes n))

abbrev pub path : Instance → Option ℕ → List ℕ
path i pool = up (length i.nodes) i.nodes pool

abbrev pub tree : Instance → ℕ → ℕ
tree i pool = slice_index_or (path i (Some pool)) (length (path i (Some pool)) - 1) 0

-- the units of the lines that pass a test: of a group at one place; up to a place; in all; and
-- under a node, which is on their pools' paths
abbrev pub units : (Line → Bool) → List Line → ℕ
units test lines = sum (map (λ (l : Line). l.units) (filter test lines))

abbrev pub amount : List Line → ℕ → ℕ → ℕ
amount lines g k = units (λ l. l.group == g && l.place == k) lines

abbrev pub through : List Line → ℕ → ℕ → ℕ
through lines g k = units (λ l. l.group == g && nat_le l.place k) lines

abbrev pub placed : List Line → ℕ → ℕ
placed lines g = units (λ l. l.group == g) lines

abbrev pub pool_at : Instance → ℕ → ℕ → Option ℕ
pool_at i g k =
    option_map (λ (c : Choice). c.pool)
    (option_and_then (λ (group : Group). slice_get group.choices k) (slice_get i.groups g))

abbrev pub is_under : Instance → ℕ → Line → Bool
is_under i n l = list_any (λ x. x == n) (path i (pool_at i l.group l.place))

abbrev pub load : Instance → List Line → ℕ → ℕ
load i lines n = units (is_under i n) lines

-- group g would rather use its place k: some of its demand is placed nowhere, or worse than there
abbrev pub Wants : Instance → List Line → ℕ → ℕ → Type 0
Wants i lines g k =
    (group : Group) × (slice_get i.groups g ≡ Some group) × ((placed lines g < group.demand)
    ⊎ ((l : Line) × Contains lines l × (l.group ≡ g) × (k < l.place) × (0 < l.units)))

-- group g with score s at pool p is ranked at least as high as group h with score t at pool q: by
-- the score, then the group, then the pool
abbrev pub IsAtLeast : ℕ → ℕ → ℕ → ℕ → ℕ → ℕ → Type 0
IsAtLeast s g p t h q = (s < t) ⊎ ((s ≡ t) × ((g < h) ⊎ ((g ≡ h) × (p ≤ q))))

-- what keeps group g from more at its place k, where it has c: its limit is reached; or a node on
-- the pool's path is full, and holds only offers ranked at least as high
abbrev pub Refuses : Instance → List Line → ℕ → ℕ → Choice → Option ℕ → Type 0
Refuses i lines g k c None = amount lines g k ≡ c.limit
Refuses i lines g k c (Some n) =
    Contains (path i (Some c.pool)) n
    × ((node : Node) × (slice_get i.nodes n ≡ Some node) × (load i lines n ≡ node.capacity))
    × ((l : Line) (d : Choice) → Contains lines l → IsTrue (is_under i n l)
    → Has i l.group l.place d → IsAtLeast d.score l.group d.pool c.score g c.pool)

-- feasible: lines stand in the order of their groups and places, each has a unit at least and a
-- place that there is, and nothing is above its bound
abbrev pub IsAhead : Line → Line → Type 0
IsAhead a b = (a.group < b.group) ⊎ ((a.group ≡ b.group) × (a.place < b.place))

pub record IsFeasible (i : Instance) (lines : List Line) : Type 0 where
  pub order : AllPairs IsAhead lines
  pub some : All (λ l. 0 < l.units) lines
  pub there : (l : Line) → Contains lines l → (c : Choice) × Has i l.group l.place c
  pub demands : (g : ℕ) (x : Group) → slice_get i.groups g ≡ Some x → placed lines g ≤ x.demand
  pub capacities : (n : ℕ) (x : Node) → slice_get i.nodes n ≡ Some x → load i lines n ≤ x.capacity
  pub limits : (g k : ℕ) (c : Choice) → Has i g k c → amount lines g k ≤ c.limit

-- good: and for each pool that a group would rather use it names what refuses, and nothing else
pub record IsGood (i : Instance) (lines : List Line) (names : List Name) : Type 0 where
  pub feasible : IsFeasible i lines
  pub named : (g k : ℕ) (c : Choice) → Has i g k c → Wants i lines g k → (by : Option ℕ)
      × Contains names (record { group = g; place = k; node = by }) × Refuses i lines g k c by
  pub no_more : (x : Name) → Contains names x → (c : Choice) × Has i x.group x.place c
      × Wants i lines x.group x.place × Refuses i lines x.group x.place c x.node

-- the best of some maps: of all good ones among them none has more of any group up to any place
abbrev pub IsBestOf : Instance → (List Line → Type 0) → List Line → Type 0
IsBestOf i P lines =
    P lines × ((other : List Line) (names : List Name) → IsGood i other names → P other
    → (g k : ℕ) (c : Choice) → Has i g k c → through other g k ≤ through lines g k)

-- 2. CHANGES. What repair makes of a map whose numbers change is said of maps alone.

-- The trees that a change reaches are the least set with: each tree where a capacity differs; each
-- where a group with a lowered demand has units; and with a tree in which a group would rather have
-- units, each tree in which it has some.
abbrev pub HoldsIn : Instance → List Line → ℕ → ℕ → Type 0
HoldsIn i lines g root = (l : Line) × (c : Choice) × Contains lines l × (l.group ≡ g)
    × Has i g l.place c × (tree i c.pool ≡ root)

abbrev pub WantsIn : Instance → List Line → ℕ → ℕ → Type 0
WantsIn i lines g root =
    (k : ℕ) × (c : Choice) × Has i g k c × (tree i c.pool ≡ root) × Wants i lines g k

pub record AreClosed (old new : Instance) (lines : List Line) (trees : ℕ → Bool) : Type 0 where
  pub capacity : (n : ℕ) (x y : Node) → slice_get old.nodes n ≡ Some x →
      slice_get new.nodes n ≡ Some y → y.capacity ≢ x.capacity → IsTrue (trees (tree old n))
  pub lowered : (g root : ℕ) (x y : Group) → slice_get old.groups g ≡ Some x →
      slice_get new.groups g ≡ Some y → y.demand < x.demand →
      HoldsIn old lines g root → IsTrue (trees root)
  pub wanting : (g from to : ℕ) → IsTrue (trees from) → WantsIn old lines g from →
      HoldsIn old lines g to → IsTrue (trees to)

abbrev pub IsReached : Instance → Instance → List Line → ℕ → Type 0
IsReached old new lines root =
    (trees : ℕ → Bool) → AreClosed old new lines trees → IsTrue (trees root)

-- It can spread to the least set with these, the trees of each list of a group with a raised
-- demand, and with one tree of a list all of that list.
pub record AreSpread (old new : Instance) (lines : List Line) (trees : ℕ → Bool) : Type 0 where
  pub reached : (root : ℕ) → IsReached old new lines root → IsTrue (trees root)
  pub raised : (g k : ℕ) (c : Choice) (x y : Group) → slice_get old.groups g ≡ Some x → slice_get
      new.groups g ≡ Some y → x.demand < y.demand → Has old g k c → IsTrue (trees (tree old c.pool))
  pub lists : (g k j : ℕ) (c d : Choice) → Has old g k c → Has old g j d →
      IsTrue (trees (tree old c.pool)) → IsTrue (trees (tree old d.pool))

abbrev pub IsSpread : Instance → Instance → List Line → ℕ → Type 0
IsSpread old new lines root =
    (trees : ℕ → Bool) → AreSpread old new lines trees → IsTrue (trees root)

-- A place that a group does not get back: it would rather have had it before, and the change
-- reaches neither its tree nor that of a better place. A map that gives no group more at such a
-- place than it had there; the best of those is the repaired one, which is as before where the
-- change does not spread to.
abbrev pub IsLeft : Instance → Instance → List Line → ℕ → ℕ → Type 0
IsLeft old new lines g k = Wants old lines g k × ((j : ℕ) (c : Choice) → j ≤ k → Has old g j c →
    IsReached old new lines (tree old c.pool) → ⊥)

abbrev pub IsWithin : Instance → Instance → List Line → List Line → Type 0
IsWithin old new lines other = (g k : ℕ) (c : Choice) → Has old g k c →
    IsLeft old new lines g k → amount other g k ≤ amount lines g k

pub record IsRepaired (old new : Instance) (lines repaired : List Line) : Type 0 where
  pub best : IsBestOf new (IsWithin old new lines) repaired
  pub local : (g k : ℕ) (c : Choice) → Has old g k c →
      (IsSpread old new lines (tree old c.pool) → ⊥) → amount repaired g k ≡ amount lines g k

-- a batch sets demands and capacities, by the last change of each, and leaves lists and trees
abbrev pub IsAlike : Instance → Instance → Type 0
IsAlike old new =
    (map (λ (g : Group). g.choices) new.groups ≡ map (λ (g : Group). g.choices) old.groups)
    × (map (λ (n : Node). n.parent) new.nodes ≡ map (λ (n : Node). n.parent) old.nodes)

abbrev pub last_of : (Change → Option ℕ) → List Change → ℕ → ℕ
last_of of batch old = unwrap_or (last_or None (filter_map of batch)) old

pub record IsSet (old : Instance) (batch : List Change) (new : Instance) : Type 0 where
  pub alike : IsAlike old new
  pub demands : (g : ℕ) (x y : Group) → slice_get old.groups g ≡ Some x →
      slice_get new.groups g ≡ Some y → y.demand ≡ last_of (demand_by g) batch x.demand
  pub capacities : (n : ℕ) (x y : Node) → slice_get old.nodes n ≡ Some x →
      slice_get new.nodes n ≡ Some y → y.capacity ≡ last_of (capacity_by n) batch x.capacity

-- 3. HISTORIES. A version is a map with its number, its instance and its topology. This one is
-- number n over topology t: it is good, for t's trees and lists with numbers of its own.
pub record IsMap (t : Plan) (n : ℕ) (v : Version) : Type 0 where
  pub number : v.serial ≡ n
  pub topology : v.plan ≡ t
  pub alike : IsAlike (instance t.market) (instance v.market)
  pub good : IsGood (instance v.market) (map line v.lines) (map name v.names)

-- all of these are, by their numbers from 0; where there is no topology, there are none
abbrev pub AreMaps : Option Plan → List Version → Type 0
AreMaps None maps = maps ≡ []
AreMaps (Some t) maps = (n : ℕ) (v : Version) → slice_get maps n ≡ Some v → IsMap t n v

-- the first map has the topology's numbers, and of all good maps it is the best; each later one is
-- the repaired map of the one before it, for the numbers of some batch
abbrev pub IsFirst : Plan → Version → Type 0
IsFirst t v =
    (v.market ≡ t.market) × IsBestOf (instance v.market) (λ _. Unit {0}) (map line v.lines)

pub record IsNext (v : Version) (batch : List Change) (w : Version) : Type 0 where
  pub numbers : IsSet (instance v.market) batch (instance w.market)
  pub repaired :
      IsRepaired (instance v.market) (instance w.market) (map line v.lines) (map line w.lines)

abbrev pub IsHistory : Option Plan → List Version → Type 0
IsHistory None maps = maps ≡ []
IsHistory (Some t) [] = Unit {0}
IsHistory (Some t) (v ∷ maps) = IsFirst t v × ((n : ℕ) (x y : Version) → slice_get (v ∷ maps) n ≡
    Some x → slice_get (v ∷ maps) (n + 1) ≡ Some y → (batch : List Change) × IsNext x batch y)

-- 4. REPLIES. A worker is told of the map of a number; a message comes, and a reply is tried; one
-- comes that has no reply; one comes that has one, and the worker finds no map to look at. With a
-- message stands the number of the newest map that the worker knew when it asked for it. By its
-- draw, made of its own number and the message's, a reply picks a unit.
abbrev pub draw : ℕ → ℕ → ℕ
draw w n = ((n + 1) * 11400714819323198485 + w * 2 ^ 60) % 2 ^ 64

-- the reply goes back to who sent the message, and is the stated one, with that draw, of one of
-- the maps: the one whose number it has
pub record IsReply (by : Way) (maps : List Version) (d : ℕ) (p : Packet) (r : Try) : Type 0 where
  pub to : r.to ≡ p.from
  pub map : Version
  pub is_map : slice_get maps r.serial ≡ Some map
  pub octets : reply_of map p.from.addr p.octets d by ≡ Some r.octets

-- what happens to worker w is right, from its message n on, where `newest` is the newest map that
-- it used or was told of: it knows no older one, and no reply is of an older one than it knows.
-- Of a message at which it found no map nothing is said
abbrev pub AreRight : Way → List Version → ℕ → ℕ → ℕ → List Event → Type 0
AreRight by maps w n newest [] = Unit {0}
AreRight by maps w n newest (told m ∷ events) = AreRight by maps w n (max newest m) events
AreRight by maps w n newest (replied known p r ∷ events) =
    (newest ≤ known) × (known ≤ r.serial) × IsReply by maps (draw w n) p r
    × AreRight by maps w ((n + 1) % 2 ^ 64) r.serial events
AreRight by maps w n newest (silent known p ∷ events) = (newest ≤ known)
    × ((v : Version) (any : ℕ) → reply_of v p.from.addr p.octets any by ≡ None)
    × AreRight by maps w ((n + 1) % 2 ^ 64) known events
AreRight by maps w n newest (missed known p ∷ events) = AreRight by maps w n newest events

-- the numbers of notes; and when a worker was given one: an answer of its port is behind a note if at
-- least as many answers came before it, from a first one on, as None answers before the note (each
-- turn has a None, and behind it an answer). A count that reached its type's end tells nothing.
abbrev pub numbers : List Given → List ℕ
numbers notes = map (λ (g : Given). g.number) notes

abbrev pub IsBehind : ℕ → Given → ℕ → Type 0
IsBehind first g place = (first + g.place ≤ place) × (place < 2 ^ 64 - 1)

-- A worker minds the notes: at each of these answers, of which each has its place and what the
-- worker knew when it asked for it, it knew no older map than that of any note that it is behind.
abbrev pub AreMinded : ℕ → List Given → List (ℕ × ℕ) → Type 0
AreMinded first notes answers = (g : Given) (place known : ℕ) → Contains notes g →
    Contains answers (place, known) → IsBehind first g place → g.number ≤ known

-- A worker, over the maps that were published and further ones. Those are good too, and there are
-- none at status 0, nor where no fault of the worker's door (its way to the newest map) was counted
-- and the door showed no number past the published maps. The worker was told of the first maps, each
-- once and in their order: of those that the lane tells. At status 0 no message that has a reply
-- stays without.
pub record IsWorker {T : Type 0} (by : Way) (w : ℕ) (t : Option Plan) (maps : List Version)
    (result : Status) (before after : ServerTold T) (events : List Event) : Type 0 where
  pub further : List Version
  pub good : AreMaps t (maps ++ further)
  pub none : result ≡ status.Ok → further ≡ []
  pub cause :
      (further ≡ []) ⊎ Rose before.door_faults after.door_faults ⊎ (length maps ≤ after.greatest)
  pub right : AreRight by (maps ++ further) w 0 0 events
  pub notes : (events ≡ []) ⊎ ((flat_map heard events ≡ numbers after.notes.given)
      × (numbers after.notes.given ≡ range_with_len 0 (length after.notes.given)))
  pub answered : result ≡ status.Ok → flat_map lost events ≡ []

-- where each reply was tried, if right behind its message: one more answer of the port than ahead
abbrev pub places_of : List Event → List Taken → List ℕ
places_of [] taken = []
places_of (told n ∷ events) taken = places_of events taken
places_of (replied known p r ∷ events) (x ∷ taken) = raised x.place 1 ∷ places_of events taken
places_of (silent known p ∷ events) (x ∷ taken) = places_of events taken
places_of (missed known p ∷ events) (x ∷ taken) = places_of events taken
places_of _ [] = []

-- a worker for datagrams: those that its port tells of, what it says that the worker knew at each,
-- and the replies, behind the earlier ones, are these; each reply was tried right behind its
-- message, ahead of the port's next answer; and at each message the worker minded its notes
pub record IsLane (w : ℕ) (t : Option Plan) (maps : List Version) (result : Status)
    (before after : LaneTold) : Type 0 where
  pub events : List Event
  pub worker : IsWorker way.Datagram w t maps result before after events
  pub messages : BothTell before.port after.port (λ b a. map (λ (x : Taken). x.packet) a.taken
      ≡ map (λ (x : Taken). x.packet) b.taken ++ flat_map came events)
  pub known : BothTell before.port after.port (λ b a. map (λ (x : Taken). x.known) a.taken
      ≡ map (λ (x : Taken). x.known) b.taken ++ flat_map knew events)
  pub replies : BothTell before.port after.port (λ b a. a.tries ≡ b.tries ++ flat_map tried events)
  pub order : BothTell before.port after.port (λ b a. (new : List Taken)
      × (a.taken ≡ b.taken ++ new) × (a.places ≡ b.places ++ places_of events new)
      × AreMinded b.recvs after.notes.given (map (λ (x : Taken). (x.place, x.known)) new))

-- a piece that was read of a conversation, and the messages that were taken with it
pub record Round : Type 0 where
  pub piece : Piece
  pub messages : List Message

abbrev pub octets_of : List Message → List ℕ
octets_of messages = flat_map (λ (m : Message). framed m.packet.octets) messages

-- what was held and a piece are its messages, each behind its length, and what is held then; at
-- each of them the worker knew no older map than when it asked for the piece
abbrev pub AreRounds : List ℕ → List Round → Type 0
AreRounds held [] = Unit {0}
AreRounds held (r ∷ rounds) =
    (more : List ℕ) × (held ++ r.piece.octets ≡ octets_of r.messages ++ more)
    × All (λ (m : Message). r.piece.known ≤ m.known) r.messages × AreRounds more rounds

-- a conversation, and what was taken of it and replied: its pieces have these messages from its
-- peer; the replies all go to that peer and, each behind its length, were written to the
-- conversation, up to some octet
pub record IsTalk (t : Talk) (messages : List Message) (replies : List Try) : Type 0 where
  pub from : All (λ (m : Message). m.packet.from ≡ t.peer) messages
  pub to : All (λ (r : Try). r.to ≡ t.peer) replies
  pub rounds : List Round
  pub pieces : t.pieces ≡ map (λ (r : Round). r.piece) rounds
  pub messages_are : messages ≡ flat_map (λ (r : Round). r.messages) rounds
  pub read : AreRounds [] rounds
  pub cut : ℕ
  pub written : t.written ≡ take cut (flat_map (λ (r : Try). framed r.octets) replies)

pub record Share : Type 0 where
  pub messages : List Message
  pub replies : List Try

abbrev pub AreTalks : List Talk → List Share → Type 0
AreTalks [] shares = shares ≡ []
AreTalks (t ∷ talks) [] = ⊥
AreTalks (t ∷ talks) (s ∷ shares) = IsTalk t s.messages s.replies × AreTalks talks shares

-- the conversations behind the earlier ones, if none was open: what was taken and replied, one
-- conversation after another, is this; and at each piece of them the worker minded these notes
abbrev pub HaveTalked :
    List Message → List Try → List Given → StreamsTold → StreamsTold → Type 0
HaveTalked messages replies notes before after = before.current ≡ None → (talks : List Talk)
    × (shares : List Share) × (after.closed ≡ before.closed ++ talks) × AreTalks talks shares
    × (flat_map (λ (s : Share). s.messages) shares ≡ messages)
    × (flat_map (λ (s : Share). s.replies) shares ≡ replies)
    × AreMinded before.answers notes (map (λ (x : Piece). (x.place, x.known))
    (flat_map (λ (t : Talk). t.pieces) talks))

-- the worker for conversations
pub record IsStreamLane (w : ℕ) (t : Option Plan) (maps : List Version) (result : Status)
    (before after : StreamLaneTold) : Type 0 where
  pub events : List Event
  pub worker : IsWorker way.Stream w t maps result before after events
  pub talks : BothTell before.port after.port
      (HaveTalked (flat_map taken events) (flat_map tried events) after.notes.given)
