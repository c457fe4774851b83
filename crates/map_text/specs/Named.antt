-- Inside this crate alone: the names of a topology as words, and rows that may be written.
use Rattle.std.specs.Prelude.{◌≡◌, List, IfSome, IsTrue}
use Rattle.std.specs.List.{All}
use Rattle.map_model.specs.declared.lines.MapLine.{MapLine}
use Rattle.map_model.specs.declared.lines.NameLine.{NameLine}
use Rattle.map_model.specs.Allocation.{IsOffer, is_by}
use Rattle.map_model.specs.Market.{Market}
use Rattle.topology_text.specs.Plan.{Plan}
use Rattle.map_text.specs.Writing.{name_at}
use Rattle.map_text.specs.declared.lexicon.GroupWord.{GroupWord}
use Rattle.map_text.specs.declared.lexicon.Lexicon.{Lexicon}

-- the words are the names of that topology's nodes
pub record HasWords (t : Plan) (lexicon : Lexicon) : Type 0 where
  pub nodes : lexicon.nodes.items ≡ t.node_names

-- the word is the name of that group of the topology, if it is of one
abbrev pub IsOwnWord : Plan → GroupWord → Type 0
IsOwnWord t own = IfSome own.group (λ g. own.word ≡ name_at t.group_names g.0)

-- lines of offers
abbrev pub AreOffers : Market → List MapLine → Type 0
AreOffers m lines = All (λ x. IsOffer m x.group.0 x.place) lines

-- what a name says is there
pub record IsNamed (m : Market) (x : NameLine) : Type 0 where
  pub offer : IsOffer m x.group.0 x.place
  pub by : IsTrue (is_by m x.by)

-- names of offers, and of what refuses them
abbrev pub AreNamed : Market → List NameLine → Type 0
AreNamed m names = All (IsNamed m) names
