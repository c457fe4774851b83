-- Two runs of `large` over the world of so many groups find the same.
use Rattle.std.proofs.Common.{◌≡◌, List, [], ◌∷◌, ◌++◌, sym, ap, ◌∙◌, subst}
use Rattle.std.specs.Prelude.{Result, Ok}
use Rattle.map_model.specs.declared.change.Change.{Change}
use Rattle.map_model.specs.Market.{IsMarket}
use Rattle.topology_text.specs.Plan.{Plan}
use Rattle.topology_text.specs.Faults.{reading}
use Rattle.topology_text.specs.declared.fault.TopologyFault.{TopologyFault}
use Rattle.text_parts.specs.Parts.{whole_lines}
use Rattle.demand_feed.specs.Task.{Task, refused, batch, empty, spoiled, query, totals, tasks}
use Rattle.demand_feed.specs.Taking.{AllDo}
use Rattle.published_map.specs.Version.{Version}
use Rattle.map_cell.specs.Ends.{PublisherState}
use Rattle.mapper.specs.Mappers.{IsFirst, IsPublished}
use Rattle.mapper.proofs.Agree.{first_one, next_one}
use Rattle.big_world.specs.Feed.{feed_of}
use Rattle.big_world.specs.Topology.{topology_of}
use Rattle.big_run.specs.Publishing.{TaskPublishes}
use Rattle.big_run.specs.Runs.{summary_of}
use Rattle.glb.specs.Laws.{SummariesAgree, with_proposals}
use Rattle.glb.proofs.Plans.{bytes_are_plan}

state_is : (a b : PublisherState) → a.history ≡ b.history → a.newest ≡ b.newest → a ≡ b
state_is a b histories newest = ap (λ (h : List Version). record { history = h; newest = a.newest }) histories ∙ ap (λ (v : Version). record { history = b.history; newest = v }) newest

-- mappers that were opened for one topology have published the same
opened_one : (t : Plan) → IsMarket t.market → (a b : PublisherState) → IsFirst t a → IsFirst t b → a ≡ b
opened_one t market a b x y =
    let e : a.newest ≡ b.newest = first_one t market a b x y in
    state_is a b (x.history ∙ ap (λ (v : Version). v ∷ []) e ∙ sym y.history) e

-- what a batch publishes is one
published_one : (old a b : PublisherState) (changes : List Change) → IsPublished old changes a → IsPublished old changes b → a ≡ b
published_one old a b changes x y =
    let e : a.newest ≡ b.newest = next_one old.newest a.newest b.newest changes x.next y.next in
    state_is a b (x.history ∙ ap (λ (v : Version). old.history ++ v ∷ []) e ∙ sym y.history) e

task_one : (task : Task) (old a b : PublisherState) → TaskPublishes task old a → TaskPublishes task old b → a ≡ b
task_one (refused number why) old a b x y = x ∙ sym y
task_one (batch changes) old a b x y = published_one old a b changes x y
task_one empty old a b x y = x ∙ sym y
task_one (spoiled lines) old a b x y = x ∙ sym y
task_one (query addr octets) old a b x y = x ∙ sym y
task_one totals old a b x y = x ∙ sym y

-- and so is what tasks leave
left_one : (ts : List Task) (old a b : PublisherState) → AllDo TaskPublishes ts old a → AllDo TaskPublishes ts old b → a ≡ b
left_one [] old a b x y = x ∙ sym y
left_one (task ∷ ts) old a b (mid, first, rest) (other, also, more) =
    let e : mid ≡ other = task_one task old mid other first also in
    left_one ts other a b (subst (λ (m : PublisherState). AllDo TaskPublishes ts m a) e rest) more

ok_one : (a b : Plan) (read : Result Plan TopologyFault) → read ≡ Ok a → read ≡ Ok b → a ≡ b
ok_one a b read x y = cc

pub summaries_agree : SummariesAgree
summaries_agree n a b x y =
    x.sums ∙ ap (λ (t : Plan). summary_of n t x.last a.proposals) topology ∙ ap (λ (m : PublisherState). summary_of n y.topology m a.proposals) last ∙ sym (ap (with_proposals a.proposals) y.sums)
  where
    topology : x.topology ≡ y.topology
    topology = ok_one x.topology y.topology (reading (topology_of n)) x.reads y.reads

    first : x.first ≡ y.first
    first = opened_one y.topology (bytes_are_plan (topology_of n) y.topology y.reads).market x.first y.first (subst (λ (t : Plan). IsFirst t x.first) topology x.is_first) y.is_first

    batches : AllDo TaskPublishes (tasks y.topology (whole_lines (feed_of n))) y.first x.last
    batches = subst (λ (m : PublisherState). AllDo TaskPublishes (tasks y.topology (whole_lines (feed_of n))) m x.last) first (subst (λ (t : Plan). AllDo TaskPublishes (tasks t (whole_lines (feed_of n))) x.first x.last) topology x.batches)

    last : x.last ≡ y.last
    last = left_one (tasks y.topology (whole_lines (feed_of n))) y.first x.last y.last batches y.batches
