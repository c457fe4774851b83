use Rattle.std.proofs.Common.{◌≡◌, ◌++◌, AllPairs, map, subst, ap, sym, ◌∙◌}
use Rattle.std.proofs.lemmas.List.{map-append}
use Rattle.toml.specs.View.{view}
use Rattle.topology_text.specs.Topology.{name_of}
use Rattle.topology_text.proofs.NameLists.{distinct_first}
use Rattle.topology_text.proofs.parts.unit_names.Goals as goal

pub names-requires : goal.names-requires
names-requires c =
    let d = c.args.index.now in
    subst (λ vs. AllPairs (λ a b. a ≡ b → ⊥) (map name_of (map view vs))) (sym c.groups.ensures) (distinct_first (map view d.groups.now) (map view d.classes.now) c.requires)

pub push_names-requires : goal.push_names-requires
push_names-requires c =
    let gs = map view c.args.index.now.groups.now in
    let cs = map view c.args.index.now.classes.now in
    let keys = map (λ v. v.items) c.in_ok-names.names.keys in
    let same : map name_of (gs ++ cs) ≡ keys ++ map name_of (map view c.classes.result.now) =
    map-append name_of gs cs
    ∙ ap (λ xs. xs ++ map name_of cs) (sym (c.in_ok-names.ensures ∙ ap (λ vs. map name_of (map view vs)) c.groups.ensures))
    ∙ ap (λ vs. keys ++ map name_of (map view vs)) (sym c.classes.ensures) in
    subst (AllPairs (λ a b. a ≡ b → ⊥)) same c.requires
