use Rattle.std.proofs.Common.{◌++◌, ◌∷◌, [], List, map, ap, sym, ◌∙◌, arith}
use Rattle.std.specs.List.{range_with_len}
use Rattle.std.proofs.lemmas.List.FromFn.{map-range_with_len_more}
use Rattle.toml.specs.View.{view}
use Rattle.map_model.specs.declared.instance.Choice.{Choice}
use Rattle.topology_text.specs.Code.{entries}
use Rattle.topology_text.specs.Topology.{choice_in}
use Rattle.topology_text.proofs.build.choices.Goals as goal

pub loop-place-preserved : goal.loop-place-preserved
loop-place-preserved c =
    c.in_ok-push.ensures.items ∙ ap (λ (xs : List Choice). xs ++ c.choice.result ∷ []) c.loop-place.invariant
    ∙ ap (λ (x : Choice). map (choice_in (entries c.args.index.now).nodes (map view c.args.pools.now) (map view c.args.scores.now) (map view c.args.limits.now)) (range_with_len 0 c.loop-place.place) ++ x ∷ []) c.choice.ensures
    ∙ sym (map-range_with_len_more (choice_in (entries c.args.index.now).nodes (map view c.args.pools.now) (map view c.args.scores.now) (map view c.args.limits.now)) 0 c.loop-place.place c.loop-place.place (omega arith))
