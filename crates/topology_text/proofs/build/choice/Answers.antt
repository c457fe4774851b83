use Rattle.std.proofs.Common.{◌<◌, ◌^◌, sym, subst, length, arith}
use Rattle.toml.specs.View.{view}
use Rattle.toml.specs.declared.value.Value.{Value}
use Rattle.topology_text.specs.Topology.{natural}
use Rattle.topology_text.proofs.Rows.{score_at}
use Rattle.topology_text.proofs.build.choice.Goals as goal

pub overflow_cast-result-2 : goal.overflow_cast-result-2
overflow_cast-result-2 c =
    let l : c.args.place < length c.args.scores.now = omega (arith, c.requires.beside, c.requires.place) in
    let fits : natural (view c.index-scores-place.result) < 2 ^ 32 = subst (λ (s : Value). natural (view s) < 2 ^ 32) (sym c.index-scores-place.is) (score_at c.args.scores.now c.args.place c.index-scores-place.result c.requires.scores l) in
    omega (arith, fits, c.natural-score.ensures)
