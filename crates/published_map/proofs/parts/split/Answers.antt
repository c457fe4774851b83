use Rattle.std.proofs.Common.{◌==◌, arith}
use Rattle.std.proofs.lemmas.List.Sums.{prefix_len-le-length}
use Rattle.map_model.specs.declared.lines.MapLine.{MapLine}
use Rattle.map_model.specs.declared.lines.NameLine.{NameLine}
use Rattle.published_map.proofs.parts.split.Goals as goal

pub split_at-requires : goal.split_at-requires
split_at-requires c = omega (arith, c.leading_lines.ensures, prefix_len-le-length (λ (l : MapLine). l.group.0 == c.args.group.0) c.args.part.lines.now)

pub split_at-requires-2 : goal.split_at-requires-2
split_at-requires-2 c = omega (arith, c.leading_names.ensures, prefix_len-le-length (λ (l : NameLine). l.group.0 == c.args.group.0) c.args.part.names.now)
