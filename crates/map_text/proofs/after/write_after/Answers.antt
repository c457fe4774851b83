use Rattle.std.proofs.Common.{ap, refl, sym, ◌∙◌}
use Rattle.std.specs.List.{flat_map}
use Rattle.map_text.specs.Cutting.{name_text, place_text}
use Rattle.map_text.specs.Writing.{mapped}
use Rattle.map_text.proofs.Pieces.{ahead_of_end, behind_header, end_fits, header_fits, taken_apart}
use Rattle.map_text.proofs.after.write_after.Goals as goal

pub write_over-requires-clause-places : goal.write_over-requires-clause-places
write_over-requires-clause-places c =
    let t = c.args.topology.now in
    let apart = taken_apart t (mapped c.args.old.now) c.args.old_text.now c.args.old_cuts.now.middle c.requires.old c.requires.old_cuts.middle in
    record {
      text = c.split_at-2.ensures.back ∙ behind_header _ _ (c.split_at.ensures.front ∙ apart.front) ∙ ap (flat_map (place_text t)) (sym c.as_slice.ensures.value);
      cuts = rw (c.as_slice.ensures.value, c.as_slice-2.ensures.value) c.requires.old_cuts.places;
    }

pub write_over-requires-clause-names : goal.write_over-requires-clause-names
write_over-requires-clause-names c =
    let t = c.args.topology.now in
    let apart = taken_apart t (mapped c.args.old.now) c.args.old_text.now c.args.old_cuts.now.middle c.requires.old c.requires.old_cuts.middle in
    record {
      text = c.split_at-3.ensures.front ∙ ahead_of_end _ _ _ (c.split_at.ensures.back ∙ apart.back) refl ∙ ap (flat_map (name_text t)) (sym c.as_slice-3.ensures.value);
      cuts = rw (c.as_slice-3.ensures.value, c.as_slice-4.ensures.value) c.requires.old_cuts.names;
    }

pub split_at-requires : goal.split_at-requires
split_at-requires c = (taken_apart c.args.topology.now (mapped c.args.old.now) c.args.old_text.now c.args.old_cuts.now.middle c.requires.old c.requires.old_cuts.middle).within

pub split_at-requires-2 : goal.split_at-requires-2
split_at-requires-2 c =
    let apart = taken_apart c.args.topology.now (mapped c.args.old.now) c.args.old_text.now c.args.old_cuts.now.middle c.requires.old c.requires.old_cuts.middle in
    header_fits _ _ (c.split_at.ensures.front ∙ apart.front)

pub overflow_sub-back : goal.overflow_sub-back
overflow_sub-back c =
    let apart = taken_apart c.args.topology.now (mapped c.args.old.now) c.args.old_text.now c.args.old_cuts.now.middle c.requires.old c.requires.old_cuts.middle in
    end_fits _ _ (c.split_at.ensures.back ∙ apart.back)
