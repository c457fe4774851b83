use Rattle.std.proofs.Common.{ℕ, List, ◌++◌, ap, sym, ◌∙◌}
use Rattle.std.specs.List.{flat_map, range_with_len}
use Rattle.place_counts.specs.Places.{place_line, units_at}
use Rattle.place_counts.proofs.Counts.{pieces_more}
use Rattle.place_counts.proofs.writing.write_places.Goals as goal

pub loop-place-preserved : goal.loop-place-preserved
loop-place-preserved c =
    let piece : ℕ → List ℕ = λ k. place_line k (units_at c.args.instance.now c.args.state.now.lines k) in
    let p = c.loop-place.place in
    let pieces : List ℕ = flat_map piece (range_with_len 0 p) in
    c.in_ok-push_place.ensures ∙ ap (λ (xs : List ℕ). xs ++ place_line p c.units_at-units.result) c.loop-place.invariant ∙ ap (λ u. pieces ++ place_line p u) c.units_at-units.ensures ∙ sym (pieces_more piece p)
