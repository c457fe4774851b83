use Rattle.std.proofs.Common.{◌≡◌, ◌+◌, ◌++◌, [], false, Ok, map, ap, refl, subst, sym, ◌∙◌, slice_index_or}
use Rattle.std.specs.List.{cons_option, filter_map}
use Rattle.std.proofs.lemmas.List.{length-map}
use Rattle.std.proofs.Common.{arith, take, ℕ}
use Rattle.toml.specs.View.{view}
use Rattle.topology_text.specs.Code.{entries}
use Rattle.topology_text.specs.Names.{entry_at, is_paired, pair_of}
use Rattle.topology_text.proofs.RepeatedPairs.{AreFlagged, flagged_end, flagged_on}
use Rattle.topology_text.proofs.Rows.{entry_is}
use Rattle.topology_text.proofs.pairs.repeated_pairs.Goals as goal

pub loop-class-preserved : goal.loop-class-preserved
loop-class-preserved c =
    let f = pair_of (entries c.args.index.now) in
    let items = c.classes-class-items.result.now in
    let i = c.loop-class.class-index in
    let old = c.loop-class.seen.keys in
    let same : c.pair_of.result ≡ f (entry_at (map view items) i) = c.pair_of.ensures ∙ ap f (sym (entry_is items items i c.class-item.result refl c.class-item.is c.loop-class-test.true)) in
    subst (AreFlagged f (map view items) (i + 1) c.is_repeat.new.seen.keys) (sym c.in_ok-push.ensures.items)
    (flagged_on f (map view items) i old c.is_repeat.new.seen.keys c.loop-class.repeats.items c.in_ok-is_repeat.field-0 c.loop-class.invariant (omega (arith, c.loop-class-test.true, length-map items view))
    (c.in_ok-is_repeat.ensures.found ∙ ap (is_paired old) same)
    (λ t. c.is_repeat.ensures.kept (c.in_ok-is_repeat.was ∙ ap Ok t))
    (λ t. c.is_repeat.ensures.noted (c.in_ok-is_repeat.was ∙ ap Ok t) ∙ ap (λ o. old ++ cons_option o []) same))

pub returns : goal.returns
returns c =
    let f = pair_of (entries c.args.index.now) in
    let items = c.classes-class-items.result.now in
    subst (λ vs. (j : ℕ) → slice_index_or c.loop-class.repeats.items j false ≡ is_paired (filter_map f (take j (map view vs))) (f (entry_at (map view vs) j))) c.classes-class-items.ensures
    (flagged_end f (map view items) c.loop-class.class-index c.loop-class.seen.keys c.loop-class.repeats.items refl c.loop-class.invariant (omega (arith, c.loop-class-test.false, length-map items view)))
