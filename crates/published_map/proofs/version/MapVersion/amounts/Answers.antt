use Rattle.std.proofs.Common.{rules, ◌≡◌, ◌<◌, ◌≤◌, ℕ, List, [], ◌∷◌, length, arith, refl, sym, subst, ap, ap₂, ◌∙◌, sum_by, map}
use Rattle.std.specs.Prelude.{sum}
use Rattle.std.specs.Arc.{arc_value}
use Rattle.std.specs.List.{range_with_len}
use Rattle.map_model.specs.Allocation.{amount_at}
use Rattle.map_model.specs.Market.{choices_of}
use Rattle.published_map.specs.Kept.{version}
use Rattle.published_map.specs.Shared.{plan_of}
use Rattle.published_map.specs.Version.{Version, IsVersion, amounts_of}
use Rattle.published_map.proofs.Rows.{length-demands}
use Rattle.published_map.proofs.Sums.{at_place, placed_row, amount_row}
use Rattle.published_map.proofs.Totals.{placed_fits, total}
use Rattle.published_map.proofs.version.MapVersion.amounts.Goals as goal

agree : {X Y : Type 0} (f h : X → Y) → ((x : X) → f x ≡ h x) → (xs : List X) → map f xs ≡ map h xs
agree f h same [] = refl
agree f h same (x ∷ xs) = ap₂ (λ y ys. y ∷ ys) (same x) (agree f h same xs)

pub amounts-requires : goal.amounts-requires
amounts-requires c =
    let gs = (plan_of (arc_value c.self.inside.shared)).market.groups in
    let rows = c.self.inside.rows.items in
    let v : Version = version c.self.inside in
    let g = c.args.group.0 in
    let lt : g < length v.market.groups = subst (λ (w : Version). g < length w.market.groups) (sym c.self.view_is) c.requires.group in
    let inside : g < length rows = omega (arith, lt, length-demands gs rows, c.self.invariant.rows) in
    let is : IsVersion v = subst IsVersion (sym c.self.view_is) c.requires.version in
    let own = placed_row rows g c.index.result.now inside in
    let fits = placed_fits v g is lt in
    let few : length (choices_of v.market g) ≤ 16 = (is.market.groups g _ lt).few in
    let same : length (choices_of v.market g) ≡ length (choices_of (plan_of (arc_value c.self.inside.shared)).market g) = ap length (is.shape.lists g) in
    let len : c.list_len-places.result ≡ length (choices_of (plan_of (arc_value c.self.inside.shared)).market g) = search rules in
    (rw (c.as_slice.ensures.value, c.index.ensures) (omega (arith, own, fits)), omega (arith, few, same, len))

-- the amounts are those of the version
items : (c : goal.After-amounts) → c.amounts.result.items ≡ amounts_of c.args.self.now c.args.group.0
items c =
    let gs = (plan_of (arc_value c.self.inside.shared)).market.groups in
    let rows = c.self.inside.rows.items in
    let v : Version = version c.self.inside in
    let g = c.args.group.0 in
    let lt : g < length v.market.groups = subst (λ (w : Version). g < length w.market.groups) (sym c.self.view_is) c.requires.group in
    let inside : g < length rows = omega (arith, lt, length-demands gs rows, c.self.invariant.rows) in
    let is : IsVersion v = subst IsVersion (sym c.self.view_is) c.requires.version in
    let same : length (choices_of v.market g) ≡ length (choices_of (plan_of (arc_value c.self.inside.shared)).market g) = ap length (is.shape.lists g) in
    let len : c.list_len-places.result ≡ length (choices_of (plan_of (arc_value c.self.inside.shared)).market g) = search rules in
    let own : c.as_slice.result.now ≡ c.index.result.now.amounts.items = c.as_slice.ensures.value in
    let each : (k : ℕ) → sum_by (at_place k) c.as_slice.result.now ≡ amount_at v.lines g k = λ k. ap (λ xs. sum_by (at_place k) xs) (own ∙ ap (λ r. r.amounts.items) c.index.ensures) ∙ sym (amount_row rows g k c.index.result.now inside) in
    rw (← c.self.view_is) (c.amounts.ensures ∙ (agree (λ k. sum_by (at_place k) c.as_slice.result.now) (amount_at v.lines g) each (range_with_len 0 c.list_len-places.result) ∙ ap (λ n. map (amount_at v.lines g) (range_with_len 0 n)) (len ∙ sym same)))

pub returns-clause-amounts : goal.returns-clause-amounts
returns-clause-amounts c = items c

pub returns-clause-total : goal.returns-clause-total
returns-clause-total c = ap sum (items c) ∙ total c.args.self.now c.args.group.0 c.requires.version

pub returns-clause-fits : goal.returns-clause-fits
returns-clause-fits c = omega (arith, ap sum (items c), total c.args.self.now c.args.group.0 c.requires.version, placed_fits c.args.self.now c.args.group.0 c.requires.version c.requires.group)
