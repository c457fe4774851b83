use Rattle.std.proofs.Common.{ℕ, ◌+◌, ◌<◌, ◌≢◌, Bool, true, false, length, refl, ◌∙◌, ◌≡◌, ◌-◌, ◌==◌, ◌&&◌, inl, inr, arith, subst, sym}
use Rattle.std.proofs.lemmas.Bool.{cases_eq, ne_eqb}
use Rattle.map_model.specs.Market.{Market, choices_of}
use Rattle.map_model.specs.Allocation.{amount_at}
use Rattle.map_model.proofs.MapForm.{offers-AreLines}
use Rattle.reopen.proofs.Lessening.{less_itself, less_trans, placed_none, sums_itself, sums_trans, trimmed_none}
use Rattle.reopen.proofs.cutting.trim_places.Goals as goal

and_false_right : (a b : Bool) → b ≡ false → (a && b) ≡ false
and_false_right true b e = e
and_false_right false b e = refl

pub returns-then-placed-demand-clause-less : goal.returns-then-placed-demand-clause-less
returns-then-placed-demand-clause-less c = less_itself c.args.instance.now c.args.state.now c.requires.can

pub returns-then-placed-demand-clause-sums : goal.returns-then-placed-demand-clause-sums
returns-then-placed-demand-clause-sums c = sums_itself c.args.state.now

pub returns-then-placed-demand-clause-trimmed : goal.returns-then-placed-demand-clause-trimmed
returns-then-placed-demand-clause-trimmed c = trimmed_none c.args.instance.now c.args.group.0 c.args.state.now.lines

pub loop-step-preserved : goal.loop-step-preserved
loop-step-preserved c =
    let m : Market = c.args.instance.now in
    let s = c.loop-step.state in
    let i = c.loop-step.invariant in
    let e = c.trim_place.ensures in
    let g = c.args.group.0 in
    let p = c.list_len-len.result - 1 - c.loop-step.step in
    let there : p + 1 + c.loop-step.step ≡ length (choices_of m g) = omega (arith, c.list_len-len.ensures, c.loop-step-test.true) in
    let apart : (k : ℕ) → k ≢ p → amount_at c.trim_place.new.state.lines g k ≡ amount_at s.lines g k = λ k ne. e.others (λ h j. (h == g) && (j == k)) (and_false_right (g == g) (p == k) (ne_eqb p k (λ x. ne (sym x)))) in
    record {
      below = λ k o low. apart k (λ is. absurd (omega (arith, is, low, there))) ∙ i.below k o (omega (arith, low));
      trimmed = record {
        last = λ j k o later less. elim (cases_eq j p) [
          | inl is ↦
              let fewer : amount_at c.trim_place.new.state.lines g p < amount_at c.args.state.now.lines g p = subst (λ x. amount_at c.trim_place.new.state.lines g x < amount_at c.args.state.now.lines g x) is less in
              let was : amount_at s.lines g p ≡ amount_at c.args.state.now.lines g p = i.below p (record { group = o.group; place = omega (arith, there) }) (omega (arith, there)) in
              let over = e.over (omega (arith, fewer, was)) in
              elim i.done [
                | inl fits ↦ absurd (omega (arith, fits, over))
                | inr none ↦ omega (arith, e.less.fewer (λ h x. (h == g) && (x == k)), none k o (omega (arith, later, is, there)))
              ]
          | inr ne ↦ omega (arith, e.less.fewer (λ h x. (h == g) && (x == k)), i.trimmed.last j k o later (omega (arith, less, apart j ne)))
        ];
        enough = λ k o less. elim (cases_eq k p) [
          | inl is ↦
              let fewer : amount_at c.trim_place.new.state.lines g p < amount_at c.args.state.now.lines g p = subst (λ x. amount_at c.trim_place.new.state.lines g x < amount_at c.args.state.now.lines g x) is less in
              let was : amount_at s.lines g p ≡ amount_at c.args.state.now.lines g p = i.below p (record { group = o.group; place = omega (arith, there) }) (omega (arith, there)) in
              let over = e.over (omega (arith, fewer, was)) in
              e.enough (omega (arith, over))
          | inr ne ↦ e.enough (i.trimmed.enough k o (omega (arith, less, apart k ne)))
        ];
      };
      elsewhere = λ test none. e.others test (none p) ∙ i.elsewhere test none;
      less = less_trans m c.args.state.now s c.trim_place.new.state i.less e.less;
      sums = sums_trans c.args.state.now s c.trim_place.new.state i.less.count i.sums e.sums;
      done = elim i.done [
        | inl fits ↦ inl (omega (arith, e.less.fewer (λ h _. h == g)))
        | inr none ↦ elim e.done [
          | inl fits ↦ inl fits
          | inr here ↦ inr (λ k o high. elim (cases_eq k (c.list_len-len.result - 1 - c.loop-step.step)) [
            | inl is ↦ subst (λ x. amount_at c.trim_place.new.state.lines g x ≡ 0) (sym is) here
            | inr ne ↦ omega (arith, e.less.fewer (λ h j. (h == g) && (j == k)), none k o (omega (arith, ne, c.list_len-len.ensures, o.place)))
          ])
        ]
      ];
    }

pub returns-clause-fits : goal.returns-clause-fits
returns-clause-fits c =
    let m : Market = c.args.instance.now in
    let s = c.loop-step.state in
    let i = c.loop-step.invariant in
    elim i.done [
      | inl fits ↦ fits
      | inr none ↦ omega (arith, placed_none m s.lines c.args.group.0 (offers-AreLines m s.lines i.less.form) (λ k o. none k o (omega (arith, c.loop-step-test.false, c.list_len-len.ensures))))
    ]
