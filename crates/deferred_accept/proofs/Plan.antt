-- Hops of so many units each, made one after another, are proposals.
use Rattle.std.proofs.Common.{◌≡◌, ℕ, zero, suc, ◌+◌, ◌<◌, ◌≤◌, ◌==◌, Bool, true, false, not, ◌&&◌, if◌then◌else◌, List, [], ◌∷◌, ◌++◌, length, map, take, slice_index, slice_index_or, All, IsSome, IsTrue, ◌⊎◌, refl, sym, ap, ◌∙◌, subst, inl, inr, arith}
use Rattle.std.proofs.lemmas.Bool.{and_parts, cases_Bool, cases_eq, eq-eqb, eqb-true, false≢true, ne_eqb}
use Rattle.std.proofs.lemmas.List.{get_or-map, get_or_append_left, length-map}
use Rattle.std.proofs.lemmas.List.Elements.{All-cons, All-nil, All-take}
use Rattle.std.proofs.lemmas.List.Sums.{sum_by-cons, sum_by-take-le, sum_by_more_le, sum_by_push}
use Rattle.std.proofs.Math.Nat.{min-eq_left}
use Rattle.std.proofs.Math.Seq.{take-suc}
use Rattle.map_model.specs.declared.lines.MapLine.{MapLine}
use Rattle.map_model.specs.Market.{Market, IsSameShape, capacity_of, choices_of, key_of, limit_of}
use Rattle.map_model.specs.Allocation.{AreLines, IsOffer, amount_at, counts_at, key_le, load, refusing_node, units_of}
use Rattle.map_model.specs.Holding.{under_worse}
use Rattle.map_model.proofs.Keys.{key_le_total}
use Rattle.evict.specs.declared.freed.Eviction.{Eviction}
use Rattle.evict.specs.declared.rival.Rival.{Rival}
use Rattle.evict.specs.Evictions.{IsEviction, freed_units, gave_up}
use Rattle.evict.specs.Standing.{IsPut, IsReady, Standing}
use Rattle.deferred_accept.specs.declared.circle.Hop.{Hop}
use Rattle.evict.proofs.Done.{gave_up_each}
use Rattle.deferred_accept.specs.Runs.{AreProposals, IsProposal, offered}
use Rattle.deferred_accept.specs.Turning.{IsHop, came, displaced, gone, hopper, raises}
use Rattle.deferred_accept.proofs.Amounts.{carried, moved}
use Rattle.deferred_accept.proofs.Exchange.{IsExchange, exchange_keeps, exchange_turned, refused_still}
use Rattle.deferred_accept.proofs.Nearest.{hop_better}
use Rattle.deferred_accept.proofs.Rounds.{sums-le, sums-none, sums-part, sums-same}

-- a hop lowers the load of a node: the offer that it displaces stands under the node, and its own does not
abbrev pub lowers : Market → ℕ → Hop → Bool
lowers m n hop = counts_at m n hop.rival.offer.group.0 hop.rival.offer.place && not (counts_at m n hop.offer.group.0 hop.offer.place)

-- Hops that may be made one after another from a state, of so many units each, which the group of the first one has free and the last one gives back to it. Each is a hop in that state; none changes the load at the full node of another, and no two change that of one node in different directions; at the end all is within capacity and within limits, and no offer gave up more than it held.
pub record IsPlan (m : Market) (s : Standing) (start : ℕ) (plan : List Hop) (x : ℕ) : Type 0 where
  pub ready : IsReady m s
  pub some : 0 < x
  pub hops : All (λ (h : Hop). IsHop m s h) plan
  pub linked : start ∷ map displaced plan ≡ map hopper plan ++ start ∷ []
  pub free : slice_index s.free start ≡ x
  pub idle : All (λ (h : Hop). (start ≡ hopper h → ⊥) → slice_index s.free (hopper h) ≡ 0) plan
  pub level : All (λ (f : Hop). All (λ (h : Hop). counts_at m f.rival.node.0 h.offer.group.0 h.offer.place ≡ counts_at m f.rival.node.0 h.rival.offer.group.0 h.rival.offer.place) plan) plan
  pub signs : (n : ℕ) → All (λ (h : Hop). raises m n h ≡ false) plan ⊎ All (λ (h : Hop). lowers m n h ≡ false) plan
  pub fits : (n : ℕ) → n < length m.nodes → load m s.lines n + came (counts_at m n) x plan ≤ capacity_of m n + gone (counts_at m n) x plan
  pub limits : (g k : ℕ) → IsOffer m g k → amount_at s.lines g k + came (λ h j. (h == g) && (j == k)) x plan ≤ limit_of m g k
  pub enough : All (λ (h : Hop). gone (λ g k. (g == h.rival.offer.group.0) && (k == h.rival.offer.place)) x plan ≤ amount_at s.lines h.rival.offer.group.0 h.rival.offer.place) plan

-- the group that has the units free after so many hops
abbrev pub carrier : ℕ → List Hop → ℕ → ℕ
carrier start plan n = slice_index (start ∷ map displaced plan) n

-- a state as if the first n hops of a plan had been made
pub record IsPlanned (m : Market) (s : Standing) (start : ℕ) (plan : List Hop) (x n : ℕ) (t : Standing) : Type 0 where
  pub whole : IsTrue t.is_whole
  pub shape : IsSameShape t.market m
  pub form : AreLines m t.lines
  pub pointers : t.pointers ≡ s.pointers
  pub count : length t.free ≡ length m.groups
  pub free : (h : ℕ) → h < length m.groups → slice_index t.free h + (if start == h then x else 0) ≡ slice_index s.free h + (if carrier start plan n == h then x else 0)
  pub held : (test : ℕ → ℕ → Bool) → units_of test t.lines + gone test x (take n plan) ≡ units_of test s.lines + came test x (take n plan)

-- what came and what went by one hop more
came-more : (test : ℕ → ℕ → Bool) (x : ℕ) (plan : List Hop) (n : ℕ) (d : Hop) → n < length plan
    → came test x (take (suc n) plan) ≡ came test x (take n plan) + (if test (slice_index_or plan n d).offer.group.0 (slice_index_or plan n d).offer.place then x else 0)
came-more test x plan n d l = ap (came test x) (take-suc plan n d l) ∙ sum_by_push (λ (h : Hop). if test h.offer.group.0 h.offer.place then x else 0) (take n plan) (slice_index_or plan n d)

gone-more : (test : ℕ → ℕ → Bool) (x : ℕ) (plan : List Hop) (n : ℕ) (d : Hop) → n < length plan
    → gone test x (take (suc n) plan) ≡ gone test x (take n plan) + (if test (slice_index_or plan n d).rival.offer.group.0 (slice_index_or plan n d).rival.offer.place then x else 0)
gone-more test x plan n d l = ap (gone test x) (take-suc plan n d l) ∙ sum_by_push (λ (h : Hop). if test h.rival.offer.group.0 h.rival.offer.place then x else 0) (take n plan) (slice_index_or plan n d)

-- where one is counted only if another is
if-le : (a w : Bool) (x : ℕ) → (a && not w) ≡ false → (if a then x else 0) ≤ (if w then x else 0)
if-le true true x e = omega arith
if-le true false x e = absurd (false≢true (sym e))
if-le false w x e = omega arith

-- all is within capacity in each state between: the load of a node goes one way from the start to the end
within : (m : Market) (s : Standing) (start : ℕ) (plan : List Hop) (x n : ℕ) (t : Standing) → IsPlan m s start plan x → IsPlanned m s start plan x n t → (c : ℕ) → c < length m.nodes → load m t.lines c ≤ capacity_of m c
within m s start plan x n t p q c l = elim (p.signs c) [
  | inl none ↦
      let up = sums-le
      (λ (h : Hop). if counts_at m c h.offer.group.0 h.offer.place then x else 0)
      (λ (h : Hop). if counts_at m c h.rival.offer.group.0 h.rival.offer.place then x else 0)
      (take n plan)
      (All-take (λ (h : Hop). (if counts_at m c h.offer.group.0 h.offer.place then x else 0) ≤ (if counts_at m c h.rival.offer.group.0 h.rival.offer.place then x else 0)) n plan
      (λ i d li. if-le _ _ x (none i d li))) in
      omega (arith, q.held (counts_at m c), p.ready.resumable.capacities c l, up)
  | inr none ↦
      let up = sums-part
      (λ (h : Hop). if counts_at m c h.offer.group.0 h.offer.place then x else 0)
      (λ (h : Hop). if counts_at m c h.rival.offer.group.0 h.rival.offer.place then x else 0)
      plan n
      (λ i d li. if-le _ _ x (none i d li)) in
      omega (arith, q.held (counts_at m c), p.fits c l, up)
]

-- and so is all within limits: an offer has the most at the end
within_limits : (m : Market) (s : Standing) (start : ℕ) (plan : List Hop) (x n : ℕ) (t : Standing) → IsPlan m s start plan x → IsPlanned m s start plan x n t → (g k : ℕ) → IsOffer m g k → amount_at t.lines g k ≤ limit_of m g k
within_limits m s start plan x n t p q g k o =
    omega (arith, q.held (λ h j. (h == g) && (j == k)), p.limits g k o, sum_by-take-le (λ (h : Hop). if (h.offer.group.0 == g) && (h.offer.place == k) then x else 0) plan n)

-- the group that has the units free is that of the next hop
carrier-next : (m : Market) (s : Standing) (start : ℕ) (plan : List Hop) (x n : ℕ) (d : Hop) → IsPlan m s start plan x → n < length plan → carrier start plan n ≡ hopper (slice_index_or plan n d)
carrier-next m s start plan x n d p l =
    ap (λ ns. slice_index ns n) p.linked
    ∙ get_or_append_left (map hopper plan) (start ∷ []) 0 n (omega (arith, length-map plan hopper))
    ∙ get_or-map hopper plan n d 0 l

carrier-after : (start : ℕ) (plan : List Hop) (n : ℕ) (d : Hop) → n < length plan → carrier start plan (suc n) ≡ displaced (slice_index_or plan n d)
carrier-after start plan n d l = get_or-map displaced plan n d 0 l

-- it has all of them free
free_here : (m : Market) (s t : Standing) (start : ℕ) (plan : List Hop) (x n : ℕ) (d : Hop) → IsPlan m s start plan x → IsPlanned m s start plan x n t → n < length plan → slice_index t.free (hopper (slice_index_or plan n d)) ≡ x
free_here m s t start plan x n d p q l = elim (cases_eq start g) [
  | inl same ↦
      let has : slice_index s.free g ≡ x = ap (slice_index s.free) (sym same) ∙ p.free in
      let was : (if start == g then x else 0) ≡ x = rw (eq-eqb start g same) refl in
      omega (arith, q.free g there, has, was, now)
  | inr other ↦
      let was : (if start == g then x else 0) ≡ 0 = rw (ne_eqb start g other) refl in
      omega (arith, q.free g there, p.idle n d l other, was, now)
]
  where
    g : ℕ
    g = hopper (slice_index_or plan n d)

    there : g < length m.groups
    there = (p.hops n d l).offer.group

    now : (if carrier start plan n == g then x else 0) ≡ x
    now = ap (λ b. if b then x else 0) (eq-eqb (carrier start plan n) g (carrier-next m s start plan x n d p l))

-- and the offer that the next hop displaces has as many
held_here : (m : Market) (s t : Standing) (start : ℕ) (plan : List Hop) (x n : ℕ) (d : Hop) → IsPlan m s start plan x → IsPlanned m s start plan x n t → n < length plan
    → x ≤ amount_at t.lines (slice_index_or plan n d).rival.offer.group.0 (slice_index_or plan n d).rival.offer.place
held_here m s t start plan x n d p q l =
    let this : (if at w.offer.group.0 w.offer.place then x else 0) ≡ x = rw (eq-eqb w.offer.group.0 w.offer.group.0 refl, eq-eqb w.offer.place w.offer.place refl) refl in
    omega (arith, q.held at, sum_by_more_le (λ (h : Hop). if at h.rival.offer.group.0 h.rival.offer.place then x else 0) plan n d l, this, p.enough n d l)
  where
    w : Rival
    w = (slice_index_or plan n d).rival

    at : ℕ → ℕ → Bool
    at g k = (g == w.offer.group.0) && (k == w.offer.place)

-- a state between, and the one after it
pub record IsStep (m : Market) (s t u : Standing) (start : ℕ) (plan : List Hop) (x n : ℕ) (d : Hop) : Type 0 where
  pub hops : IsPlan m s start plan x
  pub there : n < length plan
  pub ready : IsReady m t
  pub old : IsPlanned m s start plan x n t
  pub new : IsPlanned m s start plan x (suc n) u

-- what one hop more changes
held_step : (m : Market) (s t u : Standing) (start : ℕ) (plan : List Hop) (x n : ℕ) (d : Hop) → IsStep m s t u start plan x n d → (test : ℕ → ℕ → Bool)
    → units_of test u.lines + (if test (slice_index_or plan n d).rival.offer.group.0 (slice_index_or plan n d).rival.offer.place then x else 0)
    ≡ units_of test t.lines + (if test (slice_index_or plan n d).offer.group.0 (slice_index_or plan n d).offer.place then x else 0)
held_step m s t u start plan x n d e test = omega (arith, e.old.held test, e.new.held test, came-more test x plan n d e.there, gone-more test x plan n d e.there)

free_step : (m : Market) (s t u : Standing) (start : ℕ) (plan : List Hop) (x n : ℕ) (d : Hop) → IsStep m s t u start plan x n d → (h : ℕ) → h < length m.groups
    → slice_index u.free h + (if hopper (slice_index_or plan n d) == h then x else 0) ≡ slice_index t.free h + (if displaced (slice_index_or plan n d) == h then x else 0)
free_step m s t u start plan x n d e h l =
    let now : (if carrier start plan n == h then x else 0) ≡ (if hopper (slice_index_or plan n d) == h then x else 0) = ap (λ g. if g == h then x else 0) (carrier-next m s start plan x n d e.hops e.there) in
    let next : (if carrier start plan (suc n) == h then x else 0) ≡ (if displaced (slice_index_or plan n d) == h then x else 0) = ap (λ g. if g == h then x else 0) (carrier-after start plan n d e.there) in
    omega (arith, e.old.free h l, e.new.free h l, now, next)

-- the hop's node is full, and the displaced offer is its worst, in each state between
exchange : (m : Market) (s t u : Standing) (start : ℕ) (plan : List Hop) (x n : ℕ) (d : Hop) → IsStep m s t u start plan x n d
    → IsExchange m t.lines u.lines (slice_index_or plan n d).rival.node.0 (slice_index_or plan n d).offer.group.0 (slice_index_or plan n d).offer.place (slice_index_or plan n d).rival.offer.group.0 (slice_index_or plan n d).rival.offer.place x
exchange m s t u start plan x n d e = record {
  offer = is.offer;
  loser = is.rival.worst.offer;
  path = is.rival.node.path;
  under = is.rival.worst.under;
  full =
      let same = sums-same
      (λ (h : Hop). if counts_at m hop.rival.node.0 h.offer.group.0 h.offer.place then x else 0)
      (λ (h : Hop). if counts_at m hop.rival.node.0 h.rival.offer.group.0 h.rival.offer.place then x else 0)
      (take n plan)
      (All-take (λ (h : Hop). (if counts_at m hop.rival.node.0 h.offer.group.0 h.offer.place then x else 0) ≡ (if counts_at m hop.rival.node.0 h.rival.offer.group.0 h.rival.offer.place then x else 0)) n plan
      (λ i f l. ap (λ b. if b then x else 0) (e.hops.level n d e.there i f l))) in
      omega (arith, e.old.held (counts_at m hop.rival.node.0), is.rival.node.full, same);
  worst =
      let none = sums-none
      (λ (h : Hop). if worse h.offer.group.0 h.offer.place then x else 0)
      (take n plan)
      (All-take (λ (h : Hop). (if worse h.offer.group.0 h.offer.place then x else 0) ≡ 0) n plan (λ i f l. not_worse i f l)) in
      omega (arith, e.old.held worse, is.rival.worst.worst, none);
  better = key_le_total (key_of m hop.rival.offer.group.0 hop.rival.offer.place) (key_of m hop.offer.group.0 hop.offer.place) is.better;
  held = held_step m s t u start plan x n d e;
  fits = within m s start plan x (suc n) u e.hops e.new;
}
  where
    hop : Hop
    hop = slice_index_or plan n d

    is : IsHop m s (slice_index_or plan n d)
    is = e.hops.hops n d e.there

    worse : ℕ → ℕ → Bool
    worse = under_worse m hop.rival.node.0 (key_of m hop.rival.offer.group.0 hop.rival.offer.place)

    not_worse : (i : ℕ) (f : Hop) → i < length plan → (if worse (slice_index_or plan i f).offer.group.0 (slice_index_or plan i f).offer.place then x else 0) ≡ 0
    not_worse i f l =
        let o : Hop = slice_index_or plan i f in
        none (counts_at m hop.rival.node.0 o.offer.group.0 o.offer.place) (key_le (key_of m o.offer.group.0 o.offer.place) (key_of m hop.rival.offer.group.0 hop.rival.offer.place)) (hop_better m s e.hops.ready.market o hop (e.hops.hops i f l) is)
      where
        none : (b k : Bool) → (b ≡ true → k ≡ true) → (if b && not k then x else 0) ≡ 0
        none true true h = refl
        none true false h = absurd (false≢true (h refl))
        none false k h = refl

-- the state after a hop is resumable too
ready_step : (m : Market) (s t u : Standing) (start : ℕ) (plan : List Hop) (x n : ℕ) (d : Hop) → IsStep m s t u start plan x n d → IsReady m u
ready_step m s t u start plan x n d e = record {
  market = e.hops.ready.market;
  whole = e.new.whole;
  shape = e.new.shape;
  resumable = record {
    form = e.new.form;
    pointers_for = ap length e.new.pointers ∙ e.hops.ready.resumable.pointers_for;
    free_for = e.new.count;
    capacities = within m s start plan x (suc n) u e.hops e.new;
    limits = within_limits m s start plan x (suc n) u e.hops e.new;
    totals = λ h l. omega (arith, held_step m s t u start plan x n d e (λ g _. g == h), free_step m s t u start plan x n d e h l, e.ready.resumable.totals h l);
    in_list = λ h l. subst (λ p. p ≤ length (choices_of m h)) (sym (pointer h)) (e.ready.resumable.in_list h l);
    none_past = λ h j o past. none h j o (subst (λ p. p < j) (pointer h) past);
    refused = λ h j o before. refused_still m e.hops.ready.market t.lines u.lines _ _ _ _ _ x (exchange m s t u start plan x n d e) e.old.form e.new.form (within_limits m s start plan x (suc n) u e.hops e.new) h j o
        (e.ready.resumable.refused h j o (subst (λ p. j < p) (pointer h) before));
  };
}
  where
    pointer : (h : ℕ) → slice_index u.pointers h ≡ slice_index t.pointers h
    pointer h = ap (λ ps. slice_index ps h) (e.new.pointers ∙ sym e.old.pointers)

    none : (h j : ℕ) → IsOffer m h j → slice_index t.pointers h < j → amount_at u.lines h j ≡ 0
    none h j o past =
        let hop : Hop = slice_index_or plan n d in
        let apart : (if (hop.offer.group.0 == h) && (hop.offer.place == j) then x else 0) ≡ 0 = elim (cases_Bool ((hop.offer.group.0 == h) && (hop.offer.place == j))) [
          | inr apart ↦ rw apart refl
          | inl y ↦
              let p = and_parts (hop.offer.group.0 == h) (hop.offer.place == j) y in
              let at : hop.offer.place ≡ slice_index t.pointers h = (e.hops.hops n d e.there).pointer ∙ ap (slice_index s.pointers) (eqb-true hop.offer.group.0 h p.0) ∙ ap (λ ps. slice_index ps h) (sym e.old.pointers) in
              absurd (omega (arith, at, eqb-true hop.offer.place j p.1, past))
        ] in
        omega (arith, held_step m s t u start plan x n d e (λ g k. (g == h) && (k == j)), e.ready.resumable.none_past h j o past, apart)

-- a hop is a proposal of its group
pub proposal : (m : Market) (s t u : Standing) (start : ℕ) (plan : List Hop) (x n : ℕ) (d : Hop) → IsStep m s t u start plan x n d → IsProposal m t u
proposal m s t u start plan x n d e = record {
  group = hopper hop;
  freed = lost ∷ [];
  waiting = record {
    group = is.offer.group;
    free = omega (arith, units, e.hops.some);
    place = subst (λ p. p < length (choices_of m (hopper hop))) at is.offer.place;
  };
  some = omega (arith, offers, e.hops.some);
  put = subst (λ k. IsPut m t u (hopper hop) k (offered m t (hopper hop)) (lost ∷ [])) at (subst (λ v. IsPut m t u (hopper hop) hop.offer.place v (lost ∷ [])) (sym offers) put);
}
  where
    hop : Hop
    hop = slice_index_or plan n d

    is : IsHop m s (slice_index_or plan n d)
    is = e.hops.hops n d e.there

    lost : Eviction
    lost = record { offer = hop.rival.offer; units = x }

    at : hop.offer.place ≡ slice_index t.pointers (hopper hop)
    at = is.pointer ∙ ap (λ ps. slice_index ps (hopper hop)) (sym e.old.pointers)

    units : slice_index t.free (hopper hop) ≡ x
    units = free_here m s t start plan x n d e.hops e.old e.there

    -- there is room for them under the limit
    room : amount_at t.lines (hopper hop) hop.offer.place + x ≤ limit_of m (hopper hop) hop.offer.place
    room =
        let test : ℕ → ℕ → Bool = λ g k. (g == hopper hop) && (k == hop.offer.place) in
        let this : (if test (hopper hop) hop.offer.place then x else 0) ≡ x = rw (eq-eqb (hopper hop) (hopper hop) refl, eq-eqb hop.offer.place hop.offer.place refl) refl in
        omega (
          arith,
          e.old.held test,
          came-more test x plan n d e.there,
          this,
          e.hops.limits (hopper hop) hop.offer.place is.offer,
          sum_by-take-le (λ (h : Hop). if test h.offer.group.0 h.offer.place then x else 0) plan (suc n),
        )

    offers : offered m t (hopper hop) ≡ x
    offers =
        let fits : amount_at t.lines (hopper hop) (slice_index t.pointers (hopper hop)) + x ≤ limit_of m (hopper hop) (slice_index t.pointers (hopper hop))
        = subst (λ k. amount_at t.lines (hopper hop) k + x ≤ limit_of m (hopper hop) k) at room in
        min-eq_left (omega (arith, fits, units)) ∙ units

    one : (test : ℕ → ℕ → Bool) → freed_units test (lost ∷ []) ≡ (if test hop.rival.offer.group.0 hop.rival.offer.place then x else 0)
    one test = omega (arith, sum_by-cons (λ (v : Eviction). if test v.offer.group.0 v.offer.place then v.units else 0) lost [])

    stays : (h : ℕ) → gave_up (lost ∷ []) h (slice_index t.pointers h) ≡ false
    stays h = elim (cases_Bool ((hop.rival.offer.group.0 == h) && (hop.rival.offer.place == slice_index t.pointers h))) [
      | inr apart ↦ rw apart refl
      | inl y ↦
          let p = and_parts (hop.rival.offer.group.0 == h) (hop.rival.offer.place == slice_index t.pointers h) y in
          let same : slice_index s.pointers hop.rival.offer.group.0 ≡ slice_index t.pointers h = ap (slice_index s.pointers) (eqb-true hop.rival.offer.group.0 h p.0) ∙ ap (λ ps. slice_index ps h) (sym e.old.pointers) in
          absurd (omega (arith, is.behind, same, eqb-true hop.rival.offer.place (slice_index t.pointers h) p.1))
    ]

    gone_away : IsSome (refusing_node m u.lines hop.rival.offer.group.0 hop.rival.offer.place)
    gone_away = exchange_turned m e.hops.ready.market t.lines u.lines _ _ _ _ _ x (exchange m s t u start plan x n d e) e.new.form

    put : IsPut m t u (hopper hop) hop.offer.place x (lost ∷ [])
    put = record {
      ready = ready_step m s t u start plan x n d e;
      evictions = All-cons (λ v. IsEviction m v) lost [] (record { offer = is.rival.worst.offer; some = e.hops.some }) (All-nil (λ v. IsEviction m v));
      held = λ test. omega (arith, held_step m s t u start plan x n d e test, one test);
      free = λ h l. omega (arith, free_step m s t u start plan x n d e h l, one (λ g _. g == h));
      pointers = λ h l. ap (λ ps. slice_index ps h) (e.new.pointers ∙ sym e.old.pointers) ∙ sym (ap (λ b. if b then slice_index t.pointers h + 1 else slice_index t.pointers h) (stays h));
      refusals = exchange_keeps m e.hops.ready.market t.lines u.lines _ _ _ _ _ x (exchange m s t u start plan x n d e) e.old.form e.new.form;
      turned = λ h j o gave. gave_up_each (λ y z. IsSome (refusing_node m u.lines y z)) (lost ∷ []) h j (All-cons (λ (v : Eviction). IsSome (refusing_node m u.lines v.offer.group.0 v.offer.place)) lost [] gone_away (All-nil (λ (v : Eviction). IsSome (refusing_node m u.lines v.offer.group.0 v.offer.place)))) gave;
    }

-- the state after one hop more is there
next_state : (m : Market) (s t : Standing) (start : ℕ) (plan : List Hop) (x n : ℕ) (d : Hop) → IsPlan m s start plan x → IsPlanned m s start plan x n t → n < length plan → (u : Standing) × IsPlanned m s start plan x (suc n) u
next_state m s t start plan x n d p q l = (
  record { market = t.market; lines = lines.0; pointers = t.pointers; free = free.0; is_whole = t.is_whole },
  record {
    whole = q.whole;
    shape = q.shape;
    form = lines.1;
    pointers = q.pointers;
    count = free.1 ∙ q.count;
    free = λ h lh.
        let now : (if carrier start plan n == h then x else 0) ≡ (if hopper hop == h then x else 0) = ap (λ g. if g == h then x else 0) (carrier-next m s start plan x n d p l) in
        let next : (if carrier start plan (suc n) == h then x else 0) ≡ (if displaced hop == h then x else 0) = ap (λ g. if g == h then x else 0) (carrier-after start plan n d l) in
        omega (arith, q.free h lh, free.2 h, now, next);
    held = λ test. omega (arith, q.held test, lines.2 test, came-more test x plan n d l, gone-more test x plan n d l);
  },
)
  where
    hop : Hop
    hop = slice_index_or plan n d

    is : IsHop m s (slice_index_or plan n d)
    is = p.hops n d l

    lines : (new : List MapLine) × AreLines m new × ((test : ℕ → ℕ → Bool) → units_of test new + (if test hop.rival.offer.group.0 hop.rival.offer.place then x else 0) ≡ units_of test t.lines + (if test hop.offer.group.0 hop.offer.place then x else 0))
    lines = moved m p.ready.market t.lines q.form hop.offer.group.0 hop.offer.place hop.rival.offer.group.0 hop.rival.offer.place x is.offer is.rival.worst.offer (held_here m s t start plan x n d p q l)

    free : (new : List ℕ) × (length new ≡ length t.free) × ((h : ℕ) → slice_index new h + (if hopper hop == h then x else 0) ≡ slice_index t.free h + (if displaced hop == h then x else 0))
    free = carried t.free (hopper hop) (displaced hop) x (omega (arith, q.count, is.offer.group)) (omega (arith, q.count, is.rival.worst.offer.group)) (omega (arith, free_here m s t start plan x n d p q l))

-- The first n hops of a plan are proposals that lead to some state.
planned : (m : Market) (s : Standing) (start : ℕ) (plan : List Hop) (x : ℕ) (d : Hop) → IsPlan m s start plan x → (n : ℕ) → n ≤ length plan → (t : Standing) × AreProposals m n s t × IsReady m t × IsPlanned m s start plan x n t
planned m s start plan x d p zero l = (s, (0, refl), p.ready, record { whole = p.ready.whole; shape = p.ready.shape; form = p.ready.resumable.form; pointers = refl; count = p.ready.resumable.free_for; free = λ h lh. refl; held = λ test. refl })
planned m s start plan x d p (suc n) l =
    let before = planned m s start plan x d p n (omega arith) in
    let after = next_state m s before.0 start plan x n d p before.3 (omega arith) in
    let step : IsStep m s before.0 after.0 start plan x n d = record { hops = p; there = omega arith; ready = before.2; old = before.3; new = after.1 } in
    (after.0, (before.0, after.0, 0, before.1, proposal m s before.0 after.0 start plan x n d step, refl), ready_step m s before.0 after.0 start plan x n d step, after.1)

-- So all hops of a plan are proposals that lead to any state as if they had been made.
pub proposals : (m : Market) (s new : Standing) (start : ℕ) (plan : List Hop) (x n : ℕ) (d : Hop) → IsPlan m s start plan x → length plan ≡ suc n → IsPlanned m s start plan x (suc n) new → AreProposals m (suc n) s new
proposals m s new start plan x n d p count q =
    let before = planned m s start plan x d p n (omega arith) in
    (before.0, new, 0, before.1, proposal m s before.0 new start plan x n d (record { hops = p; there = omega arith; ready = before.2; old = before.3; new = q }), refl)
