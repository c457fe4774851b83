-- Whole rounds of a circle are proposals.
use Rattle.std.proofs.Common.{◌≡◌, ℕ, zero, suc, ◌+◌, ◌*◌, ◌<◌, ◌≤◌, ◌==◌, Bool, true, false, not, ◌&&◌, if◌then◌else◌, List, [], ◌∷◌, length, map, take, slice_index, slice_index_or, All, ◌⊎◌, refl, sym, ap, ◌∙◌, subst, inl, inr, arith}
use Rattle.std.proofs.lemmas.Bool.{and_parts, cases_Bool, eqb-true, not-true}
use Rattle.std.proofs.lemmas.List.{length-map, take_all}
use Rattle.std.proofs.lemmas.List.Elements.{All-cons, All-head, All-tail}
use Rattle.std.proofs.Math.Seq.{get_or-append_seam}
use Rattle.map_model.specs.Market.{IsSameShape, Market, limit_of}
use Rattle.map_model.specs.Allocation.{IsOffer, amount_at, counts_at}
use Rattle.evict.specs.Standing.{IsReady, Standing}
use Rattle.deferred_accept.specs.declared.circle.Hop.{Hop}
use Rattle.deferred_accept.specs.Runs.{AreProposals}
use Rattle.deferred_accept.specs.Turning.{HasRoomFor, IsCircle, IsHop, IsTurned, came, displaced, gone, hopper, raises}
use Rattle.deferred_accept.proofs.Circles.{displaced_apart}
use Rattle.deferred_accept.proofs.Nearest.{hop_one}
use Rattle.deferred_accept.proofs.Signs.{apart_signs, ends_within, level}
use Rattle.deferred_accept.proofs.Plan.{IsPlan, IsPlanned, lowers, proposals}
use Rattle.deferred_accept.proofs.Rounds.{length-rounds, rounds, rounds-All, rounds-linked, sums-none, sums-once, sums-rounds}

-- no element of a list passes a test, or what is so for each that does
none_or : {X : Type 0} (test : X → Bool) (Q : Type 0) (xs : List X) → All (λ x. test x ≡ true → Q) xs → All (λ x. test x ≡ false) xs ⊎ Q
none_or test Q [] each = inl (λ i d l. absurd (omega arith))
none_or test Q (x ∷ xs) each = elim (cases_Bool (test x)) [
  | inl e ↦ inr (All-head (λ y. test y ≡ true → Q) x xs each e)
  | inr e ↦ elim (none_or test Q xs (All-tail (λ y. test y ≡ true → Q) x xs each)) [
    | inl none ↦ inl (All-cons (λ y. test y ≡ false) x xs e none)
    | inr q ↦ inr q
  ]
]

-- no hop raises a node, or none lowers it
one_way : (m : Market) (s : Standing) → IsReady m s → (hops : List Hop) → All (λ (h : Hop). IsHop m s h) hops → (n : ℕ) → All (λ (h : Hop). raises m n h ≡ false) hops ⊎ All (λ (h : Hop). lowers m n h ≡ false) hops
one_way m s ready hops are n = none_or (raises m n) (All (λ (h : Hop). lowers m n h ≡ false) hops) hops (λ i d l up j e k. lower i d l up j e k)
  where
    lower : (i : ℕ) (d : Hop) → i < length hops → raises m n (slice_index_or hops i d) ≡ true → (j : ℕ) (e : Hop) → j < length hops → lowers m n (slice_index_or hops j e) ≡ false
    lower i d l up j e k = elim (cases_Bool (lowers m n (slice_index_or hops j e))) [
      | inr is ↦ is
      | inl is ↦
          let o : Hop = slice_index_or hops j e in
          let p = and_parts (counts_at m n o.rival.offer.group.0 o.rival.offer.place) (not (counts_at m n o.offer.group.0 o.offer.place)) is in
          absurd (apart_signs m s ready.market (slice_index_or hops i d) o (are i d l) (are j e k) n up p.0 (not-true (counts_at m n o.offer.group.0 o.offer.place) p.1))
    ]

-- what an offer gives up in so many rounds is within so many units
gone_once : (m : Market) (s : Standing) → IsReady m s → (first : Hop) (rest : List Hop) (x most : ℕ) → IsCircle m s first rest x → (g k : ℕ) → gone (λ h j. (h == g) && (j == k)) most (first ∷ rest) ≤ most
gone_once m s ready first rest x most circle g k =
    sums-once (λ (h : Hop). (h.rival.offer.group.0 == g) && (h.rival.offer.place == k)) most (first ∷ rest) (λ i j d l e a b.
    displaced_apart m s ready.market first rest x circle i j d l e
    (eqb-true _ g (and_parts _ _ a).0 ∙ sym (eqb-true _ g (and_parts _ _ b).0)))

-- and so is what an offer gets
came_once : (m : Market) (s : Standing) → IsReady m s → (first : Hop) (rest : List Hop) (x most : ℕ) → IsCircle m s first rest x → (g k : ℕ) → came (λ h j. (h == g) && (j == k)) most (first ∷ rest) ≤ most
came_once m s ready first rest x most circle g k =
    sums-once (λ (h : Hop). (h.offer.group.0 == g) && (h.offer.place == k)) most (first ∷ rest) (λ i j d l e a b.
    displaced_apart m s ready.market first rest x circle i j d l e
    (hop_one m s ready.market (slice_index_or (first ∷ rest) i d) (slice_index_or (first ∷ rest) j d) (circle.hops i d (omega (arith, l, e))) (circle.hops j d e)
    (eqb-true _ g (and_parts _ _ a).0 ∙ sym (eqb-true _ g (and_parts _ _ b).0))))

-- so no offer gets more than there is room for under its limit
ends_within_limits : (m : Market) (s : Standing) → IsReady m s → (first : Hop) (rest : List Hop) (x most : ℕ) → IsCircle m s first rest x → HasRoomFor m s (first ∷ rest) most → (g k : ℕ) → IsOffer m g k
    → amount_at s.lines g k + came (λ h j. (h == g) && (j == k)) most (first ∷ rest) ≤ limit_of m g k
ends_within_limits m s ready first rest x most circle room g k o =
    elim (none_or (λ (h : Hop). (h.offer.group.0 == g) && (h.offer.place == k)) (amount_at s.lines g k + most ≤ limit_of m g k) (first ∷ rest) (λ i d l e. room_at i d l e)) [
      | inl none ↦
          let zero_came = sums-none (λ (h : Hop). if (h.offer.group.0 == g) && (h.offer.place == k) then most else 0) (first ∷ rest) (λ i d l. rw (none i d l) refl) in
          omega (arith, zero_came, ready.resumable.limits g k o)
      | inr fits ↦ omega (arith, came_once m s ready first rest x most circle g k, fits)
    ]
  where
    room_at : (i : ℕ) (d : Hop) → i < length (first ∷ rest) → (((slice_index_or (first ∷ rest) i d).offer.group.0 == g) && ((slice_index_or (first ∷ rest) i d).offer.place == k)) ≡ true → amount_at s.lines g k + most ≤ limit_of m g k
    room_at i d l e =
        let h : Hop = slice_index_or (first ∷ rest) i d in
        let p = and_parts (h.offer.group.0 == g) (h.offer.place == k) e in
        subst (λ y. amount_at s.lines g y + most ≤ limit_of m g y) (eqb-true h.offer.place k p.1) (subst (λ y. amount_at s.lines y h.offer.place + most ≤ limit_of m y h.offer.place) (eqb-true h.offer.group.0 g p.0) (room.limits i d l))

-- the rounds of a circle are a plan
plan_of : (m : Market) (s : Standing) → IsReady m s → (first : Hop) (rest : List Hop) (x r : ℕ) → IsCircle m s first rest x → HasRoomFor m s (first ∷ rest) (r * x) → IsPlan m s (hopper first) (rounds r (first ∷ rest)) x
plan_of m s ready first rest x r circle room = record {
  ready = ready;
  some = circle.some;
  hops = rounds-All (λ (h : Hop). IsHop m s h) r hops circle.hops;
  linked = rounds-linked hopper displaced (hopper first) r hops (ap (λ ns. hopper first ∷ ns) circle.linked);
  free = circle.free;
  idle = rounds-All (λ (h : Hop). (hopper first ≡ hopper h → ⊥) → slice_index s.free (hopper h) ≡ 0) r hops
      (All-cons (λ (h : Hop). (hopper first ≡ hopper h → ⊥) → slice_index s.free (hopper h) ≡ 0) first rest (λ other. absurd (other refl)) (λ i d l other. circle.idle i d l));
  level = rounds-All (λ (f : Hop). All (λ (h : Hop). counts_at m f.rival.node.0 h.offer.group.0 h.offer.place ≡ counts_at m f.rival.node.0 h.rival.offer.group.0 h.rival.offer.place) (rounds r hops)) r hops
      (λ i f l. rounds-All (λ (h : Hop). counts_at m (slice_index_or hops i f).rival.node.0 h.offer.group.0 h.offer.place ≡ counts_at m (slice_index_or hops i f).rival.node.0 h.rival.offer.group.0 h.rival.offer.place) r hops
      (level m s ready.market first rest x circle i f l));
  signs = λ n. elim (one_way m s ready hops circle.hops n) [
    | inl none ↦ inl (rounds-All (λ (h : Hop). raises m n h ≡ false) r hops none)
    | inr none ↦ inr (rounds-All (λ (h : Hop). lowers m n h ≡ false) r hops none)
  ];
  fits = λ n l. omega (arith, ends_within m s ready first rest x circle (r * x) room n l, all_came (counts_at m n), all_gone (counts_at m n));
  limits = λ g k o. omega (arith, ends_within_limits m s ready first rest x (r * x) circle room g k o, all_came (λ h j. (h == g) && (j == k)));
  enough = rounds-All (λ (h : Hop). gone (λ g k. (g == h.rival.offer.group.0) && (k == h.rival.offer.place)) x (rounds r hops) ≤ amount_at s.lines h.rival.offer.group.0 h.rival.offer.place) r hops (λ i d l.
      let w = (slice_index_or hops i d).rival.offer in
      omega (arith, all_gone (λ g k. (g == w.group.0) && (k == w.place)), gone_once m s ready first rest x (r * x) circle w.group.0 w.place, room.amounts i d l, (circle.hops i d l).rival.worst.held));
}
  where
    hops : List Hop
    hops = first ∷ rest

    all_came : (test : ℕ → ℕ → Bool) → came test x (rounds r hops) ≡ came test (r * x) hops
    all_came test = sums-rounds (λ (h : Hop). test h.offer.group.0 h.offer.place) x r hops

    all_gone : (test : ℕ → ℕ → Bool) → gone test x (rounds r hops) ≡ gone test (r * x) hops
    all_gone test = sums-rounds (λ (h : Hop). test h.rival.offer.group.0 h.rival.offer.place) x r hops

-- a turn leads to the state as if all hops of the rounds had been made
turned_planned : (m : Market) (s new : Standing) → IsReady m s → (first : Hop) (rest : List Hop) (x r : ℕ) → IsCircle m s first rest x → IsPlan m s (hopper first) (rounds r (first ∷ rest)) x → IsTurned m s new (first ∷ rest) (r * x)
    → (n : ℕ) → length (rounds r (first ∷ rest)) ≡ n → IsPlanned m s (hopper first) (rounds r (first ∷ rest)) x n new
turned_planned m s new ready first rest x r circle plan turned n count = record {
  whole = turned.whole;
  shape = subst (λ k. IsSameShape k m) (sym turned.market) ready.shape;
  form = turned.form;
  pointers = turned.pointers;
  count = ap length turned.free ∙ ready.resumable.free_for;
  free = λ h l.
      let same : slice_index new.free h ≡ slice_index s.free h = ap (λ fs. slice_index fs h) turned.free in
      let back : (if slice_index (hopper first ∷ map displaced all) n == h then x else 0) ≡ (if hopper first == h then x else 0) = ap (λ g. if g == h then x else 0) (end n count) in
      omega (arith, same, back);
  held = λ test.
      let whole : take n all ≡ all = take_all n all (omega arith) in
      omega (arith, turned.held test, ap (came test x) whole, ap (gone test x) whole, sums-rounds (λ (h : Hop). test h.offer.group.0 h.offer.place) x r (first ∷ rest), sums-rounds (λ (h : Hop). test h.rival.offer.group.0 h.rival.offer.place) x r (first ∷ rest));
}
  where
    all : List Hop
    all = rounds r (first ∷ rest)

    end : (n : ℕ) → length all ≡ n → slice_index (hopper first ∷ map displaced all) n ≡ hopper first
    end n count =
        ap (λ k. slice_index (hopper first ∷ map displaced all) k) (sym count ∙ sym (length-map all hopper))
        ∙ ap (λ ns. slice_index ns (length (map hopper all))) plan.linked
        ∙ get_or-append_seam (map hopper all) (hopper first) [] 0

-- A turn of so many rounds is as many proposals as its rounds have hops.
pub turn_is_proposals : (m : Market) (old new : Standing) (first : Hop) (rest : List Hop) (x r : ℕ) → IsReady m old → IsCircle m old first rest x → HasRoomFor m old (first ∷ rest) (r * x) → IsTurned m old new (first ∷ rest) (r * x) → 0 < r
    → AreProposals m (r * length (first ∷ rest)) old new
turn_is_proposals m old new first rest x r ready circle room turned some = go (r * length (first ∷ rest)) (length-rounds r (first ∷ rest)) (positive r (length rest) some)
  where
    plan : IsPlan m old (hopper first) (rounds r (first ∷ rest)) x
    plan = plan_of m old ready first rest x r circle room

    positive : (a b : ℕ) → 0 < a → 0 < a * suc b
    positive (suc a) b l = omega arith
    positive zero b l = absurd (omega arith)

    go : (n : ℕ) → length (rounds r (first ∷ rest)) ≡ n → 0 < n → AreProposals m n old new
    go zero count l = absurd (omega arith)
    go (suc n) count l = proposals m old new (hopper first) (rounds r (first ∷ rest)) x n first plan count (turned_planned m old new ready first rest x r circle plan turned (suc n) count)
