-- Offers that are listed one after another.
use Rattle.std.proofs.Common.{◌≡◌, ℕ, ◌<◌, List, [], ◌∷◌, ◌++◌, length, Contains, slice_index_or, slice_set, get_or-set_same, get_or-set_other, sym, ap, ◌∙◌, subst, inl, inr, ◌⊎◌, arith}
use Rattle.std.proofs.Math.ListN.{length-set}
use Rattle.std.proofs.lemmas.Bool.{cases_eq}
use Rattle.std.proofs.lemmas.List.{get_or_default}
use Rattle.std.specs.List.Sorted.{IsPermutation}
use Rattle.std.proofs.lemmas.List.Elements.{Contains-append_left, Contains-push, Contains-push_cases}
use Rattle.std.proofs.lemmas.List.Sorted.{Contains-permutation, IsPermutation-sym}
use Rattle.map_model.specs.declared.instance.Offer.{Offer}
use Rattle.map_model.specs.Market.{Market, IsSameShape}
use Rattle.map_model.specs.Allocation.{IsOffer}
use Rattle.map_model.specs.Progress.{tree_of}
use Rattle.map_model.proofs.Shapes.{IsOffer-shape, shape_sym, tree_of-shape}
use Rattle.move_up.specs.Asked.{AreAllListed, AreListed, IsListed, listed_at, offer_of}

no_offer : {o : Offer} → Contains [] o → ⊥
no_offer (i, l, e) = absurd (omega (arith, l))

-- an offer at the end of one list
pub listed_one : (lists : List (List Offer)) (at : ℕ) (list new : List Offer) (offer : Offer) → at < length lists → list ≡ listed_at lists at → new ≡ list ++ offer ∷ [] → IsListed lists (slice_set lists at new) at offer
listed_one lists at list new offer there same made = record {
  count = length-set lists at new;
  listed = subst (λ (xs : List Offer). Contains xs offer) (sym here) (Contains-push (listed_at lists at) offer);
  kept = λ n o h. elim (cases_eq n at) [
    | inl e ↦ subst (λ x. Contains (listed_at (slice_set lists at new) x) o) (sym e) (subst (λ (xs : List Offer). Contains xs o) (sym here) (Contains-append_left (listed_at lists at) (offer ∷ []) o (subst (λ x. Contains (listed_at lists x) o) e h)))
    | inr ne ↦ subst (λ (xs : List Offer). Contains xs o) (sym (get_or-set_other lists at n new [] ne)) h
  ];
  from = λ n o h. elim (cases_eq n at) [
    | inl e ↦ elim (Contains-push_cases (listed_at lists at) offer o (subst (λ (xs : List Offer). Contains xs o) here (subst (λ x. Contains (listed_at (slice_set lists at new) x) o) e h))) [
      | inl was ↦ inl (subst (λ x. Contains (listed_at lists x) o) (sym e) was)
      | inr is ↦ inr (e, sym is)
    ]
    | inr ne ↦ inl (subst (λ (xs : List Offer). Contains xs o) (get_or-set_other lists at n new [] ne) h)
  ];
}
  where
    here : listed_at (slice_set lists at new) at ≡ listed_at lists at ++ offer ∷ []
    here = get_or-set_same lists at new [] there ∙ made ∙ ap (λ (xs : List Offer). xs ++ offer ∷ []) same

-- nothing is listed in empty lists
pub listing_none : (m : Market) (lists : List (List Offer)) → length lists ≡ length m.nodes → ((n : ℕ) → listed_at lists n ≡ []) → AreListed m (λ g k. g < 0) lists
listing_none m lists count empty = record {
  count = count;
  listed = λ g k o l. absurd (omega (arith, l));
  offers = λ n o h. absurd (no_offer (subst (λ (xs : List Offer). Contains xs o) (empty n) h));
  trees = λ n o h. absurd (no_offer (subst (λ (xs : List Offer). Contains xs o) (empty n) h));
}

-- one offer more is listed
pub listing_more : (m : Market) (which next : ℕ → ℕ → Type 0) (old new : List (List Offer)) (g k : ℕ) → AreListed m which old → IsListed old new (tree_of m g k) (offer_of g k) → IsOffer m g k
    → ((h j : ℕ) → next h j → which h j ⊎ ((h ≡ g) × (j ≡ k))) → AreListed m next new
listing_more m which next old new g k are more offer cases = record {
  count = more.count ∙ are.count;
  listed = λ h j o is. elim (cases h j is) [
    | inl was ↦ more.kept (tree_of m h j) (offer_of h j) (are.listed h j o was)
    | inr e ↦ subst (λ x. Contains (listed_at new (tree_of m x j)) (offer_of x j)) (sym e.0) (subst (λ x. Contains (listed_at new (tree_of m g x)) (offer_of g x)) (sym e.1) more.listed)
  ];
  offers = λ n o h. elim (more.from n o h) [
    | inl was ↦ are.offers n o was
    | inr e ↦ subst (λ (x : Offer). IsOffer m x.group.0 x.place) (sym e.1) offer
  ];
  trees = λ n o h. elim (more.from n o h) [
    | inl was ↦ are.trees n o was
    | inr e ↦ ap (λ (x : Offer). tree_of m x.group.0 x.place) e.1 ∙ sym e.0
  ];
}

-- an offer of a list that was taken out is listed there
pub listed_there : (lists : List (List Offer)) (items : List Offer) (n i : ℕ) (d : Offer) → items ≡ listed_at lists n → i < length items → Contains (listed_at lists n) (slice_index_or items i d)
listed_there lists items n i d same l = subst (λ (xs : List Offer). Contains xs (slice_index_or items i d)) same (i, l, get_or_default items i (slice_index_or items i d) d l)

-- the same lists, said of other offers
pub listing_said : (m : Market) (which next : ℕ → ℕ → Type 0) (lists : List (List Offer)) → AreListed m which lists → ((g k : ℕ) → IsOffer m g k → next g k → which g k) → AreListed m next lists
listing_said m which next lists are covers = record { count = are.count; listed = λ g k o is. are.listed g k o (covers g k o is); offers = are.offers; trees = are.trees }

-- the lists serve an instance of the same shape
pub listing_shape : (m m' : Market) → IsSameShape m m' → (lists : List (List Offer)) → AreAllListed m lists → AreAllListed m' lists
listing_shape m m' s lists are = record {
  count = are.count ∙ sym s.nodes;
  listed = λ g k o t. subst (λ x. Contains (listed_at lists x) (offer_of g k)) (sym (tree_of-shape m m' s g k)) (are.listed g k (IsOffer-shape m' m (shape_sym m m' s) g k o) t);
  offers = λ n o h. IsOffer-shape m m' s o.group.0 o.place (are.offers n o h);
  trees = λ n o h. tree_of-shape m m' s o.group.0 o.place ∙ are.trees n o h;
}

-- one list is brought into another order
pub listing_ranked : (m : Market) (lists : List (List Offer)) (at : ℕ) (list new : List Offer) → at < length lists → list ≡ listed_at lists at → IsPermutation list new → AreAllListed m lists → AreAllListed m (slice_set lists at new)
listing_ranked m lists at list new there same moved are = record {
  count = length-set lists at new ∙ are.count;
  listed = λ g k o t. to (tree_of m g k) (offer_of g k) (are.listed g k o t);
  offers = λ n o h. are.offers n o (from n o h);
  trees = λ n o h. are.trees n o (from n o h);
}
  where
    here : listed_at (slice_set lists at new) at ≡ new
    here = get_or-set_same lists at new [] there

    to : (n : ℕ) (o : Offer) → Contains (listed_at lists n) o → Contains (listed_at (slice_set lists at new) n) o
    to n o h = elim (cases_eq n at) [
      | inl e ↦
          let was : Contains list o = subst (λ (xs : List Offer). Contains xs o) (sym same) (subst (λ x. Contains (listed_at lists x) o) e h) in
          subst (λ x. Contains (listed_at (slice_set lists at new) x) o) (sym e) (subst (λ (xs : List Offer). Contains xs o) (sym here) (Contains-permutation list new o moved was))
      | inr ne ↦ subst (λ (xs : List Offer). Contains xs o) (sym (get_or-set_other lists at n new [] ne)) h
    ]

    from : (n : ℕ) (o : Offer) → Contains (listed_at (slice_set lists at new) n) o → Contains (listed_at lists n) o
    from n o h = elim (cases_eq n at) [
      | inl e ↦
          let is : Contains new o = subst (λ (xs : List Offer). Contains xs o) here (subst (λ x. Contains (listed_at (slice_set lists at new) x) o) e h) in
          subst (λ x. Contains (listed_at lists x) o) (sym e) (subst (λ (xs : List Offer). Contains xs o) same (Contains-permutation new list o (IsPermutation-sym list new moved) is))
      | inr ne ↦ subst (λ (xs : List Offer). Contains xs o) (get_or-set_other lists at n new [] ne) h
    ]
