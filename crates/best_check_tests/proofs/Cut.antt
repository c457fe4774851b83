-- What is left of a resumable state that was cut for another instance is open.
use Rattle.std.proofs.Common.{◌==◌, ◌&&◌, ℕ, ◌<◌, ◌≤◌, List, length, slice_index, sym, ap, ◌∙◌, subst, arith}
use Rattle.map_model.specs.declared.instance.Choice.{Choice}
use Rattle.map_model.specs.Market.{Market, IsMarket, IsSameShape, choices_of}
use Rattle.map_model.specs.Allocation.{IsOffer}
use Rattle.map_model.proofs.Shapes.{IsOffer-shape, limit_of-shape, shape_sym, shape_trans}
use Rattle.evict.specs.Standing.{IsOpen, IsReady, Standing}
use Rattle.evict.proofs.Shaped.{AreLines-shape}
use Rattle.reopen.specs.Cutting.{CanCut, IsCut}

module _ (old new : Market) (market : IsMarket new) (shape : IsSameShape old new) (from : Standing) (ready : IsReady old from) where
  shape_from : IsSameShape from.market new
  shape_from = shape_trans from.market old new ready.shape shape

  -- it may be cut
  pub can_cut : CanCut new from
  can_cut = record { market = market; whole = ready.whole; shape = shape_from; form = AreLines-shape old new shape from.lines ready.resumable.form; count = ready.resumable.free_for ∙ sym shape.groups }

  -- and is open then
  pub open_if_cut : (mid : Standing) → IsCut new from mid → IsOpen new mid
  open_if_cut mid cut = record {
    market = market;
    whole = cut.less.whole;
    shape = subst (λ m. IsSameShape m new) (sym cut.less.market) shape_from;
    form = cut.less.form;
    pointers_for = ap length cut.less.pointers ∙ ready.resumable.pointers_for ∙ sym shape.groups;
    free_for = cut.less.count ∙ ready.resumable.free_for ∙ sym shape.groups;
    capacities = cut.capacities;
    limits = λ g k o. omega (arith, cut.less.fewer (λ h j. (h == g) && (j == k)), ready.resumable.limits g k (back g k o), limit_of-shape old new shape g k);
    totals = cut.totals;
    in_list = λ g l. subst (λ ps. slice_index ps g ≤ length (choices_of new g)) (sym cut.less.pointers) (subst (λ (cs : List Choice). slice_index from.pointers g ≤ length cs) (sym (shape.lists g)) (ready.resumable.in_list g (omega (arith, l, shape.groups))));
    none_past = λ g k o past. omega (arith, cut.less.fewer (λ h j. (h == g) && (j == k)), ready.resumable.none_past g k (back g k o) (subst (λ ps. slice_index ps g < k) cut.less.pointers past));
  }
    where
      back : (g k : ℕ) → IsOffer new g k → IsOffer old g k
      back g k o = IsOffer-shape new old (shape_sym old new shape) g k o
