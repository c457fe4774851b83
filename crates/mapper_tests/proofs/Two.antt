-- The feeders of a queue that was just opened with two.
use Rattle.std.proofs.Common.{◌≡◌, List, [], ◌∷◌, map, ap, sym, ◌∙◌}
use Rattle.std.specs.List.{range_with_len}
use Rattle.atomic_table.specs.Seated.{TableId}
use Rattle.feed_queue.specs.Ends.{FeederState, fresh_feeder}

head_is : (x y : FeederState) (xs ys : List FeederState) → x ∷ xs ≡ y ∷ ys → x ≡ y
head_is x y xs ys e = cc

tail_is : (x y : FeederState) (xs ys : List FeederState) → x ∷ xs ≡ y ∷ ys → xs ≡ ys
tail_is x y xs ys e = cc

pub first_fresh : (queue : TableId) (made : List FeederState) (a b : FeederState) → made ≡ map (fresh_feeder queue) (range_with_len 0 2) → made ≡ a ∷ b ∷ [] → a.sent ≡ []
first_fresh queue made a b fresh is = ap (λ f. f.sent) (sym (head_is (fresh_feeder queue 0) a (fresh_feeder queue 1 ∷ []) (b ∷ []) (sym fresh ∙ is)))

pub second_fresh : (queue : TableId) (made : List FeederState) (a b : FeederState) → made ≡ map (fresh_feeder queue) (range_with_len 0 2) → made ≡ a ∷ b ∷ [] → b.sent ≡ []
second_fresh queue made a b fresh is =
    ap (λ f. f.sent) (sym (head_is (fresh_feeder queue 1) b [] [] (tail_is (fresh_feeder queue 0) a (fresh_feeder queue 1 ∷ []) (b ∷ []) (sym fresh ∙ is))))
