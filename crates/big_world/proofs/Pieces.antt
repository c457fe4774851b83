-- Texts with one piece more.
use Rattle.std.proofs.Common.{◌≡◌, ◌==◌, ◌+◌, ◌++◌, List, [], ◌∷◌, ℕ, suc, if◌then◌else◌, ap, arith}
use Rattle.std.specs.Fmt.{decimal}
use Rattle.big_world.specs.Numbers.{draw}
use Rattle.big_world.specs.Pieces.{texts_below}
use Rattle.big_world.specs.Topology.{scores_text}

pub texts_more : (text : ℕ → List ℕ) (k : ℕ) → texts_below text (k + 1) ≡ texts_below text k ++ text k
texts_more text k = let one : k + 1 ≡ suc k = omega arith in ap (λ j. texts_below text j) one

pub scores_more : (x k : ℕ) → scores_text x (k + 1) ≡ scores_text x k ++ ((if k == 0 then [] else (44 ∷ 32 ∷ [])) ++ decimal (draw x (1 + k) 1000))
unfolding scores_text
scores_more x k = texts_more (λ t. (if t == 0 then [] else (44 ∷ 32 ∷ [])) ++ decimal (draw x (1 + t) 1000)) k
