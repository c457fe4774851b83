-- Texts joined from the front.
use Rattle.std.proofs.Common.{◌≡◌, ◌+◌, ◌++◌, List, [], ℕ, zero, suc, refl, sym, ap, ◌∙◌, arith, append_assoc, append-nil}
use Rattle.big_world.specs.Pieces.{texts_below}

-- the texts of k numbers from a on
abbrev pub joined : (ℕ → List ℕ) → ℕ → ℕ → List ℕ
joined text a zero = []
joined text a (suc k) = text a ++ joined text (a + 1) k

joined_last : (text : ℕ → List ℕ) (a k : ℕ) → joined text a (suc k) ≡ joined text a k ++ text (a + k)
joined_last text a zero = let here : a + 0 ≡ a = omega arith in rw here (append-nil (text a))
joined_last text a (suc k) =
    let there : (a + 1) + k ≡ a + suc k = omega arith in
    let more = joined_last text (a + 1) k in
    ap (λ rest. text a ++ rest) more ∙ rw there (sym (append_assoc (text a) (joined text (a + 1) k) (text (a + suc k))))

pub texts_below_joined : (text : ℕ → List ℕ) (k : ℕ) → texts_below text k ≡ joined text 0 k
texts_below_joined text zero = refl
texts_below_joined text (suc k) =
    let there : 0 + k ≡ k = omega arith in
    ap (λ front. front ++ text k) (texts_below_joined text k) ∙ sym (rw there at (joined_last text 0 k))
