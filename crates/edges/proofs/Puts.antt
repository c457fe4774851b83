-- What a writer holds after two writes.
use Rattle.std.proofs.Common.{ℕ, List, ◌++◌, ◌≡◌, ◌+◌, ◌-◌, length, take, drop, ap, sym, ◌∙◌, append_assoc}
use Rattle.std.specs.Prelude.{Option, None, Some}
use Rattle.std.proofs.lemmas.List.{length-drop}
use Rattle.std.proofs.Math.Seq.{take-add, take-length}
use Rattle.std.specs.Io.KnownBytes.{Appends, Keeps}

-- the first octets of a piece, and then the next ones
pub appends_more : (a b c : Option (List ℕ)) (at n : ℕ) (piece : List ℕ) → Appends a b (take at piece) → Appends b c (take n (drop at piece)) → Appends a c (take (at + n) piece)
appends_more None b c at n piece r s = tt
appends_more (Some xs) None c at n piece r s = absurd r
appends_more (Some xs) (Some ys) None at n piece r s = absurd s
appends_more (Some xs) (Some ys) (Some zs) at n piece r s =
    s ∙ ap (λ bs. bs ++ take n (drop at piece)) r ∙ append_assoc xs (take at piece) (take n (drop at piece)) ∙ ap (λ bs. xs ++ bs) (sym (take-add at n piece))

-- some octets, and then none
pub appends_kept : (a b c : Option (List ℕ)) (bs : List ℕ) → Appends a b bs → Keeps b c → Appends a c bs
appends_kept None b c bs r s = tt
appends_kept (Some xs) None c bs r s = absurd r
appends_kept (Some xs) (Some ys) None bs r s = absurd s
appends_kept (Some xs) (Some ys) (Some zs) bs r s = s ∙ r

-- all octets from one on
pub rest_whole : (at : ℕ) (piece : List ℕ) → take (length piece - at) (drop at piece) ≡ drop at piece
rest_whole at piece = ap (λ n. take n (drop at piece)) (sym (length-drop at piece)) ∙ take-length (drop at piece)
