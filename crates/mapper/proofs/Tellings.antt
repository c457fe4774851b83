-- What is told after one call and another.
use Rattle.std.proofs.Common.{◌≡◌, ℕ, ◌+◌, List, [], ◌∷◌, ◌++◌, length, take, append_assoc, append-nil, ap, sym, ◌∙◌, arith}
use Rattle.std.specs.Prelude.{Option, None, Some}
use Rattle.std.specs.List.{concat}
use Rattle.outside.specs.Faults.{BothTell, raised}
use Rattle.outside.specs.Pace.{IsPaced}
use Rattle.outside.specs.Sink.{IsPut, Written}
use Rattle.outside.specs.declared.pace.PaceCall.{PaceCall}
use Rattle.outside.specs.declared.sink.Put.TheVariants as put
use Rattle.demand_feed.proofs.Tellings.{concat_end, one_more, tell_trans}
use Rattle.mapper.specs.Scenes.{IsCutBehind, IsPrinted}

pub paced_none : (a : Option (List PaceCall)) → IsPaced [] a a
paced_none None = tt
paced_none (Some x) = sym (append-nil x)

raised_more : (a n : ℕ) → raised (raised a n) 1 ≡ raised a (n + 1)
raised_more a n = omega arith

-- one piece more was put
pub printed_more : (ps : List (List ℕ)) (p : List ℕ) (a b c : Option Written) → BothTell a b (IsPrinted ps) → BothTell b c (IsPut put.Done p) → BothTell a c (IsPrinted (ps ++ p ∷ []))
printed_more ps p a b c r s = tell_trans a b c (IsPrinted ps) (IsPut put.Done p) (IsPrinted (ps ++ p ∷ [])) r s
    (λ x y z r s. record {
      bytes = s.bytes ∙ ap (λ xs. xs ++ p) r.bytes ∙ append_assoc x.bytes (concat ps) p ∙ ap (λ xs. x.bytes ++ xs) (sym (concat_end ps p));
      puts = s.puts ∙ ap (λ n. raised n 1) r.puts ∙ raised_more x.puts (length ps) ∙ ap (raised x.puts) (sym (one_more ps p));
    })

-- the put of one more failed
pub printed_cut : (ps : List (List ℕ)) (p : List ℕ) (a b c : Option Written) → BothTell a b (IsPrinted ps) → BothTell b c (IsPut put.Failed p) → BothTell a c (IsCutBehind ps p)
printed_cut ps p a b c r s = tell_trans a b c (IsPrinted ps) (IsPut put.Failed p) (IsCutBehind ps p) r s
    (λ x y z r s. record {
      k = s.bytes.0;
      bytes = s.bytes.1 ∙ ap (λ xs. xs ++ take s.bytes.0 p) r.bytes;
      puts = s.puts ∙ ap (λ n. raised n 1) r.puts ∙ raised_more x.puts (length ps);
    })

-- nothing was put
pub printed_none : (a : Written) → IsPrinted [] a a
printed_none a = record { bytes = sym (append-nil a.bytes); puts = omega arith }
