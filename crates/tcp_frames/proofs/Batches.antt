-- Whole messages at the front, one more of them.
use Rattle.std.proofs.Common.{◌≡◌, ℕ, ◌-◌, ◌<◌, ◌≤◌, List, [], ◌∷◌, ◌++◌, length, sym, ap, ◌∙◌, arith, append_assoc, append-nil, length-append}
use Rattle.std.proofs.lemmas.List.Elements.{All-cons, All-nil}
use Rattle.outside.specs.Limits.{largest_datagram}
use Rattle.tcp_frames.specs.Fronts.{IsBatch}
use Rattle.tcp_frames.specs.Split.{framed}

pub longer : (most : ℕ) (octets message behind rest : List ℕ) → 1 < most → octets ≡ framed message ++ behind → length message ≤ largest_datagram → IsBatch (most - 1) behind rest → IsBatch most octets rest
longer most octets message behind rest more is small b = record {
  front = framed message ++ b.front;
  parts = is ∙ (ap (λ k. framed message ++ k) b.parts ∙ sym (append_assoc (framed message) b.front rest));
  whole = (message ∷ b.whole.0, ap (λ k. framed message ++ k) b.whole.1, All-cons (λ (m : List ℕ). length m ≤ largest_datagram) message b.whole.0 small b.whole.2, omega (arith, more, b.whole.3));
  none = λ same. absurd (omega (arith, same, ap length is, length-append message behind, ap length b.parts, length-append b.front rest));
}

pub no_more : (most : ℕ) (octets message behind : List ℕ) → 1 ≤ most → octets ≡ framed message ++ behind → length message ≤ largest_datagram → IsBatch most octets behind
no_more most octets message behind one is small = record {
  front = framed message;
  parts = is;
  whole = (message ∷ [], sym (append-nil (framed message)), All-cons (λ (m : List ℕ). length m ≤ largest_datagram) message [] small (All-nil (λ (m : List ℕ). length m ≤ largest_datagram)), one);
  none = λ same. absurd (omega (arith, same, ap length is, length-append message behind));
}
