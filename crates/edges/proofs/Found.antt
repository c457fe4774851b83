-- Which place a connection that comes gets, where there are fewer of its address than there may be.
use Rattle.std.proofs.Common.{◌≡◌, ℕ, ◌<◌, List, Option, Some, false, sym, subst, MatchBool, MatchOption, count_by, position}
use Rattle.std.proofs.lemmas.Bool.{lt-leb}
use Rattle.std.specs.Prelude.{nat_le}
use Rattle.addr_text.specs.declared.address.Addr.{Addr}
use Rattle.edges.specs.Places.{IsFound, IsPlaceFor, is_free, is_of}
use Rattle.edges.specs.declared.places.Wanted.TheVariants.{Oldest, OldestOf}
use Rattle.edges.specs.declared.seat.Seat.{Seat}

pub fewer : (seats : List Seat) (addr : Addr) (most count : ℕ) (first found : Option ℕ) → count ≡ count_by (is_of addr) seats → count < most → first ≡ position is_free seats → MatchOption first (IsFound Oldest seats found) (λ i. found ≡ Some i) → IsPlaceFor seats addr most found
fewer seats addr most count first found counted lt at is =
    let e : nat_le most (count_by (is_of addr) seats) ≡ false = lt-leb most (count_by (is_of addr) seats) (subst (λ n. n < most) counted lt) in
    subst (λ b. MatchBool b (IsFound (OldestOf addr) seats found) (MatchOption (position is_free seats) (IsFound Oldest seats found) (λ i. found ≡ Some i))) (sym e) (subst (λ o. MatchOption o (IsFound Oldest seats found) (λ i. found ≡ Some i)) at is)
