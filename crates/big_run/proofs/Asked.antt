-- The reply to the query of a group, by every version whose zone is that of a large world, is an answer or a server failure.
use Rattle.std.proofs.Common.{◌≡◌, ◌⊎◌, ℕ, zero, suc, ◌+◌, Bool, true, false, cond, List, [], ◌∷◌, inl, inr, refl, ap, ◌∙◌, arith}
use Rattle.std.specs.Prelude.{Option, None, Some, ◌%◌, ◌==◌, count_by, if◌then◌else◌, length, nat_le}
use Rattle.std.specs.List.{range_with_len}
use Rattle.std.proofs.lemmas.List.Sums.{sum_by-cons}
use Rattle.addr_text.specs.declared.address.Addr.{Addr}
use Rattle.name_text.specs.Names.{is_same, is_under, label_name_of, name_of}
use Rattle.topology_text.specs.declared.topology.Zone.{Zone}
use Rattle.topology_text.specs.Plan.{addresses_of}
use Rattle.topology_text.specs.Topology.{zone_of}
use Rattle.big_world.specs.World.{zone_data}
use Rattle.published_map.specs.Version.{Version}
use Rattle.dns_wire.specs.Message.{query_in, reading}
use Rattle.dns_wire.specs.Wire.{name_len, records_in}
use Rattle.answer_core.specs.Columns.{rcode}
use Rattle.answer_core.specs.Grammar.{Query, Request, datagram_of}
use Rattle.answer_core.specs.Outcome.{by_name, of_addresses, of_pool, pool_for, service_of}
use Rattle.answer_core.specs.Reply.{cut_short, fitted, full, reply_to}
use Rattle.answer_core.specs.declared.way.Way.TheVariants as way
use Rattle.mapper.specs.Words.{reply_by}
use Rattle.big_run.specs.Replies.{client_of, count_of, has_code, is_code_of, is_reply_of, question}

-- the names cdn.example, and www below it
abbrev apex : List ℕ
apex = 3 ∷ 99 ∷ 100 ∷ 110 ∷ 7 ∷ 101 ∷ 120 ∷ 97 ∷ 109 ∷ 112 ∷ 108 ∷ 101 ∷ 0 ∷ []

abbrev name : List ℕ
name = 3 ∷ 119 ∷ 119 ∷ 119 ∷ apex

-- what the query asks: that name, type A, class IN, without an extension
abbrev request : Request
request = record {
  asked = record { head = record { id = 4660; opcode = 0; rd = true }; name = name; kind = 1; class = 1; opt = None };
  subnet = None;
  fault = None;
}

asked_is : datagram_of question ≡ Query request
unfolding reading query_in name_len records_in
asked_is = refl

-- the name is that of a service in the zone
under : is_under name (zone_of (Some zone_data)).apex ≡ true
unfolding is_under name_of
under = refl

apart : is_same name (zone_of (Some zone_data)).apex ≡ false
unfolding name_of
apart = refl

served : service_of (zone_of (Some zone_data)) name ≡ Some 0
unfolding name_of label_name_of
served = refl

-- so the group's pool decides
at_name : (v : Version) (from : Addr) → v.plan.zone ≡ zone_of (Some zone_data) → by_name v request from 0 ≡ of_pool v 1 0 (pool_for v from 0 0)
at_name v from zone =
    rw (ap (λ (z : Zone). is_under name z.apex) zone ∙ under, ap (λ (z : Zone). is_same name z.apex) zone ∙ apart, ap (λ (z : Zone). service_of z name) zone ∙ served) refl

-- its addresses, or none, have the code 0, and a group without a pool has 2
code_at : (v : Version) (kind scope : ℕ) (pool : Option ℕ) → (rcode (of_pool v kind scope pool) ≡ 0) ⊎ (rcode (of_pool v kind scope pool) ≡ 2)
code_at v kind scope None = inr refl
code_at v kind scope (Some pool) = go (addresses_of v.plan pool kind)
  where
    go : (addresses : List Addr) → (rcode (of_addresses kind addresses scope) ≡ 0) ⊎ (rcode (of_addresses kind addresses scope) ≡ 2)
    go [] = inl refl
    go (a ∷ more) = inl refl

-- what is cut short has the same code
code_kept : (v : Version) (kind scope : ℕ) (pool : Option ℕ) → rcode (cut_short (of_pool v kind scope pool)) ≡ rcode (of_pool v kind scope pool)
code_kept v kind scope None = refl
code_kept v kind scope (Some pool) = go (addresses_of v.plan pool kind)
  where
    go : (addresses : List Addr) → rcode (cut_short (of_addresses kind addresses scope)) ≡ rcode (of_addresses kind addresses scope)
    go [] = refl
    go (a ∷ more) = refl

-- the fourth octet of the reply holds the code, whether or not it is cut short
code_told : (z : Zone) (v : Version) (pool : Option ℕ) (fits : Bool) (code : ℕ) → is_code_of code (full z request (if fits then of_pool v 1 0 pool else cut_short (of_pool v 1 0 pool))) ≡ (rcode (of_pool v 1 0 pool) % 16 % 16 == code)
code_told z v pool true code = refl
code_told z v pool false code = ap (λ c. c % 16 % 16 == code) (code_kept v 1 0 pool)

reply_is : (v : Version) (g code : ℕ) → v.plan.zone ≡ zone_of (Some zone_data) → has_code v code g ≡ (rcode (of_pool v 1 0 (pool_for v (client_of g) 0 0)) % 16 % 16 == code)
unfolding has_code reply_by
reply_is v g code zone =
    let pool = pool_for v (client_of g) 0 0 in
    ap (λ d. is_reply_of code (reply_to v (client_of g) d 0 way.Datagram)) asked_is
    ∙ ap (λ o. is_code_of code (full v.plan.zone request (fitted 512 v.plan.zone request o))) (at_name v (client_of g) zone)
    ∙ code_told v.plan.zone v pool (nat_le (length (full v.plan.zone request (of_pool v 1 0 pool))) 512) code

-- each group's reply has one of the two codes, and not both
pub one_of_two : (v : Version) (g : ℕ) → v.plan.zone ≡ zone_of (Some zone_data) → ((has_code v 0 g ≡ true) × (has_code v 2 g ≡ false)) ⊎ ((has_code v 0 g ≡ false) × (has_code v 2 g ≡ true))
one_of_two v g zone =
    elim (code_at v 1 0 (pool_for v (client_of g) 0 0)) [
      | inl answered ↦ inl (reply_is v g 0 zone ∙ ap (λ c. c % 16 % 16 == 0) answered, reply_is v g 2 zone ∙ ap (λ c. c % 16 % 16 == 2) answered)
      | inr failed ↦ inr (reply_is v g 0 zone ∙ ap (λ c. c % 16 % 16 == 0) failed, reply_is v g 2 zone ∙ ap (λ c. c % 16 % 16 == 2) failed)
    ]

once : (p q : Bool) → ((p ≡ true) × (q ≡ false)) ⊎ ((p ≡ false) × (q ≡ true)) → cond p 1 0 + cond q 1 0 ≡ 1
once p q (inl first) = rw (first.0, first.1) refl
once p q (inr second) = rw (second.0, second.1) refl

-- where just one of two tests holds of each number, their counts add up
add_up : (p q : ℕ → Bool) → ((k : ℕ) → cond (p k) 1 0 + cond (q k) 1 0 ≡ 1) → (a n : ℕ) → count_by p (range_with_len a n) + count_by q (range_with_len a n) ≡ n
add_up p q one a zero = refl
add_up p q one a (suc n) = omega (arith, one a, more p, more q, add_up p q one (a + 1) n)
  where
    more : (test : ℕ → Bool) → count_by test (range_with_len a (suc n)) ≡ cond (test a) 1 0 + count_by test (range_with_len (a + 1) n)
    more test = sum_by-cons (λ k. cond (test k) 1 0) a (range_with_len (a + 1) n)

pub counts_add_up : (v : Version) (n : ℕ) → v.plan.zone ≡ zone_of (Some zone_data) → count_of v 0 n + count_of v 2 n ≡ n
unfolding count_of
counts_add_up v n zone = add_up (has_code v 0) (has_code v 2) (λ g. once (has_code v 0 g) (has_code v 2 g) (one_of_two v g zone)) 0 n
