-- Which datagrams are nothing that is replied to.
use Rattle.std.proofs.Common.{◌≡◌, ℕ, Bool, true, false, cond, List, Option, None, Some, sym, ap, ◌∙◌}
use Rattle.std.specs.Prelude.{not, nat_eq}
use Rattle.std.specs.Option.{option_map_or}
use Rattle.dns_wire.specs.Message.{Asked, Reading, Silent, NotImp, Form, Query, reading, is_silent, head_of, opcode_of, has_one_question, query_in}

-- what is read behind the length and the third octet
abbrev behind : List ℕ → Reading
behind octets = cond (not (nat_eq (opcode_of octets) 0)) (NotImp (head_of octets)) (cond (not (has_one_question octets)) (Form (head_of octets)) (option_map_or Query (query_in octets) (Form (head_of octets))))

pub silent_read : (octets : List ℕ) → is_silent octets ≡ true → reading octets ≡ Silent
unfolding reading
silent_read octets silent = ap (λ (b : Bool). cond b Silent (behind octets)) silent

by_query : (octets : List ℕ) (o : Option Asked) → option_map_or Query o (Form (head_of octets)) ≡ Silent → ⊥
by_query octets None e = absurd cc
by_query octets (Some q) e = absurd cc

by_tests : (octets : List ℕ) (a b : Bool) → cond a (NotImp (head_of octets)) (cond b (Form (head_of octets)) (option_map_or Query (query_in octets) (Form (head_of octets)))) ≡ Silent → ⊥
by_tests octets true b e = absurd cc
by_tests octets false true e = absurd cc
by_tests octets false false e = by_query octets (query_in octets) e

pub other_read : (octets : List ℕ) → is_silent octets ≡ false → reading octets ≡ Silent → ⊥
unfolding reading
other_read octets speaks e = by_tests octets (not (nat_eq (opcode_of octets) 0)) (not (has_one_question octets)) (sym (ap (λ (b : Bool). cond b Silent (behind octets)) speaks) ∙ e)
