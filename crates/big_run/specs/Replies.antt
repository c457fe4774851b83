-- Which replies the groups of a large world get.
use Rattle.std.specs.Prelude.{◌≡◌, refl, ℕ, ◌+◌, ◌*◌, ◌/◌, ◌%◌, ◌==◌, Bool, false, List, [], ◌∷◌, Option, None, Some, count_by, slice_get, if◌then◌else◌}
use Rattle.std.specs.List.{range_with_len}
use Rattle.addr_text.specs.declared.address.Addr.{Addr}
use Rattle.addr_text.specs.declared.address.Addr.TheVariants.{V4}
use Rattle.published_map.specs.Version.{Version}
use Rattle.mapper.specs.Words.{reply_by}
use Rattle.big_run.specs.declared.replies.TheConstants.{QUERY}

-- the address of four octets
abbrev pub dotted : ℕ → ℕ → ℕ → ℕ → Addr
dotted a b c d = V4 (((a * 256 + b) * 256 + c) * 256 + d)

-- the address that asks for a group: 192.0.2.9 for the first, 100.X.Y.1 for the others, X being 64 and the number's high octet, Y its low one
unfoldable pub client_of : ℕ → Addr
client_of g = if g == 0 then dotted 192 0 2 9 else dotted 100 (64 + g / 256) (g % 256) 1

-- the query that asks for each group (RFC 1035 section 4.1): the identifier 0x1234 and RD, one question, and nothing else; www.cdn.example; type A, class IN
abbrev pub question : List ℕ
question = 18 ∷ 52 ∷ 1 ∷ 0 ∷ 0 ∷ 1 ∷ 0 ∷ 0 ∷ 0 ∷ 0 ∷ 0 ∷ 0 ∷ 3 ∷ 119 ∷ 119 ∷ 119 ∷ 3 ∷ 99 ∷ 100 ∷ 110 ∷ 7 ∷ 101 ∷ 120 ∷ 97 ∷ 109 ∷ 112 ∷ 108 ∷ 101 ∷ 0 ∷ 0 ∷ 1 ∷ 0 ∷ 1 ∷ []

-- the constant of the code is this query
pub query_is : QUERY ≡ question
query_is = refl

-- octets of a reply have that response code: the low half of the fourth (RFC 1035 section 4.1.1)
abbrev pub is_low_half : ℕ → Option ℕ → Bool
is_low_half code None = false
is_low_half code (Some octet) = octet % 16 == code

abbrev pub is_code_of : ℕ → List ℕ → Bool
is_code_of code octets = is_low_half code (slice_get octets 3)

abbrev pub is_reply_of : ℕ → Option (List ℕ) → Bool
is_reply_of code None = false
is_reply_of code (Some octets) = is_code_of code octets

-- whether a group's reply by a version has that code
unfoldable pub has_code : Version → ℕ → ℕ → Bool
has_code v code g = is_reply_of code (reply_by v (client_of g) question)

-- how many of the first groups have a reply with that code
unfoldable pub count_of : Version → ℕ → ℕ → ℕ
count_of v code groups = count_by (has_code v code) (range_with_len 0 groups)
