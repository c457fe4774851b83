-- What each outcome puts into a reply, column by column.
use Rattle.std.specs.Prelude.{ℕ, Bool, true, false, Option, None, Some}
use Rattle.answer_core.specs.declared.outcome.Outcome.{Outcome}
use Rattle.answer_core.specs.declared.outcome.Outcome.TheVariants.{BadVers, Error, Negative, Positive, Truncated}

-- AA
abbrev pub is_authoritative : {T : Type 0} → Outcome T → Bool
is_authoritative BadVers = false
is_authoritative (Error code) = false
is_authoritative (Negative code) = true
is_authoritative (Positive records scope) = true
is_authoritative (Truncated scope) = true

-- TC
abbrev pub is_truncated : {T : Type 0} → Outcome T → Bool
is_truncated BadVers = false
is_truncated (Error code) = false
is_truncated (Negative code) = false
is_truncated (Positive records scope) = false
is_truncated (Truncated scope) = true

-- RCODE (RFC 1035 4.1.1)
abbrev pub rcode : {T : Type 0} → Outcome T → ℕ
rcode BadVers = 0
rcode (Error code) = code
rcode (Negative code) = code
rcode (Positive records scope) = 0
rcode (Truncated scope) = 0

-- its extended part (RFC 6891 9): 1 and RCODE 0 make BADVERS, 16
abbrev pub extended : {T : Type 0} → Outcome T → ℕ
extended BadVers = 1
extended (Error code) = 0
extended (Negative code) = 0
extended (Positive records scope) = 0
extended (Truncated scope) = 0

-- the scope of the subnet option, where a subnet that was given is repeated
abbrev pub scope_told : {T : Type 0} → Outcome T → Option ℕ
scope_told BadVers = None
scope_told (Error code) = None
scope_told (Negative code) = Some 0
scope_told (Positive records scope) = Some scope
scope_told (Truncated scope) = Some scope
