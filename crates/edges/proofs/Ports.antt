-- What each answer of recv leaves of a port that goes on.
use Rattle.std.proofs.Common.{ℕ, List, ◌≡◌, ◌≢◌, ◌≤◌, ◌+◌, ap, refl, arith}
use Rattle.std.proofs.lemmas.List.{length_push}
use Rattle.std.specs.Prelude.{option_map, drop, take}
use Rattle.outside.specs.Port.{PortTold, received}
use Rattle.outside.specs.declared.port.Arrival.{Arrival}
use Rattle.outside.specs.declared.port.Arrival.TheVariants.{Arrived, Idle, Oversize, End, Failed}
use Rattle.edges.specs.Pasts.{IsAsked, IsGoing, IsHanded}

pub received_going : (known : ℕ) (buffer : List ℕ) (arrival : Arrival) (port : PortTold) → arrival ≢ End → IsGoing port → IsGoing (received known buffer arrival port)
received_going known buffer (Arrived len from) port on going = (ap (option_map (drop 1)) going.0, going.1, omega (arith, going.2, length_push port.taken (record { packet = record { octets = take len buffer; from = from }; known = known; place = port.recvs })))
received_going known buffer Idle port on going = going
received_going known buffer Oversize port on going = (ap (option_map (drop 1)) going.0, going.1, going.2)
received_going known buffer End port on going = absurd (on refl)
received_going known buffer Failed port on going = going

-- the system was asked once more, or the answer failed
pub received_asked : (known n m : ℕ) (buffer : List ℕ) (arrival : Arrival) (port : PortTold) → arrival ≢ End → n ≤ m → (arrival ≢ Failed → m ≡ n + 1) → IsAsked n port → IsAsked m (received known buffer arrival port)
received_asked known n m buffer (Arrived len from) port on later once asked = let one = once (λ e. absurd (cc e)) in omega (arith, one, asked)
received_asked known n m buffer Idle port on later once asked = let one = once (λ e. absurd (cc e)) in omega (arith, one, asked)
received_asked known n m buffer Oversize port on later once asked = let one = once (λ e. absurd (cc e)) in omega (arith, one, asked)
received_asked known n m buffer End port on later once asked = absurd (on refl)
received_asked known n m buffer Failed port on later once asked = omega (arith, later, asked)

-- what came in changes nothing of what went
pub received_handed : (known n : ℕ) (buffer : List ℕ) (arrival : Arrival) (port : PortTold) → IsHanded n port → IsHanded n (received known buffer arrival port)
received_handed known n buffer (Arrived len from) port handed = handed
received_handed known n buffer Idle port handed = handed
received_handed known n buffer Oversize port handed = handed
received_handed known n buffer End port handed = handed
received_handed known n buffer Failed port handed = handed
