-- Each reply was tried right behind its message.
use Rattle.std.proofs.Common.{◌≡◌, ℕ, List, [], ◌∷◌, ◌++◌, fold, All, refl, ap, sym, ◌∙◌, append_assoc, append-nil}
use Rattle.std.proofs.lemmas.List.Elements.{All-head, All-tail}
use Rattle.outside.specs.Faults.{raised}
use Rattle.outside.specs.Port.{PortTold, Taken}
use Rattle.lane_model.specs.Replies.{is_silent, replies}
use Rattle.lane_model.specs.Turns.{Came, IsFated, Turn, idle, oversize, ended, failed, port_after, port_turn, took, tries_of, tries_of_came}
use Rattle.lane_model.specs.Turns as fate
use Rattle.headline.specs.Headline.{places_of}
use Rattle.headline.specs.View.{Event}
use Rattle.headline.proofs.Events.{made, tell, turned}

-- what a port tells of some turns, behind what it told
abbrev pub InOrder : PortTold → PortTold → List Event → Type 0
InOrder p q events = (new : List Taken) × (q.taken ≡ p.taken ++ new) × (q.places ≡ p.places ++ places_of events new)

told_order : (notes : List ℕ) (events : List Event) (new : List Taken) → places_of (tell notes events) new ≡ places_of events new
told_order [] events new = refl
told_order (n ∷ notes) events new = told_order notes events new

-- behind a datagram that was taken
one_more : (p q : PortTold) (x : Taken) (places : List ℕ) (events : List Event) (r : PortTold) → r.taken ≡ p.taken ++ x ∷ [] → r.places ≡ p.places ++ places → InOrder r q events
    → (new : List Taken) × (q.taken ≡ p.taken ++ x ∷ new) × (q.places ≡ p.places ++ (places ++ places_of events new))
one_more p q x places events r taken put o =
    (o.0, o.1 ∙ ap (λ xs. xs ++ o.0) taken ∙ append_assoc p.taken (x ∷ []) o.0, o.2 ∙ ap (λ xs. xs ++ places_of events o.0) put ∙ append_assoc p.places places (places_of events o.0))

turn_order : (known : ℕ) (c : Came) (log : List Turn) (p : PortTold) → IsFated replies c → ((q : PortTold) → InOrder q (fold port_turn q log) (made is_silent log (tries_of log)))
    → InOrder p (fold port_turn (port_after known c p) log) (turned is_silent known c (tries_of_came c ++ tries_of log) (λ ts. made is_silent log ts))
turn_order known idle log p fated on = on (port_after known idle p)
turn_order known oversize log p fated on = on (port_after known oversize p)
turn_order known ended log p fated on = on (port_after known ended p)
turn_order known failed log p fated on = on (port_after known failed p)
turn_order known (took d fate.silent) log p fated on =
    let r = port_after known (took d fate.silent) p in
    let m = one_more p (fold port_turn r log) (record { packet = d; known = known; place = p.recvs }) [] (made is_silent log (tries_of log)) r refl (sym (append-nil p.places)) (on r) in
    rw fated ((record { packet = d; known = known; place = p.recvs }) ∷ m.0, m.1, m.2)
turn_order known (took d fate.refused) log p fated on =
    let r = port_after known (took d fate.refused) p in
    let m = one_more p (fold port_turn r log) (record { packet = d; known = known; place = p.recvs }) [] (made is_silent log (tries_of log)) r refl (sym (append-nil p.places)) (on r) in
    ((record { packet = d; known = known; place = p.recvs }) ∷ m.0, m.1, m.2)
turn_order known (took d (fate.tried serial octets went)) log p fated on =
    let r = port_after known (took d (fate.tried serial octets went)) p in
    let m = one_more p (fold port_turn r log) (record { packet = d; known = known; place = p.recvs }) (raised p.recvs 1 ∷ []) (made is_silent log (tries_of log)) r refl refl (on r) in
    rw fated ((record { packet = d; known = known; place = p.recvs }) ∷ m.0, m.1, m.2)

pub in_order : (log : List Turn) (p : PortTold) → All (λ t. IsFated replies t.came) log → InOrder p (fold port_turn p log) (made is_silent log (tries_of log))
in_order [] p fates = ([], sym (append-nil p.taken), sym (append-nil p.places))
in_order (t ∷ log) p fates =
    let first : IsFated replies t.came = All-head (λ (x : Turn). IsFated replies x.came) t log fates in
    let o = turn_order t.known t.came log p first (λ q. in_order log q (All-tail (λ (x : Turn). IsFated replies x.came) t log fates)) in
    (o.0, o.1, o.2 ∙ ap (λ ps. p.places ++ ps) (sym (told_order t.notes (turned is_silent t.known t.came (tries_of (t ∷ log)) (λ ts. made is_silent log ts)) o.0)))
