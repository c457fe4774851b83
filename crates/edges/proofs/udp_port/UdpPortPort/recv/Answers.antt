use Rattle.std.proofs.Common.{sym, subst}
use Rattle.edges.specs.Pasts.{IsAsked, IsGoing, IsHanded}
use Rattle.edges.proofs.Ports.{received_asked, received_going, received_handed}
use Rattle.edges.proofs.udp_port.UdpPortPort.recv.Goals as goal

pub invariant_of-self-in_default : goal.invariant_of-self-in_default
invariant_of-self-in_default g c =
    let next = c.take_next-arrival in
    let told = c.self.inside.past.told in (
      subst IsGoing (sym c.note.ensures) (received_going c.args.known next.new.buffer next.result told next.ensures.open c.self.invariant.0),
      subst (λ t. IsAsked next.new.asked.told t) (sym c.note.ensures) (received_asked c.args.known c.self.inside.asked.told next.new.asked.told next.new.buffer next.result told next.ensures.open next.ensures.asked next.ensures.once c.self.invariant.1),
      subst (λ t. IsHanded c.self.inside.handed.told t) (sym c.note.ensures) (received_handed c.args.known c.self.inside.handed.told next.new.buffer next.result told c.self.invariant.2),
    )
