use Rattle.std.proofs.Common.{arith, get_or, refl}
use Rattle.dns_wire.proofs.Names.{past_label, at_end, at_pointer, at_reserved, past_all}
use Rattle.dns_wire.proofs.name.name_length.Goals as goal

pub returns-in-0-clause-exact : goal.returns-in-0-clause-exact
returns-in-0-clause-exact c = at_end c.args.pointers c.args.octets.now c.loop-at.at _ (omega arith) c.in-0.is c.loop-at.invariant

pub loop-at-preserved : goal.loop-at-preserved
loop-at-preserved c = past_label c.args.pointers c.args.octets.now c.loop-at.at (get_or c.args.octets.now c.loop-at.at 0) _ (omega arith) refl (omega arith) (omega arith) c.loop-at.invariant

pub returns-in-192-to-255-clause-exact : goal.returns-in-192-to-255-clause-exact
returns-in-192-to-255-clause-exact c =
    at_pointer c.args.pointers c.args.octets.now c.loop-at.at (get_or c.args.octets.now c.loop-at.at 0) _ c.if-pointers.true (omega arith) refl (omega arith) c.loop-at.invariant

pub returns-in_default-clause-exact : goal.returns-in_default-clause-exact
returns-in_default-clause-exact c =
    at_reserved c.args.pointers c.args.octets.now c.loop-at.at (get_or c.args.octets.now c.loop-at.at 0) _ (omega arith) refl (omega arith) (λ _ h. omega arith) c.loop-at.invariant

pub returns-in_default-2-clause-exact : goal.returns-in_default-2-clause-exact
returns-in_default-2-clause-exact c =
    at_reserved c.args.pointers c.args.octets.now c.loop-at.at (get_or c.args.octets.now c.loop-at.at 0) _ (omega arith) refl (omega arith) (λ _ _. omega arith) c.loop-at.invariant

pub returns-in_default-3-clause-exact : goal.returns-in_default-3-clause-exact
returns-in_default-3-clause-exact c =
    at_reserved c.args.pointers c.args.octets.now c.loop-at.at (get_or c.args.octets.now c.loop-at.at 0) _ (omega arith) refl (omega arith) (λ p _. absurd cc) c.loop-at.invariant

pub returns-clause-exact : goal.returns-clause-exact
returns-clause-exact c = past_all c.args.pointers c.args.octets.now c.loop-at.at _ (omega arith) c.loop-at.invariant
