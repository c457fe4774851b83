use Rattle.std.proofs.Common.{ap, sym, ◌∙◌, ◌==◌}
use Rattle.name_text.specs.Names.{label_fault}
use Rattle.name_text.proofs.Labels.{fault_here, fault_later, fault_last}
use Rattle.name_text.proofs.read.first_fault.Goals as goal

pub returns-in-Some-label_fault : goal.returns-in-Some-label_fault
returns-in-Some-label_fault c =
    fault_here (λ b. b == 46) c.loop-dot.rest.now c.in-Some.dot c.in-Some-label_fault.fault _ (sym c.position_of.ensures.first ∙ c.in-Some.is)
    (ap label_fault (sym c.before-in-Some.ensures) ∙ sym c.label_fault.ensures ∙ c.in-Some-label_fault.is) c.loop-dot.invariant

pub loop-dot-preserved : goal.loop-dot-preserved
loop-dot-preserved c =
    rw c.after-rest.ensures
    (fault_later (λ b. b == 46) c.loop-dot.rest.now c.in-Some.dot _ (sym c.position_of.ensures.first ∙ c.in-Some.is)
    (ap label_fault (sym c.before-in-Some.ensures) ∙ sym c.label_fault.ensures ∙ c.in_default-label_fault.is) c.loop-dot.invariant)

pub returns : goal.returns
returns c = c.label_fault-2.ensures ∙ fault_last (λ b. b == 46) c.loop-dot.rest.now _ (sym c.position_of.ensures.first ∙ c.in_default.is) c.loop-dot.invariant
