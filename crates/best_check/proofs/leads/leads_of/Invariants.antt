use Rattle.std.proofs.Common.{◌≡◌, ℕ, ◌<◌, length, None, IfSome, slice_index_or}
use Rattle.best_check.proofs.Leading.{IsLead}
use Rattle.best_check.proofs.leads.leads_of.Given as goal

abbrev pub invariant-loop-next : goal.invariant-loop-next
invariant-loop-next l = record {
  size : length l.leads.items ≡ l.next-index;
  inside : (n : ℕ) → n < l.next-index → IfSome (slice_index_or l.leads.items n None) (λ p. p.0 < length l.instance.nodes);
  leads : (n : ℕ) → n < l.next-index → IsLead l.instance l.state.lines n (slice_index_or l.leads.items n None);
}
