-- Whether a node is among those of a path.
use Rattle.std.proofs.Common.{◌≡◌, ℕ, ◌+◌, ◌-◌, ◌<◌, ◌≤◌, ◌==◌, true, false, Option, Some, None, refl, sym, ap, ◌∙◌, arith}
use Rattle.std.specs.List.{list_any}
use Rattle.std.proofs.lemmas.Bool.{eq-eqb, ne_eqb}
use Rattle.map_model.specs.declared.instance.NodeId.{NodeId}
use Rattle.map_model.specs.Market.{Market, climb, parent_of}
use Rattle.map_model.proofs.Paths.{climb_none, climb_step}

pub any_on : (m : Market) (i n : ℕ) (p : NodeId) (at at' : Option NodeId) → i < 8 → at ≡ Some p → (p.0 ≡ n → ⊥) → at' ≡ parent_of m p.0 → list_any (λ x. x == n) (climb (8 - (i + 1)) m at') ≡ list_any (λ x. x == n) (climb (8 - i) m at)
any_on m i n p at at' h is ne up = rw (up, is) (sym (rw (climb_step m i p h) (rw (ne_eqb p.0 n ne) refl)))

pub any_over : (m : Market) (i n : ℕ) (at at' : Option NodeId) → at ≡ None → at' ≡ at → list_any (λ x. x == n) (climb (8 - (i + 1)) m at') ≡ list_any (λ x. x == n) (climb (8 - i) m at)
any_over m i n at at' is stays = rw (stays, is) (ap (list_any (λ x. x == n)) (climb_none m (8 - (i + 1))) ∙ sym (ap (list_any (λ x. x == n)) (climb_none m (8 - i))))

pub any_done : (m : Market) (i n : ℕ) (at : Option NodeId) → 8 ≤ i → list_any (λ x. x == n) (climb (8 - i) m at) ≡ false
unfolding climb
any_done m i n at h = let e : 8 - i ≡ 0 = omega arith in ap (λ s. list_any (λ x. x == n) (climb s m at)) e
