use Rattle.std.proofs.Common.{◌≡◌, sym, subst, Option, List, ℕ, None}
use Rattle.std.specs.Option.{option_map}
use Rattle.std.proofs.lemmas.Bool.{eqb-true}
use Rattle.dns_wire.specs.View.{option_view}
use Rattle.client_subnet.proofs.Going.{first_after, goes_on, broken, is_done, some_left}
use Rattle.client_subnet.proofs.options.first_subnet.Goals as goal

pub returns-in_err-next : goal.returns-in_err-next
returns-in_err-next c =
    let e = c.loop-rest-test.ensures in
    rw c.from_residual.ensures (sym (broken _ c.loop-rest.rest.now _ (some_left _ (sym e)) c.in_err-next.ensures.exact c.loop-rest.invariant))

pub loop-rest-preserved : goal.loop-rest-preserved
loop-rest-preserved c =
    let e = c.loop-rest-test.ensures in
    subst (λ (f : Option (List ℕ)). first_after f c.in_ok-next.after.now ≡ first_after None c.args.octets.now) (sym c.kept-first.ensures)
    (goes_on (option_map (λ x. x.now) c.loop-rest.first) c.loop-rest.rest.now c.in_ok-next.after.now (option_view c.in_ok-next.next) _ (some_left _ (sym e)) c.in_ok-next.ensures.exact c.loop-rest.invariant)

pub returns : goal.returns
returns c = let e = c.loop-rest-test.ensures in is_done _ c.loop-rest.rest.now _ (eqb-true _ _ (sym e)) c.loop-rest.invariant
