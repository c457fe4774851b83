use Rattle.std.proofs.Common.{◌≡◌, ◌+◌, ℕ, Option, sym, ap, subst, arith}
use Rattle.std.specs.Prelude.{unwrap_or, ◌^◌}
use Rattle.prefix_lookup.specs.Sweep.{AllLongest, CoversTo, stop_of}
use Rattle.prefix_lookup.proofs.sweep.cover.Goals as goal

pub returns-in_ok-begin-clause-covers : goal.returns-in_ok-begin-clause-covers
returns-in_ok-begin-clause-covers c = λ family table covers all.
    let old = c.args.ranges.now in
    let at : stop_of old ≡ c.in-Some.next = ap (λ (o : Option ℕ). unwrap_or o (2 ^ 128)) c.in-Some.is in
    let made = c.in_ok-begin.ensures.begun family table (c.args.last + 1) (subst (λ (n : ℕ). CoversTo n family table old.starts.items old.groups.items old.last) at covers) (subst (λ (n : ℕ). AllLongest family table c.args.block n (c.args.last + 1)) at all) (omega (arith, c.if-next-last.true)) in
    subst (λ (n : ℕ). CoversTo n family table c.begin.new.ranges.starts.items c.begin.new.ranges.groups.items c.begin.new.ranges.last) (sym c.after-ranges.ensures) made
