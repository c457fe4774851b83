use Rattle.std.proofs.Common.{sym, subst}
use Rattle.std.specs.Prelude.{IfOk, Result, Ok, Err}
use Rattle.prefix_lookup.specs.Blocks.{AreBlocks}
use Rattle.prefix_lookup.proofs.sweep.ranges_of.Goals as goal

weaker : {T E : Type 0} (P Q : T → Type 0) (r : Result T E) → ((x : T) → P x → Q x) → IfOk r P → IfOk r Q
weaker P Q (Ok x) f h = f x h
weaker P Q (Err e) f h = tt

pub returns : goal.returns
returns c = weaker _ _ c.sweep.result (λ r all. all c.args.table.now c.requires (subst (AreBlocks c.args.family c.args.table.now) (sym c.as_slice.ensures.value) c.in_ok-blocks.ensures)) c.sweep.ensures
