use Rattle.std.proofs.Common.{◌<◌, ◌^◌, false, IfSome, length, subst, sym, arith}
use Rattle.std.proofs.lemmas.List.{length-map}
use Rattle.toml.specs.Data.{boolean}
use Rattle.toml.specs.View.{view}
use Rattle.toml.specs.declared.value.Value.{Value}
use Rattle.topology_text.specs.Code.{entries}
use Rattle.topology_text.specs.Names.{pair_of}
use Rattle.topology_text.proofs.Rows.{entry_is}
use Rattle.topology_text.proofs.pairs.pairs.Goals as goal

pub overflow_cast-group : goal.overflow_cast-group
overflow_cast-group c =
    let d = entries c.args.index.now in
    let classes = c.args.index.now.classes.now in
    let i = c.loop-class.class-index in
    let l : i < length classes = subst (λ vs. i < length {A = Value} vs) c.classes-class-items.ensures c.loop-class-test.true in
    let fits = c.requires i (boolean false) (omega (arith, l, length-map classes view)) in
    let here : IfSome (pair_of d (view c.class-item.result)) (λ q. (q.0 < 2 ^ 32) × (q.1 < 256)) =
    subst (λ e. IfSome (pair_of d e) (λ q. (q.0 < 2 ^ 32) × (q.1 < 256))) (entry_is classes c.classes-class-items.result.now i c.class-item.result c.classes-class-items.ensures c.class-item.is l) fits in
    let given : IfSome c.pair_of.result (λ q. (q.0 < 2 ^ 32) × (q.1 < 256)) = subst (λ o. IfSome o (λ q. (q.0 < 2 ^ 32) × (q.1 < 256))) (sym c.pair_of.ensures) here in
    let both = subst (λ o. IfSome o (λ q. (q.0 < 2 ^ 32) × (q.1 < 256))) c.in-Some.is given in
    let low = both.0 in
    omega (arith, low)

pub overflow_cast-service : goal.overflow_cast-service
overflow_cast-service c =
    let d = entries c.args.index.now in
    let classes = c.args.index.now.classes.now in
    let i = c.loop-class.class-index in
    let l : i < length classes = subst (λ vs. i < length {A = Value} vs) c.classes-class-items.ensures c.loop-class-test.true in
    let fits = c.requires i (boolean false) (omega (arith, l, length-map classes view)) in
    let here : IfSome (pair_of d (view c.class-item.result)) (λ q. (q.0 < 2 ^ 32) × (q.1 < 256)) =
    subst (λ e. IfSome (pair_of d e) (λ q. (q.0 < 2 ^ 32) × (q.1 < 256))) (entry_is classes c.classes-class-items.result.now i c.class-item.result c.classes-class-items.ensures c.class-item.is l) fits in
    let given : IfSome c.pair_of.result (λ q. (q.0 < 2 ^ 32) × (q.1 < 256)) = subst (λ o. IfSome o (λ q. (q.0 < 2 ^ 32) × (q.1 < 256))) (sym c.pair_of.ensures) here in
    let both = subst (λ o. IfSome o (λ q. (q.0 < 2 ^ 32) × (q.1 < 256))) c.in-Some.is given in
    let low = both.1 in
    omega (arith, low)
