use Rattle.std.proofs.Common.{[], ◌≤◌, ℕ, List, length, subst, sym, arith}
use Rattle.map_text.proofs.Copied.{short_name}
use Rattle.map_text.proofs.lexicon.group_word.Goals as goal

pub of-requires : goal.of-requires
of-requires c =
    let plan = c.instance-instance.ensures.plan in
    subst (λ (name : List ℕ). length name ≤ 32) (sym c.group_name.ensures.name) (short_name _ (plan.groups.each c.args.group.0 [] (omega (arith, c.requires, plan.groups.as_many))))
