use Rattle.std.proofs.Common.{◌+◌, ◌++◌, ◌∷◌, take, drop, ap, ◌∙◌, arith}
use Rattle.addr_text.specs.Groups.{v4_numbers, v6_groups}
use Rattle.addr_text.specs.Written.{coloned, run_at}
use Rattle.addr_text.proofs.Again.{all_below, no_dots, no_dots_short, no_numbers, plain_again, plain_pushed, short_again, short_pushed}
use Rattle.addr_text.proofs.write.push_groups.Goals as goal

pub returns-in-None-clause-again : goal.returns-in-None-clause-again
returns-in-None-clause-again c =
    ap v6_groups (plain_pushed c.args.groups.now c.args.out.now.items c.push_coloned.new.out.items c.requires.empty c.push_coloned.ensures.text)
    ∙ plain_again c.args.groups.now c.requires.eight (all_below 65536 c.args.groups.now (λ i. let fits = c.type_inv.groups i in omega arith))

pub returns-in-None-clause-no_dot : goal.returns-in-None-clause-no_dot
returns-in-None-clause-no_dot c =
    ap v4_numbers (plain_pushed c.args.groups.now c.args.out.now.items c.push_coloned.new.out.items c.requires.empty c.push_coloned.ensures.text) ∙ no_numbers (coloned c.args.groups.now) (no_dots c.args.groups.now)

pub returns-in-Some-clause-again : goal.returns-in-Some-clause-again
returns-in-Some-clause-again c =
    let written =
    short_pushed c.args.groups.now c.in-Some.start c.in-Some.len c.args.out.now.items c.push_coloned-in-Some.new.out.items c.push.new.self.items c.push-in-Some.new.self.items c.push_coloned-in-Some-2.new.out.items c.before-in-Some.result.now c.after.result.now c.requires.empty
    c.before-in-Some.ensures c.push_coloned-in-Some.ensures.text c.push.ensures.items c.push-in-Some.ensures.items c.after.ensures c.in-Some.ensures.run.1 c.push_coloned-in-Some-2.ensures.text in
    ap v6_groups written
    ∙ short_again c.args.groups.now c.in-Some.start c.requires.eight (all_below 65536 c.args.groups.now (λ i. let fits = c.type_inv.groups i in omega arith)) (let fits = c.in-Some.ensures.fits in let run = c.in-Some.ensures.run.1 in omega arith)
    (let run = c.in-Some.ensures.run.1 in let two = c.in-Some.ensures.run.2 in omega arith)

pub returns-in-Some-clause-no_dot : goal.returns-in-Some-clause-no_dot
returns-in-Some-clause-no_dot c =
    let written =
    short_pushed c.args.groups.now c.in-Some.start c.in-Some.len c.args.out.now.items c.push_coloned-in-Some.new.out.items c.push.new.self.items c.push-in-Some.new.self.items c.push_coloned-in-Some-2.new.out.items c.before-in-Some.result.now c.after.result.now c.requires.empty
    c.before-in-Some.ensures c.push_coloned-in-Some.ensures.text c.push.ensures.items c.push-in-Some.ensures.items c.after.ensures c.in-Some.ensures.run.1 c.push_coloned-in-Some-2.ensures.text in
    ap v4_numbers written
    ∙ no_numbers (coloned (take c.in-Some.start c.args.groups.now) ++ 58 ∷ 58 ∷ coloned (drop (c.in-Some.start + run_at c.args.groups.now c.in-Some.start) c.args.groups.now))
    (no_dots_short (take c.in-Some.start c.args.groups.now) (drop (c.in-Some.start + run_at c.args.groups.now c.in-Some.start) c.args.groups.now))
