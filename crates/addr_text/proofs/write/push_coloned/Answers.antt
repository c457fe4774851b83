use Rattle.addr_text.specs.Written.{hex_text}
use Rattle.addr_text.proofs.Again.{joined_pushed}
use Rattle.addr_text.proofs.write.push_coloned.Goals as goal

pub returns-in-Some-clause-text : goal.returns-in-Some-clause-text
returns-in-Some-clause-text c =
    joined_pushed 58 hex_text c.in-Some.first.now c.in-Some.rest.now c.args.groups.now c.args.out.now.items c.push_hex.new.out.items c.push_coloned_rest.new.out.items c.in-Some.ensures.cases.0 c.push_hex.ensures.text c.push_coloned_rest.ensures.text
