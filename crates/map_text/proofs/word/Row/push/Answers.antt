use Rattle.std.proofs.Common.{◌≡◌, length, sym, ap, ◌∙◌, arith, length-take-le}
use Rattle.map_text.proofs.Copied.{front_set}
use Rattle.map_text.proofs.word.Row.push.Goals as goal

pub returns : goal.returns
returns c =
    let len = c.self.inside.len in
    let size : length c.args.self.now ≡ len = ap length (sym c.self.view_is) ∙ length-take-le len _ (omega (arith, c.self.invariant, c.self.told)) in
    front_set _ _ len c.args.octet (omega (arith, c.requires, c.self.told, size)) c.self.view_is
