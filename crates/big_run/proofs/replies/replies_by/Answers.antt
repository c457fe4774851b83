use Rattle.std.proofs.Common.{sym, ap, ◌∙◌}
use Rattle.big_run.specs.Replies.{has_code, is_code_of, is_reply_of}
use Rattle.big_run.proofs.replies.replies_by.Goals as goal

pub returns-in-Sent : goal.returns-in-Sent
returns-in-Sent g c =
    let stated = rw (c.in-Sent.is, c.client_of.ensures) at c.ask.ensures in
    unfold has_code in c.is_code.ensures ∙ ap (is_code_of c.args.code) c.as_slice.ensures.value ∙ sym (ap (is_reply_of c.args.code) stated)

pub returns-in-Silent : goal.returns-in-Silent
returns-in-Silent g c =
    let stated = rw (c.in-Silent.is, c.client_of.ensures) at c.ask.ensures in
    unfold has_code in sym (ap (is_reply_of c.args.code) stated.0)
