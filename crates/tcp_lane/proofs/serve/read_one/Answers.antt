use Rattle.std.proofs.Common.{refl, rules, arith}
use Rattle.std.proofs.lemmas.Grind.{common_steps}
use Rattle.tcp_lane.proofs.Taken.{read_closed, read_failed, read_got, read_quiet}
use Rattle.tcp_lane.proofs.serve.read_one.Goals as goal

pub returns-in-Got-clause-taken : goal.returns-in-Got-clause-taken
returns-in-Got-clause-taken g c = read_got _ _ _ _ _ _ _ _ _ _ _ _ _ (g.Q.Streams.told c.read.new.self) _ c.known.ensures c.told-buffer c.requires.open_ c.in-Got.ensures.read (c.in-Got.ensures.stays (λ h. cc)) c.take_piece.ensures.taken

pub returns-in-Quiet-clause-taken : goal.returns-in-Quiet-clause-taken
returns-in-Quiet-clause-taken g c = read_quiet _ _ _ _ c.read.new.buffer _ _ _ _ (g.Q.Streams.told c.read.new.self) _ c.known.ensures (search rules) c.requires.open_ c.in-Quiet.ensures.read (c.in-Quiet.ensures.stays (λ h. cc)) c.rest_once.ensures.told c.rest_once.ensures.faults c.rest_once.ensures.left

pub returns-in-Closed-clause-taken : goal.returns-in-Closed-clause-taken
returns-in-Closed-clause-taken g c = read_closed _ _ _ _ c.read.new.buffer _ _ _ _ (g.Q.Streams.told c.read.new.self) _ c.known.ensures (grind (arith, common_steps)) c.requires.open_ c.in-Closed.ensures.read (c.in-Closed.ensures.stays (λ h. cc)) c.close.ensures.told c.close.ensures.faults c.close.ensures.shut

pub returns-in-Failed-clause-taken : goal.returns-in-Failed-clause-taken
returns-in-Failed-clause-taken g c = read_failed _ _ _ _ c.read.new.buffer _ _ _ _ (g.Q.Streams.told c.read.new.self) _ c.known.ensures (search rules) c.requires.open_ c.in-Failed.ensures.read (c.in-Failed.ensures.cause refl) c.close-in-Failed.ensures.told c.close-in-Failed.ensures.faults c.close-in-Failed.ensures.shut
