use Rattle.std.proofs.Common.{inl, inr, refl}
use Rattle.glb_program.proofs.run_words.Goals as goal

pub returns-in-Ok : goal.returns-in-Ok
returns-in-Ok g c = inr (_, c.glb.ensures)

pub returns-in-Err : goal.returns-in-Err
returns-in-Err g c = inl (refl, refl)
