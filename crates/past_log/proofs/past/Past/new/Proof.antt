-- `new` makes a value of no bytes, which tells what is told at first.
use mathlib.Core.Path.{refl}
use mathlib.Core.List.{[], ◌∷◌}
use seplogic.Ra.Ura.{Ura}
use mir.Syntax.{Dict, Fn, a_type, dcons, dnil}
use mir.MapTy.{inst_fn}
use mir.Val.{Val, vstruct, vcons, vnil}
use base.Logic.{SProp}
use prog.Memory.{Memory}
use prog.Routine.{Routine}
use prog.Wp.{WpFn, Tables}
use types.Logic.{Logic}
use contract.Monad.{Fun}
use contract.Running.{tables, tables_of}
use sound.WpLaws.{WpFn-mono}
use types.Kit.{‵, raw, ◌⊛◌, ◌$◌, ◌∵◌, !, qed, move, keep, split, join, suffices, done}
use types.Run.{no_more, and_then, returns, enter}
use types.Part.{agg}
use types.ByLocal.{alloc_all, pass_all, free_all, look_at, get, sets}
use denote.RattleType.{RattleType, owns}
use denote.Param.{param, bounded}
use denote.Shadow.{pure_i}
use denote.Steps.{nothing}
use denote.Triple.Clauses.{Clauses, Ended, closing}
use denote.Signature.{types_at}
use denote.Triple.Entry.{alive}
use denote.Triple.Spec.{Meets, triple_of}
use denote.Triple.Table.{entered}
use denote.Triple.Walked.{says, ends_at, walked, walk_Meets}
use Rattle.past_log.specs.declared.past.Past.{Past}
use Rattle.past_log.specs.declared.past.Telling.{Ghosts}
use Rattle.past_log.specs.contracts.past.Past as C
use Rattle.past_log.specs.contracts.past.Past.new.Key.{name as #it}
use Rattle.past_log.specs.contracts.past.Past.new as it
use Rattle.past_log.proofs.past.Past.new.Statement as stated
use Rattle.past_log.proofs.past.Past.new.Code as code

abbrev v : Val
v = vstruct (vcons (vstruct vnil) vnil)

module _ (T : RattleType) (G : Ghosts T.Denot) (D : Dict) where
  abbrev function : Fn
  function = inst_fn (bounded (a_type ∷ []) (T, tt) (dcons D dnil)) code.function

  abbrev over : Ended
  over = it.ended T G D

  abbrev r : Past T.Denot
  r = record { marker = record {}; told = G.first }

module _ (T : RattleType) (G : Ghosts T.Denot) (D : Dict) {M : Type 1} {𝓤 : Ura M} (𝓛 : Logic 𝓤) (at_mem : Memory → SProp 𝓤) (run : Routine → Fun 𝓤) where
  abbrev held : Clauses 𝓤 (over T G D)
  held = it.clauses T G D 𝓛 at_mem run

  meets : (𝓣 : Tables 𝓤 𝓛.H) → Meets 𝓛 (over T G D).signature (WpFn 𝓤 𝓛.H 𝓣.C 𝓣.Λ (function T G D)) (closing 𝓛 (over T G D) held)
  meets 𝓣 =
      walk_Meets 𝓛 (over T G D) tt tt held (WpFn 𝓤 𝓛.H 𝓣.C 𝓣.Λ (function T G D)) (WpFn-mono 𝓤 𝓛.H 𝓛.laws 𝓣 (function T G D))
      (walked 𝓛 (over T G D) tt held (WpFn 𝓤 𝓛.H 𝓣.C 𝓣.Λ (function T G D)) (λ κs. tt) (λ κs. tt) (λ κs qs bounds a g _.
      qed 𝓛 ((raw (alive 𝓛 (over T G D).signature κs qs) ⊛ ‵ (owns (types_at (over T G D).signature.params κs) a tt)) ∷ raw ((held κs a).requires g) ∷ []) ∵ split ! $ keep ! (0 ∷ []) $
      enter ! 𝓣.C 𝓣.Λ (function T G D) [] _ $ alloc_all ! (λ l. pass_all ! refl tt $
      sets ! (agg ! (no_more !)) refl (tt, tt) $ sets ! (agg ! (and_then ! (get ! refl) (no_more !))) refl (tt, (tt, tt)) $
      returns ! (look_at ! 0 refl) $ free_all ! refl $
      pure_i ! ((C.the_row (param 0 T)).own_val (r T G D) (v ∷ [])) ((λ vss. (tt, ((λ uss. (tt, tt)), tt))), tt) (((vstruct vnil ∷ [], tt), (refl, ((tt, (refl, tt)), tt))), tt) $
      suffices ! _ (ends_at 𝓛 (over T G D) tt held ((κs, qs, bounds, a, tt), g) v (r T G D) tt tt) $ says ! refl $
      nothing ! $ join ! $ move ! (1 ∷ 0 ∷ []) $ join ! $ done !)))

pub new_spec : {M : Type 1} → stated.statement M
unfolding tables_of
new_spec 𝓤 𝓛 𝓜 𝓡 wired T laws G D met =
    let 𝓣 : Tables 𝓤 𝓛.H = tables_of 𝓤 𝓛.H 𝓜 (tables 𝓤 𝓛.H 𝓜 𝓡 𝓡.env) in
    entered 𝓤 𝓛.H (triple_of 𝓛 (over T G D).signature (closing 𝓛 (over T G D) (held T G D 𝓛 𝓜.mem 𝓡.returns))) 𝓣.C 𝓣.Λ (#it (bounded (a_type ∷ []) (T, tt) (dcons D dnil))) (function T G D) (code.unfolded 𝓤 𝓛.H 𝓜 𝓡 wired (T, tt) D)
    (meets T G D 𝓛 𝓜.mem 𝓡.returns 𝓣)
