-- An empty body. The borrow is opened and closed at another ghost value.
use Rattle.std.proofs.Common.{ℕ, List, [], ◌∷◌, refl, MutBor}
use seplogic.Ra.Ura.{Ura}
use mir.Syntax.{Dict, Fn, a_type, dcons, dnil, named}
use mir.MapTy.{inst_fn}
use mir.Val.{Val, vunit, vptr}
use base.Logic.{SProp, ent, sep, emp, via, fst∗, id⊢}
use base.Fml.{GName, Lft, Share, ftrue, flft, fobs, fbor}
use prog.Memory.{Memory}
use prog.Routine.{Routine}
use prog.Wp.{Calls, Loops, WpFn, Tables}
use types.Logic.{Logic}
use contract.Monad.{Fun}
use contract.Lifetimes.{AllOutlive}
use contract.Running.{tables, tables_of}
use types.Kit.{‵, ◌⊛◌, ◌$◌, ◌∵◌, !, qed, by, move, keep, drop, use1, split, join, fsplit, fsplit3, fjoin, fjoin3, feq_i, suffices, frame, done}
use types.Run.{unit_lit, of_opd, returns, enter}
use types.SemTy.{Body}
use types.ByLocal.{alloc_all, pass_all, free_all, look_at, sets}
use sound.WpLaws.{WpFn-mono}
use denote.RattleType.{RattleType, owns}
use denote.Param.{param, bounded}
use denote.Memory.{mem}
use denote.Ref.{Bor, MutRef, ShrRef, mut_vals, mut_Tells, shr_vals, shr_Tells}
use denote.Exit.{yes}
use denote.Signature.{plain}
use denote.Steps.{opens, closes}
use denote.Triple.Clauses.{Clauses, Ended, closing}
use denote.Triple.Entry.{on_entry}
use denote.Triple.Spec.{Meets, triple_of}
use denote.Triple.Table.{entered}
use denote.Triple.Walked.{says, Stays, stay_ref, stay_none_ref, walk_of, AllGo, Goes-ref, Goes-none_ref, Walks, ends_at, walked, walk_Meets}
use Rattle.past_log.specs.declared.past.Past.{Past}
use Rattle.past_log.specs.declared.past.EventOf.{Ghosts}
use Rattle.past_log.specs.contracts.past.Past as C
use Rattle.past_log.specs.contracts.past.Past.note.Key.{name as #it}
use Rattle.past_log.specs.contracts.past.Past.note as it
use Rattle.past_log.proofs.past.Past.note.Statement as stated
use Rattle.past_log.proofs.past.Past.note.Code as code

module _ (T E : RattleType) (G : Ghosts E.Denot T.Denot) (D : Dict) where
  abbrev P : RattleType
  P = C.the_row (param 0 T)

  abbrev R : RattleType
  R = param 1 E

  abbrev function : Fn
  function = inst_fn (bounded (a_type ∷ a_type ∷ []) (T, (E, tt)) (dcons D dnil)) code.function

  abbrev over : Ended
  over = it.ended T E G D

  abbrev stayed : Stays over.signature.params over.kept
  stayed = (stay_ref (0 ∷ []) tt (plain (λ _. P)), (stay_none_ref (1 ∷ []) tt (plain (λ _. R)) yes, tt))

module _ (T E : RattleType) (G : Ghosts E.Denot T.Denot) (D : Dict) {M : Type 1} {𝓤 : Ura M} (𝓛 : Logic 𝓤) (at_mem : Memory → SProp 𝓤) (run : Routine → Fun 𝓤) where
  open 𝓛 use {H, A}

  abbrev held : Clauses 𝓤 (over T E G D)
  held = it.clauses T E G D 𝓛 at_mem run

  module _ (κ κ' κ'' κ3 : Lft) (q q' q'' q3 : Share) (out : AllOutlive (over T E G D).signature.lifetimes (over T E G D).signature.outlives (κ, (κ', (κ'', (κ3, tt))))) (b o : ℕ) (γ : GName) (h : Past T.Denot) (k : Bor E.Denot) where
    abbrev x : MutBor (Past T.Denot) × (Bor E.Denot × Unit {0})
    x = (record { ref_ptr = (b, o); ghost_name = γ; now = h }, (k, tt))

    abbrev h' : Past T.Denot
    h' = record { marker = h.marker; told = G.noted k.now h.told }

    abbrev at : List Val × (List Val × Unit {0})
    at = (vptr b o ∷ [], (vptr k.ref_ptr.0 k.ref_ptr.1 ∷ [], tt))

    abbrev rest : base.Fml.Fml
    rest = owns (ShrRef (named 1) κ' (R T E G D) ∷ []) x.1 at.1

    abbrev Post : Val → SProp 𝓤
    Post = (walk_of 𝓛 (over T E G D) (stayed T E G D) held).post (((κ, (κ', (κ'', (κ3, tt)))), (q, (q', (q'', (q3, tt)))), out, x, at), tt)

    exits : ent 𝓤 (sep 𝓤 (A.obs γ ((P T E G D).coded.code h')) (sep 𝓤 (A.bor κ (Body (mem (P T E G D)) b o γ)) (sep 𝓤 (A.lft κ q) (sep 𝓤 (types.Logic.sem 𝓛 rest) (sep 𝓤 (A.lft κ' q') (sep 𝓤 (A.lft κ'' q'') (sep 𝓤 (A.lft κ3 q3) (emp 𝓤)))))))) (Post vunit)
    exits =
        qed 𝓛 (‵ (fobs γ ((P T E G D).coded.code h')) ∷ ‵ (fbor κ (Body (mem (P T E G D)) b o γ)) ∷ ‵ (flft κ q) ∷ ‵ rest ∷ (‵ (flft κ' q') ⊛ (‵ (flft κ'' q'') ⊛ (‵ (flft κ3 q3) ⊛ ‵ ftrue))) ∷ []) ∵
        suffices ! _ (ends_at 𝓛 (over T E G D) (stayed T E G D) held (((κ, (κ', (κ'', (κ3, tt)))), (q, (q', (q'', (q3, tt)))), out, x, at), tt) vunit tt (h', (tt, tt)) (tt, (tt, tt))) $ says ! refl $ move ! (2 ∷ 4 ∷ []) $ join ! $
        frame ! $ feq_i ! (List Val) (vptr b o ∷ []) (vptr b o ∷ []) refl $ fjoin3 ! $ fjoin ! $
        feq_i ! (List Val) (vunit ∷ []) (vunit ∷ []) refl $ move ! (1 ∷ 0 ∷ []) $ done !

    module _ (Cs : Calls 𝓤 H) (Λ : Loops 𝓤 H) where
      walk : ent 𝓤 (on_entry 𝓛 (over T E G D).signature (κ, (κ', (κ'', (κ3, tt)))) (q, (q', (q'', (q3, tt)))) x at) (WpFn 𝓤 H Cs Λ (function T E G D) (vptr b o ∷ vptr k.ref_ptr.0 k.ref_ptr.1 ∷ []) Post)
      walk =
          qed 𝓛 ((‵ (flft κ q) ⊛ (‵ (flft κ' q') ⊛ (‵ (flft κ'' q'') ⊛ (‵ (flft κ3 q3) ⊛ ‵ ftrue)))) ∷ ‵ (owns (MutRef (named 0) κ (P T E G D) ∷ ShrRef (named 1) κ' (R T E G D) ∷ []) x at) ∷ []) ∵ split ! $ move ! (2 ∷ []) $ fsplit ! $ fsplit3 ! $ drop ! $ move ! (0 ∷ 1 ∷ 3 ∷ []) $
          enter ! Cs Λ (function T E G D) (vptr b o ∷ vptr k.ref_ptr.0 k.ref_ptr.1 ∷ []) _ $
          alloc_all ! (λ l. pass_all ! refl ((tt, tt), ((tt, tt), tt)) $
          move ! (0 ∷ 1 ∷ 2 ∷ []) $ opens ! tt (P T E G D) {h = h} b o (λ vs.
          sets ! (of_opd ! (unit_lit !)) refl (tt, tt) $
          move ! (1 ∷ []) $ use1 𝓛 (‵ ((P T E G D).own_val h' vs)) (id⊢ 𝓤 _) $ move ! (1 ∷ 0 ∷ []) $ closes ! tt (P T E G D) h' vs b o $
          returns ! (look_at ! 0 refl) $ free_all ! refl $
          keep ! (0 ∷ 1 ∷ 2 ∷ 3 ∷ 4 ∷ []) $ by ! exits))

  walks : (Cs : Calls 𝓤 H) (Λ : Loops 𝓤 H) → Walks 𝓛 (over T E G D) (stayed T E G D) (WpFn 𝓤 H Cs Λ (function T E G D)) held
  walks Cs Λ = walked 𝓛 (over T E G D) (stayed T E G D) held (WpFn 𝓤 H Cs Λ (function T E G D)) (λ κs. (mut_vals, (shr_vals, tt))) (λ κs. (mut_Tells (named 0) κs.0 (P T E G D), (shr_Tells (named 1) κs.1.0 (R T E G D), tt)))
      (λ κs qs bounds a g are. via 𝓤 _ (fst∗ 𝓤 _ ((held κs a).requires g)) (walk κs.0 κs.1.0 κs.1.1.0 κs.1.1.1.0 qs.0 qs.1.0 qs.1.1.0 qs.1.1.1.0 bounds a.0.ref_ptr.0 a.0.ref_ptr.1 a.0.ghost_name a.0.now a.1.0 Cs Λ))

  goes : AllGo 𝓛 4 ((over T E G D).signature).params (over T E G D).kept (stayed T E G D)
  goes = (Goes-ref 𝓛 4 0 tt (plain (λ _. P T E G D)), (Goes-none_ref 𝓛 4 (1 ∷ []) tt (plain (λ _. R T E G D)) yes, tt))

  meets : (𝓣 : Tables 𝓤 H) → Meets 𝓛 (over T E G D).signature (WpFn 𝓤 H 𝓣.C 𝓣.Λ (function T E G D)) (closing 𝓛 (over T E G D) held)
  meets 𝓣 = walk_Meets 𝓛 (over T E G D) (stayed T E G D) goes held (WpFn 𝓤 H 𝓣.C 𝓣.Λ (function T E G D)) (WpFn-mono 𝓤 H 𝓛.laws 𝓣 (function T E G D)) (walks 𝓣.C 𝓣.Λ)

pub note_spec : {M : Type 1} → stated.statement M
unfolding tables_of
note_spec 𝓤 𝓛 𝓜 𝓡 wired T E lawsT lawsE G D met =
    let 𝓣 : Tables 𝓤 𝓛.H = tables_of 𝓤 𝓛.H 𝓜 (tables 𝓤 𝓛.H 𝓜 𝓡 𝓡.env) in
    entered 𝓤 𝓛.H (triple_of 𝓛 (over T E G D).signature (closing 𝓛 (over T E G D) (held T E G D 𝓛 𝓜.mem 𝓡.returns))) 𝓣.C 𝓣.Λ (#it (bounded (a_type ∷ a_type ∷ []) (T, (E, tt)) (dcons D dnil))) (function T E G D) (code.unfolded 𝓤 𝓛.H 𝓜 𝓡 wired (T, (E, tt)) D)
    (meets T E G D 𝓛 𝓜.mem 𝓡.returns 𝓣)
