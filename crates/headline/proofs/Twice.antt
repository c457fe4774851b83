-- Two runs over the same octets.
use Rattle.std.proofs.Common.{◌≡◌, inl, inr, ℕ, zero, suc, List, [], ◌∷◌, length, map, drop, take, Option, None, Some, Result, Ok, refl, ap, sym, subst, ◌∙◌, arith}
use Rattle.std.specs.Prelude.{Contains}
use Rattle.std.proofs.Math.Seq.{drop-append_seam}
use Rattle.std.specs.List.{concat}
use Rattle.std.proofs.lemmas.Option.{same_Some}
use Rattle.outside.specs.Faults.{BothTell}
use Rattle.outside.specs.Shelf.{Load, Shelved}
use Rattle.outside.specs.Sink.{Written}
use Rattle.topology_text.specs.Plan.{Plan}
use Rattle.mapper.specs.Control.{Course}
use Rattle.mapper.specs.Scenes.{IsPrinted}
use Rattle.mapper.specs.Words.{map_text}
use Rattle.published_map.specs.Version.{Version}
use Rattle.glb.specs.Files.{Kind, Says, load_of, only, said, topology_file}
use Rattle.glb.specs.Loads.{AreLoadsOf, DueLoad, Files, HaveGiven, due_of, files_between, load_with}
use Rattle.glb.specs.Served.{IsWellServed}
use Rattle.glb.proofs.Agree.{serves_agree}
use Rattle.headline.specs.Laws.{Agree, PutsMaps}
use Rattle.headline.specs.Runs.{Puts, PutsOut}
use Rattle.headline.proofs.Serving.{tells_so}

same_octets : (name : List ℕ) (limit : ℕ) (a b : List ℕ) → load_with name limit a ≡ load_with name limit b → a ≡ b
same_octets name limit a b h = same_Some a b (ap (λ (l : Load). l.octets) h)

-- of a run that loads one file, once at most, each load gave the same octets
one_load : (xs : List Load) (kind : Kind Plan) (name a b : List ℕ) (k : ℕ) → map due_of xs ≡ take k (load_of kind name ∷ []) → Contains xs (load_with name kind.limit a) → Contains xs (load_with name kind.limit b) → a ≡ b
one_load [] kind name a b k few (i, within, at) y = absurd (omega (arith, within))
one_load (z ∷ []) kind name a b k few (zero, within, at) (zero, also, by) = same_octets name kind.limit a b (sym at ∙ by)
one_load (z ∷ []) kind name a b k few (suc i, within, at) y = absurd (omega (arith, within))
one_load (z ∷ []) kind name a b k few (zero, within, at) (suc j, also, by) = absurd (omega (arith, also))
one_load (z ∷ w ∷ zs) kind name a b zero few x y = absurd (cc)
one_load (z ∷ w ∷ zs) kind name a b (suc k) few x y = absurd (more k few)
  where
    more : (n : ℕ) → map due_of (z ∷ w ∷ zs) ≡ take (suc n) (load_of kind name ∷ []) → ⊥
    more zero h = cc
    more (suc n) h = cc

-- the loads that a run made are those behind the ones of before
loads_are : (before after : Option Shelved) (files : Files) (due : List Load → List DueLoad) → BothTell before after (AreLoadsOf due) → files_between before after ≡ Some files → (k : ℕ) × (map due_of files.loads ≡ take k (due files.loads))
loads_are None after files due told is = absurd (cc)
loads_are (Some b) None files due told is = absurd told
loads_are (Some b) (Some c) files due (made, are, begun) is =
    let same : files.loads ≡ made = sym (ap (λ (f : Files). f.loads) (same_Some _ files is)) ∙ ap (drop (length b.loads)) are.loads ∙ drop-append_seam b.loads made in
    (begun.0, subst (λ (xs : List Load). map due_of xs ≡ take begun.0 (due xs)) (sym same) begun.1)

-- what a topology's file says is what the octets say that a load of the run gave
said_is : (before after : Option Shelved) (files : Files) (name octets : List ℕ) (t : Plan) → BothTell before after (AreLoadsOf (only topology_file name)) → files_between before after ≡ Some files
    → Contains files.loads (load_with name topology_file.limit octets) → Says topology_file (files_between before after) name t → said topology_file octets ≡ Ok t
said_is before after files name octets t noted told loaded (bytes, given, is) =
    let k = loads_are before after files (only topology_file name) noted told in
    let some : HaveGiven (Some files) name topology_file.limit bytes = subst (λ (f : Option Files). HaveGiven f name topology_file.limit bytes) told given in
    let one : bytes ≡ octets = one_load files.loads topology_file name bytes octets k.0 k.1 some.0 loaded in
    subst (λ (o : List ℕ). said topology_file o ≡ Ok t) one is

ok_one : (r : Result Plan (List ℕ)) (x y : Plan) → r ≡ Ok x → r ≡ Ok y → x ≡ y
ok_one r x y a b = cc

printed : (pieces : List (List ℕ)) (b a : Written) → IsPrinted pieces b a → Puts (concat pieces) b a
printed pieces b a p = p.bytes

pub agree : Agree
agree turns others ask other before after then later topology feed x y quiet silent =
    let w : IsWellServed turns ask before after = x.promised.good refl in
    let v : IsWellServed others other then later = y.promised.good refl in
    let a = said_is before.files.past after.files.past x.files ask.topology topology w.topology x.promised.noted x.told x.loaded w.says in
    let b = said_is then.files.past later.files.past y.files other.topology topology v.topology y.promised.noted y.told y.loaded v.says in
    let one : w.topology ≡ v.topology = ok_one (said topology_file topology) w.topology v.topology a b in
    let r = serves_agree turns others ask other before after then later w v feed x.alone y.alone one x.gave y.gave in
    let c : Course = r.0 in
    let d : Course = r.1 in
    let out_c : PutsOut (concat c.out) before after = tells_so before.lent.out.past after.lent.out.past (IsPrinted c.out) (Puts (concat c.out)) (printed c.out) r.2.out in
    let out_d : PutsOut (concat d.out) then later = tells_so then.lent.out.past later.lent.out.past (IsPrinted d.out) (Puts (concat d.out)) (printed d.out) r.3.out in
    let same = r.4 (λ lacked. quiet (c.out, out_c, lacked)) (λ lacked. silent (d.out, out_d, lacked)) in
    let maps_c : List (List ℕ) = map map_text (w.first ∷ c.versions) in
    let maps_d : List (List ℕ) = map map_text (v.first ∷ d.versions) in
    let put_c : PutsMaps (concat maps_c) before after = tells_so before.lent.maps.past after.lent.maps.past (IsPrinted maps_c) (Puts (concat maps_c)) (printed maps_c) r.2.maps in
    let put_d : PutsMaps (concat maps_d) then later = tells_so then.lent.maps.past later.lent.maps.past (IsPrinted maps_d) (Puts (concat maps_d)) (printed maps_d) r.3.maps in (
      concat c.out,
      concat maps_c,
      out_c,
      subst (λ (e : Course). PutsOut (concat e.out) then later) (sym same.1) out_d,
      put_c,
      subst (λ (first : Version). PutsMaps (concat (map map_text (first ∷ c.versions))) then later) (sym same.0) (subst (λ (e : Course). PutsMaps (concat (map map_text (v.first ∷ e.versions))) then later) (sym same.1) put_d),
    )
