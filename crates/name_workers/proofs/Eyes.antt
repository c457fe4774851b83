-- What learning, answering and receiving do, for the code's answers.
use Rattle.std.proofs.Common.{◌≡◌, ℕ, ◌+◌, ◌<◌, ◌≤◌, List, [], ◌∷◌, ◌++◌, length, max, All, Option, Some, sym, ap, subst, ◌∙◌, arith, append_assoc, map}
use Rattle.std.proofs.lemmas.Grind.{common_steps}
use Rattle.std.proofs.lemmas.List.{map-append}
use mathlib.Core.List.{IsPrefix}
use Rattle.outside.specs.Faults.{BothTell}
use Rattle.published_map.specs.Version.{Version}
use Rattle.outside.specs.Notes.{Given, NotesTold, IsNextNote, noting}
use Rattle.lane_model.specs.Calls.{Eyes, IsRise}
use Rattle.lane_model.proofs.Prefixes.{prefix_self}
use Rattle.lane_model.proofs.Runs.{tells_on}
use Rattle.name_workers.specs.Given.{AreGivenSoFar, giving_some}
use Rattle.name_workers.specs.Worker.{IsLookRefused}

-- one note more
some_more : (serials : List ℕ) (number : ℕ) (b c d : NotesTold) → c ≡ giving_some serials b → IsNextNote (Some number) c d → d ≡ giving_some (serials ++ number ∷ []) b
some_more serials number b c d p q =
    let at : ℕ → Given = λ s. record { number = s; place = b.nones } in
    q ∙ (ap (λ x. noting (Some number) x) p ∙ ap (λ g. record b { given = g }) (append_assoc b.given (map at serials) (at number ∷ []) ∙ ap (λ l. b.given ++ l) (sym (map-append at serials (number ∷ [])))))

below_more : (serials : List ℕ) (s below below' : ℕ) → All (λ x. x < below) serials → below ≤ below' → s < below' → All (λ x. x < below') (serials ++ s ∷ [])
below_more serials s below below' p le lt =
    let wide : All (λ x. x < below') serials = λ k d h. let r = p k d h in omega (arith, r, le) in
    let one : All (λ x. x < below') (s ∷ []) = λ k d h. grind (arith, lt) in grind (arith, common_steps, wide, one)

pub given_more : (number : ℕ) (x y z : Option NotesTold) (below below' : ℕ) → AreGivenSoFar x y below → BothTell y z (IsNextNote (Some number)) → below ≤ below' → number < below' → AreGivenSoFar x z below'
given_more number x y z below below' p q le lt = record {
  serials = p.serials ++ number ∷ [];
  given = tells_on x y z (λ b c. c ≡ giving_some p.serials b) (IsNextNote (Some number)) (λ b c. c ≡ giving_some (p.serials ++ number ∷ []) b) (some_more p.serials number) p.given q;
  noted = below_more p.serials number below below' p.noted le lt;
}

-- a note was learned
pub rise_learned : {V : Type 0} (e f : Eyes V) → f.seen ≡ e.seen → IsPrefix e.heard f.heard → f.greatest + 1 ≡ max (e.greatest + 1) (length f.heard) → f.faults ≡ e.faults → IsRise e f
rise_learned e f seen heard greatest faults = record {
  seen = subst (λ (l : List _). IsPrefix e.seen l) (sym seen) (prefix_self e.seen);
  heard = heard;
  above = omega (arith, greatest);
  greatest = omega (arith, greatest);
  rising = omega (arith, greatest);
  faults = omega (arith, faults);
}

-- a look was refused
pub rise_refused : (octets : List ℕ) (e f : Eyes Version) → IsLookRefused octets e f → IsRise e f
rise_refused octets e f r = record {
  seen = subst (λ (l : List Version). IsPrefix e.seen l) (sym r.seen) (prefix_self e.seen);
  heard = subst (λ (l : List Version). IsPrefix e.heard l) (sym r.heard) (prefix_self e.heard);
  above = omega (arith, ap length r.heard);
  greatest = omega (arith, r.greatest);
  rising = omega (arith, r.greatest);
  faults = omega (arith, r.rose);
}
