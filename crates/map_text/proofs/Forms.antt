-- What is read keeps the form of a map.
use Rattle.std.proofs.Common.{◌≡◌, ◌+◌, ◌-◌, ◌<◌, Bool, true, false, not, cond, ◌&&◌, ◌||◌, nat_eq, List, [], ◌∷◌, ◌++◌, length, get_or, None, Some, IsTrue, refl, sym, subst, arith, append-nil, length-append, inl, inr}
use Rattle.std.proofs.Math.Seq.{get_or-append_seam}
use Rattle.std.proofs.Math.ListN.{get_or-append}
use Rattle.std.proofs.lemmas.Bool.{and_parts, cases_lt, lt-ltb}
use Rattle.std.proofs.lemmas.Bool.Decides.{nat_tests}
use Rattle.std.proofs.lemmas.Option.{slice_get-get_or}
use Rattle.std.specs.Prelude.{slice_get}
use Rattle.std.specs.Option.{option_map_or}
use Rattle.map_model.specs.declared.lines.MapLine.{MapLine}
use Rattle.map_model.specs.declared.lines.NameLine.{NameLine}
use Rattle.map_model.specs.Market.{Market, choices_of}
use Rattle.map_model.specs.Allocation.{AreLines, AreNames, IsMapForm, IsOffer, is_before, is_by, is_line, is_name, is_name_before}
use Rattle.map_model.proofs.MapForm.{no_line}
use Rattle.map_model.proofs.NameForm.{no_name}
use Rattle.map_text.specs.Lines.{IsInRange}
use Rattle.map_text.specs.Reading.{SoFar, fault_of, is_bad, is_in_order, is_unknown}
use Rattle.map_text.specs.Reader.{with_line}
use Rattle.map_text.specs.declared.fault.MapFault.TheVariants.{BadLine, UnknownName, OrderBroken}
use Rattle.map_text.specs.declared.line.Line.{Line}
use Rattle.map_text.specs.declared.line.Line.TheVariants.{Header, Place, Named, End, Unknown, UnknownLimit, Bad}

all_four : (a b c d : Bool) → a ≡ true → b ≡ true → c ≡ true → d ≡ true → (a && b && c && d) ≡ true
all_four a b c d ta tb tc td = rw (ta, tb, tc, td) refl

-- the last of some, and what is put behind it
above_last : {X : Type 0} (before : X → X → Bool) (xs : List X) (x d : X) → option_map_or (λ y. before y x) (slice_get xs (length xs - 1)) true ≡ true
    → (nat_eq (length xs) 0 || before (get_or (xs ++ x ∷ []) (length xs - 1) d) x) ≡ true
above_last before [] x d h = refl
above_last before (y ∷ ys) x d h =
    let n = length ys in
    let within : n < length (y ∷ ys) = omega arith in
    let at : length (y ∷ ys) - 1 ≡ n = omega arith in
    let last : slice_get (y ∷ ys) n ≡ Some (get_or (y ∷ ys) n d) = slice_get-get_or (y ∷ ys) n d within in
    let here : before (get_or (y ∷ ys) n d) x ≡ true = subst (λ o. option_map_or (λ z. before z x) o true ≡ true) last (subst (λ m. option_map_or (λ z. before z x) (slice_get (y ∷ ys) m) true ≡ true) at h) in
    let same : get_or ((y ∷ ys) ++ x ∷ []) n d ≡ get_or (y ∷ ys) n d = get_or-append (y ∷ ys) (x ∷ []) d n within in
    let shown : before (get_or ((y ∷ ys) ++ x ∷ []) (length (y ∷ ys) - 1) d) x ≡ true = rw (at, same) here in
    let some : nat_eq (length (y ∷ ys)) 0 ≡ false = grind (arith, nat_tests) in
    rw some shown

lines_more : (m : Market) (lines : List MapLine) (x : MapLine) → AreLines m lines → IsOffer m x.group.0 x.place → 0 < x.amount
    → option_map_or (λ y. is_before y x) (slice_get lines (length lines - 1)) true ≡ true → AreLines m (lines ++ x ∷ [])
lines_more m lines x form offer some above i lt = elim (cases_lt i (length lines)) [
  | inl l ↦
      let before : i - 1 < length lines = omega arith in
      rw (get_or-append lines (x ∷ []) no_line i l, get_or-append lines (x ∷ []) no_line (i - 1) before) (form i l)
  | inr ge ↦
      let last : i ≡ length lines = omega (arith, length-append lines (x ∷ [])) in
      subst (λ k. IsTrue (is_line m (lines ++ x ∷ []) k)) (sym last)
      (rw (get_or-append_seam lines x [] no_line)
      (all_four _ _ _ _ (lt-ltb x.group.0 (length m.groups) offer.group) (lt-ltb x.place (length (choices_of m x.group.0)) offer.place) (lt-ltb 0 x.amount some)
      (above_last is_before lines x no_line above)))
]

names_more : (m : Market) (names : List NameLine) (x : NameLine) → AreNames m names → IsOffer m x.group.0 x.place → IsTrue (is_by m x.by)
    → option_map_or (λ y. is_name_before y x) (slice_get names (length names - 1)) true ≡ true → AreNames m (names ++ x ∷ [])
names_more m names x form offer there above i lt = elim (cases_lt i (length names)) [
  | inl l ↦
      let before : i - 1 < length names = omega arith in
      rw (get_or-append names (x ∷ []) no_name i l, get_or-append names (x ∷ []) no_name (i - 1) before) (form i l)
  | inr ge ↦
      let last : i ≡ length names = omega (arith, length-append names (x ∷ [])) in
      subst (λ k. IsTrue (is_name m (names ++ x ∷ []) k)) (sym last)
      (rw (get_or-append_seam names x [] no_name)
      (all_four _ _ _ _ (lt-ltb x.group.0 (length m.groups) offer.group) (lt-ltb x.place (length (choices_of m x.group.0)) offer.place) there
      (above_last is_name_before names x no_name above)))
]

-- a line without a fault stands in order
in_order : (before : SoFar) (line : Line) → fault_of before line ≡ None → is_in_order before line ≡ true
in_order before line h = go (is_bad before line) (is_unknown line) (is_in_order before line) h
  where
    go : (bad unknown ordered : Bool) → cond bad (Some (BadLine (before.count + 1))) (cond unknown (Some (UnknownName (before.count + 1))) (cond (not ordered) (Some (OrderBroken (before.count + 1))) None)) ≡ None → ordered ≡ true
    go true unknown ordered h = cc
    go false true ordered h = cc
    go false false true h = refl
    go false false false h = cc

-- a line in range and without a fault keeps the form
pub form_more : (m : Market) (before : SoFar) (line : Line) → IsMapForm m before.lines before.names → IsInRange m line → fault_of before line ≡ None
    → IsMapForm m (with_line before line).lines (with_line before line).names
form_more m before (Place x) form range none =
    let order = and_parts _ _ (in_order before (Place x) none) in
    record { of_lines = lines_more m before.lines x form.of_lines range.0 range.1 order.1; of_names = rw (append-nil before.names) form.of_names }
form_more m before (Named x) form range none =
    record { of_lines = rw (append-nil before.lines) form.of_lines; of_names = names_more m before.names x form.of_names range.0 range.1 (in_order before (Named x) none) }
form_more m before (Header v) form range none = record { of_lines = rw (append-nil before.lines) form.of_lines; of_names = rw (append-nil before.names) form.of_names }
form_more m before End form range none = record { of_lines = rw (append-nil before.lines) form.of_lines; of_names = rw (append-nil before.names) form.of_names }
form_more m before Unknown form range none = record { of_lines = rw (append-nil before.lines) form.of_lines; of_names = rw (append-nil before.names) form.of_names }
form_more m before UnknownLimit form range none = record { of_lines = rw (append-nil before.lines) form.of_lines; of_names = rw (append-nil before.names) form.of_names }
form_more m before Bad form range none = record { of_lines = rw (append-nil before.lines) form.of_lines; of_names = rw (append-nil before.names) form.of_names }

-- the same of what is equal to it
pub form_next : (m : Market) (before after : SoFar) (line : Line) → after ≡ with_line before line → IsMapForm m (with_line before line).lines (with_line before line).names → IsMapForm m after.lines after.names
form_next m before after line is form = subst (λ (b : SoFar). IsMapForm m b.lines b.names) (sym is) form

-- no line has the form
pub form_none : (m : Market) (b : SoFar) → b ≡ record { count = 0; lines = []; names = []; takes_limits = false; is_ended = false } → IsMapForm m b.lines b.names
form_none m b is = subst (λ (x : SoFar). IsMapForm m x.lines x.names) (sym is) (record { of_lines = λ i lt. absurd (omega arith); of_names = λ i lt. absurd (omega arith) })
