-- How a run ends, by what its lines came to.
use Rattle.std.proofs.Common.{◌≡◌, ◌≢◌, ◌⊎◌, inl, inr, ℕ, ◌+◌, ◌≤◌, ◌==◌, true, false, cond, List, [], ◌∷◌, ◌++◌, length, take, min, append_assoc, append-nil, refl, ap, sym, subst, ◌∙◌, arith}
use Rattle.std.specs.Prelude.{Option, None, Some, IfSome}
use Rattle.std.specs.List.{concat}
use Rattle.std.proofs.lemmas.Bool.{ne_eqb}
use Rattle.std.proofs.lemmas.List.{length-take}
use Rattle.std.proofs.lemmas.List.Elements.{All-push}
use Rattle.map_model.specs.Market.{Market}
use Rattle.text_parts.specs.Parts.{unfinished, whole_lines}
use Rattle.text_parts.proofs.Lines.{nothing_unfinished, nothing_whole}
use Rattle.outside.specs.Faults.{BothTell}
use Rattle.outside.specs.Source.{Fed, IsRead, IsWithin, shorter}
use Rattle.outside.specs.declared.source.Read.TheVariants as read
use Rattle.topology_text.specs.Plan.{Plan}
use Rattle.demand_feed.specs.Limits.{longest_line, read_size}
use Rattle.demand_feed.specs.Clerk.{AreBatches, Clerking}
use Rattle.demand_feed.specs.Cutter.{front}
use Rattle.demand_feed.specs.Task.{Task, fresh, has_stop, is_stop, tasks, tasks_of}
use Rattle.demand_feed.specs.Lines.{lines_of}
use Rattle.demand_feed.specs.Runs.{HasRead, IsOver, IsPiece, NoStop}
use Rattle.demand_feed.specs.Taking.{AllDo, BrokeOff}
use Rattle.demand_feed.specs.Working.{HasFailed, LastCame, PieceCame, Reads, Stands, TurnCame, end_of}
use Rattle.demand_feed.specs.declared.run.FeedEnd.{FeedEnd}
use Rattle.demand_feed.specs.declared.run.FeedEnd.TheVariants as ends
use Rattle.demand_feed.specs.declared.pieces.LineEnd.{LineEnd}
use Rattle.demand_feed.specs.declared.pieces.LineEnd.TheVariants as lines
use Rattle.demand_feed.proofs.Fronts.{front_none}
use Rattle.demand_feed.proofs.Tasks.{has_stop_at, tasks_all, tasks_at, tasks_stop, no_stop_none}
use Rattle.demand_feed.proofs.Tellings.{concat_end, one_more, tell_self, tell_trans}

-- where no line says stop all tasks were taken
pub all_came : {X : Type 0} (does : Task → X → X → Type 0) (t : Plan) (before : X) (lines : List (List ℕ)) (clerk : Clerking) (now : X) → Stands does t before lines clerk now → AllDo does (tasks t lines) before now
all_came does t before lines clerk now s = rw (tasks_all t lines s.1) s.2

-- a line says stop
pub stop_came : {X : Type 0} (does : Task → X → X → Type 0) (t : Plan) (before : X) (lines done : List (List ℕ)) (line : List ℕ) (more : List (List ℕ)) (now : X) → lines ≡ done ++ line ∷ more → has_stop done ≡ false → is_stop line ≡ true → AllDo does (tasks_of t fresh done) before now → AllDo does (tasks t lines) before now
stop_came does t before lines done line more now e calm h c = rw (e, tasks_stop t done line more calm h) c

-- a line's task was broken off
pub broke_off : {X : Type 0} (does cuts : Task → X → X → Type 0) (t : Plan) (before : X) (lines done : List (List ℕ)) (line : List ℕ) (more : List (List ℕ)) (now : X) → lines ≡ done ++ line ∷ more → has_stop done ≡ false → is_stop line ≡ false → HasFailed does cuts t before done line now → BrokeOff does cuts (tasks t lines) before now
broke_off does cuts t before lines done line more now e calm h f =
    let at = tasks_at t done line more f.0 calm h f.2 in
    (tasks_of t fresh done, f.0, at.0, f.1, ap (tasks t) e ∙ at.1, f.3, f.4)

front_length : (line : List ℕ) → length (front line) ≡ min (longest_line + 1) (length line)
front_length line = unfold front in length-take (longest_line + 1) line

some_length : (x : ℕ) (xs : List ℕ) → (length (x ∷ xs) == 0) ≡ false
some_length x xs = ne_eqb (length (x ∷ xs)) 0 (λ e. omega (arith, e))

not_none : (xs : List ℕ) → 1 ≤ length xs → (length xs == 0) ≡ true → ⊥
not_none [] h e = omega arith
not_none (x ∷ xs) h e = cc (e, some_length x xs)

-- the last line, where there is none
front_empty : (line : List ℕ) → (length (front line) == 0) ≡ true → (length line == 0) ≡ true
front_empty [] h = refl
front_empty (x ∷ xs) h = absurd (not_none (front (x ∷ xs)) (omega (arith, front_length (x ∷ xs))) h)

pub no_last : (bytes held : List ℕ) → held ≡ front (unfinished bytes) → (length held == 0) ≡ true → lines_of true bytes ≡ whole_lines bytes
no_last bytes held e h =
    let none = front_empty (unfinished bytes) (ap (λ xs. length xs == 0) (sym e) ∙ h) in
    ap (λ b. whole_lines bytes ++ cond b [] (unfinished bytes ∷ [])) none ∙ append-nil (whole_lines bytes)

some_front : (line : List ℕ) → (length (front line) == 0) ≡ false → (length line == 0) ≡ false
some_front [] h = ap (λ xs. length xs == 0) (sym front_none) ∙ h
some_front (x ∷ xs) h = some_length x xs

pub one_last : (bytes held : List ℕ) → held ≡ front (unfinished bytes) → (length held == 0) ≡ false → lines_of true bytes ≡ whole_lines bytes ++ unfinished bytes ∷ []
one_last bytes held e h =
    let some = some_front (unfinished bytes) (ap (λ xs. length xs == 0) (sym e) ∙ h) in
    ap (λ b. whole_lines bytes ++ cond b [] (unfinished bytes ∷ [])) some

shortest_again : (a b c : Option ℕ) → (b ≡ a) ⊎ (b ≡ shorter a read_size) → c ≡ shorter b read_size → (c ≡ a) ⊎ (c ≡ shorter a read_size)
shortest_again a b c (inl e) h = inr (h ∙ ap (λ o. shorter o read_size) e)
shortest_again None b c (inr e) h = inr (h ∙ ap (λ o. shorter o read_size) e)
shortest_again (Some n) b c (inr e) h = inr (h ∙ ap (λ o. shorter o read_size) e ∙ ap Some (omega arith))

-- what was read into a buffer of the one size
pub is_piece : (buffer : List ℕ) (k : ℕ) → length buffer ≡ read_size → IsWithin (read.Got k) read_size → IsPiece (take k buffer)
is_piece buffer k full within = let size = length-take k buffer in (omega (arith, size, full, within.0, within.1), omega (arith, size, full, within.0, within.1))

-- one piece more was read
pub read_more : (pieces : List (List ℕ)) (buffer : List ℕ) (k : ℕ) (a b c : Fed) → IsPiece (take k buffer) → HasRead pieces a b → IsRead read_size (read.Got k) buffer b c → HasRead (pieces ++ take k buffer ∷ []) a c
read_more pieces buffer k a b c p r s = record {
  left = tell_trans a.left b.left c.left (λ x y. x ≡ concat pieces ++ y) (λ x y. x ≡ take k buffer ++ y) (λ x y. x ≡ concat (pieces ++ take k buffer ∷ []) ++ y) r.left s.gives.0
      (λ x y z p q. p ∙ ap (λ xs. concat pieces ++ xs) q ∙ sym (append_assoc (concat pieces) (take k buffer) z) ∙ ap (λ xs. xs ++ z) (sym (concat_end pieces (take k buffer))));
  given = s.gives.1 ∙ ap (λ xs. xs ++ take k buffer ∷ []) r.given ∙ append_assoc a.pieces pieces (take k buffer ∷ []);
  shortest = shortest_again a.shortest b.shortest c.shortest r.shortest s.shortest;
  sizes = All-push IsPiece pieces (take k buffer) r.sizes p;
  names = s.names ∙ r.names;
}

-- the end was read
pub read_end : (pieces : List (List ℕ)) (buffer : List ℕ) (a b c : Fed) → HasRead pieces a b → IsRead read_size read.End buffer b c → HasRead pieces a c
read_end pieces buffer a b c r s = record {
  left = tell_trans a.left b.left c.left (λ x y. x ≡ concat pieces ++ y) (λ x y. (x ≡ []) × (y ≡ [])) (λ x y. x ≡ concat pieces ++ y) r.left s.gives.0 (λ x y z p q. p ∙ ap (λ xs. concat pieces ++ xs) (q.0 ∙ sym q.1));
  given = s.gives.1 ∙ r.given;
  shortest = shortest_again a.shortest b.shortest c.shortest r.shortest s.shortest;
  sizes = r.sizes;
  names = s.names ∙ r.names;
}

-- a read failed
pub read_failed : (pieces : List (List ℕ)) (buffer : List ℕ) (a b c : Fed) → HasRead pieces a b → IsRead read_size read.Failed buffer b c → HasRead pieces a c
read_failed pieces buffer a b c r s = record {
  left = subst (λ l. BothTell a.left l (λ x y. x ≡ concat pieces ++ y)) (sym s.gives.0) r.left;
  given = s.gives.1 ∙ r.given;
  shortest = shortest_again a.shortest b.shortest c.shortest r.shortest s.shortest;
  sizes = r.sizes;
  names = s.names ∙ r.names;
}

-- at the end nothing is left
none_left : (before after : Option (List ℕ)) → BothTell before after (λ x y. (x ≡ []) × (y ≡ [])) → IfSome after (λ bytes. bytes ≡ [])
none_left None None told = tt
none_left None (Some bytes) told = absurd told
none_left (Some bytes) None told = tt
none_left (Some bytes) (Some others) told = told.1

-- nothing was read
pub read_none : (a : Fed) → HasRead [] a a
read_none a = record { left = tell_self a.left (λ x y. x ≡ y) (λ x. refl); given = sym (append-nil a.pieces); shortest = inl refl; sizes = λ k d h. absurd (omega (arith, h)); names = refl }

-- ahead of all bytes
pub reads_none : {X : Type 0} (does : Task → X → X → Type 0) (t : Plan) (clerk : Clerking) (s : X) → clerk.ledger ≡ fresh → Reads does t s [] [] clerk s
reads_none does t clerk s e =
    (sym (ap front nothing_unfinished ∙ front_none), rw nothing_whole (e, no_stop_none, refl))

-- a turn that read a piece
pub turn_got : {X : Type 0} (does cuts : Task → X → X → Type 0) (result : LineEnd) (t : Plan) (a b c : Option Fed) (before : X) (pieces : List (List ℕ)) (buffer : List ℕ) (k : ℕ) (held : List ℕ) (clerk : Clerking) (now : X)
    → IsPiece (take k buffer) → BothTell a b (HasRead pieces) → BothTell b c (IsRead read_size (read.Got k) buffer) → NoStop (concat pieces) → PieceCame does cuts result t before (concat pieces ++ take k buffer) held clerk now
    → TurnCame does cuts (end_of result) t a c before (length pieces) held clerk now
turn_got does cuts lines.GoesOn t a b c before pieces buffer k held clerk now sized r s calm came =
    (pieces ++ take k buffer ∷ [], one_more pieces (take k buffer), tell_trans a b c (HasRead pieces) (IsRead read_size (read.Got k) buffer) (HasRead (pieces ++ take k buffer ∷ [])) r s (λ x y z. read_more pieces buffer k x y z sized), rw (concat_end pieces (take k buffer)) came)
turn_got does cuts lines.Stopped t a b c before pieces buffer k held clerk now sized r s calm came = (
  pieces ++ take k buffer ∷ [],
  tell_trans a b c (HasRead pieces) (IsRead read_size (read.Got k) buffer) (HasRead (pieces ++ take k buffer ∷ [])) r s (λ x y z. read_more pieces buffer k x y z sized),
  (λ e. cc),
  λ turns l. inl (
    ((pieces, take k buffer, refl, calm), ap (λ xs. has_stop (whole_lines xs)) (concat_end pieces (take k buffer)) ∙ ap has_stop came.2.lines ∙ has_stop_at came.0 came.1 came.2.more came.3),
    omega (arith, l, one_more pieces (take k buffer)),
    rw (concat_end pieces (take k buffer)) (stop_came does t before (whole_lines (concat pieces ++ take k buffer)) came.0 came.1 came.2.more now came.2.lines came.2.stop came.3 came.4),
  ),
)
turn_got does cuts lines.Failed t a b c before pieces buffer k held clerk now sized r s calm came = (
  pieces ++ take k buffer ∷ [],
  tell_trans a b c (HasRead pieces) (IsRead read_size (read.Got k) buffer) (HasRead (pieces ++ take k buffer ∷ [])) r s (λ x y z. read_more pieces buffer k x y z sized),
  (λ e. cc),
  λ turns l. inl ((pieces, take k buffer, refl, calm), omega (arith, l, one_more pieces (take k buffer)), rw (concat_end pieces (take k buffer)) (broke_off does cuts t before (whole_lines (concat pieces ++ take k buffer)) came.0 came.1 came.2.more now came.2.lines came.2.stop came.3 came.4)),
)

-- a turn that read the end
pub turn_end : {X : Type 0} (does cuts : Task → X → X → Type 0) (end : FeedEnd) (t : Plan) (a b c : Option Fed) (before : X) (pieces : List (List ℕ)) (buffer : List ℕ) (held : List ℕ) (clerk : Clerking) (now : X)
    → BothTell a b (HasRead pieces) → BothTell b c (IsRead read_size read.End buffer) → NoStop (concat pieces) → LastCame does cuts end t before (concat pieces) now → TurnCame does cuts (Some end) t a c before (length pieces) held clerk now
turn_end does cuts ends.Ended t a b c before pieces buffer held clerk now r s calm came = (
  pieces,
  tell_trans a b c (HasRead pieces) (IsRead read_size read.End buffer) (HasRead pieces) r s (read_end pieces buffer),
  (λ e. cc),
  λ turns l. inr (record { no_stop = calm; over = tell_trans a b c (HasRead pieces) (IsRead read_size read.End buffer) IsOver r s (λ x y z p q. (q.gives.2, none_left y.left z.left q.gives.0)) }, l, came),
)
turn_end does cuts ends.SinkFault t a b c before pieces buffer held clerk now r s calm came = (
  pieces,
  tell_trans a b c (HasRead pieces) (IsRead read_size read.End buffer) (HasRead pieces) r s (read_end pieces buffer),
  (λ e. cc),
  λ turns l. inr (record { no_stop = calm; over = tell_trans a b c (HasRead pieces) (IsRead read_size read.End buffer) IsOver r s (λ x y z p q. (q.gives.2, none_left y.left z.left q.gives.0)) }, l, came),
)
turn_end does cuts ends.SourceFault t a b c before pieces buffer held clerk now r s calm came = absurd came
turn_end does cuts ends.Spent t a b c before pieces buffer held clerk now r s calm came = absurd came
turn_end does cuts ends.NoMemory t a b c before pieces buffer held clerk now r s calm came = absurd came

-- a turn whose read failed
pub turn_failed : {X : Type 0} (does cuts : Task → X → X → Type 0) (t : Plan) (a b c : Option Fed) (before : X) (pieces : List (List ℕ)) (buffer : List ℕ) (held : List ℕ) (clerk : Clerking) (now : X)
    → BothTell a b (HasRead pieces) → BothTell b c (IsRead read_size read.Failed buffer) → Stands does t before (whole_lines (concat pieces)) clerk now → TurnCame does cuts (Some ends.SourceFault) t a c before (length pieces) held clerk now
turn_failed does cuts t a b c before pieces buffer held clerk now r s st =
    (pieces, tell_trans a b c (HasRead pieces) (IsRead read_size read.Failed buffer) (HasRead pieces) r s (read_failed pieces buffer), (λ e. cc), λ turns l. (st.1, l, all_came does t before (whole_lines (concat pieces)) clerk now st))

-- a piece behind which the feed goes on
pub goes_on : (end : LineEnd) → end_of end ≡ None → end ≡ lines.GoesOn
goes_on lines.GoesOn h = refl
goes_on lines.Stopped h = cc
goes_on lines.Failed h = cc

-- a clerk that was not called has batches of any instance
pub batches_none : (m : Market) → AreBatches m (record { ledger = fresh; due = [] })
batches_none m = record { changes = λ k d h. absurd (omega (arith, h)); due = λ k d h. absurd (omega (arith, h)) }

-- a turn behind which the feed goes on met no fault of the source
pub not_failed : (end : Option FeedEnd) → end ≡ None → end ≢ Some ends.SourceFault
not_failed None h e = cc
not_failed (Some end) h e = cc
