-- What was written of a map is read as that map.
use Rattle.std.proofs.Common.{◌≡◌, ℕ, ◌+◌, ◌-◌, ◌<◌, ◌^◌, ◌==◌, Bool, true, false, ◌||◌, cond, List, [], ◌∷◌, ◌++◌, length, get_or, map, All, IsTrue, Option, None, Some, Result, Ok, codes, refl, ap, sym, subst, ◌∙◌, inl, inr, arith, append-nil, append_assoc, length-append, suc}
use Rattle.std.proofs.Math.Seq.{get_or-append_seam}
use Rattle.std.proofs.Math.ListN.{get_or-append}
use Rattle.std.proofs.lemmas.Bool.{and_parts, or_cases, ltb-true, eqb-true}
use Rattle.std.proofs.lemmas.Bool.Decides.{nat_tests}
use Rattle.std.proofs.lemmas.List.Elements.{All-from_get_or}
use Rattle.std.proofs.lemmas.List.{map-append}
use Rattle.std.proofs.lemmas.List.Concat.{flat_map-append}
use Rattle.std.proofs.lemmas.Option.{slice_get-get_or}
use Rattle.std.specs.Fmt.{decimal}
use Rattle.std.specs.List.{flat_map}
use Rattle.std.specs.Option.{option_map_or}
use Rattle.std.specs.Prelude.{slice_get}
use Rattle.map_model.specs.declared.instance.Offer.{Offer}
use Rattle.addr_text.proofs.Splits.{Lacks}
use Rattle.map_model.specs.declared.lines.By.{By}
use Rattle.map_model.specs.declared.lines.By.TheVariants.{Limit, Node}
use Rattle.map_model.specs.declared.lines.MapLine.{MapLine}
use Rattle.map_model.specs.declared.lines.NameLine.{NameLine}
use Rattle.map_model.specs.Market.{Market, pool_of}
use Rattle.map_model.specs.Allocation.{AreLines, AreNames, IsMapForm, IsOffer, is_before, is_by, is_name, is_name_before}
use Rattle.map_model.proofs.MapForm.{IsLineAt-from, no_line}
use Rattle.map_model.proofs.Paths.{pool_there}
use Rattle.map_model.proofs.NameForm.{no_name}
use Rattle.topology_text.specs.Plan.{IsPlan, Plan, number_in}
use Rattle.text_parts.specs.Parts.{unfinished}
use Rattle.map_text.specs.Words.{four_of, three_of}
use Rattle.map_text.specs.Lines.{amount_of, entry_of, full_line, limit_line, line_of, offer_of, place_line}
use Rattle.map_text.specs.Named.{AreNamed, IsNamed}
use Rattle.map_text.specs.Reading.{Mapped, SoFar, fault_of, map_of, so_far}
use Rattle.map_text.specs.Reader.{with_line}
use Rattle.map_text.specs.Writing.{by_row, ended, name_at as word_at, name_row, place_row, rows_of, text_of_map}
use Rattle.map_text.specs.declared.fault.MapFault.{MapFault}
use Rattle.map_text.specs.declared.line.Line.{Line}
use Rattle.map_text.specs.declared.line.Line.TheVariants.{Header, Place, Named, End, Bad}
use Rattle.map_text.specs.declared.line.Version.TheVariants.{Second}
use Rattle.map_text.proofs.Readings.{read_all, read_on, unless}
use Rattle.map_text.proofs.Rows.{AllLack, all_lack-append, four_lacks, four_parts, three_lacks, three_parts, unfinished_ended, whole_ended}
use Rattle.map_text.proofs.Spelled.{IsWord, amount_again, amount_word, name_word, number_again, offer_again}

-- the amounts fit 32 bits
abbrev pub Fit : List MapLine → Type 0
Fit lines = All (λ x. x.amount < 2 ^ 32) lines

-- the names of what is there are words
group_word : (t : Plan) → IsPlan t → (g : ℕ) → g < length t.market.groups → IsWord (word_at t.group_names g)
group_word t plan g lt = name_word (word_at t.group_names g) (plan.groups.each g [] (let e = plan.groups.as_many in omega arith))

node_word : (t : Plan) → IsPlan t → (n : ℕ) → n < length t.market.nodes → IsWord (word_at t.node_names n)
node_word t plan n lt = name_word (word_at t.node_names n) (plan.nodes.each n [] (let e = plan.nodes.as_many in omega arith))

-- a line of four words, none of them empty
entry_words : (t : Plan) (k g p l : List ℕ) → 0 < length g → 0 < length p → 0 < length l
    → ((length g == 0) || (length p == 0) || (length l == 0)) ≡ false
entry_words t k g p l sg sp sl =
    let a : (length g == 0) ≡ false = grind (arith, nat_tests) in
    let b : (length p == 0) ≡ false = grind (arith, nat_tests) in
    let c : (length l == 0) ≡ false = grind (arith, nat_tests) in
    rw (a, b, c) refl

-- what is placed, as a line again
place_again_line : (t : Plan) → IsPlan t → (x : MapLine) → IsOffer t.market x.group.0 x.place → 0 < x.amount → x.amount < 2 ^ 32 → line_of t (place_row t x) ≡ Place x
place_again_line t plan x o some fits =
    let g = word_at t.group_names x.group.0 in
    let p = word_at t.node_names (pool_of t.market x.group.0 x.place) in
    let l = decimal x.amount in
    let wg = group_word t plan x.group.0 o.group in
    let wp = node_word t plan (pool_of t.market x.group.0 x.place) (pool_there t.market plan.market x.group.0 x.place o) in
    let wl = amount_word x.amount fits in
    ap (λ (ps : List (List ℕ)). entry_of t (three_of ps) (four_of ps)) (four_parts (codes "place") g p l (refl, (refl, (refl, (refl, (refl, tt))))) wg.no_space wp.no_space wl.no_space)
    ∙ ap (λ (b : Bool). cond b Bad (place_line (offer_of t g p) (amount_of l))) (entry_words t (codes "place") g p l wg.some wp.some wl.some)
    ∙ ap (λ (a : Option ℕ). place_line (offer_of t g p) a) (amount_again x.amount some fits)
    ∙ ap (λ (a : Option Offer). place_line a (Some x.amount)) (offer_again t plan x.group.0 x.place o)

-- what is named, as a line again
name_again_line : (t : Plan) → IsPlan t → (x : NameLine) → IsOffer t.market x.group.0 x.place → IsTrue (is_by t.market x.by) → line_of t (name_row t x) ≡ Named x
name_again_line t plan x o there = go x.by there refl
  where
    g : List ℕ
    g = word_at t.group_names x.group.0

    p : List ℕ
    p = word_at t.node_names (pool_of t.market x.group.0 x.place)

    wg : IsWord (word_at t.group_names x.group.0)
    wg = group_word t plan x.group.0 o.group

    wp : IsWord (word_at t.node_names (pool_of t.market x.group.0 x.place))
    wp = node_word t plan (pool_of t.market x.group.0 x.place) (pool_there t.market plan.market x.group.0 x.place o)

    go : (by : By) → IsTrue (is_by t.market by) → by ≡ x.by → line_of t (by_row t g p by) ≡ Named (record { group = x.group; place = x.place; by = by })
    go Limit there is =
        let a : (length g == 0) ≡ false = let some = wg.some in grind (arith, nat_tests) in
        let b : (length p == 0) ≡ false = let some = wp.some in grind (arith, nat_tests) in
        let words : ((length g == 0) || (length p == 0)) ≡ false = rw (a, b) refl in
        ap (λ (ps : List (List ℕ)). entry_of t (three_of ps) (four_of ps)) (three_parts (codes "limit") g p (refl, (refl, (refl, (refl, (refl, tt))))) wg.no_space wp.no_space)
        ∙ ap (λ (b : Bool). cond b Bad (limit_line (offer_of t g p))) words
        ∙ ap (λ (a : Option Offer). limit_line a) (offer_again t plan x.group.0 x.place o)
    go (Node n) there is =
        let l = word_at t.node_names n.0 in
        let within : n.0 < length t.market.nodes = ltb-true _ _ there in
        let wl = node_word t plan n.0 within in
        let in_nodes : n.0 < length t.node_names = let e = plan.nodes.as_many in omega arith in
        ap (λ (ps : List (List ℕ)). entry_of t (three_of ps) (four_of ps)) (four_parts (codes "full") g p l (refl, (refl, (refl, (refl, tt)))) wg.no_space wp.no_space wl.no_space)
        ∙ ap (λ (b : Bool). cond b Bad (full_line (offer_of t g p) (number_in t.node_names l))) (entry_words t (codes "full") g p l wg.some wp.some wl.some)
        ∙ ap (λ (a : Option ℕ). full_line (offer_of t g p) a) (number_again t.node_names n.0 plan.nodes.distinct in_nodes)
        ∙ ap (λ (a : Option Offer). full_line a (Some n.0)) (offer_again t plan x.group.0 x.place o)

-- what holds of a line of a map
record IsPlaced (m : Market) (x : MapLine) : Type 0 where
  pub offer : IsOffer m x.group.0 x.place
  some : 0 < x.amount
  fits : x.amount < 2 ^ 32

placed_at : (m : Market) (lines : List MapLine) → AreLines m lines → Fit lines → (i : ℕ) → i < length lines → IsPlaced m (get_or lines i no_line)
placed_at m lines form fit i lt = let at = IsLineAt-from m lines i (form i lt) in record { offer = at.offer; some = at.some; fits = fit i no_line lt }

pub named_at : (m : Market) (names : List NameLine) → AreNames m names → (i : ℕ) → i < length names → IsNamed m (get_or names i no_name)
named_at m names form i lt =
    let p = and_parts _ _ (form i lt) in
    let q = and_parts _ _ p.0 in
    let r = and_parts _ _ q.0 in
    record { offer = record { group = ltb-true _ _ r.0; place = ltb-true _ _ r.1 }; by = q.1 }

-- all names of a map's form
pub all_named : (m : Market) (names : List NameLine) → AreNames m names → AreNamed m names
all_named m names form = All-from_get_or (IsNamed m) names no_name (named_at m names form)

named_above : (m : Market) (names : List NameLine) (i : ℕ) → IsTrue (is_name m names i) → 0 < i → is_name_before (get_or names (i - 1) no_name) (get_or names i no_name) ≡ true
named_above m names i h some = elim (or_cases _ _ (and_parts _ _ h).1) [
  | inl e ↦ absurd (omega (arith, eqb-true i 0 e))
  | inr b ↦ b
]

-- the rows of what is placed, and of what is named
place_rows : (t : Plan) → IsPlan t → (xs : List MapLine) → ((i : ℕ) → i < length xs → IsPlaced t.market (get_or xs i no_line)) → map (line_of t) (map (place_row t) xs) ≡ map Place xs
place_rows t plan [] h = refl
place_rows t plan (x ∷ xs) h =
    let here = h 0 (omega arith) in
    ap (λ (l : Line). l ∷ map (line_of t) (map (place_row t) xs)) (place_again_line t plan x here.offer here.some here.fits)
    ∙ ap (λ (ls : List Line). Place x ∷ ls) (place_rows t plan xs (λ i lt. h (suc i) (omega arith)))

name_rows : (t : Plan) → IsPlan t → (xs : List NameLine) → ((i : ℕ) → i < length xs → IsNamed t.market (get_or xs i no_name)) → map (line_of t) (map (name_row t) xs) ≡ map Named xs
name_rows t plan [] h = refl
name_rows t plan (x ∷ xs) h =
    let here = h 0 (omega arith) in
    ap (λ (l : Line). l ∷ map (line_of t) (map (name_row t) xs)) (name_again_line t plan x here.offer here.by)
    ∙ ap (λ (ls : List Line). Named x ∷ ls) (name_rows t plan xs (λ i lt. h (suc i) (omega arith)))

place_rows_lack : (t : Plan) → IsPlan t → (xs : List MapLine) → ((i : ℕ) → i < length xs → IsPlaced t.market (get_or xs i no_line)) → AllLack 10 (map (place_row t) xs)
place_rows_lack t plan [] h = tt
place_rows_lack t plan (x ∷ xs) h =
    let here = h 0 (omega arith) in
    let g = group_word t plan x.group.0 here.offer.group in
    let p = node_word t plan (pool_of t.market x.group.0 x.place) (pool_there t.market plan.market x.group.0 x.place here.offer) in
    let l = amount_word x.amount here.fits in
    (four_lacks (codes "place") _ _ _ (refl, (refl, (refl, (refl, (refl, tt))))) g.no_end p.no_end l.no_end, place_rows_lack t plan xs (λ i lt. h (suc i) (omega arith)))

by_lacks : (t : Plan) → IsPlan t → (g p : List ℕ) → Lacks 10 g → Lacks 10 p → (by : By) → IsTrue (is_by t.market by) → Lacks 10 (by_row t g p by)
by_lacks t plan g p lg lp Limit there = three_lacks (codes "limit") g p (refl, (refl, (refl, (refl, (refl, tt))))) lg lp
by_lacks t plan g p lg lp (Node n) there = four_lacks (codes "full") g p (word_at t.node_names n.0) (refl, (refl, (refl, (refl, tt)))) lg lp (node_word t plan n.0 (ltb-true _ _ there)).no_end

name_rows_lack : (t : Plan) → IsPlan t → (xs : List NameLine) → ((i : ℕ) → i < length xs → IsNamed t.market (get_or xs i no_name)) → AllLack 10 (map (name_row t) xs)
name_rows_lack t plan [] h = tt
name_rows_lack t plan (x ∷ xs) h =
    let here = h 0 (omega arith) in
    let g = group_word t plan x.group.0 here.offer.group in
    let p = node_word t plan (pool_of t.market x.group.0 x.place) (pool_there t.market plan.market x.group.0 x.place here.offer) in
    (by_lacks t plan (word_at t.group_names x.group.0) (word_at t.node_names (pool_of t.market x.group.0 x.place)) g.no_end p.no_end x.by here.by, name_rows_lack t plan xs (λ i lt. h (suc i) (omega arith)))

-- a line above the one before it
line_above : (m : Market) (done : List MapLine) (x : MapLine) (todo : List MapLine) → AreLines m (done ++ x ∷ todo) → option_map_or (λ y. is_before y x) (slice_get done (length done - 1)) true ≡ true
line_above m [] x todo form = refl
line_above m (d ∷ ds) x todo form =
    let done : List MapLine = d ∷ ds in
    let n = length ds in
    let within : n < length done = omega arith in
    let last : length done - 1 ≡ n = omega arith in
    let inside : length done < length (done ++ x ∷ todo) = omega (arith, length-append done (x ∷ todo)) in
    let at = IsLineAt-from m (done ++ x ∷ todo) (length done) (form (length done) inside) in
    let above : is_before (get_or (done ++ x ∷ todo) (length done - 1) no_line) (get_or (done ++ x ∷ todo) (length done) no_line) ≡ true = at.above (omega arith) in
    let here : is_before (get_or done n no_line) x ≡ true =
    subst (λ (y : MapLine). is_before y x ≡ true) (get_or-append done (x ∷ todo) no_line n within)
    (subst (λ (y : MapLine). is_before (get_or (done ++ x ∷ todo) n no_line) y ≡ true) (get_or-append_seam done x todo no_line)
    (subst (λ j. is_before (get_or (done ++ x ∷ todo) j no_line) (get_or (done ++ x ∷ todo) (length done) no_line) ≡ true) last above)) in
    ap (λ j. option_map_or (λ y. is_before y x) (slice_get done j) true) last
    ∙ ap (λ (o : Option MapLine). option_map_or (λ y. is_before y x) o true) (slice_get-get_or done n no_line within)
    ∙ here

-- a name above the one before it
name_above : (m : Market) (done : List NameLine) (x : NameLine) (todo : List NameLine) → AreNames m (done ++ x ∷ todo) → option_map_or (λ y. is_name_before y x) (slice_get done (length done - 1)) true ≡ true
name_above m [] x todo form = refl
name_above m (d ∷ ds) x todo form =
    let done : List NameLine = d ∷ ds in
    let n = length ds in
    let within : n < length done = omega arith in
    let last : length done - 1 ≡ n = omega arith in
    let inside : length done < length (done ++ x ∷ todo) = omega (arith, length-append done (x ∷ todo)) in
    let above : is_name_before (get_or (done ++ x ∷ todo) (length done - 1) no_name) (get_or (done ++ x ∷ todo) (length done) no_name) ≡ true = named_above m (done ++ x ∷ todo) (length done) (form (length done) inside) (omega arith) in
    let here : is_name_before (get_or done n no_name) x ≡ true =
    subst (λ (y : NameLine). is_name_before y x ≡ true) (get_or-append done (x ∷ todo) no_name n within)
    (subst (λ (y : NameLine). is_name_before (get_or (done ++ x ∷ todo) n no_name) y ≡ true) (get_or-append_seam done x todo no_name)
    (subst (λ j. is_name_before (get_or (done ++ x ∷ todo) j no_name) (get_or (done ++ x ∷ todo) (length done) no_name) ≡ true) last above)) in
    ap (λ j. option_map_or (λ y. is_name_before y x) (slice_get done j) true) last
    ∙ ap (λ (o : Option NameLine). option_map_or (λ y. is_name_before y x) o true) (slice_get-get_or done n no_name within)
    ∙ here

-- the lines of a map, behind the header
reads_places : (m : Market) (done todo : List MapLine) (n : ℕ) (more : List Line) (rest : List ℕ) (r : Result Mapped MapFault) → 0 < n → AreLines m (done ++ todo)
    → ((k : ℕ) → 0 < k → read_on (record { count = k; lines = done ++ todo; names = []; takes_limits = true; is_ended = false }) more rest ≡ r)
    → read_on (record { count = n; lines = done; names = []; takes_limits = true; is_ended = false }) (map Place todo ++ more) rest ≡ r
reads_places m done [] n more rest r some form next =
    ap (λ (xs : List MapLine). read_on (record { count = n; lines = xs; names = []; takes_limits = true; is_ended = false }) more rest) (sym (append-nil done)) ∙ next n some
reads_places m done (x ∷ todo) n more rest r some form next =
    let before : SoFar = record { count = n; lines = done; names = []; takes_limits = true; is_ended = false } in
    let shift : (done ++ x ∷ []) ++ todo ≡ done ++ x ∷ todo = append_assoc done (x ∷ []) todo in
    let not_first : (n == 0) ≡ false = grind (arith, nat_tests) in
    let no_fault : fault_of before (Place x) ≡ None = rw (not_first, line_above m done x todo form) refl in
    ap (λ (fault : Option MapFault). unless fault (read_on (with_line before (Place x)) (map Place todo ++ more) rest)) no_fault
    ∙ reads_places m (done ++ x ∷ []) todo (n + 1) more rest r (omega arith) (subst (λ (xs : List MapLine). AreLines m xs) (sym shift) form)
    (λ k above. ap (λ (xs : List MapLine). read_on (record { count = k; lines = xs; names = []; takes_limits = true; is_ended = false }) more rest) shift ∙ next k above)

-- the names of a map, behind its lines
reads_names : (m : Market) (lines : List MapLine) (done todo : List NameLine) (n : ℕ) (more : List Line) (rest : List ℕ) (r : Result Mapped MapFault) → 0 < n → AreNames m (done ++ todo)
    → ((k : ℕ) → 0 < k → read_on (record { count = k; lines = lines; names = done ++ todo; takes_limits = true; is_ended = false }) more rest ≡ r)
    → read_on (record { count = n; lines = lines; names = done; takes_limits = true; is_ended = false }) (map Named todo ++ more) rest ≡ r
reads_names m lines done [] n more rest r some form next =
    ap (λ (xs : List NameLine). read_on (record { count = n; lines = lines; names = xs; takes_limits = true; is_ended = false }) more rest) (sym (append-nil done)) ∙ next n some
reads_names m lines done (x ∷ todo) n more rest r some form next =
    let before : SoFar = record { count = n; lines = lines; names = done; takes_limits = true; is_ended = false } in
    let shift : (done ++ x ∷ []) ++ todo ≡ done ++ x ∷ todo = append_assoc done (x ∷ []) todo in
    let not_first : (n == 0) ≡ false = grind (arith, nat_tests) in
    let no_fault : fault_of before (Named x) ≡ None = rw (not_first, name_above m done x todo form) refl in
    ap (λ (fault : Option MapFault). unless fault (read_on (with_line before (Named x)) (map Named todo ++ more) rest)) no_fault
    ∙ ap (λ (xs : List MapLine). read_on (record { count = n + 1; lines = xs; names = done ++ x ∷ []; takes_limits = true; is_ended = false }) (map Named todo ++ more) rest) (append-nil lines)
    ∙ reads_names m lines (done ++ x ∷ []) todo (n + 1) more rest r (omega arith) (subst (λ (xs : List NameLine). AreNames m xs) (sym shift) form)
    (λ k above. ap (λ (xs : List NameLine). read_on (record { count = k; lines = lines; names = xs; takes_limits = true; is_ended = false }) more rest) shift ∙ next k above)

-- the end
reads_end : (lines : List MapLine) (names : List NameLine) (k : ℕ) → 0 < k → read_on (record { count = k; lines = lines; names = names; takes_limits = true; is_ended = false }) (End ∷ []) [] ≡ Ok (record { lines = lines; names = names })
reads_end lines names k some =
    let before : SoFar = record { count = k; lines = lines; names = names; takes_limits = true; is_ended = false } in
    let not_first : (k == 0) ≡ false = grind (arith, nat_tests) in
    let no_fault : fault_of before End ≡ None = rw not_first refl in
    ap (λ (fault : Option MapFault). unless fault (read_on (with_line before End) [] [])) no_fault
    ∙ ap (λ (xs : List MapLine). Ok (record { lines = xs; names = names ++ [] })) (append-nil lines)
    ∙ ap (λ (xs : List NameLine). Ok (record { lines = lines; names = xs })) (append-nil names)

-- the rows of a map, as lines again
rows_again : (t : Plan) → IsPlan t → (m : Mapped) → ((i : ℕ) → i < length m.lines → IsPlaced t.market (get_or m.lines i no_line)) → ((i : ℕ) → i < length m.names → IsNamed t.market (get_or m.names i no_name))
    → map (line_of t) (rows_of t m) ≡ Header Second ∷ (map Place m.lines ++ (map Named m.names ++ End ∷ []))
rows_again t plan m placed named =
    let places = map (place_row t) m.lines in
    let names = map (name_row t) m.names in
    map-append (line_of t) (codes "glb map 2" ∷ places ++ names) (codes "end" ∷ [])
    ∙ ap (λ (ls : List Line). ls ++ End ∷ []) (map-append (line_of t) (codes "glb map 2" ∷ places) names)
    ∙ append_assoc (Header Second ∷ map (line_of t) places) (map (line_of t) names) (End ∷ [])
    ∙ ap (λ (ls : List Line). Header Second ∷ (ls ++ (map (line_of t) names ++ End ∷ []))) (place_rows t plan m.lines placed)
    ∙ ap (λ (ls : List Line). Header Second ∷ (map Place m.lines ++ (ls ++ End ∷ []))) (name_rows t plan m.names named)

rows_lack : (t : Plan) → IsPlan t → (m : Mapped) → ((i : ℕ) → i < length m.lines → IsPlaced t.market (get_or m.lines i no_line)) → ((i : ℕ) → i < length m.names → IsNamed t.market (get_or m.names i no_name)) → AllLack 10 (rows_of t m)
rows_lack t plan m placed named =
    all_lack-append 10 (codes "glb map 2" ∷ map (place_row t) m.lines ++ map (name_row t) m.names) (codes "end" ∷ [])
    (all_lack-append 10 (codes "glb map 2" ∷ map (place_row t) m.lines) (map (name_row t) m.names) ((refl, (refl, (refl, (refl, (refl, (refl, (refl, (refl, (refl, tt))))))))), place_rows_lack t plan m.lines placed) (name_rows_lack t plan m.names named))
    ((refl, (refl, (refl, tt))), tt)

-- a map in its form, with amounts of 32 bits, is read from its text
pub map_again : (t : Plan) → IsPlan t → (m : Mapped) → IsMapForm t.market m.lines m.names → Fit m.lines → map_of t (text_of_map t m) ≡ Ok m
map_again t plan m form fit =
    let placed = placed_at t.market m.lines form.of_lines fit in
    let named = named_at t.market m.names form.of_names in
    let lack = rows_lack t plan m placed named in
    let rows = rows_of t m in
    sym (read_all t (text_of_map t m))
    ∙ ap (λ (ls : List (List ℕ)). read_on (so_far []) (map (line_of t) ls) (unfinished (text_of_map t m))) (whole_ended rows lack)
    ∙ ap (λ (rest : List ℕ). read_on (so_far []) (map (line_of t) rows) rest) (unfinished_ended rows lack)
    ∙ ap (λ (ls : List Line). read_on (so_far []) ls []) (rows_again t plan m placed named)
    ∙ reads_places t.market [] m.lines 1 (map Named m.names ++ End ∷ []) [] (Ok m) (omega arith) form.of_lines
    (λ k above. reads_names t.market m.lines [] m.names k (End ∷ []) [] (Ok m) above form.of_names (λ j over. reads_end m.lines m.names j over))

-- a text of lines, from what each of them was written for
flat_map_map : {X : Type 0} (f : X → List ℕ) (g : List ℕ → List ℕ) (xs : List X) → flat_map g (map f xs) ≡ flat_map (λ x. g (f x)) xs
flat_map_map f g [] = refl
flat_map_map f g (x ∷ xs) = ap (λ (ys : List ℕ). g (f x) ++ ys) (flat_map_map f g xs)

-- the text of a map, piece by piece
pub text_by_pieces : (t : Plan) (m : Mapped) → text_of_map t m ≡ (ended (codes "glb map 2") ++ flat_map (λ x. ended (place_row t x)) m.lines) ++ flat_map (λ x. ended (name_row t x)) m.names ++ ended (codes "end")
text_by_pieces t m =
    let header = codes "glb map 2" in
    let places = map (place_row t) m.lines in
    let names = map (name_row t) m.names in
    let tail = ended (codes "end") in
    flat_map-append ended (header ∷ places ++ names) (codes "end" ∷ [])
    ∙ ap (λ (ys : List ℕ). ys ++ tail) (flat_map-append ended (header ∷ places) names)
    ∙ ap (λ (ys : List ℕ). (ended header ++ ys) ++ flat_map ended names ++ tail) (flat_map_map (place_row t) ended m.lines)
    ∙ ap (λ (ys : List ℕ). (ended header ++ flat_map (λ x. ended (place_row t x)) m.lines) ++ ys ++ tail) (flat_map_map (name_row t) ended m.names)
