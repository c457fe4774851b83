-- Each move keeps the rule of the queue.
use Rattle.std.proofs.Common.{◌≡◌, ◌≢◌, ℕ, zero, suc, ◌+◌, ◌<◌, ◌^◌, Bool, true, false, cond, ◌==◌, ne_eqb, eq-eqb, eqb-true, true≢false, List, [], ◌∷◌, ◌++◌, length, set, append_assoc, refl, ap, sym, subst, ◌∙◌, ⊎_elim, arith}
use Rattle.std.specs.Prelude.{IfSome, MatchOption, None, Option, Some}
use mathlib.Core.Option.{some, some-ne-none}
use lib.ListN.{get_elem?}
use Rattle.crossbeam_queue.specs.Fifo.{Pushes, Pops, Forks, Merges, Learns}
use Rattle.crossbeam_queue.proofs.Lists.{at_set, at_snoc}
use Rattle.demand_feed.specs.declared.sent.Item.{Item}
use Rattle.demand_feed.specs.declared.sent.What.{What}
use Rattle.feed_queue.specs.declared.hand.Hand.{Hand}
use Rattle.feed_queue.specs.Items.{AreTaken, Fits, MaySend, batches, numbered, only, sent_by}
use Rattle.feed_queue.specs.Rule.{Accounts, Delivers, Feeds, TakesAll, Took, came_back, first, new_feeder, spent, with_feeder, with_got, with_sent}
use Rattle.feed_queue.proofs.Lists.{accounts_of, each_else, each_here, last_fits, may_more, may_none, taken_of}

-- a function with another value at one place
abbrev put_at : {A : Type 0} → ℕ → A → (ℕ → A) → ℕ → A
put_at k a f j = cond (j == k) a (f j)

put_here : {A : Type 0} (k : ℕ) (a : A) (f : ℕ → A) (j : ℕ) → j ≡ k → put_at k a f j ≡ a
put_here k a f j e = ap (λ b. cond b a (f j)) (eq-eqb j k e)

put_else : {A : Type 0} (k : ℕ) (a : A) (f : ℕ → A) (j : ℕ) → j ≢ k → put_at k a f j ≡ f j
put_else k a f j e = ap (λ b. cond b a (f j)) (ne_eqb j k e)

-- what holds at that place and at all others
put_each : {A : Type 0} (P : ℕ → A → Type 0) (k : ℕ) (a : A) (f : ℕ → A) → P k a → ((j : ℕ) → j ≢ k → P j (f j)) → (j : ℕ) → P j (put_at k a f j)
put_each {A} P k a f here else j = go (j == k) refl
  where
    go : (b : Bool) → (j == k) ≡ b → P j (put_at k a f j)
    go true e = subst (λ (p : ℕ × A). P p.0 p.1) (λ i. (sym (eqb-true j k e) i, sym (put_here k a f j (eqb-true j k e)) i)) here
    go false e = subst (P j) (sym (put_else k a f j (λ same. true≢false (sym (eq-eqb j k same) ∙ e)))) (else j (λ same. true≢false (sym (eq-eqb j k same) ∙ e)))

at_end : (l : List Hand) (a b : Hand) (j : ℕ) → get_elem? l j ≢ some b → get_elem? (l ++ a ∷ []) j ≡ some b → j ≡ length l
at_end [] a b zero n e = refl
at_end [] a b (suc j) n e = absurd (some-ne-none b (sym e))
at_end (x ∷ xs) a b zero n e = absurd (n e)
at_end (x ∷ xs) a b (suc j) n e = ap suc (at_end xs a b j n e)

abbrev Each : (ℕ → Hand → Type 0) → List Hand → Type 0
Each F views = (pass : ℕ) (v : Hand) → get_elem? views pass ≡ some v → F pass v

each_set : (F : ℕ → Hand → Type 0) (views : List Hand) (pass : ℕ) (w : Hand) → F pass w → ((j : ℕ) (u : Hand) → j ≢ pass → get_elem? views j ≡ some u → F j u) → Each F (set views pass w)
each_set F views pass w mine others j u e = ⊎_elim (λ (x : (j ≡ pass) × (w ≡ u)). subst (λ (y : ℕ × Hand). F y.0 y.1) (λ i. (sym x.0 i, x.1 i)) mine)
    (λ (x : (j ≢ pass) × (get_elem? views j ≡ some u)). others j u x.0 x.1) (at_set views pass j w u e)

pub begins : (groups nodes : ℕ) → Delivers groups nodes [] (first ∷ [])
begins groups nodes = record {
  feeders = 0;
  reader = 0;
  seat = λ k. 0;
  sent = λ k. [];
  got = [];
  few = omega arith;
  none = λ k past. refl;
  may = λ k. may_none groups nodes;
  each = λ k. refl;
  hands = each_set (λ pass v. Feeds 0 (λ k. 0) (λ k. []) pass v × TakesAll 0 0 [] pass v) (first ∷ []) 0 first ((λ p. absurd (true≢false (sym p))), λ p. (refl, refl, refl))
      (λ j u other e. absurd (other (at_end [] first u j (λ x. some-ne-none u (sym x)) e)));
}

pub sends : (groups nodes n pass : ℕ) (v : Hand) (x : Item) → v.feeds ≡ true → x.feeder ≡ v.feeder → x.number ≡ length v.sent → Fits groups nodes x.what → batches (v.sent ++ x.what ∷ []) < 2 ^ 61
    → Pushes (Delivers groups nodes) n pass v x (λ w. w ≡ with_sent v x.what)
sends groups nodes n pass v x may feeder number fits few items views room h at =
    let mine = h.hands pass v at in
    let feeds = mine.0 may in
    let k = v.feeder in
    let more = v.sent ++ x.what ∷ [] in
    let sent : ℕ → List What = put_at k more h.sent in
    let w : Hand = with_sent v x.what in (
      w,
      record {
        feeders = h.feeders;
        reader = h.reader;
        seat = h.seat;
        sent = sent;
        got = h.got;
        few = h.few;
        none = λ j past. put_else k more h.sent j (λ same. omega (arith, past, same, feeds.1)) ∙ h.none j past;
        may = put_each (λ j ws. MaySend groups nodes ws) k more h.sent (may_more groups nodes v.sent x.what (subst (MaySend groups nodes) (sym feeds.2) (h.may k)) fits few) (λ j other. h.may j);
        each = put_each (λ j ws. only j (h.got ++ (items ++ x ∷ [])) ≡ numbered j 0 ws) k more h.sent
            (each_here k v.sent h.got items x feeder number (h.each k ∙ ap (numbered k 0) (sym feeds.2)))
            (λ j other. each_else j (h.sent j) h.got items x (λ same. other (sym same ∙ feeder)) (h.each j));
        hands = each_set (λ p u. Feeds h.feeders h.seat sent p u × TakesAll h.feeders h.reader h.got p u) views pass w
            ((λ p. (feeds.0, feeds.1, sym (put_here k more h.sent k refl))), mine.1)
            (λ j u other e. (
              (λ p.
                  let theirs = (h.hands j u e).0 p in
                  (theirs.0, theirs.1, theirs.2 ∙ sym (put_else k more h.sent u.feeder (λ same. other (theirs.0 ∙ ap h.seat same ∙ sym feeds.0))))),
              (h.hands j u e).1,
            ));
      },
      refl,
    )

pub takes : (groups nodes pass : ℕ) (v : Hand) → v.takes ≡ true → Pops (Delivers groups nodes) pass v (λ x w. Took groups nodes v x w)
takes groups nodes pass v may x items views h at =
    let mine = h.hands pass v at in
    let all = mine.1 may in
    let got = h.got ++ x ∷ [] in
    let w : Hand = with_got v x in
    let each : (k : ℕ) → only k (got ++ items) ≡ numbered k 0 (h.sent k) = λ k. ap (only k) (append_assoc h.got (x ∷ []) items) ∙ h.each k in (
      w,
      record {
        feeders = h.feeders;
        reader = h.reader;
        seat = h.seat;
        sent = h.sent;
        got = got;
        few = h.few;
        none = h.none;
        may = h.may;
        each = each;
        hands = each_set (λ p u. Feeds h.feeders h.seat h.sent p u × TakesAll h.feeders h.reader got p u) views pass w
            (mine.0, λ p. (all.0, all.1, ap (λ l. l ++ x ∷ []) all.2))
            (λ j u other e. ((h.hands j u e).0, λ p. absurd (other (((h.hands j u e).1 p).0 ∙ sym all.0))));
      },
      (
        refl,
        subst (λ (y : ℕ × List Item). AreTaken groups nodes y.0 y.1) (λ i. (sym all.1 i, sym (ap (λ l. l ++ x ∷ []) all.2) i)) (taken_of groups nodes h.feeders h.sent got items h.few h.none h.may each),
      ),
    )

pub forks : (groups nodes pass : ℕ) (v : Hand) → v.takes ≡ true → v.feeders < 4 → Forks (Delivers groups nodes) pass v (with_feeder v) (new_feeder v)
forks groups nodes pass v may few items views h at =
    let mine = h.hands pass v at in
    let all = mine.1 may in
    let left : Hand = with_feeder v in
    let right : Hand = new_feeder v in
    let vs : List Hand = set views pass left in
    let n = h.feeders in
    let seat : ℕ → ℕ = put_at n (length vs) h.seat in
    let F : ℕ → Hand → Type 0 = λ p u. Feeds (n + 1) seat h.sent p u × TakesAll (n + 1) h.reader h.got p u in
    let Old : ℕ → Hand → Type 0 = λ p u. F p u × (u.feeds ≡ true → u.feeder < n) in
    let old : Each Old vs = each_set Old views pass left (((λ p. absurd (true≢false (sym p))), λ p. (all.0, ap (λ m. m + 1) all.1, all.2)), λ p. absurd (true≢false (sym p)))
    (λ j u other e. let theirs = h.hands j u e in (
      (
        (λ p.
            let f = theirs.0 p in
            (f.0 ∙ sym (put_else n (length vs) h.seat u.feeder (λ same. omega (arith, same, f.1))), omega (arith, f.1), f.2)),
        λ p. absurd (other ((theirs.1 p).0 ∙ sym all.0)),
      ),
      λ p. (theirs.0 p).1,
    )) in
    record {
      feeders = n + 1;
      reader = h.reader;
      seat = seat;
      sent = h.sent;
      got = h.got;
      few = omega (arith, few, all.1);
      none = λ j past. h.none j (omega (arith, past));
      may = h.may;
      each = h.each;
      hands = λ j u e. ⊎_elim (λ x. (old j u x).0)
          (λ (is : right ≡ u). (
            (λ p.
                let k : u.feeder ≡ n = ap (λ (y : Hand). y.feeder) (sym is) ∙ all.1 in (
                  at_end vs right u j (λ x. omega (arith, (old j u x).1 p, k)) e ∙ sym (put_here n (length vs) h.seat u.feeder k),
                  omega (arith, k),
                  ap (λ (y : Hand). y.sent) (sym is) ∙ sym (h.none u.feeder (omega (arith, k))),
                )),
            λ p. absurd (true≢false (sym (ap (λ (y : Hand). y.takes) is ∙ p))),
          ))
          (at_snoc vs right u j e);
    }

pub merges : (groups nodes pass : ℕ) (v : Hand) (other : ℕ) (u : Hand) → v.takes ≡ true → u.feeds ≡ true → Merges (Delivers groups nodes) pass v other u (came_back v u) spent
merges groups nodes pass v other u a b items views h at two at' =
    let both : Hand = came_back v u in
    let mine = h.hands pass v at in
    let all = mine.1 a in
    let vs : List Hand = set views pass both in
    let was : get_elem? views other ≡ some u = ⊎_elim (λ x. absurd (two x.0)) (λ x. x.1) (at_set views pass other both u at') in
    let theirs = (h.hands other u was).0 b in
    let k = u.feeder in
    let seat : ℕ → ℕ = put_at k pass h.seat in
    let F : ℕ → Hand → Type 0 = λ p y. Feeds h.feeders seat h.sent p y × TakesAll h.feeders h.reader h.got p y in
    let Now : ℕ → Hand → Type 0 = λ p y. p ≢ other → F p y in
    let now : Each Now vs = each_set Now views pass both (λ _. ((λ p. (sym (put_here k pass h.seat k refl), theirs.1, theirs.2)), mine.1))
    (λ j y _ e apart. let is = h.hands j y e in (
      (λ p.
          let f = is.0 p in
          (f.0 ∙ sym (put_else k pass h.seat y.feeder (λ same. apart (f.0 ∙ ap h.seat same ∙ sym theirs.0))), f.1, f.2)),
      is.1,
    )) in
    record {
      feeders = h.feeders;
      reader = h.reader;
      seat = seat;
      sent = h.sent;
      got = h.got;
      few = h.few;
      none = h.none;
      may = h.may;
      each = h.each;
      hands = each_set F vs other spent ((λ p. absurd (true≢false (sym p))), λ p. absurd (true≢false (sym p))) (λ j y apart e. now j y e apart);
    }

pub compares : (groups nodes pass : ℕ) (v : Hand) → v.takes ≡ true → v.feeds ≡ true → Learns (Delivers groups nodes) pass v (Accounts v)
compares groups nodes pass v a b items views h at =
    let mine = h.hands pass v at in
    let feeds = mine.0 b in
    let all = mine.1 a in
    feeds.2 ∙ (accounts_of v.feeder (h.sent v.feeder) h.got items (h.each v.feeder) ∙ ap (λ l. sent_by v.feeder l ++ sent_by v.feeder items) (sym all.2))

-- what was popped fits
pub took_fits : (P : Type 0) (groups nodes feeders : ℕ) (v w : Hand) (r : Option Item) → v.feeders ≡ feeders → MatchOption r P (λ x. Took groups nodes v x w) → IfSome r (λ x. Fits groups nodes x.what × (x.feeder < feeders))
took_fits P groups nodes feeders v w None is h = tt
took_fits P groups nodes feeders v w (Some x) is h = last_fits groups nodes feeders v.got x (subst (λ n. AreTaken groups nodes n (v.got ++ x ∷ [])) is h.1)
