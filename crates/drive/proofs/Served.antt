-- Lanes that were served and closed beside a mapper's run are done, over its history.
use Rattle.std.proofs.Common.{◌≡◌, ◌∙◌, ◌++◌, ℕ, List, [], ◌∷◌, IfSome, length, vec_len, refl, sym, ap}
use mathlib.Core.List.{IsPrefix}
use Rattle.published_map.specs.Version.{Version}
use Rattle.map_cell.specs.Ends.{PublisherState}
use Rattle.drive.specs.All.{HaveServed}
use Rattle.drive.specs.AllDone.{AllHeld, AreServed, IsClosed, IsFresh, IsServed, IsStreamServed}
use Rattle.drive.specs.Done.{LaneTold, StreamLaneTold}
use Rattle.drive.specs.Fed.{IsOfNewest}
use Rattle.drive.specs.declared.beside.Workers.{Workers}
use Rattle.drive.specs.declared.lane.LaneWorker.{LaneWorker}
use Rattle.drive.proofs.Finished.{done_by}
use Rattle.drive.proofs.StreamFinished.{stream_by}
use Rattle.drive.proofs.Holding.{fresh_of}
use Rattle.drive.proofs.Together.{all_done, may_done}

-- from a history of one version on
pub are_served : {J W N : Type 0} {front : N → List Version} (turns : ℕ) (first : Version) (h : List Version) (m : PublisherState) (lanes lanes' : List LaneTold) (stream stream' : StreamLaneTold) (works works' : Workers W (LaneWorker J))
    → h ≡ first ∷ [] → IsPrefix h m.history → AllHeld (IsFresh h turns) 0 works.lanes.items → IfSome works.stream (IsFresh h turns (vec_len works.lanes)) → length lanes ≡ length works.lanes.items
    → HaveServed (λ n. IsOfNewest m (front n)) IsServed (λ n. IsClosed (front n)) IsStreamServed (λ n. IsClosed (front n)) lanes lanes' stream stream' works works'
    → (rest : List Version) × (m.history ≡ first ∷ rest) × AreServed turns first rest lanes lanes' stream stream' works'
are_served turns first h m lanes lanes' stream stream' works works' opened kept fresh listener size s =
    let is : m.history ≡ first ∷ kept.0 = sym kept.1 ∙ ap (λ l. l ++ kept.0) opened in
    let known = s.noted.0 ∙ is in (
      kept.0,
      is,
      (
        all_done _ _ _ _ (λ i a b k v w x fr ran cl. done_by turns first kept.0 i _ _ _ _ _ _ _ _ _ _ _ _ _ _ _ _ _ _ _ ran.0 fr.0 fr.4 known opened fr.2 fr.3 fr.1 refl refl ran.2 ran.1 cl.0 cl.1 cl.2 cl.3 ran.3 cl.4 cl.5 cl.6) 0 _ _ _ _ _ _ (fresh_of _ 0 _ _ size fresh) s.ran s.closed,
        rw s.len
            (may_done (λ w. w.ended) _ _ _ turns first kept.0 _ (λ a b k v w x fr ran cl. stream_by turns first kept.0 _ _ _ _ _ _ _ _ _ _ _ _ _ _ _ _ _ _ _ _ ran.0 fr.0 fr.4 known opened fr.2 fr.3 fr.1 refl refl refl ran.2 ran.1 cl.0 cl.1 cl.2 cl.3 ran.3 cl.4 cl.5 cl.6) _ _ _ _ _ _ listener s.stream_ran s.stream_closed),
      ),
    )
