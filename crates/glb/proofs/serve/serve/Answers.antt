use Rattle.std.proofs.Common.{inl, inr, refl, rules, arith}
use Rattle.glb.specs.Files.{topology_file}
use Rattle.glb.proofs.Named.{fell_same}
use Rattle.glb.proofs.Lanes.{session_causes, unread_causes}
use Rattle.glb.proofs.Plans.{is_plan}
use Rattle.glb.proofs.Reading.{faulty_here, said_here}
use Rattle.glb.proofs.Reports.{read_whole, stopped_end, stopped_load, stopped_run}
use Rattle.glb.proofs.Sessions.{session_later}
use Rattle.glb.proofs.Tasks.{promised}
use Rattle.glb.proofs.serve.serve.Goals as goal

pub returns-in-Ok-clause-promised : goal.returns-in-Ok-clause-promised
returns-in-Ok-clause-promised g c =
    let later = session_later _ _ _ _ _ _ c.serve_topology.ensures.session in
    let says = said_here topology_file _ _ _ c.in-Ok.topology c.in-Ok.ensures.said in
    promised _ _ _ _ _ (inr (c.in-Ok.topology, is_plan _ _ _ says, says, c.serve_topology.ensures.session)) (search rules) (search rules)
    (record {
      files_later = c.load_topology.ensures.later;
      feed_later = later.feed;
      more_later = later.more;
      out_later = later.out;
      maps_later = later.maps;
      source = λ h. inr (later.source h);
      sink = later.sink;
      files_stay = λ none. c.load_topology.ensures.stays (λ e. read_whole _ _ c.in-Ok.is e);
      feed_stays = later.feed_stays;
      out_stays = later.out_stays;
      maps_stay = later.maps_stay;
      lanes = session_causes _ _ _ _ _ _ c.requires.workers.0 c.serve_topology.ensures.session;
    })

pub returns-in-Err-clause-promised : goal.returns-in-Err-clause-promised
returns-in-Err-clause-promised g c = promised _ _ _ _ _
    (inl (record { run = stopped_run _ _ _ _ _ (faulty_here topology_file _ _ _ c.in-Err.stop c.in-Err.ensures.said) c.finish.ensures.run; rest = refl }))
    (search rules)
    (search rules)
    (record {
      files_later = c.load_topology.ensures.later;
      feed_later = omega arith;
      more_later = fell_same _;
      out_later = c.finish.ensures.later;
      maps_later = omega arith;
      source = λ h. inl (c.load_topology.ensures.cause (stopped_load c.in-Err.stop c.load_topology.result _ c.in-Err.is refl (c.finish.ensures.source.0 h)));
      sink = λ h. inl (c.finish.ensures.cause h);
      files_stay = λ none. c.load_topology.ensures.stays (λ e. none (c.finish.ensures.source.1 (stopped_end c.in-Err.stop c.load_topology.result _ c.in-Err.is refl e)));
      feed_stays = λ none one. (refl, refl);
      out_stays = c.finish.ensures.stays;
      maps_stay = λ none. refl;
      lanes = unread_causes topology_file _ _ _ _ _ _ _ _ _ (stopped_run _ _ _ _ _ (faulty_here topology_file _ _ _ c.in-Err.stop c.in-Err.ensures.said) c.finish.ensures.run);
    })
