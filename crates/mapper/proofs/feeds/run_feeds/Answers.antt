use Rattle.std.proofs.Common.{◌∷◌, [], inl, inr, refl, sym, subst, ◌∙◌}
use Rattle.outside.specs.Pace.{IsPaced}
use Rattle.outside.specs.declared.pace.PaceCall.TheVariants.{Done}
use Rattle.mapper.proofs.Several.{cut_more, merged_of}
use Rattle.mapper.proofs.feeds.run_feeds.Goals as goal

pub returns-in-Done-clause-run : goal.returns-in-Done-clause-run
returns-in-Done-clause-run g c = let w = c.work_all.ensures in let e = c.in-Done.ensures in record {
  calls = (g.M.Pace.told c.work_all.new.desk.to.pace.now).past;
  ended = inl (c.first.ensures c.work_all.new.taker.taken w.noted, (e.done refl).0);
  all = sym w.noted.count ∙ (e.done refl).1 ∙ w.queue.1;
  told = subst (λ n. IsPaced (Done n ∷ []) (g.M.Pace.told c.work_all.new.desk.to.pace.now).past (g.M.Pace.told c.done.new.self).past) c.serial-newest.ensures.serial c.done.ensures.paced;
}

pub returns-in-Failed-clause-run : goal.returns-in-Failed-clause-run
returns-in-Failed-clause-run g c = let w = c.work_all.ensures in let d = c.drain.ensures in let e = c.in-Failed.ensures in record {
  calls = (g.M.Pace.told c.work_all.new.desk.to.pace.now).past;
  ended = inr (refl, cut_more c.work_all.new.taker.taken d.rest.0 _ _ _ d.rest.1 (e.failed refl).0);
  all = sym d.noted.count ∙ d.count ∙ d.queue.1 ∙ w.queue.1;
  told = subst (λ n. IsPaced (Done n ∷ []) (g.M.Pace.told c.work_all.new.desk.to.pace.now).past (g.M.Pace.told c.done-in-Failed.new.self).past) c.serial-newest-in-Failed.ensures.serial c.done-in-Failed.ensures.paced;
}

pub returns-in-Done-clause-merged : goal.returns-in-Done-clause-merged
returns-in-Done-clause-merged g c = λ whole. merged_of c.work_all.new.taker.taken _ _ _ (c.in-Done.ensures.done refl).0 refl refl

pub returns-in-Done-clause-whole : goal.returns-in-Done-clause-whole
returns-in-Done-clause-whole g c = λ whole. (c.in-Done.ensures.done refl).2
