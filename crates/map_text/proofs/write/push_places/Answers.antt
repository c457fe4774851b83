use Rattle.std.proofs.Common.{◌<◌, ◌^◌, ◌++◌, List, ℕ, take, get_or, below_more, ap, sym, ◌∙◌, arith}
use Rattle.std.proofs.lemmas.List.Elements.{All-from_get_or}
use Rattle.std.proofs.lemmas.List.{flat_map_more, take_more}
use Rattle.std.specs.List.{flat_map}
use Rattle.map_model.specs.declared.lines.MapLine.{MapLine}
use Rattle.map_text.specs.Writing.{ended, place_row}
use Rattle.map_text.proofs.write.push_places.Goals as goal

pub push_place-requires-clause-offer : goal.push_place-requires-clause-offer
push_place-requires-clause-offer c = c.requires.offers c.loop-line.line-index (record { group = record { 0 = 0 }; place = 0; amount = 0 }) c.loop-line-test.true

pub loop-line-preserved : goal.loop-line-preserved
loop-line-preserved c =
    let i = c.loop-line.line-index in
    let lines = c.args.lines.now in
    let x = get_or lines i (record { group = record { 0 = 0 }; place = 0; amount = 0 }) in
    let row = λ (y : MapLine). ended (place_row c.args.topology.now y) in
    record {
      written =
          c.in_ok-push_place.ensures.text
          ∙ ap (λ (ys : List ℕ). ys ++ row x) c.loop-line.invariant.written
          ∙ flat_map_more row c.args.text.now.items (take i lines) x
          ∙ ap (λ (ls : List MapLine). c.args.text.now.items ++ flat_map row ls) (sym (take_more lines i (record { group = record { 0 = 0 }; place = 0; amount = 0 }) c.loop-line-test.true));
      fits = below_more (λ k. (get_or lines k (record { group = record { 0 = 0 }; place = 0; amount = 0 })).amount < 2 ^ 32) i c.loop-line.invariant.fits c.in_ok-push_place.ensures.fits;
      own = c.in_ok-push_place.ensures.own;
    }

pub returns-clause-fits : goal.returns-clause-fits
returns-clause-fits c = All-from_get_or (λ (x : MapLine). x.amount < 2 ^ 32) c.args.lines.now (record { group = record { 0 = 0 }; place = 0; amount = 0 }) (λ k lt. c.loop-line.invariant.fits k (omega arith))
