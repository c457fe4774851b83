use Rattle.std.proofs.Common.{◌-◌, [], sym, ap, subst, ◌∙◌, append-nil}
use Rattle.std.proofs.lemmas.List.Elements.{All-drop}
use Rattle.map_model.specs.declared.lines.MapLine.{MapLine}
use Rattle.map_model.specs.Allocation.{IsOffer}
use Rattle.map_text.specs.Cutting.{AreCuts, place_text}
use Rattle.map_text.specs.Named.{AreOffers}
use Rattle.map_text.proofs.Pieces.{cut_more, octets_written, piece_written}
use Rattle.map_text.proofs.after.places_over.Goals as goal

pub loop-piece-preserved : goal.loop-piece-preserved
loop-piece-preserved c =
    let m = c.args.topology.now.market in
    let row = place_text c.args.topology.now in
    let n = c.lines_below-rows.result in
    let rest = c.loop-piece.rest.now in
    let cut = c.split_at.ensures in
    let written = c.in_ok-push_lines.ensures in
    let octets = octets_written row c.loop-piece.text.items c.push_lines.new.text.items rest c.split_at.result.0.now n c.len-before.result (c.len.result - c.len-before.result) cut.front written (c.len-before.ensures ∙ c.loop-piece.text.ok.0) (ap (λ k. k - c.len-before.result) (c.len.ensures ∙ c.push_lines.new.text.ok.0)) in
    record {
      written = piece_written row c.args.text.now.items c.loop-piece.text.items c.push_lines.new.text.items c.args.lines.now rest c.split_at.result.0.now c.split_at.result.1.now n c.loop-piece.invariant.written cut.front cut.back written;
      offers = subst (AreOffers m) (sym cut.back) (All-drop (λ (x : MapLine). IsOffer m x.group.0 x.place) n rest c.loop-piece.invariant.offers);
      left = (c.cut_off.ensures row c.loop-piece.invariant.left).1;
      cuts = cut_more row c.args.lines.now rest c.split_at.result.1.now c.loop-piece.cuts.items c.push.new.self.items n (c.len.result - c.len-before.result) c.loop-piece.invariant.cuts c.lines_below-rows.ensures octets cut.back c.in_ok-push.ensures.items;
    }

pub returns-clause-cuts : goal.returns-clause-cuts
returns-clause-cuts c = subst (AreCuts (place_text c.args.topology.now) c.args.lines.now) (append-nil c.loop-piece.cuts.items) (c.loop-piece.invariant.cuts [] tt)
