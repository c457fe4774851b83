use Rattle.std.proofs.Common.{◌-◌, [], sym, ap, subst, ◌∙◌, append-nil}
use Rattle.std.proofs.lemmas.List.Elements.{All-drop}
use Rattle.map_text.specs.Cutting.{AreCuts, name_text}
use Rattle.map_text.specs.Named.{AreNamed, IsNamed}
use Rattle.map_text.proofs.Pieces.{cut_more, octets_written, piece_written}
use Rattle.map_text.proofs.after.names_over.Goals as goal

pub loop-piece-preserved : goal.loop-piece-preserved
loop-piece-preserved c =
    let m = c.args.topology.now.market in
    let row = name_text c.args.topology.now in
    let n = c.names_below-rows.result in
    let rest = c.loop-piece.rest.now in
    let cut = c.split_at.ensures in
    let written = c.in_ok-push_named.ensures in
    let octets = octets_written row c.loop-piece.text.items c.push_named.new.text.items rest c.split_at.result.0.now n c.len-before.result (c.len.result - c.len-before.result) cut.front written (c.len-before.ensures ∙ c.loop-piece.text.ok.0) (ap (λ k. k - c.len-before.result) (c.len.ensures ∙ c.push_named.new.text.ok.0)) in
    record {
      written = piece_written row c.args.text.now.items c.loop-piece.text.items c.push_named.new.text.items c.args.names.now rest c.split_at.result.0.now c.split_at.result.1.now n c.loop-piece.invariant.written cut.front cut.back written;
      named = subst (AreNamed m) (sym cut.back) (All-drop (IsNamed m) n rest c.loop-piece.invariant.named);
      left = (c.cut_off.ensures row c.loop-piece.invariant.left).1;
      cuts = cut_more row c.args.names.now rest c.split_at.result.1.now c.loop-piece.cuts.items c.push.new.self.items n (c.len.result - c.len-before.result) c.loop-piece.invariant.cuts c.names_below-rows.ensures octets cut.back c.in_ok-push.ensures.items;
    }

pub returns-clause-cuts : goal.returns-clause-cuts
returns-clause-cuts c = subst (AreCuts (name_text c.args.topology.now) c.args.names.now) (append-nil c.loop-piece.cuts.items) (c.loop-piece.invariant.cuts [] tt)
