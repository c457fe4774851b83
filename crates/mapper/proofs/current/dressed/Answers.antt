use Rattle.std.proofs.Common.{refl}
use Rattle.map_model.proofs.NameForm.{IsMapForm-IsGood}
use Rattle.map_model.proofs.Shapes.{IsMapForm-shape, shape_sym}
use Rattle.mapper.specs.Words.{map_text}
use Rattle.mapper.proofs.current.dressed.Goals as goal

pub text_of-requires-clause-form : goal.text_of-requires-clause-form
text_of-requires-clause-form c =
    IsMapForm-shape c.args.instance c.args.topology.now.market (shape_sym c.args.topology.now.market c.args.instance c.requires.shape) c.args.map.lines.items c.args.map.names.items
    (IsMapForm-IsGood c.args.instance c.groups-groups.ensures.market c.args.map.lines.items c.args.map.names.items c.requires.good)

pub returns-clause-current : goal.returns-clause-current
unfolding map_text
returns-clause-current c = λ serial. record {
  version = refl;
  text = c.in_ok-text.ensures.text;
  cuts = c.in_ok-text.ensures.cuts;
  totals = c.totals-totals.ensures _ refl (rw c.requires.lines refl);
}
