use Rattle.map_model.proofs.Shapes.{IsOffer-shape, shape_sym}
use Rattle.evict.proofs.refuser.is_at_limit.Goals as goal

pub units-requires : goal.units-requires
units-requires c = IsOffer-shape c.args.instance.now c.args.held.now.market (shape_sym c.args.held.now.market c.args.instance.now c.requires.shape) c.args.offer.group.0 c.args.offer.place c.requires.offer
