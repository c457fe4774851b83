use Rattle.std.proofs.Common.{[], slice_index_or}
use Rattle.std.proofs.lemmas.List.{get_or_default}
use Rattle.move_up.proofs.Listing.{listed_one}
use Rattle.move_up.proofs.asked.list_offer.Goals as goal

pub returns : goal.returns
returns c = listed_one c.args.lists.now c.args.at (slice_index_or c.args.lists.now c.args.at c.index-lists-at.result) c.push.new.self c.args.offer c.requires (get_or_default c.args.lists.now c.args.at c.index-lists-at.result [] c.requires) c.in_ok-push.ensures
