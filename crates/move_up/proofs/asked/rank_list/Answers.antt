use Rattle.std.proofs.Common.{[], slice_index_or}
use Rattle.std.proofs.lemmas.List.{get_or_default}
use Rattle.move_up.proofs.Listing.{listing_ranked}
use Rattle.move_up.proofs.asked.rank_list.Goals as goal

pub returns : goal.returns
returns c = listing_ranked c.args.instance.now c.args.lists.now c.args.at (slice_index_or c.args.lists.now c.args.at c.index-lists-at.result) c.rank.new.self c.requires.at (get_or_default c.args.lists.now c.args.at c.index-lists-at.result [] c.requires.at) c.in_ok-rank.ensures c.requires.listed
