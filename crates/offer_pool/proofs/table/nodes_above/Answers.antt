use Rattle.std.proofs.Common.{sym, ap, ◌∙◌, arith}
use Rattle.map_model.specs.declared.instance.NodeId.{NodeId}
use Rattle.map_model.specs.Market.{path, pool_of}
use Rattle.map_model.proofs.Trees.{under_there}
use Rattle.map_model.proofs.Paths.{pool_there}
use Rattle.offer_pool.proofs.Refiled.{among-path}
use Rattle.offer_pool.proofs.table.nodes_above.Goals as goal

pub path-requires : goal.path-requires
path-requires c = let there = pool_there c.args.lists.now c.requires.market c.args.offer.group.0 c.args.offer.place c.requires.offer in omega (arith, there, ap (λ (p : NodeId). p.0) c.pool_at.ensures)

pub returns-clause-among : goal.returns-clause-among
returns-clause-among c = among-path c.path.result.items c.args.lists.now (pool_of c.args.lists.now c.args.offer.group.0 c.args.offer.place) (c.path.ensures ∙ ap (λ (p : NodeId). path c.args.lists.now p.0) c.pool_at.ensures)

pub returns-clause-there : goal.returns-clause-there
returns-clause-there c = λ n h.
    let m = c.args.lists.now in
    let pool = pool_of m c.args.offer.group.0 c.args.offer.place in
    under_there m c.requires.market n pool (pool_there m c.requires.market c.args.offer.group.0 c.args.offer.place c.requires.offer)
    (sym (among-path c.path.result.items m pool (c.path.ensures ∙ ap (λ (p : NodeId). path m p.0) c.pool_at.ensures) n) ∙ h)
