use Rattle.std.proofs.Common.{rules, ◌≡◌, ◌<◌, ◌≤◌, ◌+◌, ◌-◌, suc, Some, arith, length, slice_get, vec_len}
use Rattle.std.proofs.lemmas.Grind.{common_steps}
use Rattle.std.proofs.lemmas.Option.{slice_get_read}
use Rattle.drive.proofs.Ends.{placed}
use Rattle.drive.proofs.whole.ends_of.Goals as goal

pub loop-k-preserved : goal.loop-k-preserved
loop-k-preserved g c =
    let le : c.loop-k.k + 1 ≤ vec_len c.args.works.now = search rules in
    let lt : c.loop-k.k < vec_len c.args.works.now = search rules in
    let size : vec_len c.args.works.now ≡ length c.args.works.now.items = search rules in
    let room : 16 - c.loop-k.k ≡ suc (16 - (c.loop-k.k + 1)) = grind (arith, common_steps) in
    let next : c.loop-k.k + 1 ≡ suc c.loop-k.k = omega arith in
    let at : slice_get c.args.works.now.items c.loop-k.k ≡ Some c.index.result.now = slice_get_read c.args.works.now.items (vec_len c.args.works.now) c.loop-k.k c.index.result.now size lt c.index.ensures in
    let set = placed (λ h. h.ended) c.args.works.now.items c.loop-k.k (16 - (c.loop-k.k + 1)) c.index.result.now at in (le, cc (c.loop-k.invariant.1, room, next, set))
