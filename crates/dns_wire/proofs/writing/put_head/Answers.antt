use Rattle.std.proofs.Common.{rules, ◌≡◌, ◌∙◌, ◌++◌, ◌∷◌, ◌/◌, ◌%◌, List, [], ℕ, ap, slice_index_or, sym}
use Rattle.std.specs.List.{flat_map}
use Rattle.dns_wire.specs.Spelling.{u16}
use Rattle.dns_wire.proofs.Four.{four}
use Rattle.dns_wire.proofs.writing.put_head.Goals as goal

pub returns : goal.returns
returns c =
    let counts = c.args.counts.now in
    let by_place : c.put.new.out.items ≡ c.args.out.now.items ++ c.args.id / 256 % 256 ∷ c.args.id % 256 ∷ c.args.flags ∷ c.args.rcode ∷ flat_map u16 (slice_index_or counts 0 0 ∷ slice_index_or counts 1 0 ∷ slice_index_or counts 2 0 ∷ slice_index_or counts 3 0 ∷ []) = search rules in
    by_place ∙ ap (λ (l : List ℕ). c.args.out.now.items ++ c.args.id / 256 % 256 ∷ c.args.id % 256 ∷ c.args.flags ∷ c.args.rcode ∷ flat_map u16 l) (sym (four counts 0 c.requires.four))
