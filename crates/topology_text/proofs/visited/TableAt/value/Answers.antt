use Rattle.std.proofs.Common.{◌≡◌, option_map, Some, refl, rules}
use Rattle.std.proofs.Math.Logic.{∥∥₁_elim}
use Rattle.std.proofs.lemmas.Option.{slice_get_read}
use Rattle.std.specs.Coded.{Coded-set, coded_option}
use Rattle.std.specs.List.{slice_get}
use Rattle.toml.proofs.Views.{table_get}
use Rattle.toml.specs.contracts.value.Value.{the_row}
use Rattle.topology_text.specs.Found.{found_at}
use Rattle.topology_text.specs.Schema.{keys_of, key_text}
use Rattle.topology_text.proofs.Placed.{same_place}
use Rattle.topology_text.proofs.visited.TableAt.value.Goals as goal

pub returns-in-Some-Some : goal.returns-in-Some-Some
returns-in-Some-Some c =
    let table = c.args.self.now.table.now in
    let w = c.in-Some-Some in
    let place = c.place-place.result in
    let that_key : w.other.now ≡ c.args.key = search rules in
    let at_key : slice_get (keys_of c.args.self.now.spot) place ≡ Some c.args.key =
    rw (← c.keys.ensures, ← that_key) (slice_get_read c.keys.result.now _ place w.other.now refl w.ensures.lookup.3.0 w.ensures.lookup.1) in
    let at_value : slice_get c.args.self.now.row.items place ≡ Some w.value.now =
    rw (← c.as_slice.ensures.value) (slice_get_read c.as_slice.result.now _ place w.value.now refl w.ensures'.lookup.3.0 w.ensures'.lookup.1) in
    let same : option_map (λ v. v.now) w.value.now ≡ found_at table.entries c.args.key =
    ∥∥₁_elim c.args.self.now.row_is (Coded-set (coded_option the_row.coded) _ _) (λ rows. same_place _ _ _ _ _ _ _ rows at_value at_key) in
    table_get w.value.now (key_text c.args.key) table.entries same
