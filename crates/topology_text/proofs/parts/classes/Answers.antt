use Rattle.std.proofs.Common.{◌≡◌, ◌+◌, ◌<◌, ◌≤◌, All, AllPairs, ap, arith, length, subst, sym, ◌∙◌}
use Rattle.std.proofs.lemmas.List.{length-append, length-map}
use Rattle.std.proofs.Common.{get_or}
use Rattle.toml.specs.View.{view}
use Rattle.topology_text.specs.Code.{entries}
use Rattle.topology_text.specs.Names.{Entries, names_in, units_of, zone_items}
use Rattle.topology_text.specs.Plan.{AreClasses}
use Rattle.topology_text.specs.Topology.{IsSound, classes_of}
use Rattle.topology_text.specs.declared.schema.Key.TheVariants.{Services}
use Rattle.topology_text.proofs.SoundClasses.{classes_good, pair_fits}
use Rattle.topology_text.proofs.parts.classes.Goals as goal

groups_few : (d : Entries) → IsSound d → length d.groups ≤ 65536
groups_few d s = let few = s.few_groups in omega (arith, few, length-append d.groups d.classes)

pub pairs-requires : goal.pairs-requires
pairs-requires c =
    let d = entries c.args.index.now in
    λ k e h. pair_fits d (get_or d.classes k e) (groups_few d c.requires) c.requires.zone.whole.few_services

pub new-requires-clause-few : goal.new-requires-clause-few
new-requires-clause-few c =
    let d = entries c.args.index.now in
    let good : AreClasses (classes_of d) (length (units_of d)) (length (names_in Services (zone_items d.zone Services))) = classes_good d c.requires.classes in
    let whole : length d.groups + length (classes_of d).pairs ≡ length (units_of d) = good.whole in
    let pairs : length c.in_ok-pairs.pairs.items ≡ length (classes_of d).pairs = ap length c.in_ok-pairs.ensures in
    let groups : length c.groups.result.now ≡ length d.groups = ap length c.groups.ensures ∙ sym (length-map c.args.index.now.groups.now view) in
    let few = c.requires.few_groups in
    omega (arith, whole, pairs, groups, few)

pub new-requires-clause-owned : goal.new-requires-clause-owned
new-requires-clause-owned c =
    let d = entries c.args.index.now in
    let good : AreClasses (classes_of d) (length (units_of d)) (length (names_in Services (zone_items d.zone Services))) = classes_good d c.requires.classes in
    let groups : length d.groups ≡ length c.groups.result.now = sym (ap length c.groups.ensures ∙ sym (length-map c.args.index.now.groups.now view)) in
    subst (λ n. All (λ e. e.0.0 < n) c.in_ok-pairs.pairs.items) groups (subst (λ ps. All (λ e. e.0.0 < length d.groups) ps) (sym c.in_ok-pairs.ensures) good.owned)

pub new-requires-clause-served : goal.new-requires-clause-served
new-requires-clause-served c =
    let d = entries c.args.index.now in
    let good : AreClasses (classes_of d) (length (units_of d)) (length (names_in Services (zone_items d.zone Services))) = classes_good d c.requires.classes in
    let few : length (names_in Services (zone_items d.zone Services)) ≤ 64 = c.requires.zone.whole.few_services in
    subst (λ ps. All (λ e. e.1 < 64) ps) (sym c.in_ok-pairs.ensures) (λ k e h. let low = good.served k e h in omega (arith, low, few))

pub new-requires-clause-once : goal.new-requires-clause-once
new-requires-clause-once c =
    let d = entries c.args.index.now in
    let good : AreClasses (classes_of d) (length (units_of d)) (length (names_in Services (zone_items d.zone Services))) = classes_good d c.requires.classes in
    subst (λ ps. AllPairs (λ a b. a.0.0 ≡ b.0.0 → a.1 ≡ b.1 → ⊥) ps) (sym c.in_ok-pairs.ensures) good.once
