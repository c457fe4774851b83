use Rattle.std.proofs.Common.{◌∙◌, ap, sym, option_map}
use Rattle.std.specs.Str.{bytes_eq}
use Rattle.topology_text.specs.Plan.{Plan, number_in}
use Rattle.topology_text.proofs.Named.{position-map}
use Rattle.topology_text.proofs.topology.Topology.group_named.Goals as goal

pub returns-in_err-number-clause-number : goal.returns-in_err-number-clause-number
returns-in_err-number-clause-number c =
    ap (option_map (λ g. g.0)) c.from_residual.ensures
    ∙ sym c.in_err-number.was ∙ c.get_index_of.ensures.index
    ∙ sym (position-map (λ v. v.items) (bytes_eq c.args.name.now) c.self.inside.group_names.keys)
    ∙ ap (λ (p : Plan). number_in p.group_names c.args.name.now) c.self.view_is

pub returns-clause-number : goal.returns-clause-number
returns-clause-number c =
    sym c.in_ok-number.was ∙ c.get_index_of.ensures.index
    ∙ sym (position-map (λ v. v.items) (bytes_eq c.args.name.now) c.self.inside.group_names.keys)
    ∙ ap (λ (p : Plan). number_in p.group_names c.args.name.now) c.self.view_is
