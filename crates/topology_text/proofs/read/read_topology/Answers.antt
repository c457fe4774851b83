use Rattle.std.proofs.Common.{◌≡◌, List, map, sym, ap, ◌∙◌}
use Rattle.toml.specs.View.{table_view}
use Rattle.topology_text.specs.Code.{entries, visit}
use Rattle.topology_text.specs.Faults.{document}
use Rattle.topology_text.specs.Prefixes.{all_prefixes}
use Rattle.topology_text.specs.declared.prefixes.PrefixAt.{PrefixAt}
use Rattle.topology_text.proofs.Documents.{IsRead, reads_err, reads_ok, reads_prefixes, reads_sound}
use Rattle.topology_text.proofs.read.read_topology.Goals.{After-check}
use Rattle.topology_text.proofs.read.read_topology.Goals as goal

known : (c : After-check) (prefixes : List PrefixAt) → prefixes ≡ c.in_ok-prefixes.prefixes.items
    → IsRead (entries c.in_ok-index.index) c.as_slice-4.result.now c.in_ok-tables.tables.items prefixes c.in_ok-prefixes.prefixes.items (table_view c.in_ok-table.table) (document c.args.bytes.now)
known c prefixes is = record {
  index = c.in_ok-index.ensures;
  slice = c.as_slice-4.ensures.value;
  walked = c.in_ok-tables.ensures;
  prefix_slice = is;
  prefixed = c.in_ok-prefixes.ensures ∙ ap (λ ts. all_prefixes (map visit ts)) c.as_slice.ensures.value;
  table = c.in_ok-table.ensures.ok;
}

pub topology-requires-clause-sound : goal.topology-requires-clause-sound
topology-requires-clause-sound c =
    reads_sound _ _ _ _ _ _ _ c.in_default.field-0 (known (goal.at.topology-requires-clause-sound c).After-check c.as_slice-6.result.now c.as_slice-6.ensures.value) (sym c.in_default.is ∙ c.check.ensures)

pub topology-requires-clause-prefixes : goal.topology-requires-clause-prefixes
topology-requires-clause-prefixes c =
    reads_prefixes _ _ _ _ _ _ _ c.in_default.field-0 (known (goal.at.topology-requires-clause-prefixes c).After-check c.as_slice-6.result.now c.as_slice-6.ensures.value) (sym c.in_default.is ∙ c.check.ensures)

pub returns : goal.returns
returns c =
    reads_ok _ _ _ _ _ _ _ c.in_default.field-0 c.in_ok-topology.field-0 (known (goal.at.returns c).After-check c.as_slice-6.result.now c.as_slice-6.ensures.value) (sym c.in_default.is ∙ c.check.ensures) c.in_ok-topology.ensures

pub returns-in-Err : goal.returns-in-Err
returns-in-Err c = λ _. reads_err _ _ _ _ _ _ _ c.in-Err.fault (known (goal.at.returns-in-Err c).After-check c.as_slice-5.result.now c.as_slice-5.ensures.value) (sym c.in-Err.is ∙ c.check.ensures)
