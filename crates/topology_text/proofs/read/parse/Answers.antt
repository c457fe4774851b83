use Rattle.std.proofs.Common.{◌∙◌}
use Rattle.std.proofs.lemmas.Bool.{false≢true}
use Rattle.topology_text.proofs.Documents.{document_of_text, document_of_none}
use Rattle.topology_text.proofs.read.parse.Goals as goal

pub returns-in-Err-clause-refused : goal.returns-in-Err-clause-refused
returns-in-Err-clause-refused c = document_of_none c.args.bytes.now c.in-Err.ensures.cases.0

pub returns-in-Ok-table_from_str-clause-ok : goal.returns-in-Ok-table_from_str-clause-ok
returns-in-Ok-table_from_str-clause-ok c =
    document_of_text c.args.bytes.now c.in-Ok.text.now c.in-Ok.ensures.cases.1 c.in-Ok.ensures.cases.0 ∙ c.in-Ok-table_from_str.ensures.ok

pub returns-else-is_memory-clause-refused : goal.returns-else-is_memory-clause-refused
returns-else-is_memory-clause-refused c =
    document_of_text c.args.bytes.now c.in-Ok.text.now c.in-Ok.ensures.cases.1 c.in-Ok.ensures.cases.0
    ∙ c.in-Err-table_from_str.ensures.refused (λ m. false≢true (c.if-is_memory.ensures.1 m))
