use Rattle.std.proofs.Common.{ap, sym, ◌∙◌, ◌≡◌, Some, None, get_or}
use Rattle.toml.specs.View.{view}
use Rattle.toml.specs.declared.value.Value.{Value}
use Rattle.topology_text.specs.declared.schema.Key.TheVariants.{Name}
use Rattle.topology_text.specs.Names.{text_at}
use Rattle.topology_text.proofs.Numbers.{number_put, number_skip, text_is, text_none}
use Rattle.topology_text.proofs.names.numbers_of.Goals as goal
use Rattle.topology_text.proofs.names.numbers_of.Goals.{in-Some+in_ok-note_first, in_default}

pub loop-i-preserved : goal.loop-i-preserved
loop-i-preserved c = λ q.
    elim c.match-text_at.branch [
      | in-Some+in_ok-note_first w ↦
          let named : text_at (view (get_or c.args.entries.now c.loop-i.i c.index-entries-i.result)) Name ≡ Some w.in-Some.name.now =
          ap (λ (v : Value). text_at (view v) Name) (sym c.index-entries-i.is) ∙ text_is _ _ _ c.text_at.ensures w.in-Some.is in
          number_put c.args.entries.now c.loop-i.i c.index-entries-i.result q _ _ w.in-Some.name.now c.loop-i-test.true named (c.loop-i.invariant q) (rw w.numbers-is (w.in_ok-note_first.ensures q))
      | in_default w ↦
          let unnamed : text_at (view (get_or c.args.entries.now c.loop-i.i c.index-entries-i.result)) Name ≡ None =
          ap (λ (v : Value). text_at (view v) Name) (sym c.index-entries-i.is) ∙ text_none _ _ c.text_at.ensures w.in_default.is in
          rw w.numbers-is (number_skip c.args.entries.now c.loop-i.i c.index-entries-i.result q _ c.loop-i-test.true unnamed (c.loop-i.invariant q))
    ]
