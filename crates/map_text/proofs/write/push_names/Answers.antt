use Rattle.std.proofs.Common.{◌++◌, List, ℕ, take, get_or, ap, sym, ◌∙◌}
use Rattle.std.proofs.lemmas.List.{flat_map_more, take_more}
use Rattle.std.specs.List.{flat_map}
use Rattle.map_model.specs.declared.lines.By.TheVariants.{Limit}
use Rattle.map_model.specs.declared.lines.NameLine.{NameLine}
use Rattle.map_text.specs.Writing.{ended, name_row}
use Rattle.map_text.proofs.write.push_names.Goals as goal

pub push_name-requires-clause-offer : goal.push_name-requires-clause-offer
push_name-requires-clause-offer c = (c.requires.named c.loop-name.name-index (record { group = record { 0 = 0 }; place = 0; by = Limit }) c.loop-name-test.true).offer

pub push_name-requires-clause-by : goal.push_name-requires-clause-by
push_name-requires-clause-by c = (c.requires.named c.loop-name.name-index (record { group = record { 0 = 0 }; place = 0; by = Limit }) c.loop-name-test.true).by

pub loop-name-preserved : goal.loop-name-preserved
loop-name-preserved c =
    let i = c.loop-name.name-index in
    let names = c.args.names.now in
    let x = get_or names i (record { group = record { 0 = 0 }; place = 0; by = Limit }) in
    let row = λ (y : NameLine). ended (name_row c.args.topology.now y) in
    record {
      written =
          c.in_ok-push_name.ensures.text
          ∙ ap (λ (ys : List ℕ). ys ++ row x) c.loop-name.invariant.written
          ∙ flat_map_more row c.args.text.now.items (take i names) x
          ∙ ap (λ (ls : List NameLine). c.args.text.now.items ++ flat_map row ls) (sym (take_more names i (record { group = record { 0 = 0 }; place = 0; by = Limit }) c.loop-name-test.true));
      own = c.in_ok-push_name.ensures.own;
    }
