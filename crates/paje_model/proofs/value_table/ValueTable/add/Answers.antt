use Rattle.indexmap.proofs.MapLemmas.{OnOk-map}
use Rattle.paje_model.proofs.ValuesKept.{values-more}
use Rattle.paje_model.proofs.value_table.ValueTable.add.Goals as goal

pub returns-clause-values : goal.returns-clause-values
returns-clause-values c = OnOk-map c.add.result _ _ (values-more c.args.self.now.of_kinds.items c.args.kind
    c.index_mut.result.now c.add.new.self (record {
      alias = c.args.alias.now;
      name = c.args.name.now;
      line = c.args.line;
    }) c.requires.kind c.index_mut.ensures.value) c.add.ensures.entities
