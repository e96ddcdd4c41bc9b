use Rattle.std.proofs.Common.{◌≡◌, None, refl, sym, subst, subst₂, find}
use Rattle.indexmap.proofs.MapLemmas.{OnOk-map}
use Rattle.paje_lines.specs.Found.{has_alias, rooted}
use Rattle.paje_model.specs.EntityTable.{entities_in}
use Rattle.paje_model.specs.TypeTable.{TakesType}
use Rattle.paje_model.proofs.known.Known.add_type.Goals as goal

pub add-requires-clause-new : goal.add-requires-clause-new
add-requires-clause-new c = subst (λ alias. find (has_alias (rooted alias))
    (entities_in c.args.self.now.types.entities) ≡ None) (sym
    (c.alias_of-alias.ensures c.args.n)) c.requires.new

pub returns : goal.returns
returns c = OnOk-map c.add.result _ _ (λ takes. record {
  types = subst₂ (λ alias name. TakesType c.args.self.now.types c.add.new.self
      (record { alias = rooted alias; name = name; line = c.args.n }) c.args.sort)
      (c.alias_of-alias.ensures c.args.n) (c.text_of.ensures c.args.n) takes;
  values = c.in_ok-add_kind.ensures.values;
  named = c.in_ok-add_kind.ensures.named;
  count = c.in_ok-add_kind.ensures.count;
  containers = refl;
  functions = refl;
  tracks = refl;
  links = refl;
  states = refl;
}) c.add.ensures
