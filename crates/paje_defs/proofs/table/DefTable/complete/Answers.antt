use Rattle.std.proofs.Common.{rules, ◌≡◌, nat_eq, sym, ◌∙◌, ap}
use Rattle.std.proofs.lemmas.Map.Made.{lookup-map_values}
use Rattle.std.specs.Map.{lookup}
use Rattle.std.specs.Option.{option_copied, option_map}
use Rattle.paje_defs.specs.declared.complete.Complete.{Complete}
use Rattle.paje_defs.specs.declared.definition.Definition.{Definition}
use Rattle.paje_defs.proofs.table.DefTable.complete.Goals as goal

pub returns : goal.returns
returns c =
    let entries = c.args.self.now.complete.entries in
    let definition : Complete → Definition = λ d. d.definition in
    let found : option_copied c.get.result ≡ lookup (λ k. nat_eq c.args.number k) entries = search rules in
    ap (option_map definition) found
    ∙ sym (lookup-map_values definition (λ k. nat_eq c.args.number k) entries)
