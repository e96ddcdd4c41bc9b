use Rattle.std.proofs.Common.{◌∙◌, ap}
use Rattle.paje_lines.specs.Types.{type_named}
use Rattle.std.specs.Option.{option_map}
use Rattle.paje_model.proofs.FoundSorts.{sort-found}
use Rattle.paje_model.proofs.known.Known.sort.Goals as goal

pub sort-requires : goal.sort-requires
sort-requires c = c.requires.1.types.named

pub returns : goal.returns
returns c n before known = c.sort.ensures
    ∙ (sort-found before c.args.self.now.types c.text_of.result.now known.types
    ∙ ap (λ text. option_map (λ t. t.sort) (type_named before text)) (c.text_of.ensures n))
