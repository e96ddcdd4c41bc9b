use Rattle.std.proofs.Common.{◌∙◌, sym, ap, option_copied}
use Rattle.std.specs.Prelude.{unwrap_or}
use Rattle.paje_defs.specs.declared.role.Role.TheVariants as roles
use Rattle.paje_lines.specs.EventLine.{line_of, text_of}
use Rattle.paje_model.proofs.found.alias_of.Goals as goal

pub returns-in-None : goal.returns-in-None
returns-in-None c n = c.text_of.ensures n
    ∙ ap (λ o. unwrap_or o (text_of (line_of n c.args.fields.now) roles.Name))
    (sym (ap option_copied c.in-None.is) ∙ c.text.ensures)
