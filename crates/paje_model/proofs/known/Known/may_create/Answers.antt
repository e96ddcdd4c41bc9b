use Rattle.std.proofs.Common.{sym, ◌∙◌}
use Rattle.paje_lines.specs.Found.{rooted}
use Rattle.paje_model.proofs.NewContainers.{by_room}
use Rattle.paje_model.proofs.known.Known.may_create.Goals as goal

pub returns-in-None : goal.returns-in-None
returns-in-None c before known = by_room before c.args.self.now.containers
    (rooted c.args.alias.now) c.len.result
    known.containers (sym c.line.ensures ∙ c.in-None.is) c.len.ensures c.room.result c.room.ensures
