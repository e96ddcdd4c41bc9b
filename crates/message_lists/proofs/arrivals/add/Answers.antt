use Rattle.std.proofs.Common.{[], ◌∷◌, ◌++◌, ap, ◌∙◌, Vec, Global}
use Rattle.message_lists.specs.declared.arrivals.Arrival.{Arrival}
use Rattle.message_lists.specs.declared.link_key.LinkKey.{LinkKey}
use Rattle.message_lists.proofs.Tables.{arrivals_at-added}
use Rattle.message_lists.proofs.arrivals.add.Goals as goal

pub returns : goal.returns
returns c = λ kind key.
    let q : LinkKey = record { kind = kind; key = record { ref_ptr = (0, 0); now = key } } in
    arrivals_at-added c.args.arrivals.now c.remove.new.self c.insert.new.self kind key c.args.at
    c.args.arrival c.push.new.self c.new.result c.remove.result (c.in_ok-insert.ensures.updates.0 q)
    (c.remove.ensures.updates.0 q) c.remove.ensures.value
    (c.in_ok-push.ensures.items ∙ ap (λ (v : Vec Arrival Global). v.items ++ c.args.arrival ∷ [])
    c.unwrap_or-list.ensures) c.new.ensures.items
