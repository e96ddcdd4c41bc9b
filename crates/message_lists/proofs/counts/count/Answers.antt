use Rattle.std.proofs.Common.{ℕ, Option, ap, ◌∙◌, unwrap_or}
use Rattle.message_lists.specs.declared.link_key.LinkKey.{LinkKey}
use Rattle.message_lists.proofs.Tables.{count_at-added}
use Rattle.message_lists.proofs.counts.count.Goals as goal

pub returns-clause-after : goal.returns-clause-after
returns-clause-after c = λ kind key.
    let q : LinkKey = record { kind = kind; key = record { ref_ptr = (0, 0); now = key } } in
    count_at-added c.args.counts.now c.insert.new.self kind key c.args.at c.unwrap_or-before.result
    (c.in_ok-insert.ensures.updates.0 q)
    (c.unwrap_or-before.ensures ∙ ap (λ (o : Option ℕ). unwrap_or o 0)
    (c.copied.ensures ∙ c.get.ensures.value))
