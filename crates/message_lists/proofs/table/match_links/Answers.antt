use Rattle.std.proofs.Common.{◌≡◌, ℕ, ◌-◌, ◌*◌, ap, ◌∙◌, arith, rules, length}
use Rattle.list_lemmas.proofs.Sorting.{stable_sort_by_key_is}
use Rattle.trace_base.specs.Messages.{table_of, in_table_order, messages_started}
use Rattle.trace_base.specs.declared.messages.Message.{Message}
use Rattle.message_lists.proofs.TableOrder.{triple_cmp, triple_cmp-total}
use Rattle.message_lists.proofs.table.match_links.Goals as goal

pub returns : goal.returns
unfolding table_of in_table_order
returns c =
    let key : Message → ℕ × ℕ × ℕ = λ m. (m.from, m.to, m.send) in
    let messages : c.from_vec.result ≡ in_table_order (messages_started c.args.links.now) =
    c.from_vec.ensures
    ∙ stable_sort_by_key_is key triple_cmp triple_cmp-total c.in_ok-messages.messages.items
    c.sort_by_key.new.self.items c.in_ok-sort_by_key.ensures.sorted c.in_ok-sort_by_key.ensures.stable
    (λ a r q k. search rules)
    ∙ ap in_table_order c.in_ok-messages.ensures in
    let unmatched : c.saturating_sub-unmatched.result ≡ length c.args.links.now - 2 * length
    (messages_started c.args.links.now) =
    omega (arith, c.saturating_sub-unmatched.ensures, ap length c.in_ok-messages.ensures) in
    cc
