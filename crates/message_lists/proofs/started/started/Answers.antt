use Rattle.std.proofs.Common.{◌≡◌, ◌+◌, List, [], ◌++◌, Option, ap, sym, ◌∙◌, append-nil, Vec, Global}
use Rattle.std.specs.List.{filter_map, range_with_len, cons_option}
use Rattle.list_lemmas.proofs.Ranges.{filter_map-range_more}
use Rattle.trace_base.specs.Messages.{message_at}
use Rattle.trace_base.specs.declared.messages.Message.{Message}
use Rattle.message_lists.specs.Arrivals.{arrivals_at}
use Rattle.message_lists.proofs.Starts.{message_at-next, count_by-next}
use Rattle.message_lists.proofs.started.started.Goals as goal
use Rattle.message_lists.proofs.started.started.Goals.{in-Some+in_ok-push, in_default}

pub loop-link-preserved : goal.loop-link-preserved
loop-link-preserved c =
    let l = c.link-item.result in
    let next : c.in_ok-message.field-0 ≡ message_at c.args.links.now c.loop-link.link-index =
    message_at-next c.args.links.now c.loop-link.link-index l
    (arrivals_at c.in_ok-arrivals.arrivals l.kind l.key) _ c.in_ok-message.field-0 c.loop-link-test.true
    c.link-item.is (c.in_ok-arrivals.ensures l.kind l.key) (c.loop-link.invariant.0 l.kind l.key)
    c.in_ok-message.ensures.message in
    let more : (messages : List Message) → messages ≡ c.loop-link.messages.items
    ++ cons_option c.in_ok-message.field-0 [] → messages ≡ filter_map (message_at c.args.links.now)
    (range_with_len 0 (c.loop-link.link-index + 1)) =
    λ (messages : List Message) (h : messages ≡ c.loop-link.messages.items
    ++ cons_option c.in_ok-message.field-0 []).
    h ∙ ap (λ (xs : List Message). xs ++ cons_option c.in_ok-message.field-0 []) c.loop-link.invariant.1
    ∙ ap (λ (o : Option Message). filter_map (message_at c.args.links.now)
    (range_with_len 0 c.loop-link.link-index) ++ cons_option o []) next
    ∙ sym (filter_map-range_more (message_at c.args.links.now) c.loop-link.link-index) in (
      λ kind key. count_by-next c.args.links.now c.loop-link.link-index l kind key _ _ c.loop-link-test.true
          c.link-item.is (c.loop-link.invariant.0 kind key) (c.in_ok-message.ensures.counted kind key),
      elim c.match-branch-3.branch [
        | in-Some+in_ok-push w ↦ more c.match-branch-3.messages.items
            (ap (λ (v : Vec Message Global). v.items) w.messages-is ∙ w.in_ok-push.ensures.items ∙ ap
            (λ (o : Option Message). c.loop-link.messages.items ++ cons_option o []) (sym w.in-Some.is))
        | in_default w ↦ more c.match-branch-3.messages.items
            (ap (λ (v : Vec Message Global). v.items) w.messages-is ∙ sym
            (append-nil c.loop-link.messages.items) ∙ ap (λ (o : Option Message). c.loop-link.messages.items
            ++ cons_option o []) (sym w.in_default.is))
      ],
    )
