use Rattle.std.proofs.Common.{◌≡◌, ℕ, List, count_by, take}
use Rattle.std.specs.List.{filter_map, range_with_len}
use Rattle.trace_base.specs.Messages.{message_at}
use Rattle.message_lists.specs.Arrivals.{count_at, is_start_of}
use Rattle.message_lists.proofs.started.started.Given as goal

abbrev pub invariant-loop-link : goal.invariant-loop-link
invariant-loop-link l =
    ((kind : ℕ) (key : List ℕ) → count_at l.counts kind key ≡ count_by (is_start_of kind key)
    (take l.link-index l.links))
    × (l.messages.items ≡ filter_map (message_at l.links) (range_with_len 0 l.link-index))
