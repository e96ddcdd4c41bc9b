use Rattle.std.proofs.Common.{◌≡◌, ℕ, List, filter, map, take}
use Rattle.message_lists.specs.Arrivals.{arrivals_at, arrival_of, is_end_of}
use Rattle.message_lists.proofs.arrivals.arrivals_of.Given as goal

abbrev pub invariant-loop-link : goal.invariant-loop-link
invariant-loop-link l =
    (kind : ℕ) (key : List ℕ) → arrivals_at l.arrivals kind key ≡ map arrival_of
    (filter (is_end_of kind key) (take l.link-index l.links))
