-- The messages of the first link events, one link event more.
use Rattle.std.proofs.Common.{◌≡◌, ℕ, ◌+◌, ◌<◌, cond, List, length, take, get_or}
use Rattle.std.proofs.Common.{map, filter, count_by, slice_get, Option, Some, None, option_map}
use Rattle.std.proofs.Common.{option_and_then, refl, ap, sym, ◌∙◌}
use Rattle.std.proofs.lemmas.List.Sums.{length-filter, sum_by_more}
use Rattle.std.proofs.lemmas.Option.{slice_get_read}
use Rattle.std.proofs.lemmas.Option.{slice_get-map}
use Rattle.trace_base.specs.Messages.{message_at, message_from, message_between, starts_like, ends_like}
use Rattle.trace_base.specs.declared.messages.LinkEvent.{LinkEvent}
use Rattle.trace_base.specs.declared.messages.Message.{Message}
use Rattle.message_lists.specs.Arrivals.{arrival_of, is_start_of, is_end_of}
use Rattle.message_lists.specs.Started.{message_to}
use Rattle.message_lists.specs.declared.arrivals.Arrival.{Arrival}

to_between : (l : LinkEvent) (o : Option LinkEvent) → option_map (message_to l) (option_map arrival_of o) ≡
    option_map (message_between l) o
to_between l None = refl
to_between l (Some e) = refl

-- what the tables say of a link event is the message that it starts
pub message_at-next : (links : List LinkEvent) (i : ℕ) (l : LinkEvent) (arrivals : List Arrival) (others : ℕ)
    (next : Option Message)
    → i < length links
    → l ≡ get_or links i l
    → arrivals ≡ map arrival_of (filter (is_end_of l.kind l.key) links)
    → others ≡ count_by (is_start_of l.kind l.key) (take i links)
    → next ≡ cond l.starts (option_map (message_to l) (slice_get arrivals others)) None
    → next ≡ message_at links i
message_at-next links i l arrivals others next h e ha ho hn =
    let found : slice_get links i ≡ Some l = slice_get_read links (length links) i l refl h e in
    let count : others ≡ length (starts_like l (take i links)) =
    ho ∙ sym (length-filter (is_start_of l.kind l.key) (take i links)) in
    let partner : option_map (message_to l) (slice_get arrivals others) ≡ option_map (message_between l)
    (slice_get (ends_like l links) (length (starts_like l (take i links)))) =
    ap (λ (xs : List Arrival). option_map (message_to l) (slice_get xs others)) ha
    ∙ ap (λ (n : ℕ). option_map (message_to l) (slice_get (map arrival_of (ends_like l links)) n)) count
    ∙ ap (option_map (message_to l)) (slice_get-map arrival_of (ends_like l links)
    (length (starts_like l (take i links))))
    ∙ to_between l (slice_get (ends_like l links) (length (starts_like l (take i links)))) in
    hn ∙ ap (λ (o : Option Message). cond l.starts o None) partner ∙ sym
    (ap (option_and_then (message_from links i)) found)

-- one link event more in the count of a link type and key
pub count_by-next : (links : List LinkEvent) (i : ℕ) (l : LinkEvent) (kind : ℕ) (key : List ℕ) (new old : ℕ)
    → i < length links
    → l ≡ get_or links i l
    → old ≡ count_by (is_start_of kind key) (take i links)
    → new ≡ old + cond (is_start_of kind key l) 1 0
    → new ≡ count_by (is_start_of kind key) (take (i + 1) links)
count_by-next links i l kind key new old h e ho hn =
    hn ∙ ap (λ (n : ℕ). n + cond (is_start_of kind key l) 1 0) ho
    ∙ ap (λ (x : LinkEvent). count_by (is_start_of kind key) (take i links)
    + cond (is_start_of kind key x) 1 0) e
    ∙ sym (sum_by_more (λ x. cond (is_start_of kind key x) 1 0) links i l h)
