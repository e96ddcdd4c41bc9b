-- The containers that the lines of a trace create, and when each begins and ends.
use Rattle.std.proofs.Common.{◌≡◌, ℕ, ◌+◌, ◌<◌, ◌≤◌, List, [], ◌∷◌, ◌++◌, map, filter, fold, max, length}
use Rattle.std.proofs.Common.{position}
use Rattle.std.proofs.Common.{Bool, true, false, cond, nat_lt, slice_get, Option, Some, None, refl, sym, ◌∙◌}
use Rattle.std.proofs.Common.{ap, subst, arith, ◌==◌, is_some, true≢false}
use Rattle.std.specs.List.{All, AllByRecursion, find}
use Rattle.std.specs.Option.{option_map, option_map_or, option_and_then, option_or}
use Rattle.std.proofs.lemmas.Bool.{and_parts, eqb-true, ltb-false}
use Rattle.std.proofs.lemmas.List.{map-append, length-map, length-append}
use Rattle.std.proofs.lemmas.List.Elements.{recursion_from_All}
use Rattle.std.proofs.lemmas.List.Sums.{fold_push}
use Rattle.std.proofs.lemmas.List.Quantifiers.{position-Some}
use Rattle.std.proofs.lemmas.Option.{same_Some}
use Rattle.list_lemmas.proofs.All.{All-by_place}
use Rattle.list_lemmas.proofs.Each.{all_within}
use Rattle.list_lemmas.proofs.Filters.{map-filter_push}
use Rattle.list_lemmas.proofs.Maps.{numbered-get, numbered-length}
use Rattle.list_lemmas.proofs.Options.{option_map-or_cond}
use Rattle.list_lemmas.proofs.Positions.{slice_get-append_left}
use Rattle.list_lemmas.proofs.Sums.{each_below, greatest_from, greatest_within}
use Rattle.trace_base.specs.declared.limits.TheConstants.{MAX_TIME, MAX_CONTAINERS}
use Rattle.trace_base.specs.declared.names.Container.{Container}
use Rattle.trace_base.specs.Info.{IsLegalContainer}
use Rattle.paje_defs.specs.declared.role.Role.TheVariants as roles
use Rattle.paje_defs.specs.Refusals.{Placed, placed}
use Rattle.paje_defs.proofs.PlacedMore.{found-more}
use Rattle.paje_defs.proofs.RefusedMore.{Keeps, unrefused}
use Rattle.paje_lines.specs.EventLine.{EventLine, AreInTime, text_of, alias_of, creates, destroys}
use Rattle.paje_lines.specs.Found.{Entity, entity_place, has_alias, has_name, root, rooted}
use Rattle.paje_lines.specs.Types.{is_container_type}
use Rattle.paje_lines.specs.Containers.{DeclaredContainer, created_by, containers_in, container_entities}
use Rattle.paje_lines.specs.Containers.{container_named, container_start, container_end, destruction}
use Rattle.paje_lines.specs.Containers.{ends_container, greatest}
use Rattle.paje_lines.specs.States.{latest, last_time, container_tracks}
use Rattle.paje_lines.specs.Reasons.{event_reason_at, event_refusal, type_reason, container_reason}
use Rattle.paje_lines.specs.Reasons.{new_reason}
use Rattle.paje_lines.specs.Reasons.{alias_reason, full, back_reason, destroyed_reason, destruction_reason}
use Rattle.paje_lines.specs.Text.{container_of, containers_of}
use Rattle.paje_lines.specs.declared.what.What.TheVariants as what
use Rattle.paje_lines.specs.declared.model_fault.ModelFault.TheVariants.{TimeBack, WrongKind}
use Rattle.paje_defs.specs.Refusals.{when}
use Rattle.paje_lines.proofs.NoReason.{each_none, when_none, room, created, destroyed}

-- ---- how many there are

pub containers-more : (lines : List EventLine) (line : EventLine) → containers_in (lines ++ line ∷ [])
    ≡ containers_in lines ++ cond (creates line.event) (created_by line ∷ []) []
containers-more lines line = ap (λ cs. record { entity = root; start = 0 } ∷ cs)
    (map-filter_push (λ l. creates l.event) created_by lines line)

pub containers_kept : (lines : List EventLine) (line : EventLine)
    → length (containers_in lines) ≤ length (containers_in (lines ++ line ∷ []))
containers_kept lines line =
    let extra : List DeclaredContainer = cond (creates line.event) (created_by line ∷ []) [] in
    let more = ap length (containers-more lines line) ∙ length-append (containers_in lines) extra in
    omega (arith, more)

create_room : (before : List EventLine) (line : EventLine) → event_reason_at (record {
  before = before;
  line = line;
}) ≡ None → creates line.event ≡ true → length (containers_in before) < MAX_CONTAINERS
create_room before line none is =
    let new = (each_none (type_reason is_container_type before line roles.Kind
    ∷ container_reason before line roles.Holder
    ∷ new_reason what.Containers (container_entities before) (rooted (alias_of line))
    (length (containers_in before)) ∷ []) (created line.event before line none is)).1.1.0 in
    room what.Containers (length (containers_in before))
    (each_none (alias_reason (container_entities before) (rooted (alias_of line))
    ∷ full what.Containers (length (containers_in before)) ∷ []) new).1.0

abbrev AreWithin : List EventLine → Type 0
AreWithin lines = length (containers_in lines) ≤ MAX_CONTAINERS

within_more : Keeps event_reason_at AreWithin
within_more before line none is holds =
    subst (λ n. n ≤ MAX_CONTAINERS) (sym (ap length (containers-more before line)
    ∙ length-append (containers_in before) (cond (creates line.event) (created_by line ∷ []) [])))
    (by (creates line.event) refl)
  where
    by : (b : Bool) → creates line.event ≡ b → length (containers_in before)
        + length (cond b (created_by line ∷ []) []) ≤ MAX_CONTAINERS
    by true e = let below = create_room before line is e in omega (arith, below)
    by false e = omega (arith, holds)

-- there are at most as many as may be
pub containers_within : (lines : List EventLine) → event_refusal lines ≡ None
    → length (containers_in lines) ≤ MAX_CONTAINERS
containers_within lines none = unrefused event_reason_at AreWithin within_more (omega arith) lines none

-- ---- what a text finds

place_within : (entities : List Entity) (text : List ℕ) (at : ℕ) → entity_place entities text ≡ Some at
    → at < length entities
place_within entities text at is = by (position (has_alias text) entities) refl is
  where
    by : (o : Option ℕ) → position (has_alias text) entities ≡ o
        → option_or o (position (has_name text) entities) ≡ Some at → at < length entities
    by None e is = (position-Some (has_name text) entities at root is).0
    by (Some n) e is = (position-Some (has_alias text) entities at root (e ∙ is)).0

-- the container that a text finds exists
pub named_exists : (lines : List EventLine) (text : List ℕ) (container : ℕ)
    → container_named lines text ≡ Some container → container < length (containers_in lines)
named_exists lines text container is = subst (λ n. container < n)
    (length-map (containers_in lines) (λ c. c.entity))
    (place_within (container_entities lines) (rooted text) container is)

-- ---- times

pub greatest-more : (lines : List EventLine) (line : EventLine)
    → greatest (lines ++ line ∷ []) ≡ max (greatest lines) line.time
greatest-more lines line =
    ap (fold max 0) (map-append (λ l. l.time) lines (line ∷ []))
    ∙ fold_push max 0 (map (λ l. l.time) lines) line.time

times_below : (limit : ℕ) (lines : List EventLine) → AllByRecursion (λ n. n ≤ limit)
    (map (λ l. l.time) lines) → AllByRecursion (λ l. l.time ≤ limit) lines
times_below limit [] all = tt
times_below limit (line ∷ lines) all = (all.0, times_below limit lines all.1)

times_above : (limit : ℕ) (lines : List EventLine) → AllByRecursion (λ l. l.time ≤ limit) lines
    → AllByRecursion (λ n. n ≤ limit) (map (λ l. l.time) lines)
times_above limit [] all = tt
times_above limit (line ∷ lines) all = (all.0, times_above limit lines all.1)

-- no line is later than the greatest time
pub each_in_time : (lines : List EventLine) → AllByRecursion (λ l. l.time ≤ greatest lines) lines
each_in_time lines = times_below (greatest lines) lines (each_below 0 (map (λ l. l.time) lines))

pub greatest_in_time : (lines : List EventLine) → AreInTime lines → greatest lines ≤ MAX_TIME
greatest_in_time lines are = greatest_within 0 MAX_TIME (map (λ l. l.time) lines) (omega arith)
    (times_above MAX_TIME lines (recursion_from_All (λ l. l.time ≤ MAX_TIME) lines are))

starts_below : (limit : ℕ) (lines : List EventLine) → AllByRecursion (λ l. l.time ≤ limit) lines
    → AllByRecursion (λ c. c.start ≤ limit) (map created_by (filter (λ l. creates l.event) lines))
starts_below limit [] all = tt
starts_below limit (line ∷ lines) all = by (creates line.event) (starts_below limit lines all.1)
  where
    by : (b : Bool) → AllByRecursion (λ c. c.start ≤ limit) (map created_by (filter (λ l. creates l.event)
        lines))
        → AllByRecursion (λ c. c.start ≤ limit) (map created_by (cond b (line ∷ filter (λ l. creates l.event)
        lines) (filter (λ l. creates l.event) lines)))
    by true later = (all.0, later)
    by false later = later

-- no container begins after the greatest time
pub start_in_time : (lines : List EventLine) (container : ℕ)
    → container_start lines container ≤ greatest lines
start_in_time lines container = all_within (λ c. c.start) (greatest lines) (containers_in lines) container
    (omega arith, starts_below (greatest lines) lines (each_in_time lines))

-- what exists begins where it began
pub start-more : (lines : List EventLine) (line : EventLine) (container : ℕ)
    → container < length (containers_in lines)
    → container_start (lines ++ line ∷ []) container ≡ container_start lines container
start-more lines line container exists =
    ap (λ cs. option_map_or (λ c. c.start) (slice_get cs container) 0) (containers-more lines line)
    ∙ ap (λ found. option_map_or (λ c. c.start) found 0) (slice_get-append_left (containers_in lines)
    (cond (creates line.event) (created_by line ∷ []) []) container exists)

-- ---- the end

pub destruction-more : (lines : List EventLine) (line : EventLine) (container : ℕ)
    → destruction (lines ++ line ∷ []) container ≡ option_or (destruction lines container)
    (cond (ends_container container (record { before = lines; line = line })) (Some line) None)
destruction-more lines line container =
    ap (option_map (λ p. p.line)) (found-more (ends_container container) lines line)
    ∙ option_map-or_cond (λ p. p.line) (find (ends_container container) (placed lines))
    (ends_container container (record { before = lines; line = line })) (record {
      before = lines;
      line = line;
    })

-- the container that a line destroys is the one that its text finds
pub ends_named : (lines : List EventLine) (line : EventLine) (container : ℕ)
    → ends_container container (record { before = lines; line = line }) ≡ true
    → container_named lines (text_of line roles.Name) ≡ Some container
ends_named lines line container is = by (container_named lines (text_of line roles.Name))
    (and_parts (destroys line.event) _ is).1
  where
    by : (found : Option ℕ) → option_map_or (λ c. c == container) found false ≡ true → found ≡ Some container
    by None e = absurd (true≢false (sym e))
    by (Some c) e = ap (λ c. Some c) (eqb-true c container e)

-- a container isn't destroyed before the latest that happened in it
pub ends_late : (lines : List EventLine) (line : EventLine) (container : ℕ)
    → event_reason_at (record { before = lines; line = line }) ≡ None
    → ends_container container (record { before = lines; line = line }) ≡ true
    → latest lines container ≤ line.time
ends_late lines line container none is =
    let whole = (each_none (container_reason lines line roles.Name
    ∷ option_and_then (destruction_reason lines line) (container_named lines (text_of line roles.Name))
    ∷ []) (destroyed line.event lines line none (and_parts (destroys line.event) _ is).0)).1.0 in
    let at : destruction_reason lines line container ≡ None = subst
    (λ found. option_and_then (destruction_reason lines line) found ≡ None)
    (ends_named lines line container is) whole in
    let back : back_reason line.time (latest lines container) ≡ None =
    (each_none (when (container == 0) (WrongKind roles.Name)
    ∷ destroyed_reason (destruction lines container)
    ∷ back_reason line.time (latest lines container) ∷ []) at).1.1.0 in
    ltb-false line.time (latest lines container)
    (when_none (nat_lt line.time (latest lines container)) (TimeBack (latest lines container)) back)

-- it ends where a line destroyed it, or not
abbrev EndsBy : List EventLine → ℕ → Option EventLine → Type 0
EndsBy lines container None = container_start lines container ≤ greatest lines
EndsBy lines container (Some line) = (container < length (containers_in lines))
    × (container_start lines container ≤ line.time) × (line.time ≤ greatest lines)

ends_more : (container : ℕ) → Keeps event_reason_at (λ lines. EndsBy lines container (destruction lines
    container))
ends_more container before line none is holds =
    subst (EndsBy (before ++ line ∷ []) container) (sym (destruction-more before line container))
    (by (destruction before container) holds)
  where
    later : List EventLine
    later = before ++ line ∷ []

    at : Placed EventLine
    at = record { before = before; line = line }

    by_test : (b : Bool) → ends_container container at ≡ b
        → EndsBy (before ++ line ∷ []) container (cond b (Some line) None)
    by_test false e = start_in_time (before ++ line ∷ []) container
    by_test true e =
        let exists = named_exists before (text_of line roles.Name) container
        (ends_named before line container e) in
        let kept = containers_kept before line in
        let same = start-more before line container exists in
        let from = greatest_from (container_start before container)
        (map (last_time before) (container_tracks before container)) in
        let late = ends_late before line container is e in
        let top = greatest-more before line in
        (omega (arith, exists, kept), omega (arith, same, from, late), omega (arith, top))

    by : (o : Option EventLine) → EndsBy before container o → EndsBy (before ++ line ∷ []) container
        (option_or o (cond (ends_container container (record { before = before; line = line })) (Some line)
        None))
    by None holds = by_test (ends_container container (record { before = before; line = line })) refl
    by (Some l) (exists, from, to) =
        let kept = containers_kept before line in
        let same = start-more before line container exists in
        let top = greatest-more before line in
        (omega (arith, exists, kept), omega (arith, same, from), omega (arith, to, top))

ends_by : (lines : List EventLine) → event_refusal lines ≡ None → (container : ℕ)
    → EndsBy lines container (destruction lines container)
ends_by lines none container = unrefused event_reason_at
    (λ lines. EndsBy lines container (destruction lines container)) (ends_more container)
    (start_in_time [] container) lines none

pub start_before_end : (lines : List EventLine) → event_refusal lines ≡ None → (container : ℕ)
    → container_start lines container ≤ container_end lines container
start_before_end lines none container = by (destruction lines container) (ends_by lines none container)
  where
    by : (o : Option EventLine) → EndsBy lines container o
        → container_start lines container ≤ option_map_or (λ line. line.time) o (greatest lines)
    by None holds = holds
    by (Some l) holds = holds.1

pub end_within : (lines : List EventLine) → event_refusal lines ≡ None → (container : ℕ)
    → container_end lines container ≤ greatest lines
end_within lines none container = by (destruction lines container) (ends_by lines none container)
  where
    by : (o : Option EventLine) → EndsBy lines container o
        → option_map_or (λ line. line.time) o (greatest lines) ≤ greatest lines
    by None holds = omega arith
    by (Some l) holds = holds.2

pub end_in_time : (lines : List EventLine) → AreInTime lines → event_refusal lines ≡ None → (container : ℕ)
    → container_end lines container ≤ MAX_TIME
end_in_time lines are none container =
    let below = end_within lines none container in
    let top = greatest_in_time lines are in
    omega (arith, below, top)

-- ---- the containers of the names

pub containers-length : (lines : List EventLine) → length (containers_of lines) ≡ length (containers_in lines)
containers-length lines = numbered-length (container_of lines) (containers_in lines)

-- each begins and ends where it does in the lines
pub containers-get : (lines : List EventLine) (container : ℕ)
    → slice_get (containers_of lines) container
    ≡ option_map (λ c. container_of lines (container, c)) (slice_get (containers_in lines) container)
containers-get lines container = numbered-get (container_of lines) (containers_in lines) container

legal_container : (lines : List EventLine) → AreInTime lines → event_refusal lines ≡ None → (k : ℕ)
    (found : Option DeclaredContainer) (c : Container) → slice_get (containers_in lines) k ≡ found
    → option_map (λ c. container_of lines (k, c)) found ≡ Some c → IsLegalContainer c
legal_container lines are none k None c is e = absurd (true≢false (ap is_some (sym e)))
legal_container lines are none k (Some d) c is e =
    let same : container_of lines (k, d) ≡ c = same_Some (container_of lines (k, d)) c e in
    let start : container_start lines k ≡ d.start = ap (λ o. option_map_or (λ c. c.start) o 0) is in
    let ends = start_before_end lines none k in
    subst IsLegalContainer same (omega (arith, start, ends), end_in_time lines are none k)

-- the containers are legal
pub legal_containers : (lines : List EventLine) → AreInTime lines → event_refusal lines ≡ None
    → All IsLegalContainer (containers_of lines)
legal_containers lines are none = All-by_place IsLegalContainer (containers_of lines)
    (λ k c is. legal_container lines are none k (slice_get (containers_in lines) k) c refl
    (sym (containers-get lines k) ∙ is))
