-- The events of a track so far run from its container's start to its last time, behind lines of which none is
-- refused.
use Rattle.std.proofs.Common.{◌≡◌, ℕ, ◌+◌, ◌-◌, ◌≤◌, ◌⊎◌, Bool, true, false, cond, List, [], ◌∷◌, ◌++◌}
use Rattle.std.proofs.Common.{length, map, flat_map, replicate, Option, Some, None, IfSome, refl, ap, sym}
use Rattle.std.proofs.Common.{subst, subst₂, ap₂}
use Rattle.std.proofs.Common.{◌∙◌, arith, inl, inr, append-nil}
use Rattle.std.specs.List.{last_or}
use Rattle.std.specs.Option.{option_map, option_map_or, option_or}
use Rattle.std.proofs.lemmas.Bool.{true≢false, and_left, cases_lt, false_from_ne_true}
use Rattle.std.proofs.lemmas.List.{map_push}
use Rattle.std.proofs.lemmas.List.Concat.{flat_map-append}
use Rattle.list_lemmas.proofs.Last.{last-push}
use Rattle.trace_base.specs.declared.limits.TheConstants.{MAX_OPEN_CALLS}
use Rattle.trace_base.specs.declared.names.Track.{Track}
use Rattle.trace_base.specs.declared.stream.Event.{Event}
use Rattle.trace_base.specs.declared.stream.Event.TheVariants.{Enter, Leave}
use Rattle.paje_defs.specs.Refusals.{Placed}
use Rattle.paje_defs.specs.declared.event_name.EventName.{EventName}
use Rattle.paje_defs.specs.declared.event_name.EventName.TheVariants as events
use Rattle.paje_defs.specs.declared.role.Role.TheVariants as roles
use Rattle.paje_defs.proofs.RefusedMore.{Keeps, unrefused}
use Rattle.paje_lines.specs.EventLine.{EventLine, is_state_event, destroys, clears, pops, pushes, enters}
use Rattle.paje_lines.specs.EventLine.{text_of}
use Rattle.paje_lines.specs.Values.{value_text}
use Rattle.paje_lines.specs.Containers.{containers_in, container_start, destruction, ends_container}
use Rattle.paje_lines.specs.States.{states_of, is_on, open_behind, open_calls}
use Rattle.paje_lines.specs.States.{function_number}
use Rattle.paje_lines.specs.Reasons.{event_reason_at, event_refusal}
use Rattle.paje_lines.specs.Text.{left_at, entered_at, events_at}
use Rattle.paje_lines.proofs.Containers.{named_exists, start-more, destruction-more, ends_named, ends_late}
use Rattle.paje_legal.proofs.StreamRuns.{Runs, runs-append, runs-left}
use Rattle.paje_lines.proofs.StreamCalls.{AreEntered, Opens, opens-cleared, opens-pushed, opens-popped}
use Rattle.paje_lines.proofs.MoreStates.{states-more}
use Rattle.paje_legal.proofs.StreamContainers.{none-ended}
use Rattle.paje_legal.proofs.StreamTracks.{Exists, Finds, On, finds-both, on-track, states-kept}
use Rattle.paje_legal.proofs.StreamTracks.{states-none, last_time-latest}
use Rattle.paje_legal.proofs.StreamReasons.{Allows, allows}

-- ---- what an event of a track does

-- the Leaves of a line's event, where so many calls are open
abbrev left_by : ℕ → ℕ → EventName → List Event
left_by open_calls time event = cond (clears event) (replicate open_calls (Leave time))
    (cond (pops event) (Leave time ∷ []) [])

abbrev entered_by : ℕ → ℕ → EventName → List Event
entered_by function time event = cond (enters event) (Enter function time ∷ []) []

-- it runs from a last time to its own, behind these events
record Acts (es : List EventName) (event : EventName) (last time : ℕ) : Type 0 where
  open_after : ℕ
  opens : Opens es event open_after
  runs : (f : ℕ) → Runs last (open_behind es) (left_by (open_behind es) time event ++ entered_by f time event)
      time open_after

acts : (es : List EventName) (event : EventName) (last time : ℕ) → is_state_event event ≡ true → last ≤ time
    → AreEntered es → (pops event ≡ true → 1 ≤ open_behind es)
    → (pushes event ≡ true → open_behind es + 1 ≤ MAX_OPEN_CALLS) → Acts es event last time
acts es events.PushState last time state order entered some room = record {
  open_after = open_behind es + 1;
  opens = opens-pushed es events.PushState refl refl refl entered;
  runs = λ f. (order, room refl, (omega arith, refl));
}
acts es events.PopState last time state order entered some room = record {
  open_after = open_behind es - 1;
  opens = opens-popped es events.PopState refl refl refl (some refl);
  runs = λ f. (order, some refl, (omega arith, refl));
}
acts es events.SetState last time state order entered some room = record {
  open_after = 1;
  opens = opens-cleared es events.SetState refl;
  runs = λ f. runs-append (replicate (open_behind es) (Leave time)) (Enter f time ∷ []) last (open_behind es)
      time 0 time 1 (runs-left (open_behind es) last time order)
      (omega arith, omega arith, (omega arith, refl));
}
acts es events.ResetState last time state order entered some room = record {
  open_after = 0;
  opens = opens-cleared es events.ResetState refl;
  runs = λ f. runs-append (replicate (open_behind es) (Leave time)) [] last (open_behind es)
      time 0 time 0 (runs-left (open_behind es) last time order) (omega arith, refl);
}
acts es _ last time state order entered some room = absurd (true≢false (sym state))

-- the Enter of a line that names the track
entered-is : (functions : List (List ℕ)) (before : List EventLine) (line : EventLine) (track : Track)
    → Finds before line track → entered_at functions (record { before = before; line = line })
    ≡ entered_by (function_number functions (value_text before track.kind (text_of line roles.Value)))
    line.time line.event
entered-is functions before line track names =
    ap (λ o. option_map_or (λ text. Enter (function_number functions text) line.time ∷ [])
    (cond (enters line.event) (option_map (λ kind. value_text before kind (text_of line roles.Value)) o) None)
    []) names.kind ∙ by (enters line.event)
  where
    text : List ℕ
    text = value_text before track.kind (text_of line roles.Value)

    by : (b : Bool) → option_map_or (λ text. Enter (function_number functions text) line.time ∷ [])
        (cond b (Some text) None) [] ≡ cond b (Enter (function_number functions text) line.time ∷ []) []
    by true = refl
    by false = refl

-- ---- the events of a track

abbrev events_behind : List (Placed EventLine) → List EventName
events_behind states = map (λ p. p.line.event) states

abbrev last_behind : ℕ → List (Placed EventLine) → ℕ
last_behind start states = option_map_or (λ p. p.line.time) (last_or None states) start

-- where its container begins at a time and was destroyed by a line, or not, and these are its state events
pub record Behaves (track : Track) (start : ℕ) (states : List (Placed EventLine)) (end : Option EventLine)
    : Type 0 where
  pub runs : (functions : List (List ℕ)) → Runs start 0 (flat_map (events_at functions track) states)
      (last_behind start states) (open_behind (events_behind states))
  pub entered : AreEntered (events_behind states)
  pub ended : IfSome end (λ line. last_behind start states ≤ line.time)

behaves-new : (track : Track) (start : ℕ) → Behaves track start [] None
behaves-new track start = record {
  runs = λ functions. (omega arith, refl);
  entered = omega arith;
  ended = tt;
}

-- one more state event
behaves-more : (before : List EventLine) (line : EventLine) (track : Track) (start : ℕ)
    → Behaves track start (states_of before track) None → Finds before line track
    → Acts (events_behind (states_of before track)) line.event
    (last_behind start (states_of before track)) line.time
    → Behaves track start (states_of before track ++ record { before = before; line = line } ∷ []) None
behaves-more before line track start behaves names does = record {
  runs = λ functions. subst₂ (λ last calls. Runs start 0 (flat_map (events_at functions track)
      (states ++ at ∷ [])) last calls) (sym last) (sym calls)
      (subst (λ es. Runs start 0 es line.time does.open_after) (sym (more functions))
      (runs-append (flat_map (events_at functions track) states) (events_at functions track at) start 0
      (last_behind start states) calls_before line.time does.open_after (behaves.runs functions)
      (acting functions)));
  entered = subst AreEntered (sym events) does.opens.entered;
  ended = tt;
}
  where
    states : List (Placed EventLine)
    states = states_of before track

    at : Placed EventLine
    at = record { before = before; line = line }

    calls_before : ℕ
    calls_before = open_behind (events_behind states)

    events : events_behind (states ++ at ∷ []) ≡ events_behind states ++ line.event ∷ []
    events = map_push (λ p. p.line.event) states at

    last : last_behind start (states ++ at ∷ []) ≡ line.time
    last = ap (λ o. option_map_or (λ p. p.line.time) o start) (last-push states at)

    calls : open_behind (events_behind (states ++ at ∷ [])) ≡ does.open_after
    calls = ap open_behind events ∙ does.opens.now_open

    acting : (functions : List (List ℕ)) → Runs (last_behind start states) calls_before
        (events_at functions track at) line.time does.open_after
    acting functions = subst
        (λ es. Runs (last_behind start states) calls_before (left_at track at ++ es) line.time
        does.open_after) (sym (entered-is functions before line track names))
        (does.runs (function_number functions (value_text before track.kind (text_of line roles.Value))))

    more : (functions : List (List ℕ)) → flat_map (events_at functions track) (states ++ at ∷ [])
        ≡ flat_map (events_at functions track) states ++ events_at functions track at
    more functions = flat_map-append (events_at functions track) states (at ∷ [])
        ∙ ap (λ es. flat_map (events_at functions track) states ++ es)
        (append-nil (events_at functions track at))

-- ---- one more line

state-stays : (event : EventName) → is_state_event event ≡ true → destroys event ≡ false
state-stays events.DestroyContainer state = absurd (true≢false (sym state))
state-stays _ state = refl

ended-by : (end : Option EventLine) (b : Bool) (line : EventLine) (P : EventLine → Type 0) → IfSome end P
    → (b ≡ true → P line) → IfSome (option_or end (cond b (Some line) None)) P
ended-by None true line P ended now = now refl
ended-by None false line P ended now = tt
ended-by (Some d) b line P ended now = ended

-- behind these lines, where the container exists
abbrev pub Sofar : Track → List EventLine → Type 0
Sofar track lines = Exists lines track → Behaves track (container_start lines track.container)
    (states_of lines track) (destruction lines track.container)

moved : (track : Track) (a b : ℕ) (xs ys : List (Placed EventLine)) (d e : Option EventLine) → b ≡ a → ys ≡ xs
    → e ≡ d → Behaves track a xs d → Behaves track b ys e
moved track a b xs ys d e start states end behaves = subst (λ n. Behaves track n ys e) (sym start)
    (subst (λ ps. Behaves track a ps e) (sym states)
    (subst (λ o. Behaves track a xs o) (sym end) behaves))

-- what a line makes of a track
record Next (track : Track) (before : List EventLine) (line : EventLine) : Type 0 where
  behaves : Behaves track (container_start (before ++ line ∷ []) track.container)
      (states_of (before ++ line ∷ []) track) (destruction (before ++ line ∷ []) track.container)

next-on : (track : Track) (before : List EventLine) (line : EventLine)
    → event_reason_at (record { before = before; line = line }) ≡ None
    → is_on track (record { before = before; line = line }) ≡ true → Exists before track
    → Behaves track (container_start before track.container) (states_of before track)
    (destruction before track.container) → Next track before line
next-on track before line none is exists behaves = record {
  behaves = moved track start (container_start (before ++ line ∷ []) c) (states ++ at ∷ [])
      (states_of (before ++ line ∷ []) track) None (destruction (before ++ line ∷ []) c)
      (start-more before line c exists) (states-more before line track true is)
      (destruction-more before line c
      ∙ ap₂ (λ o b. option_or o (cond b (Some line) None)) allowing.alive stays)
      (behaves-more before line track start alive (finds-both before line track on.named) does);
}
  where
    c : ℕ
    c = track.container

    start : ℕ
    start = container_start before c

    states : List (Placed EventLine)
    states = states_of before track

    at : Placed EventLine
    at = record { before = before; line = line }

    on : On track at
    on = on-track track at is

    allowing : Allows before line track
    allowing = allows before line track none on.state on.named

    alive : Behaves track start states None
    alive = subst (λ o. Behaves track start states o) allowing.alive behaves

    does : Acts (events_behind states) line.event (last_behind start states) line.time
    does = acts (events_behind states) line.event (last_behind start states) line.time on.state
        allowing.in_order alive.entered allowing.some_open allowing.more_room

    stays : ends_container c at ≡ false
    stays = and_left (destroys line.event) _ (state-stays line.event on.state)

next-off : (track : Track) (before : List EventLine) (line : EventLine)
    → event_reason_at (record { before = before; line = line }) ≡ None
    → is_on track (record { before = before; line = line }) ≡ false → Exists before track
    → Behaves track (container_start before track.container) (states_of before track)
    (destruction before track.container) → Next track before line
next-off track before line none is exists behaves = record {
  behaves = moved track start (container_start (before ++ line ∷ []) c) states
      (states_of (before ++ line ∷ []) track) end (destruction (before ++ line ∷ []) c)
      (start-more before line c exists) (states-kept before line track is) (destruction-more before line c)
      (record {
        runs = behaves.runs;
        entered = behaves.entered;
        ended = ended-by (destruction before c) (ends_container c at) line
            (λ l. last_behind start states ≤ l.time) behaves.ended
            (λ ends. let late = last_time-latest before track in
            omega (arith, late, ends_late before line c none ends));
      });
}
  where
    c : ℕ
    c = track.container

    start : ℕ
    start = container_start before c

    states : List (Placed EventLine)
    states = states_of before track

    at : Placed EventLine
    at = record { before = before; line = line }

    end : Option EventLine
    end = option_or (destruction before c) (cond (ends_container c at) (Some line) None)

-- of a container that wasn't there
next-new : (track : Track) (before : List EventLine) (line : EventLine)
    → length (containers_in before) ≤ track.container → Next track before line
next-new track before line past = record {
  behaves = moved track start start [] (states_of (before ++ line ∷ []) track) None
      (destruction (before ++ line ∷ []) c) refl
      (states-kept before line track off ∙ states-none before track past)
      (destruction-more before line c ∙ ap₂ (λ o b. option_or o (cond b (Some line) None))
      (none-ended before c past) stays) (behaves-new track start);
}
  where
    c : ℕ
    c = track.container

    start : ℕ
    start = container_start (before ++ line ∷ []) c

    at : Placed EventLine
    at = record { before = before; line = line }

    off : is_on track at ≡ false
    off = false_from_ne_true (is_on track at) (λ is. let named = (on-track track at is).named in
        let exists = named_exists before (text_of line roles.Holder) c
        (finds-both before line track named).container in absurd (omega (arith, past, exists)))

    stays : ends_container c at ≡ false
    stays = false_from_ne_true (ends_container c at) (λ is.
        let exists = named_exists before (text_of line roles.Name) c (ends_named before line c is) in
        absurd (omega (arith, past, exists)))

sofar-more : (track : Track) → Keeps event_reason_at (Sofar track)
sofar-more track before line none is holds exists =
    by (cases_lt track.container (length (containers_in before)))
  where
    on : (b : Bool) → is_on track (record { before = before; line = line }) ≡ b → Exists before track
        → Next track before line
    on true e there = next-on track before line is e there (holds there)
    on false e there = next-off track before line is e there (holds there)

    by : Exists before track ⊎ (length (containers_in before) ≤ track.container)
        → Behaves track (container_start (before ++ line ∷ []) track.container)
        (states_of (before ++ line ∷ []) track) (destruction (before ++ line ∷ []) track.container)
    by (inl there) = (on (is_on track (record { before = before; line = line })) refl there).behaves
    by (inr past) = (next-new track before line past).behaves

pub sofar : (lines : List EventLine) → event_refusal lines ≡ None → (track : Track) → Exists lines track
    → Behaves track (container_start lines track.container) (states_of lines track)
    (destruction lines track.container)
sofar lines none track = unrefused event_reason_at (Sofar track) (sofar-more track)
    (λ exists. behaves-new track (container_start [] track.container)) lines none
