-- What a state event makes of the track that it names, by its event.
use Rattle.std.proofs.Common.{◌≡◌, ℕ, ◌+◌, ◌-◌, ◌≤◌, Bool, true, false, cond, ◌&&◌, ◌==◌, List, [], ◌∷◌, ◌++◌}
use Rattle.std.proofs.Common.{map, replicate, Option, Some, None, refl, sym, ap, ◌∙◌, subst, arith}
use Rattle.std.specs.Option.{option_map, option_map_or}
use Rattle.std.proofs.lemmas.Bool.{true≢false}
use Rattle.std.proofs.lemmas.List.{append-nil, append_assoc, map-append}
use Rattle.std.proofs.lemmas.Option.{same_Some}
use Rattle.list_lemmas.proofs.Numbers.{pos_unless}
use Rattle.trace_base.specs.declared.names.Track.{Track}
use Rattle.trace_base.specs.declared.stream.Event.{Event}
use Rattle.trace_base.specs.declared.stream.Event.TheVariants.{Enter, Leave}
use Rattle.paje_defs.specs.declared.event_name.EventName.{EventName}
use Rattle.paje_defs.specs.declared.event_name.EventName.TheVariants as events
use Rattle.paje_defs.specs.declared.role.Role.TheVariants as roles
use Rattle.paje_defs.specs.Refusals.{Placed}
use Rattle.paje_defs.proofs.RefusedMore.{Keeps, unrefused}
use Rattle.paje_lines.specs.EventLine.{EventLine, clears, enters, is_state_event, pops, text_of}
use Rattle.paje_lines.specs.Reasons.{event_reason_at, event_refusal, met}
use Rattle.paje_lines.specs.States.{is_same, open_behind, open_calls, states_of, track_named}
use Rattle.paje_lines.specs.States.{is_on, functions_entered, function_number}
use Rattle.paje_lines.specs.Text.{entered_at}
use Rattle.paje_lines.specs.Types.{kind_named}
use Rattle.paje_lines.specs.Values.{value_text}
use Rattle.paje_model.specs.MadeTracks.{made_of}
use Rattle.paje_model.specs.OpenTrack.{behind_event}
use Rattle.paje_model.specs.declared.open_track.OpenTrack.{OpenTrack}
use Rattle.paje_lines.proofs.StateEvents.{meets, is_met}
use Rattle.paje_lines.proofs.StreamCalls.{AreEntered, opens-cleared, opens-popped, opens-pushed}
use Rattle.paje_lines.proofs.Tracks.{tells_track}
use Rattle.paje_lines.proofs.MoreStates.{states-more}
use Rattle.paje_model.proofs.TracksSoFar.{Stated, made-next}

-- ---- no more calls are left than were entered

entered_more : (es : List EventName) (e : EventName) → is_state_event e ≡ true
    → (pops e ≡ true → 1 ≤ open_behind es) → AreEntered es → AreEntered (es ++ e ∷ [])
entered_more es events.PushState state some are = (opens-pushed es events.PushState refl refl refl
    are).entered
entered_more es events.SetState state some are = (opens-cleared es events.SetState refl).entered
entered_more es events.PopState state some are = (opens-popped es events.PopState refl refl refl (some
    refl)).entered
entered_more es events.ResetState state some are = (opens-cleared es events.ResetState refl).entered
entered_more es _ state some are = absurd (true≢false (sym state))

abbrev states_entered : Track → List EventLine → Type 0
states_entered track lines = AreEntered (map (λ p. p.line.event) (states_of lines track))

-- a line on the track is a state event that names it
on_track : (track : Track) (state : Bool) (named : Option Track)
    → option_map_or (is_same track) (cond state named None) false ≡ true
    → (state ≡ true) × (named ≡ Some track)
on_track track false named on = absurd (true≢false (sym on))
on_track track true None on = absurd (true≢false (sym on))
on_track track true (Some t) on = (refl, ap (λ t. Some t) (sym ((tells_track track t).0 on)))

-- then a call is open where it leaves one
some_open : (before : List EventLine) (line : EventLine) (track : Track)
    → event_reason_at (record { before = before; line = line }) ≡ None → is_state_event line.event ≡ true
    → track_named before line ≡ Some track → pops line.event ≡ true → 1 ≤ open_calls before track
some_open before line track none state named one =
    let m = meets before line none state in
    let same : m.track ≡ track = same_Some m.track track (sym m.named ∙ named) in
    pos_unless (open_calls before track) (pops line.event) one (subst (λ t. (pops line.event
    && (open_calls before t == 0)) ≡ false) same (is_met line (met before line m.track) m.none).pops_open)

entered_keeps : (track : Track) → Keeps event_reason_at (states_entered track)
entered_keeps track before line none is are = by (is_on track (record { before = before; line = line })) refl
  where
    at : Placed EventLine
    at = record { before = before; line = line }

    es : List EventName
    es = map (λ p. p.line.event) (states_of before track)

    by : (b : Bool) → is_on track (record { before = before; line = line }) ≡ b
        → states_entered track (before ++ line ∷ [])
    by false off = subst AreEntered (ap (map (λ p. p.line.event)) (sym (states-more before line track false
        off
        ∙ append-nil (states_of before track)))) are
    by true on =
        let parts = on_track track (is_state_event line.event) (track_named before line) on in
        subst AreEntered (sym (ap (map (λ p. p.line.event)) (states-more before line track true on)
        ∙ map-append (λ p. p.line.event) (states_of before track) (at ∷ [])))
        (entered_more es line.event parts.0 (some_open before line track is parts.0 parts.1) are)

-- of the state events of a track, where no line is refused
pub are_entered : (lines : List EventLine) → event_refusal lines ≡ None → (track : Track)
    → AreEntered (map (λ p. p.line.event) (states_of lines track))
are_entered lines none track = unrefused event_reason_at (states_entered track) (entered_keeps track)
    (omega arith)
    lines none

-- ---- what was made of the track

abbrev built : ℕ → List Event → ℕ → OpenTrack
built time events calls = record { events = events; open_calls = calls; last = time }

both : (time : ℕ) (xs ys : List Event) (m n : ℕ) → xs ≡ ys → m ≡ n → built time xs m ≡ built time ys n
both time xs ys m n events calls = ap (λ es. built time es m) events ∙ ap (built time ys) calls

abbrev left_with : EventName → ℕ → ℕ → List Event
left_with e calls time = cond (clears e) (replicate calls (Leave time)) (cond (pops e) (Leave time ∷ []) [])

-- what it adds, by its event
behind_by : (e : EventName) (es : List EventName) (t : OpenTrack) (function time : ℕ) (more : List Event)
    → is_state_event e ≡ true → t.open_calls ≡ open_behind es → AreEntered es
    → (pops e ≡ true → 1 ≤ open_behind es)
    → (enters e ≡ true → more ≡ Enter function time ∷ []) → (enters e ≡ false → more ≡ [])
    → built time (t.events ++ (left_with e t.open_calls time ++ more)) (open_behind (es ++ e ∷ []))
    ≡ behind_event e function time t
behind_by events.PushState es t function time more state calls are some one none =
    both time (t.events ++ more) _ (open_behind (es ++ events.PushState ∷ [])) _
    (ap (λ xs. t.events ++ xs) (one refl))
    ((opens-pushed es events.PushState refl refl refl are).now_open ∙ ap (λ n. n + 1) (sym calls))
behind_by events.SetState es t function time more state calls are some one none =
    let now = (opens-cleared es events.SetState refl).now_open in
    both time (t.events ++ (replicate t.open_calls (Leave time) ++ more)) _
    (open_behind (es ++ events.SetState ∷ [])) _
    (ap (λ xs. t.events ++ (replicate t.open_calls (Leave time) ++ xs)) (one refl)
    ∙ sym (append_assoc t.events (replicate t.open_calls (Leave time)) (Enter function time ∷ [])))
    (omega (arith, now))
behind_by events.PopState es t function time more state calls are some one none =
    both time (t.events ++ (Leave time ∷ more)) _ (open_behind (es ++ events.PopState ∷ [])) _
    (ap (λ xs. t.events ++ (Leave time ∷ xs)) (none refl))
    ((opens-popped es events.PopState refl refl refl (some refl)).now_open ∙ ap (λ n. n - 1) (sym calls))
behind_by events.ResetState es t function time more state calls are some one none =
    let now = (opens-cleared es events.ResetState refl).now_open in
    both time (t.events ++ (replicate t.open_calls (Leave time) ++ more)) _
    (open_behind (es ++ events.ResetState ∷ [])) _
    (ap (λ xs. t.events ++ (replicate t.open_calls (Leave time) ++ xs)) (none refl)
    ∙ ap (λ xs. t.events ++ xs) (append-nil (replicate t.open_calls (Leave time)))) (omega (arith, now))
behind_by _ es t function time more state calls are some one none = absurd (true≢false (sym state))

-- it enters the function of this number, if any
pub made_behind : (lines : List EventLine) (line : EventLine) (track : Track) (new : List (List ℕ))
    (function : ℕ) → Stated lines line track new → is_state_event line.event ≡ true
    → event_refusal lines ≡ None → (pops line.event ≡ true → 1 ≤ open_calls lines track)
    → (enters line.event ≡ true → entered_at (functions_entered (lines ++ line ∷ [])) (record {
      before = lines;
      line = line;
    }) ≡ Enter function line.time ∷ [])
    → made_of (lines ++ line ∷ []) track ≡ behind_event line.event function line.time (made_of lines track)
made_behind lines line track new function is state none some one =
    made-next lines line track new is
    ∙ behind_by line.event (map (λ p. p.line.event) (states_of lines track)) (made_of lines track) function
    line.time (entered_at (functions_entered (lines ++ line ∷ [])) at) state refl
    (are_entered lines none track)
    some one (λ off. ap (λ b. option_map_or (λ text. Enter (function_number (functions_entered
    (lines ++ line ∷
    [])) text) line.time ∷ []) (cond b (option_map (λ kind. value_text lines kind (text_of line roles.Value))
    (kind_named lines (text_of line roles.Kind))) None) []) off)
  where
    at : Placed EventLine
    at = record { before = lines; line = line }
