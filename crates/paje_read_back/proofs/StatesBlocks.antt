-- No state line of a canonical text is refused: track by track, line by line.
use Rattle.std.proofs.Common.{◌≡◌, ℕ, ◌+◌, ◌-◌, ◌≤◌, suc, List, [], ◌∷◌, ◌++◌, true, false, not}
use Rattle.std.proofs.Common.{Some, None, IfSome, flat_map, length, map, refl, sym, ap, subst, ◌∙◌, arith}
use Rattle.std.specs.Prelude.{All}
use Rattle.std.specs.List.{AllByRecursion, last_or, list_any}
use Rattle.std.specs.Option.{option_map, option_map_or}
use Rattle.std.specs.Set.{is_member}
use Rattle.std.specs.Str.{bytes_eq}
use Rattle.std.proofs.lemmas.Bool.{true≢false}
use Rattle.std.proofs.lemmas.List.{append-nil, append_assoc}
use Rattle.std.proofs.lemmas.List.Elements.{All-cons, All-head, All-nil, All-tail}
use Rattle.list_lemmas.proofs.Distinct.{AreApart, same_swap}
use Rattle.list_lemmas.proofs.Each.{all_mapped, all_unmap}
use Rattle.trace_base.specs.declared.limits.TheConstants.{MAX_FUNCTIONS, MAX_OPEN_CALLS, MAX_STATE_EVENTS}
use Rattle.trace_base.specs.declared.limits.TheConstants.{MAX_TRACKS}
use Rattle.trace_base.specs.declared.names.Container.{Container}
use Rattle.trace_base.specs.declared.names.Track.{Track}
use Rattle.trace_base.specs.declared.stream.Event.{Event}
use Rattle.trace_base.specs.declared.stream.Event.TheVariants.{Enter, Leave}
use Rattle.trace_base.specs.declared.stream.TrackStream.{TrackStream}
use Rattle.trace_base.specs.declared.text.TraceText.{TraceText}
use Rattle.paje_defs.specs.Refusals.{placed_behind}
use Rattle.paje_defs.specs.declared.event_name.EventName.TheVariants as events
use Rattle.paje_lines.specs.Containers.{container_start}
use Rattle.paje_lines.specs.EventLine.{EventLine, pops, pushes}
use Rattle.paje_lines.specs.Examples.{from}
use Rattle.paje_lines.specs.Reasons.{event_reason_at, state_reason}
use Rattle.paje_lines.specs.States.{is_same, last_time, open_behind, open_calls, states_in, states_of}
use Rattle.paje_lines.specs.States.{track_at}
use Rattle.paje_lines.specs.States.{entered_text, tracks_in}
use Rattle.paje_lines.specs.Values.{value_text}
use Rattle.paje_lines.proofs.StreamCalls.{AreEntered, Opens, opens-cleared, opens-popped, opens-pushed}
use Rattle.paje_legal.proofs.StreamRuns.{IsNumbered, Runs}
use Rattle.paje_legal.proofs.StreamTracks.{Finds}
use Rattle.paje_legal.proofs.StreamRuns.{runs-order}
use Rattle.paje_print.specs.CanonicalText.{text_of_function}
use Rattle.paje_read_back.specs.ToldLines.{declarations_told, reset_told, state_told, track_told}
use Rattle.paje_read_back.proofs.FindsNames.{FindsNames, KeepsFinding, finds-track}
use Rattle.paje_read_back.proofs.StatesAllowed.{state-unrefused}
use Rattle.paje_read_back.proofs.StatesBehind.{Behind, IsLineOfTrack, at-track, behind-more, function-member}
use Rattle.paje_read_back.proofs.StatesBehind.{names-behind, new-function-room, own-text}
use Rattle.paje_read_back.proofs.StatesMore.{events-next, last-next, states-counted, states-off, tracks-few}
use Rattle.paje_read_back.proofs.StatesMore.{tracks-known, tracks-same}
use Rattle.paje_read_back.proofs.StatesTold.{TellsTrack, count_of_lines}
use Rattle.paje_lines.proofs.Tracks.{tells_track}

-- ---- lines that are let through

-- none of these lines is refused, and what holds behind state lines holds behind them
pub record ArePassed (t : TraceText) (before lines : List EventLine) : Type 0 where
  pub unrefused : All (λ p. event_reason_at p ≡ None) (placed_behind before lines)
  pub behind : Behind t (before ++ lines)

passed-one : (t : TraceText) (before : List EventLine) (line : EventLine) (lines : List EventLine)
    → event_reason_at (record { before = before; line = line }) ≡ None
    → ArePassed t (before ++ line ∷ []) lines → ArePassed t before (line ∷ lines)
passed-one t before line lines none later = record {
  unrefused = All-cons (λ p. event_reason_at p ≡ None) (record { before = before; line = line })
      (placed_behind (before ++ line ∷ []) lines) none later.unrefused;
  behind = subst (Behind t) (append_assoc before (line ∷ []) lines) later.behind;
}

passed-none : (t : TraceText) (before : List EventLine) → Behind t before → ArePassed t before []
passed-none t before behind = record {
  unrefused = All-nil (λ p. event_reason_at p ≡ None);
  behind = subst (Behind t) (sym (append-nil before)) behind;
}

-- ---- the tracks that are still to come

-- There is room for so many state lines and for the lines of these tracks, none of which has a state event.
pub record Wait (before : List EventLine) (lines : ℕ) (ps : List (Track × TrackStream)) : Type 0 where
  pub states : states_in before + lines + count_of_lines ps ≤ MAX_STATE_EVENTS
  pub tracks : length (tracks_in before) + length ps ≤ MAX_TRACKS
  pub unseen : AllByRecursion (λ p. states_of before p.0 ≡ []) ps

abbrev AreOff : Track → List (Track × TrackStream) → Type 0
AreOff track ps = AllByRecursion (λ q. is_same q.0 track ≡ false) ps

off-others : (track : Track) (ps : List (Track × TrackStream))
    → AllByRecursion (λ u. is_same track u ≡ false) (map (λ p. p.0) ps) → AreOff track ps
off-others track ps apart =
    all_mapped (λ q. is_same track q.0 ≡ false) (λ q. is_same q.0 track ≡ false)
    (λ q e. same_swap is_same tells_track q.0 track ∙ e) ps
    (all_unmap (λ u. is_same track u ≡ false) (λ q. q.0) ps apart)

still-unseen : (before : List EventLine) (line : EventLine) (track : Track)
    → track_at (record { before = before; line = line }) ≡ Some track → (ps : List (Track × TrackStream))
    → AreOff track ps → AllByRecursion (λ p. states_of before p.0 ≡ []) ps
    → AllByRecursion (λ p. states_of (before ++ line ∷ []) p.0 ≡ []) ps
still-unseen before line track at [] off unseen = tt
still-unseen before line track at (p ∷ ps) off unseen = (
  states-off before line track p.0 at off.0 ∙ unseen.0,
  still-unseen before line track at ps off.1 unseen.1,
)

-- ---- the front of a track

-- Behind the first lines of a track, where so many are left: its last time and its open calls.
record OnTrack (t : TraceText) (before : List EventLine) (track : Track) (last calls lines : ℕ)
    (ps : List (Track × TrackStream)) : Type 0 where
  behind : Behind t before
  known : list_any (is_same track) (tracks_in before) ≡ true
  last_is : last_time before track ≡ last
  calls_are : open_calls before track ≡ calls
  entered : AreEntered (map (λ p. p.line.event) (states_of before track))
  wait : Wait before lines ps

-- what one more line makes of it
on-more : (t : TraceText) → KeepsFinding t (declarations_told t)
    → (before : List EventLine) (line : EventLine) (track : Track)
    (container : Container) (calls lines : ℕ) (ps : List (Track × TrackStream)) → Behind t before
    → IsLineOfTrack t before line track container
    → Opens (map (λ p. p.line.event) (states_of before track)) line.event calls
    → Wait (before ++ line ∷ []) lines ps
    → OnTrack t (before ++ line ∷ []) track line.time calls lines ps
on-more t finds before line track container calls lines ps behind is opens wait =
    let at = at-track t before line track container is in
    record {
      behind = behind-more t finds before line track container behind is;
      known = tracks-known before line track at;
      last_is = last-next before line track at;
      calls_are = ap open_behind (events-next before line track at) ∙ opens.now_open;
      entered = subst AreEntered (sym (events-next before line track at)) opens.entered;
      wait = wait;
    }

-- the line of an event of the track
event-wait : (t : TraceText) (before : List EventLine) (line : EventLine) (track : Track)
    (container : Container) (last calls lines : ℕ) (ps : List (Track × TrackStream))
    → OnTrack t before track last calls (suc lines) ps → IsLineOfTrack t before line track container
    → AreOff track ps → Wait (before ++ line ∷ []) lines ps
event-wait t before line track container last calls lines ps on is off =
    let at = at-track t before line track container is in
    let counted = states-counted before line is.state in
    let room = on.wait.states in
    let tracks = ap length (tracks-same before line track at on.known) in
    let few = on.wait.tracks in
    record {
      states = omega (arith, counted, room);
      tracks = omega (arith, tracks, few);
      unseen = still-unseen before line track at ps off on.wait.unseen;
    }

event-none : (t : TraceText) (before : List EventLine) (line : EventLine) (track : Track)
    (container : Container) (last calls lines : ℕ) (ps : List (Track × TrackStream))
    → length t.names.functions ≤ MAX_FUNCTIONS → OnTrack t before track last calls (suc lines) ps
    → IsLineOfTrack t before line track container → last ≤ line.time → (pops line.event ≡ true → 1 ≤ calls)
    → (pushes line.event ≡ true → calls + 1 ≤ MAX_OPEN_CALLS) → state_reason before line ≡ None
event-none t before line track container last calls lines ps few on is in_order some room =
    state-unrefused before line track is.finds (record {
      exists = on.behind.undestroyed track.container;
      in_order = omega (arith, last_is, in_order);
      some_open = λ e. let one = some e in omega (arith, calls_are, one);
      more_room = λ e. let below = room e in omega (arith, calls_are, below);
      states = omega (arith, states);
      tracks = λ new. absurd (true≢false (sym new ∙ ap not on.known));
      functions = new-function-room t before line few on.behind is.entered;
    })
  where
    last_is : last_time before track ≡ last
    last_is = on.last_is

    calls_are : open_calls before track ≡ calls
    calls_are = on.calls_are

    states : states_in before + suc lines + count_of_lines ps ≤ MAX_STATE_EVENTS
    states = on.wait.states

-- ---- the lines of a track

-- the line that makes it known, and those of its events
reset-is : (t : TraceText) (before : List EventLine) (p : Track × TrackStream) (n : ℕ) → FindsNames t before
    → (tells : TellsTrack t.names p)
    → IsLineOfTrack t before (reset_told p.0 p.1.start n) p.0 tells.container
reset-is t before p n names tells = record {
  state = refl;
  finds = finds-track t before (reset_told p.0 p.1.start n) p.0 names (tells.exists, tells.kind) refl refl;
  there = tells.there;
  in_time =
      let up = runs-order p.1.events p.1.start 0 p.1.end 0 tells.runs in
      let ends = tells.ends in
      omega (arith, up, ends);
  entered = tt;
}

leave-is : (t : TraceText) (before : List EventLine) (p : Track × TrackStream) (time n : ℕ)
    → FindsNames t before → (tells : TellsTrack t.names p) → time ≤ p.1.end
    → IsLineOfTrack t before (state_told t.names.functions p.0 (Leave time) n) p.0 tells.container
leave-is t before p time n names tells within = record {
  state = refl;
  finds = finds-track t before (state_told t.names.functions p.0 (Leave time) n) p.0 names
      (tells.exists, tells.kind) refl refl;
  there = tells.there;
  in_time = let ends = tells.ends in omega (arith, within, ends);
  entered = tt;
}

enter-is : (t : TraceText) (before : List EventLine) (p : Track × TrackStream) (f time n : ℕ)
    → FindsNames t before → (tells : TellsTrack t.names p) → time ≤ p.1.end
    → (1 ≤ f) × (f ≤ length t.names.functions)
    → IsLineOfTrack t before (state_told t.names.functions p.0 (Enter f time) n) p.0 tells.container
enter-is t before p f time n names tells within (low, high) = record {
  state = refl;
  finds = finds;
  there = tells.there;
  in_time = let ends = tells.ends in omega (arith, within, ends);
  entered = subst (λ o. IfSome o (λ text. is_member bytes_eq t.names.functions text ≡ true)) (sym text-is)
      (function-member t.names.functions f low high);
}
  where
    line : EventLine
    line = state_told t.names.functions p.0 (Enter f time) n

    finds : Finds before line p.0
    finds = finds-track t before line p.0 names (tells.exists, tells.kind) refl refl

    text : List ℕ
    text = text_of_function t.names.functions f

    text-is : entered_text (record { before = before; line = line }) ≡ Some text
    text-is = ap (option_map (λ kind. value_text before kind text)) finds.kind
        ∙ ap (λ text. Some text) (own-text t before p.0.kind text names)

-- ---- the lines of a track's events

-- what comes behind a track
abbrev Later : TraceText → List (Track × TrackStream) → Type 0
Later t ps = (before : List EventLine) (n : ℕ) → Behind t before → Wait before 0 ps
    → ArePassed t before (from n (flat_map (track_told t.names.functions) ps))

events-passed : (t : TraceText) → KeepsFinding t (declarations_told t)
    → length t.names.functions ≤ MAX_FUNCTIONS
    → (p : Track × TrackStream) → TellsTrack t.names p → (ps : List (Track × TrackStream)) → AreOff p.0 ps
    → Later t ps → (es : List Event) (before : List EventLine) (n last calls : ℕ)
    → Runs last calls es p.1.end 0 → All (IsNumbered (length t.names.functions)) es
    → OnTrack t before p.0 last calls (length es) ps
    → ArePassed t before (from n (map (state_told t.names.functions p.0) es
    ++ flat_map (track_told t.names.functions) ps))
events-passed t finds few p tells ps off next [] before n last calls runs numbered on =
    next before n on.behind on.wait
events-passed t finds few p tells ps off next (Enter f time ∷ es) before n last calls (order, room, later)
    numbered on =
    let line = state_told t.names.functions p.0 (Enter f time) n in
    let is = enter-is t before p f time n (names-behind t finds before on.behind) tells
    (runs-order es time (calls + 1) p.1.end 0 later)
    (All-head (IsNumbered (length t.names.functions)) (Enter f time) es numbered) in
    let opens = opens-pushed (map (λ p. p.line.event) (states_of before p.0)) events.PushState refl refl refl
    on.entered in
    passed-one t before line (from (n + 1) (map (state_told t.names.functions p.0) es
    ++ flat_map (track_told t.names.functions) ps))
    (event-none t before line p.0 tells.container last calls (length es) ps few on is order
    (λ e. absurd (true≢false (sym e))) (λ e. room))
    (events-passed t finds few p tells ps off next es (before ++ line ∷ []) (n + 1) time (calls + 1) later
    (All-tail (IsNumbered (length t.names.functions)) (Enter f time) es numbered)
    (on-more t finds before line p.0 tells.container (calls + 1) (length es) ps on.behind is
    (subst (λ n. Opens (map (λ p. p.line.event) (states_of before p.0)) events.PushState (n + 1))
    on.calls_are opens) (event-wait t before line p.0 tells.container last calls (length es) ps on is off)))
events-passed t finds few p tells ps off next (Leave time ∷ es) before n last calls (order, some, later)
    numbered on =
    let line = state_told t.names.functions p.0 (Leave time) n in
    let is = leave-is t before p time n (names-behind t finds before on.behind) tells
    (runs-order es time (calls - 1) p.1.end 0 later) in
    let calls_are = on.calls_are in
    let opens = opens-popped (map (λ p. p.line.event) (states_of before p.0)) events.PopState refl refl refl
    (omega (arith, some, calls_are)) in
    passed-one t before line (from (n + 1) (map (state_told t.names.functions p.0) es
    ++ flat_map (track_told t.names.functions) ps))
    (event-none t before line p.0 tells.container last calls (length es) ps few on is order
    (λ e. some) (λ e. absurd (true≢false (sym e))))
    (events-passed t finds few p tells ps off next es (before ++ line ∷ []) (n + 1) time (calls - 1) later
    (All-tail (IsNumbered (length t.names.functions)) (Leave time) es numbered)
    (on-more t finds before line p.0 tells.container (calls - 1) (length es) ps on.behind is
    (subst (λ n. Opens (map (λ p. p.line.event) (states_of before p.0)) events.PopState (n - 1))
    on.calls_are opens) (event-wait t before line p.0 tells.container last calls (length es) ps on is off)))

-- ---- the tracks, one after another

-- the line that makes a track known
reset-none : (t : TraceText) (before : List EventLine) (p : Track × TrackStream)
    (ps : List (Track × TrackStream)) (n : ℕ) → length t.names.functions ≤ MAX_FUNCTIONS
    → FindsNames t before → (tells : TellsTrack t.names p) → Behind t before → Wait before 0 (p ∷ ps)
    → state_reason before (reset_told p.0 p.1.start n) ≡ None
reset-none t before p ps n few names tells behind wait =
    state-unrefused before line p.0 is.finds (record {
      exists = behind.undestroyed p.0.container;
      in_order = omega (arith, started, starts);
      some_open = λ e. absurd (true≢false (sym e));
      more_room = λ e. absurd (true≢false (sym e));
      states = omega (arith, states);
      tracks = λ new. omega (arith, tracks);
      functions = new-function-room t before line few behind is.entered;
    })
  where
    line : EventLine
    line = reset_told p.0 p.1.start n

    is : IsLineOfTrack t before line p.0 tells.container
    is = reset-is t before p n names tells

    started : last_time before p.0 ≡ tells.container.start
    started = ap (λ ps. option_map_or (λ p. p.line.time) (last_or None ps)
        (container_start before p.0.container)) wait.unseen.0
        ∙ names.starts p.0.container tells.container tells.there

    starts : p.1.start ≡ tells.container.start
    starts = tells.starts

    states : states_in before + 0 + count_of_lines (p ∷ ps) ≤ MAX_STATE_EVENTS
    states = wait.states

    tracks : length (tracks_in before) + length (p ∷ ps) ≤ MAX_TRACKS
    tracks = wait.tracks

reset-wait : (t : TraceText) (before : List EventLine) (line : EventLine) (p : Track × TrackStream)
    (container : Container) (ps : List (Track × TrackStream)) → IsLineOfTrack t before line p.0 container
    → AreOff p.0 ps → Wait before 0 (p ∷ ps) → Wait (before ++ line ∷ []) (length p.1.events) ps
reset-wait t before line p container ps is off wait =
    let at = at-track t before line p.0 container is in
    let counted = states-counted before line is.state in
    let room = wait.states in
    let tracks = tracks-few before line p.0 at in
    let few = wait.tracks in
    record {
      states = omega (arith, counted, room);
      tracks = omega (arith, tracks, few);
      unseen = still-unseen before line p.0 at ps off wait.unseen.1;
    }

track-passed : (t : TraceText) → KeepsFinding t (declarations_told t)
    → length t.names.functions ≤ MAX_FUNCTIONS
    → (p : Track × TrackStream) → TellsTrack t.names p → (ps : List (Track × TrackStream)) → AreOff p.0 ps
    → Later t ps → Later t (p ∷ ps)
track-passed t finds few p tells ps off next before n behind wait =
    let names = names-behind t finds before behind in
    let line = reset_told p.0 p.1.start n in
    let is = reset-is t before p n names tells in
    passed-one t before line (from (n + 1) (map (state_told t.names.functions p.0) p.1.events
    ++ flat_map (track_told t.names.functions) ps))
    (reset-none t before p ps n few names tells behind wait)
    (events-passed t finds few p tells ps off next p.1.events (before ++ line ∷ []) (n + 1) p.1.start 0
    tells.runs tells.numbered
    (on-more t finds before line p.0 tells.container 0 (length p.1.events) ps behind is
    (opens-cleared (map (λ p. p.line.event) (states_of before p.0)) events.ResetState refl)
    (reset-wait t before line p tells.container ps is off wait)))

-- the lines of these tracks are let through where they wait
pub tracks-passed : (t : TraceText) → KeepsFinding t (declarations_told t)
    → length t.names.functions ≤ MAX_FUNCTIONS
    → (ps : List (Track × TrackStream)) → AllByRecursion (TellsTrack t.names) ps
    → AreApart is_same (map (λ p. p.0) ps)
    → Later t ps
tracks-passed t finds few [] tells others before n behind wait = passed-none t before behind
tracks-passed t finds few (p ∷ ps) tells others before n behind wait =
    track-passed t finds few p tells.0 ps (off-others p.0 ps others.0)
    (tracks-passed t finds few ps tells.1 others.1) before n behind wait
