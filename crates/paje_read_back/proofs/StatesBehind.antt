-- What holds behind the declarations of a canonical text and some of its state lines.
use Rattle.std.proofs.Common.{◌≡◌, ℕ, ◌-◌, ◌≤◌, ◌<◌, List, [], ◌∷◌, ◌++◌, Bool, true, false, not, cond}
use Rattle.std.proofs.Common.{Option, Some, None, IfSome, filter, get_or, length, map, slice_get}
use Rattle.std.proofs.Common.{refl, sym, ap, ap₂, subst, ◌∙◌, arith, ◌==◌}
use Rattle.std.specs.Prelude.{All}
use Rattle.std.specs.List.{last_or, list_any}
use Rattle.std.specs.Option.{option_map_or, option_or}
use Rattle.std.specs.Set.{is_member}
use Rattle.std.specs.Str.{bytes_eq}
use Rattle.std.proofs.lemmas.Bool.{and_left, not-true, true≢false}
use Rattle.std.proofs.lemmas.List.{append_assoc}
use Rattle.std.proofs.lemmas.List.Elements.{All-push}
use Rattle.std.proofs.lemmas.List.Folds.{list_any_at}
use Rattle.std.proofs.lemmas.Option.{same_Some, unwrap_or-slice_get}
use Rattle.std.proofs.lemmas.Slice.Eq.{bytes_eq-Decides}
use Rattle.trace_base.specs.declared.limits.TheConstants.{MAX_FUNCTIONS}
use Rattle.trace_base.specs.declared.names.Container.{Container}
use Rattle.trace_base.specs.declared.names.Track.{Track}
use Rattle.trace_base.specs.declared.text.TraceText.{TraceText}
use Rattle.paje_lines.specs.Containers.{container_start, destruction}
use Rattle.paje_lines.specs.EventLine.{EventLine, destroys, is_state_event}
use Rattle.paje_lines.specs.Reasons.{is_new_function}
use Rattle.paje_lines.specs.States.{entered_text, functions_entered, is_same, last_time, track_at}
use Rattle.paje_lines.specs.Values.{text_among, value_text}
use Rattle.paje_lines.proofs.Containers.{destruction-more}
use Rattle.paje_legal.proofs.StreamTracks.{Finds}
use Rattle.paje_lines.proofs.Tracks.{tells_track}
use Rattle.paje_print.specs.CanonicalText.{text_of_function}
use Rattle.paje_read_back.specs.ToldLines.{declarations_told}
use Rattle.paje_read_back.proofs.FindsNames.{DeclaresNothing, EndsInTime, FindsNames, KeepsFinding}
use Rattle.paje_read_back.proofs.FindsNames.{found-track}
use Rattle.paje_read_back.proofs.LineKinds.{state_facts}
use Rattle.paje_read_back.proofs.StatesMore.{AreMembers, functions-room, last-next, members-more, states-off}
use Rattle.paje_read_back.proofs.StatesMore.{told-track}

-- no track has a state event after the end of its container
abbrev EndInTime : TraceText → List EventLine → Type 0
EndInTime t lines = (track : Track) → EndsInTime t lines track

pub record Behind (t : TraceText) (before : List EventLine) : Type 0 where
  -- the lines behind the declarations
  pub rest : List EventLine
  pub is_behind : before ≡ declarations_told t ++ rest
  pub nothing : All DeclaresNothing rest
  pub undestroyed : (container : ℕ) → destruction before container ≡ None
  pub functions : AreMembers t.names.functions (functions_entered before)
  pub last_times : EndInTime t before

pub names-behind : (t : TraceText) → KeepsFinding t (declarations_told t) → (before : List EventLine)
    → Behind t before
    → FindsNames t before
names-behind t finds before behind =
    subst (FindsNames t) (sym behind.is_behind) (finds behind.rest behind.nothing)

-- ---- one more state line

-- a state line of a track in this container
pub record IsLineOfTrack (t : TraceText) (before : List EventLine) (line : EventLine) (track : Track)
    (container : Container) : Type 0 where
  pub state : is_state_event line.event ≡ true
  pub finds : Finds before line track
  pub there : slice_get t.names.containers track.container ≡ Some container
  pub in_time : line.time ≤ container.end
  pub entered : IfSome (entered_text (record { before = before; line = line }))
      (λ text. is_member bytes_eq t.names.functions text ≡ true)

pub at-track : (t : TraceText) (before : List EventLine) (line : EventLine) (track : Track)
    (container : Container) → IsLineOfTrack t before line track container
    → track_at (record { before = before; line = line }) ≡ Some track
at-track t before line track container is =
    told-track before line track is.state (found-track before line track is.finds)

-- how the last times stay in time
last-more : (t : TraceText) (before : List EventLine) (line : EventLine) (track : Track)
    (container : Container) → FindsNames t before → FindsNames t (before ++ line ∷ [])
    → IsLineOfTrack t before line track container → EndInTime t before → EndInTime t (before ++ line ∷ [])
last-more t before line track container names later is in_time u c there = by (is_same u track) refl
  where
    at : track_at (record { before = before; line = line }) ≡ Some track
    at = at-track t before line track container is

    start : container_start (before ++ line ∷ []) u.container ≡ container_start before u.container
    start = later.starts u.container c there ∙ sym (names.starts u.container c there)

    by : (b : Bool) → is_same u track ≡ b → last_time (before ++ line ∷ []) u ≤ c.end
    by true e =
        let same : u ≡ track = (tells_track u track).0 e in
        let same_end : container ≡ c = same_Some container c
        (sym is.there ∙ (ap (λ u. slice_get t.names.containers u.container) (sym same) ∙ there)) in
        let last : last_time (before ++ line ∷ []) u ≡ line.time =
        ap (last_time (before ++ line ∷ [])) same ∙ last-next before line track at in
        let ends : container.end ≡ c.end = ap (λ c. c.end) same_end in
        let within = is.in_time in
        omega (arith, last, ends, within)
    by false e =
        let kept : last_time (before ++ line ∷ []) u ≡ last_time before u =
        ap₂ (λ ps start. option_map_or (λ p. p.line.time) (last_or None ps) start)
        (states-off before line track u at e) start in
        let within = in_time u c there in
        omega (arith, kept, within)

pub behind-more : (t : TraceText) → KeepsFinding t (declarations_told t)
    → (before : List EventLine) (line : EventLine)
    (track : Track) (container : Container) → Behind t before → IsLineOfTrack t before line track container
    → Behind t (before ++ line ∷ [])
behind-more t finds before line track container behind is = record {
  rest = rest;
  is_behind = is_behind;
  nothing = nothing;
  undestroyed = λ c. destruction-more before line c
      ∙ ap₂ (λ o b. option_or o (cond b (Some line) None)) (behind.undestroyed c)
      (and_left (destroys line.event) _ (state_facts line.event is.state).2);
  functions = members-more t.names.functions before line behind.functions is.entered;
  last_times = last-more t before line track container (names-behind t finds before behind)
      (subst (FindsNames t) (sym is_behind) (finds rest nothing)) is behind.last_times;
}
  where
    rest : List EventLine
    rest = behind.rest ++ line ∷ []

    is_behind : before ++ line ∷ [] ≡ declarations_told t ++ rest
    is_behind = ap (λ before. before ++ line ∷ []) behind.is_behind
        ∙ append_assoc (declarations_told t) behind.rest (line ∷ [])

    nothing : All DeclaresNothing rest
    nothing = All-push DeclaresNothing behind.rest line behind.nothing
        (state_facts line.event is.state).0

-- ---- functions

-- a text stands for itself, as no values are declared
pub own-text : (t : TraceText) (before : List EventLine) (kind : ℕ) (text : List ℕ) → FindsNames t before
    → value_text before kind text ≡ text
own-text t before kind text names =
    ap (λ values. text_among (map (λ v. v.entity) (filter (λ v. v.kind == kind) values)) text) names.no_values

pub function-member : (functions : List (List ℕ)) (f : ℕ) → 1 ≤ f → f ≤ length functions
    → is_member bytes_eq functions (text_of_function functions f) ≡ true
function-member functions f low high =
    list_any_at (bytes_eq (text_of_function functions f)) functions (f - 1) [] (omega (arith, low, high))
    ((bytes_eq-Decides (text_of_function functions f) (get_or functions (f - 1) [])).1
    (unwrap_or-slice_get functions (f - 1) []))

-- a function that isn't entered yet leaves room
pub new-function-room : (t : TraceText) (before : List EventLine) (line : EventLine)
    → length t.names.functions ≤ MAX_FUNCTIONS → Behind t before
    → IfSome (entered_text (record { before = before; line = line }))
    (λ text. is_member bytes_eq t.names.functions text ≡ true) → is_new_function before line ≡ true
    → length (functions_entered before) < MAX_FUNCTIONS
new-function-room t before line few behind entered new =
    by (entered_text (record { before = before; line = line })) entered new
  where
    by : (o : Option (List ℕ)) → IfSome o (λ text. is_member bytes_eq t.names.functions text ≡ true)
        → option_map_or (λ text. not (list_any (bytes_eq text) (functions_entered before))) o false ≡ true
        → length (functions_entered before) < MAX_FUNCTIONS
    by None entered new = absurd (true≢false (sym new))
    by (Some text) entered new =
        let room = functions-room t.names.functions before text behind.functions entered
        (not-true (list_any (bytes_eq text) (functions_entered before)) new) in
        omega (arith, few, room)
