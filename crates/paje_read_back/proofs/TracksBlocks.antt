-- The lines of one track in a canonical text, behind lines that find its names: which track each is
-- on, and how many calls are open behind them.
use Rattle.std.proofs.Common.{◌≡◌, ◌≢◌, ℕ, ◌+◌, ◌-◌, ◌≤◌, suc, List, [], ◌∷◌, ◌++◌, map, filter}
use Rattle.std.proofs.Common.{filter_map, fold, take, length, Bool, true, false, Some}
use Rattle.std.proofs.Common.{slice_get, refl, sym, ◌∙◌, ap, ap₂, arith}
use Rattle.std.specs.List.{AllByRecursion, cons_option}
use Rattle.std.specs.Option.{option_map_or}
use Rattle.std.proofs.lemmas.List.{append-nil, append_assoc, length-append}
use Rattle.std.proofs.lemmas.List.{length-take-le}
use Rattle.std.proofs.lemmas.List.Elements.{filter-append}
use Rattle.list_lemmas.proofs.Each.{all_always, all_map, all_mapped}
use Rattle.list_lemmas.proofs.Filters.{filter_every, filter_none}
use Rattle.list_lemmas.proofs.Fronts.{one_from_nonempty}
use Rattle.trace_base.specs.Info.{NamesExisting}
use Rattle.trace_base.specs.Stream.{IsLegal, stack_after, stack_step}
use Rattle.trace_base.specs.declared.names.Track.{Track}
use Rattle.trace_base.specs.declared.stream.Event.{Event}
use Rattle.trace_base.specs.declared.stream.Event.TheVariants.{Enter, Leave}
use Rattle.trace_base.specs.declared.stream.TrackStream.{TrackStream}
use Rattle.trace_base.specs.declared.text.TraceText.{TraceText}
use Rattle.paje_defs.specs.Refusals.{Placed, placed, placed_behind}
use Rattle.paje_defs.specs.declared.event_name.EventName.{EventName}
use Rattle.paje_defs.specs.declared.event_name.EventName.TheVariants as events
use Rattle.paje_lines.specs.EventLine.{EventLine}
use Rattle.paje_lines.specs.Examples.{Unnumbered, from}
use Rattle.paje_lines.specs.States.{is_on, is_same, open_behind, open_calls, states_of, track_at}
use Rattle.paje_lines.proofs.StreamCalls.{AreEntered, opens-cleared, opens-popped, opens-pushed}
use Rattle.paje_lines.proofs.Tracks.{tells_track}
use Rattle.paje_read_back.specs.ToldLines.{reset_told, state_told}
use Rattle.paje_read_back.proofs.FindsNames.{DeclaresNothing, FindsNames, KeepsFinding, finds-later}
use Rattle.paje_read_back.proofs.FindsNames.{finds-now, finds-track, found-track}
use Rattle.paje_read_back.proofs.NumberedLines.{all_numbered, placed-append}

-- ---- lines of a track

-- the line is one of this track, behind lines that find the names
pub record IsOn (t : TraceText) (track : Track) (line : EventLine) : Type 0 where
  pub nothing : DeclaresNothing line
  pub named : (before : List EventLine) → FindsNames t before
      → track_at (record { before = before; line = line }) ≡ Some track

reset-on : (t : TraceText) (track : Track) (start n : ℕ) → NamesExisting t.names track
    → IsOn t track (reset_told track start n)
reset-on t track start n exists = record {
  nothing = refl;
  named = λ before finds. found-track before (reset_told track start n) track
      (finds-track t before (reset_told track start n) track finds exists refl refl);
}

state-on : (t : TraceText) (functions : List (List ℕ)) (track : Track) (event : Event) (n : ℕ)
    → NamesExisting t.names track → IsOn t track (state_told functions track event n)
state-on t functions track (Enter f time) n exists = record {
  nothing = refl;
  named = λ before finds. found-track before (state_told functions track (Enter f time) n) track
      (finds-track t before (state_told functions track (Enter f time) n) track finds exists refl refl);
}
state-on t functions track (Leave time) n exists = record {
  nothing = refl;
  named = λ before finds. found-track before (state_told functions track (Leave time) n) track
      (finds-track t before (state_told functions track (Leave time) n) track finds exists refl refl);
}

-- the lines of a track's events
abbrev pub block : List (List ℕ) → Track → ℕ → List Event → List Unnumbered
block functions track start events = reset_told track start ∷ map (state_told functions track) events

pub block-on : (t : TraceText) (functions : List (List ℕ)) (track : Track) (start n : ℕ) (events : List Event)
    → NamesExisting t.names track → AllByRecursion (IsOn t track) (from n
    (block functions track start events))
block-on t functions track start n events exists = all_numbered (IsOn t track) n
    (block functions track start events) (
      λ number. reset-on t track start number exists,
      all_map (λ line. (number : ℕ) → IsOn t track (line number)) (state_told functions track) events
          (all_always (λ e. (number : ℕ) → IsOn t track (state_told functions track e number))
          (λ e number. state-on t functions track e number exists) events),
    )

-- each tells its track
pub each-on : (t : TraceText) (track : Track) (before lines : List EventLine) → KeepsFinding t before
    → AllByRecursion (IsOn t track) lines
    → AllByRecursion (λ p. track_at p ≡ Some track) (placed_behind before lines)
each-on t track before [] finds all = tt
each-on t track before (line ∷ lines) finds all = (
  all.0.named before (finds-now t before finds),
  each-on t track (before ++ line ∷ []) lines
      (finds-later t before (line ∷ []) finds (all.0.nothing, tt)) all.1,
)

pub tracks-told : (track : Track) (ps : List (Placed EventLine))
    → AllByRecursion (λ p. track_at p ≡ Some track) ps → filter_map track_at ps ≡ map (λ p. track) ps
tracks-told track [] all = refl
tracks-told track (p ∷ ps) all = ap₂ cons_option all.0 (tracks-told track ps all.1)

-- whether they are on a track
pub same-on : (other track : Track) (b : Bool) → is_same other track ≡ b → (ps : List (Placed EventLine))
    → AllByRecursion (λ p. track_at p ≡ Some track) ps → AllByRecursion (λ p. is_on other p ≡ b) ps
same-on other track b same ps all = all_mapped (λ p. track_at p ≡ Some track) (λ p. is_on other p ≡ b)
    (λ p is. ap (λ o. option_map_or (is_same other) o false) is ∙ same) ps all

-- ---- the state events of a track

states-behind : (track : Track) (before lines : List EventLine) → states_of (before ++ lines) track
    ≡ states_of before track ++ filter (is_on track) (placed_behind before lines)
states-behind track before lines = ap (filter (is_on track)) (placed-append [] before lines)
    ∙ filter-append (is_on track) (placed before) (placed_behind before lines)

-- lines that aren't on the track add none
pub states-kept_behind : (track : Track) (before lines : List EventLine)
    → AllByRecursion (λ p. is_on track p ≡ false) (placed_behind before lines)
    → states_of (before ++ lines) track ≡ states_of before track
states-kept_behind track before lines off = states-behind track before lines
    ∙ (ap (λ ps. states_of before track ++ ps) (filter_none (is_on track) (placed_behind before lines) off)
    ∙ append-nil (states_of before track))

-- where it has none before, they are those of its lines
states-of_block : (track : Track) (before lines : List EventLine) → states_of before track ≡ []
    → AllByRecursion (λ p. is_on track p ≡ true) (placed_behind before lines)
    → states_of (before ++ lines) track ≡ placed_behind before lines
states-of_block track before lines none on = states-behind track before lines
    ∙ ap₂ (λ xs ys. xs ++ ys) none (filter_every (is_on track) (placed_behind before lines) on)

-- ---- the events of a track

-- the event of the line of a stream's event
abbrev line_event : Event → EventName
line_event (Enter f time) = events.PushState
line_event (Leave time) = events.PopState

events-behind : (functions : List (List ℕ)) (track : Track) (es : List Event) (before : List EventLine)
    (n : ℕ)
    → map (λ p. p.line.event) (placed_behind before (from n (map (state_told functions track) es)))
    ≡ map line_event es
events-behind functions track [] before n = refl
events-behind functions track (Enter f time ∷ es) before n = ap (λ xs. events.PushState ∷ xs)
    (events-behind functions track es (before ++ state_told functions track (Enter f time) n ∷ []) (n + 1))
events-behind functions track (Leave time ∷ es) before n = ap (λ xs. events.PopState ∷ xs)
    (events-behind functions track es (before ++ state_told functions track (Leave time) n ∷ []) (n + 1))

-- ---- open calls

-- behind this call stack, each Leave closes a call that is open
abbrev pub Closes : List ℕ → List Event → Type 0
Closes stack [] = Unit {0}
Closes stack (Enter f time ∷ es) = Closes (stack_step stack (Enter f time)) es
Closes stack (Leave time ∷ es) = (1 ≤ length stack) × Closes (stack_step stack (Leave time)) es

closes_by : (es : List Event) (stack : List ℕ) → ((i time : ℕ) → slice_get es i ≡ Some (Leave time)
    → fold stack_step stack (take i es) ≢ []) → Closes stack es
closes_by [] stack closing = tt
closes_by (Enter f time ∷ es) stack closing = closes_by es (stack_step stack (Enter f time))
    (λ i t at. closing (suc i) t at)
closes_by (Leave time ∷ es) stack closing = (
  one_from_nonempty stack (closing 0 time refl),
  closes_by es (stack_step stack (Leave time)) (λ i t at. closing (suc i) t at),
)

pub legal_closes : (s : TrackStream) → IsLegal s → Closes [] s.events
unfolding stack_after
legal_closes s legal = closes_by s.events [] legal.closes_open

-- as many calls are open as the call stack has
open-behind : (es : List Event) (stack : List ℕ) (names : List EventName) → AreEntered names
    → open_behind names ≡ length stack → Closes stack es
    → open_behind (names ++ map line_event es) ≡ length (fold stack_step stack es)
open-behind [] stack names entered is closes = ap open_behind (append-nil names) ∙ is
open-behind (Enter f time ∷ es) stack names entered is closes =
    let opens = opens-pushed names events.PushState refl refl refl entered in
    ap open_behind (sym (append_assoc names (events.PushState ∷ []) (map line_event es)))
    ∙ open-behind es (stack_step stack (Enter f time)) (names ++ events.PushState ∷ []) opens.entered
    (opens.now_open ∙ omega (arith, is, length-append stack (f ∷ []))) closes
open-behind (Leave time ∷ es) stack names entered is closes =
    let some : 1 ≤ open_behind names = omega (arith, is, closes.0) in
    let opens = opens-popped names events.PopState refl refl refl some in
    ap open_behind (sym (append_assoc names (events.PopState ∷ []) (map line_event es)))
    ∙ open-behind es (stack_step stack (Leave time)) (names ++ events.PopState ∷ []) opens.entered
    (opens.now_open ∙ omega (arith, is, length-take-le (length stack - 1) stack (omega arith))) closes.1

-- behind these lines of a track, wherever they stand
pub open-calls_block : (lines before : List EventLine) (functions : List (List ℕ)) (track : Track)
    (start n : ℕ)
    (es : List Event)
    → states_of lines track ≡ placed_behind before (from n (block functions track start es))
    → Closes [] es → open_calls lines track ≡ length (stack_after es)
unfolding stack_after
open-calls_block lines before functions track start n es are closes =
    let opens = opens-cleared [] events.ResetState refl in
    ap (λ ps. open_behind (map (λ p. p.line.event) ps)) are
    ∙ (ap (λ names. open_behind (events.ResetState ∷ names))
    (events-behind functions track es (before ++ reset_told track start n ∷ []) (n + 1))
    ∙ open-behind es [] (events.ResetState ∷ []) opens.entered opens.now_open closes)

-- ---- the first lines of a track, behind lines that find its names

-- The lines of a track stand behind lines that find the names, none of them on the track.
pub record Starts (t : TraceText) (before : List EventLine) (track : Track) : Type 0 where
  pub finds : KeepsFinding t before
  pub exists : NamesExisting t.names track
  pub none : states_of before track ≡ []

pub states_so_far : (t : TraceText) (before : List EventLine) (functions : List (List ℕ)) (track : Track)
    (start n : ℕ) (es : List Event) → Starts t before track
    → states_of (before ++ from n (block functions track start es)) track
    ≡ placed_behind before (from n (block functions track start es))
states_so_far t before functions track start n es starts =
    let own : List EventLine = from n (block functions track start es) in
    states-of_block track before own starts.none (same-on track track true ((tells_track track track).1 refl)
    (placed_behind before own) (each-on t track before own starts.finds
    (block-on t functions track start n es starts.exists)))
