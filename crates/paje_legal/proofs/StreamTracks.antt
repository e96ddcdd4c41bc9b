-- The tracks of a trace and their state events, after one more line and at the end.
use Rattle.std.proofs.Common.{◌≡◌, ℕ, ◌≤◌, ◌<◌, ◌⊎◌, Bool, true, false, cond}
use Rattle.std.proofs.Common.{[], ◌∷◌, ◌++◌, length, filter, filter_map, map, List, inl, inr, count_by}
use Rattle.std.proofs.Common.{Option, Some, None, IfSome, refl, ap, sym, subst, ◌∙◌, arith, append-nil, ◌==◌}
use Rattle.std.specs.Prelude.{All}
use Rattle.std.specs.List.{last_or}
use Rattle.std.specs.Option.{option_map, option_map_or, option_zip}
use Rattle.std.proofs.lemmas.Bool.{true≢false, eq-eqb}
use Rattle.std.proofs.lemmas.List.Elements.{All-filter, All-weaker, All-head, All-tail}
use Rattle.std.proofs.lemmas.List.Sums.{length-filter}
use Rattle.std.proofs.lemmas.Option.{none-some, same_Some}
use Rattle.list_lemmas.proofs.All.{All-last, All-unfilter, All-unmap, All-untold}
use Rattle.list_lemmas.proofs.Filters.{count_by-le, count_by-map}
use Rattle.list_lemmas.proofs.Sums.{each_below, greatest_from}
use Rattle.trace_base.specs.declared.names.Track.{Track}
use Rattle.paje_defs.specs.Refusals.{Placed, placed}
use Rattle.paje_defs.specs.declared.role.Role.TheVariants as roles
use Rattle.paje_lines.specs.EventLine.{EventLine, is_state_event, text_of}
use Rattle.paje_lines.specs.Types.{kind_named}
use Rattle.paje_lines.specs.Containers.{containers_in, container_named, container_start, greatest}
use Rattle.paje_lines.specs.States.{track_named, track_at, is_same, tracks_in, is_on, states_of, states_in}
use Rattle.paje_lines.specs.States.{last_time, container_tracks, latest}
use Rattle.std.proofs.lemmas.List.Elements.{All-from_recursion}
use Rattle.paje_lines.proofs.Containers.{each_in_time, start_in_time}
use Rattle.paje_lines.proofs.Tracks.{tells_track, tracks_exist}
use Rattle.paje_lines.specs.Types.{state_types}
use Rattle.paje_lines.proofs.MoreStates.{states-more}
use Rattle.paje_legal.proofs.StreamLists.{All-from_distinct}
use Rattle.paje_legal.proofs.StreamContainers.{All-placed, lines-placed}

-- ---- one track

-- what a state event's texts find
pub record Finds (before : List EventLine) (line : EventLine) (track : Track) : Type 0 where
  pub kind : kind_named before (text_of line roles.Kind) ≡ Some track.kind
  pub container : container_named before (text_of line roles.Holder) ≡ Some track.container

pub finds-both : (before : List EventLine) (line : EventLine) (track : Track)
    → track_named before line ≡ Some track → Finds before line track
finds-both before line track is = by (kind_named before (text_of line roles.Kind))
    (container_named before (text_of line roles.Holder)) refl refl is
  where
    by : (k c : Option ℕ) → kind_named before (text_of line roles.Kind) ≡ k
        → container_named before (text_of line roles.Holder) ≡ c
        → option_map (λ both. record { container = both.1; kind = both.0 }) (option_zip k c) ≡ Some track
        → Finds before line track
    by None c kind container is = absurd (none-some track is)
    by (Some k) None kind container is = absurd (none-some track is)
    by (Some k) (Some c) kind container is =
        let same : record { container = c; kind = k } ≡ track = same_Some _ track is in
        record {
          kind = kind ∙ ap (λ (t : Track). Some t.kind) same;
          container = container ∙ ap (λ (t : Track). Some t.container) same;
        }

-- a line on the track
pub record On (track : Track) (p : Placed EventLine) : Type 0 where
  pub state : is_state_event p.line.event ≡ true
  pub named : track_named p.before p.line ≡ Some track

pub on-track : (track : Track) (p : Placed EventLine) → is_on track p ≡ true → On track p
on-track track p on = by (is_state_event p.line.event) refl (track_named p.before p.line) refl on
  where
    by : (b : Bool) → is_state_event p.line.event ≡ b → (o : Option Track) → track_named p.before p.line ≡ o
        → option_map_or (is_same track) (cond b o None) false ≡ true → On track p
    by false state o named on = absurd (true≢false (sym on))
    by true state None named on = absurd (true≢false (sym on))
    by true state (Some t) named on = record {
      state = state;
      named = named ∙ ap (λ t. Some t) (sym ((tells_track track t).0 on));
    }

-- ---- the state events of a track

pub states-kept : (lines : List EventLine) (line : EventLine) (track : Track)
    → is_on track (record { before = lines; line = line }) ≡ false
    → states_of (lines ++ line ∷ []) track ≡ states_of lines track
states-kept lines line track off = states-more lines line track false off ∙ append-nil (states_of lines track)

-- a track has no state events, or what each track of the list has
none-or : (P : Track → Type 0) (track : Track) (ps : List (Placed EventLine))
    → All (λ p. IfSome (track_at p) P) ps → (filter (is_on track) ps ≡ []) ⊎ P track
none-or P track [] all = inl refl
none-or P track (p ∷ ps) all = by (track_at p) (All-head Told p ps all)
    (none-or P track ps (All-tail Told p ps all))
  where
    Told : Placed EventLine → Type 0
    Told p = IfSome (track_at p) P

    on : (t : Track) (b : Bool) → is_same track t ≡ b → P t → (filter (is_on track) ps ≡ []) ⊎ P track
        → (cond b (p ∷ filter (is_on track) ps) (filter (is_on track) ps) ≡ []) ⊎ P track
    on t true same holds later = inr (subst P (sym ((tells_track track t).0 same)) holds)
    on t false same holds later = later

    by : (o : Option Track) → IfSome o P → (filter (is_on track) ps ≡ []) ⊎ P track
        → (cond (option_map_or (is_same track) o false) (p ∷ filter (is_on track) ps)
        (filter (is_on track) ps) ≡ []) ⊎ P track
    by None holds later = later
    by (Some t) holds later = on t (is_same track t) refl holds later

states-none_or : (P : Track → Type 0) (lines : List EventLine) → All P (tracks_in lines) → (track : Track)
    → (states_of lines track ≡ []) ⊎ P track
states-none_or P lines all track = none-or P track (placed lines) (All-untold track_at P (placed lines)
    (All-from_distinct is_same (λ s t. (tells_track s t).0) P (filter_map track_at (placed lines)) all))

-- ---- the container of a track exists

abbrev pub Exists : List EventLine → Track → Type 0
Exists lines track = track.container < length (containers_in lines)

all-exist : (lines : List EventLine) → All (Exists lines) (tracks_in lines)
all-exist lines =
    All-weaker Both (Exists lines) (λ t both. both.0) (tracks_in lines)
    (All-from_recursion Both (tracks_in lines) (tracks_exist lines))
  where
    Both : Track → Type 0
    Both t = (t.container < length (containers_in lines)) × (t.kind < state_types lines)

-- a track whose container isn't there has no state events
pub states-none : (lines : List EventLine) (track : Track) → length (containers_in lines) ≤ track.container
    → states_of lines track ≡ []
states-none lines track past = by (states-none_or (Exists lines) lines (all-exist lines) track)
  where
    by : (states_of lines track ≡ []) ⊎ Exists lines track → states_of lines track ≡ []
    by (inl none) = none
    by (inr exists) = absurd (omega arith)

-- ---- the last times

last-within : (n start : ℕ) (o : Option (Placed EventLine)) → start ≤ n → IfSome o (λ p. p.line.time ≤ n)
    → option_map_or (λ p. p.line.time) o start ≤ n
last-within n start None within holds = within
last-within n start (Some p) within holds = holds

pub last_time-within : (lines : List EventLine) (track : Track) → last_time lines track ≤ greatest lines
last_time-within lines track = last-within (greatest lines) (container_start lines track.container)
    (last_or None (states_of lines track)) (start_in_time lines track.container)
    (All-last (λ p. p.line.time ≤ greatest lines) None (states_of lines track) tt
    (All-filter (is_on track) (λ p. p.line.time ≤ greatest lines) (placed lines)
    (All-placed (λ l. l.time ≤ greatest lines) lines
    (All-from_recursion (λ l. l.time ≤ greatest lines) lines (each_in_time lines)))))

-- that of each track is at most the container's latest
pub last_time-latest : (lines : List EventLine) (track : Track)
    → last_time lines track ≤ latest lines track.container
last_time-latest lines track = by (states-none_or Early lines tracks-early track)
  where
    c : ℕ
    c = track.container

    Early : Track → Type 0
    Early t = (t.container == c) ≡ true → last_time lines t ≤ latest lines c

    tracks-early : All Early (tracks_in lines)
    tracks-early = All-unfilter (λ t. last_time lines t ≤ latest lines c) (λ t. t.container == c)
        (tracks_in lines) (All-unmap (λ t. t ≤ latest lines c) (last_time lines) (container_tracks lines c)
        (All-from_recursion (λ t. t ≤ latest lines c)
        (map (last_time lines) (container_tracks lines c)) (each_below (container_start lines c)
        (map (last_time lines) (container_tracks lines c)))))

    start-early : container_start lines c ≤ latest lines c
    start-early = greatest_from (container_start lines c) (map (last_time lines) (container_tracks lines c))

    by : (states_of lines track ≡ []) ⊎ Early track → last_time lines track ≤ latest lines c
    by (inl none) = subst
        (λ ps. option_map_or (λ p. p.line.time) (last_or None ps) (container_start lines c) ≤ latest lines c)
        (sym none) start-early
    by (inr early) = early (eq-eqb c c refl)

-- ---- how many state events a track has

pub states-few : (lines : List EventLine) (track : Track) → length (states_of lines track) ≤ states_in lines
states-few lines track = omega (
  arith,
  length-filter (is_on track) (placed lines),
  count_by-le (is_on track) (λ p. is_state_event p.line.event) (λ p on. (on-track track p on).state)
      (placed lines),
  count_by-map (λ l. is_state_event l.event) (λ p. p.line) (placed lines),
  ap (count_by (λ l. is_state_event l.event)) (lines-placed lines),
)
