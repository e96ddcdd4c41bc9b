-- Which traces have a canonical text.
use Rattle.std.specs.Prelude.{◌≡◌, ℕ, ◌+◌, ◌^◌, ◌≤◌, ◌<◌, ◌==◌, List, ◌++◌, map, filter_map, fold, drop}
use Rattle.std.specs.Prelude.{flat_map, max, Bool, length, slice_get, All, codes}
use Rattle.std.specs.Prelude.{sum_by, Option, Some, None, false}
use Rattle.std.specs.Prelude.{IsUtf8, nat_eq, if◌then◌else◌}
use Rattle.std.specs.List.{AllByRecursion, range_with_len, zip}
use Rattle.trace_base.specs.Info.{NamesExisting, Spans}
use Rattle.trace_base.specs.Stream.{IsLegal}
use Rattle.trace_base.specs.declared.limits.TheConstants.{MAX_CONTAINERS, MAX_FUNCTIONS, MAX_LINK_EVENTS}
use Rattle.trace_base.specs.declared.limits.TheConstants.{MAX_STATE_EVENTS, MAX_TEXT, MAX_TIME}
use Rattle.trace_base.specs.declared.limits.TheConstants.{MAX_TRACE_LINE}
use Rattle.trace_base.specs.declared.limits.TheConstants.{MAX_TRACKS, MAX_TYPES}
use Rattle.trace_base.specs.declared.messages.LinkEvent.{LinkEvent}
use Rattle.trace_base.specs.declared.names.Container.{Container}
use Rattle.trace_base.specs.declared.names.Track.{Track}
use Rattle.trace_base.specs.declared.names.TraceNames.{TraceNames}
use Rattle.trace_base.specs.declared.stream.Event.{Event}
use Rattle.trace_base.specs.declared.stream.Event.TheVariants.{Enter, Leave}
use Rattle.trace_base.specs.declared.stream.TrackStream.{TrackStream}
use Rattle.trace_base.specs.declared.text.TraceText.{TraceText}
use Rattle.paje_lines.specs.Found.{distinct_by}
use Rattle.paje_print.specs.CanonicalText.{canonical_lines, canonical_text}
use Rattle.paje_print.specs.WrittenWords.{WrittenLine, line_text}

-- ---- texts

abbrev pub Lacks : ℕ → List ℕ → Type 0
Lacks byte text = AllByRecursion (λ b. (b == byte) ≡ false) text

-- it can stand in quotes on a line
pub record IsQuotable (text : List ℕ) : Type 0 where
  pub utf8 : IsUtf8 text
  pub no_quote : Lacks 34 text
  pub no_newline : Lacks 10 text

-- the names, the texts of functions and the keys
abbrev pub texts_in : TraceText → List (List ℕ)
texts_in t = map (λ c. c.name) t.names.containers ++ t.names.kinds ++ t.names.link_kinds ++ t.names.functions
    ++ map (λ l. l.key) t.links

-- ---- containers, tracks and link events

-- the root is named `0`, and exists from 0 to the greatest time
abbrev pub root_until : ℕ → Container
root_until end = record { name = codes "0"; start = 0; end = end }

abbrev pub StartsBeforeItsEnd : Container → Type 0
StartsBeforeItsEnd c = c.start ≤ c.end

-- it isn't the root's
abbrev pub IsBelowRoot : Track → Type 0
IsBelowRoot track = 0 < track.container

-- the stream has the start and the end of its track's container
abbrev pub SpansItsContainer : TraceNames → Track × TrackStream → Type 0
SpansItsContainer names p = (c : Container) × (slice_get names.containers p.0.container ≡ Some c)
    × Spans p.1 c

-- the link event's container and link type exist
abbrev pub LinksExisting : TraceNames → LinkEvent → Type 0
LinksExisting names l = (l.container < length names.containers) × (l.kind < length names.link_kinds)

-- at an end the size is 0, at a start it is below 2 ^ 63
abbrev pub size_limit : Bool → ℕ
size_limit starts = if starts then 2 ^ 63 else 1

abbrev pub HasCanonicalSize : LinkEvent → Type 0
HasCanonicalSize l = l.size < size_limit l.starts

-- ---- functions

abbrev pub function_entered_by : Event → Option ℕ
function_entered_by (Enter f time) = Some f
function_entered_by (Leave time) = None

-- the numbers of the functions that are called, over the tracks one after another
abbrev pub functions_called : TraceText → List ℕ
functions_called t = flat_map (λ s. filter_map function_entered_by s.events) t.tracks

-- ---- times

-- the ends of the containers below the root, and the times of the link events
abbrev pub last_moments : TraceText → List ℕ
last_moments t = map (λ c. c.end) (drop 1 t.names.containers) ++ map (λ l. l.time) t.links

-- ---- limits

-- a line for each event of a track, and one that makes the track known
abbrev pub state_lines_of : TrackStream → ℕ
state_lines_of s = length s.events + 1

abbrev pub FitsOnLine : WrittenLine → Type 0
FitsOnLine line = length (line_text line) ≤ MAX_TRACE_LINE

-- The text keeps every limit of a trace. It declares one type of containers.
pub record KeepsLimits (t : TraceText) : Type 0 where
  pub time : t.names.end ≤ MAX_TIME
  pub containers : length t.names.containers ≤ MAX_CONTAINERS
  pub types : 1 + length t.names.kinds + length t.names.link_kinds ≤ MAX_TYPES
  pub tracks : length t.names.tracks ≤ MAX_TRACKS
  pub functions : length t.names.functions ≤ MAX_FUNCTIONS
  pub states : sum_by state_lines_of t.tracks ≤ MAX_STATE_EVENTS
  pub links : length t.links ≤ MAX_LINK_EVENTS
  pub lines : All FitsOnLine (canonical_lines t)
  pub text : length (canonical_text t) ≤ MAX_TEXT

-- ---- the trace

-- It has a canonical text, from which it is read again.
pub record IsCanonical (t : TraceText) : Type 0 where
  pub texts : All IsQuotable (texts_in t)
  pub root : slice_get t.names.containers 0 ≡ Some (root_until t.names.end)
  pub intervals : All StartsBeforeItsEnd t.names.containers
  -- one stream for each track
  pub streams : length t.tracks ≡ length t.names.tracks
  pub existing : All (NamesExisting t.names) t.names.tracks
  pub below_root : All IsBelowRoot t.names.tracks
  -- no two tracks are the same pair of a container and a kind
  pub distinct : (i j : ℕ) (track : Track) → slice_get t.names.tracks i ≡ Some track
      → slice_get t.names.tracks j ≡ Some track → i ≡ j
  pub spans : All (SpansItsContainer t.names) (zip t.names.tracks t.tracks)
  pub legal : All IsLegal t.tracks
  -- no two functions have the same text
  pub different : (i j : ℕ) (text : List ℕ) → slice_get t.names.functions i ≡ Some text
      → slice_get t.names.functions j ≡ Some text → i ≡ j
  -- functions are numbered in the order of their first calls, and each is called
  pub numbered : distinct_by nat_eq (functions_called t) ≡ range_with_len 1 (length t.names.functions)
  pub linked : All (LinksExisting t.names) t.links
  pub sizes : All HasCanonicalSize t.links
  pub end : t.names.end ≡ fold max 0 (last_moments t)
  pub limits : KeepsLimits t
