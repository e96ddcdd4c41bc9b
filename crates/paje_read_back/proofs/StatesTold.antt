-- What each track of a canonical trace has, beside its stream.
use Rattle.std.proofs.Common.{◌≡◌, ℕ, ◌+◌, ◌≤◌, ◌<◌, List, [], ◌∷◌}
use Rattle.std.proofs.Common.{filter_map}
use Rattle.std.proofs.Common.{IfSome, length, slice_get, Some, arith}
use Rattle.std.proofs.Common.{sum_by}
use Rattle.std.specs.Prelude.{All}
use Rattle.std.specs.List.{AllByRecursion, zip}
use Rattle.std.proofs.lemmas.List.Elements.{All-from_recursion, All-weaker, recursion_from_All}
use Rattle.std.proofs.lemmas.List.Sums.{sum_by-cons}
use Rattle.list_lemmas.proofs.All.{All-untold}
use Rattle.list_lemmas.proofs.Each.{all_both, all_left, all_mapped, all_parts, all_right}
use Rattle.trace_base.specs.Info.{NamesExisting}
use Rattle.trace_base.specs.Stream.{IsLegal}
use Rattle.trace_base.specs.declared.names.Container.{Container}
use Rattle.trace_base.specs.declared.names.Track.{Track}
use Rattle.trace_base.specs.declared.names.TraceNames.{TraceNames}
use Rattle.trace_base.specs.declared.stream.Event.{Event}
use Rattle.trace_base.specs.declared.stream.Event.TheVariants.{Enter, Leave}
use Rattle.trace_base.specs.declared.stream.TrackStream.{TrackStream}
use Rattle.trace_base.specs.declared.text.TraceText.{TraceText}
use Rattle.paje_legal.proofs.StreamRuns.{IsNumbered, Runs}
use Rattle.paje_print.specs.Canonical.{IsCanonical, SpansItsContainer, function_entered_by}
use Rattle.paje_print.specs.Canonical.{state_lines_of}
use Rattle.paje_read_back.proofs.FunctionNumbers.{IsOneOf, called_known}
use Rattle.paje_read_back.proofs.StatesOpen.{runs-from_legal}

-- ---- the numbers of functions

numbered-events : (functions : List (List ℕ)) (s : TrackStream)
    → AllByRecursion (IsOneOf functions) (filter_map function_entered_by s.events)
    → All (IsNumbered (length functions)) s.events
numbered-events functions s all =
    All-weaker (λ e. IfSome (function_entered_by e) (IsOneOf functions)) (IsNumbered (length functions)) by
    s.events (All-untold function_entered_by (IsOneOf functions) s.events
    (All-from_recursion (IsOneOf functions) (filter_map function_entered_by s.events) all))
  where
    by : (e : Event) → IfSome (function_entered_by e) (IsOneOf functions) → IsNumbered (length functions) e
    by (Enter f time) numbered = numbered
    by (Leave time) numbered = tt

abbrev AreNumbered : ℕ → TrackStream → Type 0
AreNumbered n s = All (IsNumbered n) s.events

streams-numbered : (t : TraceText) → IsCanonical t
    → AllByRecursion (AreNumbered (length t.names.functions)) t.tracks
streams-numbered t canonical =
    let functions = t.names.functions in
    all_mapped (λ s. AllByRecursion (IsOneOf functions) (filter_map function_entered_by s.events))
    (AreNumbered (length functions)) (numbered-events functions) t.tracks
    (all_parts (IsOneOf functions) (λ s. filter_map function_entered_by s.events) t.tracks
    (called_known t canonical))

-- ---- each track, beside its stream

-- its container, its state type and its events
pub record TellsTrack (names : TraceNames) (p : Track × TrackStream) : Type 0 where
  pub container : Container
  pub there : slice_get names.containers p.0.container ≡ Some container
  pub exists : p.0.container < length names.containers
  pub kind : p.0.kind < length names.kinds
  pub starts : p.1.start ≡ container.start
  pub ends : p.1.end ≡ container.end
  pub runs : Runs p.1.start 0 p.1.events p.1.end 0
  pub numbered : All (IsNumbered (length names.functions)) p.1.events

pub tells-tracks : (t : TraceText) → IsCanonical t
    → AllByRecursion (TellsTrack t.names) (zip t.names.tracks t.tracks)
tells-tracks t canonical = all_mapped Whole (TellsTrack t.names) tells (zip t.names.tracks t.tracks)
    (all_both (λ p. NamesExisting t.names p.0 × Stream p.1) (SpansItsContainer t.names)
    (zip t.names.tracks t.tracks) (all_both (λ p. NamesExisting t.names p.0) (λ p. Stream p.1)
    (zip t.names.tracks t.tracks)
    (all_left (NamesExisting t.names) t.names.tracks t.tracks
    (recursion_from_All (NamesExisting t.names) t.names.tracks canonical.existing))
    (all_right Stream t.names.tracks t.tracks (all_both IsLegal (AreNumbered (length t.names.functions))
    t.tracks
    (recursion_from_All IsLegal t.tracks canonical.legal) (streams-numbered t canonical))))
    (recursion_from_All (SpansItsContainer t.names) (zip t.names.tracks t.tracks) canonical.spans))
  where
    Stream : TrackStream → Type 0
    Stream s = IsLegal s × AreNumbered (length t.names.functions) s

    Whole : Track × TrackStream → Type 0
    Whole p = (NamesExisting t.names p.0 × Stream p.1) × SpansItsContainer t.names p

    tells : (p : Track × TrackStream) → Whole p → TellsTrack t.names p
    tells p ((exists, (legal, numbered)), (c, there, spans)) = record {
      container = c;
      there = there;
      exists = exists.0;
      kind = exists.1;
      starts = spans.0;
      ends = spans.1;
      runs = runs-from_legal p.1 legal;
      numbered = numbered;
    }

-- ---- how many lines there are

-- a line for each event, and one that makes the track known
abbrev pub count_of_lines : List (Track × TrackStream) → ℕ
count_of_lines [] = 0
count_of_lines (p ∷ ps) = length p.1.events + 1 + count_of_lines ps

pub lines-counted : (tracks : List Track) (streams : List TrackStream)
    → count_of_lines (zip tracks streams) ≤ sum_by state_lines_of streams
lines-counted [] streams = omega arith
lines-counted (u ∷ tracks) [] = omega arith
lines-counted (u ∷ tracks) (s ∷ streams) = omega (
  arith,
  lines-counted tracks streams,
  sum_by-cons state_lines_of s streams,
)

pub tracks-counted : (tracks : List Track) (streams : List TrackStream)
    → length (zip tracks streams) ≤ length tracks
tracks-counted [] streams = omega arith
tracks-counted (u ∷ tracks) [] = omega arith
tracks-counted (u ∷ tracks) (s ∷ streams) = omega (arith, tracks-counted tracks streams)
