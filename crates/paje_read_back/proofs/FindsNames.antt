-- What the texts that stand for a trace's names find among lines, and the track that a line names.
use Rattle.std.specs.Prelude.{◌≡◌, ℕ, ◌<◌, ◌||◌, Bool, not, true, List, [], length, slice_get, Some}
use Rattle.trace_base.specs.declared.names.Container.{Container}
use Rattle.trace_base.specs.declared.text.TraceText.{TraceText}
use Rattle.paje_defs.specs.declared.event_name.EventName.{EventName}
use Rattle.paje_lines.specs.Containers.{container_end, container_named, container_start}
use Rattle.paje_lines.specs.EventLine.{EventLine, creates, defines_value, is_link_type, is_plain_type}
use Rattle.paje_lines.specs.Types.{kind_named, link_kind_named}
use Rattle.paje_lines.specs.Values.{values_in}
use Rattle.paje_print.specs.WrittenNumbers.{container_alias, link_type_alias, state_type_alias}
use Rattle.std.specs.List.{All, AllByRecursion}
use Rattle.std.proofs.Common.{◌++◌, subst, sym}
use Rattle.std.proofs.lemmas.List.{append-nil, append_assoc}
use Rattle.std.proofs.lemmas.List.Elements.{All-append, All-from_recursion, All-nil}
use Rattle.std.proofs.Common.{◌∙◌, ◌≤◌, ap, ap₂}
use Rattle.std.specs.Option.{option_map, option_zip}
use Rattle.trace_base.specs.Info.{NamesExisting}
use Rattle.trace_base.specs.declared.names.Track.{Track}
use Rattle.paje_defs.specs.declared.role.Role.TheVariants as roles
use Rattle.paje_lines.specs.EventLine.{text_of}
use Rattle.paje_lines.specs.States.{last_time, track_named}
use Rattle.paje_legal.proofs.StreamTracks.{Finds}

abbrev pub declares_nothing : EventName → Bool
declares_nothing event = not (is_plain_type event || (is_link_type event || (defines_value event
    || creates event)))

abbrev pub DeclaresNothing : EventLine → Type 0
DeclaresNothing line = declares_nothing line.event ≡ true

-- each alias finds what it stands for, behind these lines
pub record FindsNames (t : TraceText) (before : List EventLine) : Type 0 where
  pub kinds : (k : ℕ) → k < length t.names.kinds → kind_named before (state_type_alias k) ≡ Some k
  pub link_kinds : (k : ℕ) → k < length t.names.link_kinds
      → link_kind_named before (link_type_alias k) ≡ Some k
  pub containers : (i : ℕ) → i < length t.names.containers
      → container_named before (container_alias i) ≡ Some i
  pub starts : (i : ℕ) (c : Container) → slice_get t.names.containers i ≡ Some c
      → container_start before i ≡ c.start
  pub no_values : values_in before ≡ []

-- each container ends as in the trace
abbrev pub EndsAsTold : TraceText → List EventLine → Type 0
EndsAsTold t lines = (i : ℕ) (c : Container) → slice_get t.names.containers i ≡ Some c
    → container_end lines i ≡ c.end

-- ---- behind these lines and whichever follow that declare nothing

abbrev pub KeepsFinding : TraceText → List EventLine → Type 0
KeepsFinding t before = (rest : List EventLine) → All DeclaresNothing rest → FindsNames t (before ++ rest)

pub finds-now : (t : TraceText) (before : List EventLine) → KeepsFinding t before → FindsNames t before
finds-now t before finds = subst (FindsNames t) (append-nil before) (finds [] (All-nil DeclaresNothing))

pub finds-later : (t : TraceText) (before lines : List EventLine) → KeepsFinding t before
    → AllByRecursion DeclaresNothing lines → KeepsFinding t (before ++ lines)
finds-later t before lines finds nothing rest all = subst (FindsNames t)
    (sym (append_assoc before lines rest))
    (finds (lines ++ rest) (All-append DeclaresNothing lines rest
    (All-from_recursion DeclaresNothing lines nothing) all))

-- ---- the track of a line

abbrev pair_of : ℕ × ℕ → Track
pair_of both = record { container = both.1; kind = both.0 }

pub found-track : (before : List EventLine) (line : EventLine) (track : Track) → Finds before line track
    → track_named before line ≡ Some track
found-track before line track finds =
    ap₂ (λ kind container. option_map pair_of (option_zip kind container)) finds.kind finds.container

pub finds-track : (t : TraceText) (before : List EventLine) (line : EventLine) (track : Track)
    → FindsNames t before → NamesExisting t.names track
    → text_of line roles.Kind ≡ state_type_alias track.kind
    → text_of line roles.Holder ≡ container_alias track.container → Finds before line track
finds-track t before line track names exists kind holder = record {
  kind = ap (kind_named before) kind ∙ names.kinds track.kind exists.1;
  container = ap (container_named before) holder ∙ names.containers track.container exists.0;
}

-- no state event of the track comes behind the end of its container
abbrev pub EndsInTime : TraceText → List EventLine → Track → Type 0
EndsInTime t before track = (c : Container) → slice_get t.names.containers track.container ≡ Some c
    → last_time before track ≤ c.end
