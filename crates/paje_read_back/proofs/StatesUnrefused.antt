-- No state line of a canonical text is refused, and no track has a state event after its container's end.
use Rattle.std.proofs.Common.{◌≡◌, ℕ, ◌≤◌, List, [], ◌∷◌, ◌++◌}
use Rattle.std.proofs.Common.{Some, None, length, slice_get, sym, ap, subst}
use Rattle.std.proofs.Common.{◌∙◌, arith, get_or, sum_by}
use Rattle.std.specs.Prelude.{All}
use Rattle.std.specs.List.{AllByRecursion, last_or, zip}
use Rattle.std.specs.Option.{option_map_or}
use Rattle.std.proofs.lemmas.Bool.{true≢false}
use Rattle.std.proofs.lemmas.List.{append-nil}
use Rattle.std.proofs.lemmas.List.Elements.{All-nil, recursion_from_All}
use Rattle.list_lemmas.proofs.Each.{all_at}
use Rattle.trace_base.specs.declared.limits.TheConstants.{MAX_STATE_EVENTS, MAX_TRACKS}
use Rattle.trace_base.specs.declared.names.Container.{Container}
use Rattle.trace_base.specs.declared.names.Track.{Track}
use Rattle.trace_base.specs.declared.stream.TrackStream.{TrackStream}
use Rattle.trace_base.specs.declared.text.TraceText.{TraceText}
use Rattle.paje_defs.specs.Refusals.{placed_behind}
use Rattle.paje_lines.specs.Containers.{container_start}
use Rattle.paje_lines.specs.Examples.{from}
use Rattle.paje_lines.specs.Reasons.{event_reason_at}
use Rattle.paje_lines.specs.States.{last_time, states_in, states_of, tracks_in}
use Rattle.paje_print.specs.Canonical.{IsCanonical, StartsBeforeItsEnd, state_lines_of}
use Rattle.paje_read_back.specs.ToldLines.{declarations_told, states_told}
use Rattle.paje_read_back.proofs.FindsNames.{DeclaresNothing, KeepsFinding}
use Rattle.paje_read_back.proofs.StatesBehind.{Behind}
use Rattle.paje_read_back.proofs.StatesBlocks.{ArePassed, Wait, tracks-passed}
use Rattle.paje_read_back.proofs.StatesMore.{AreMembers}
use Rattle.paje_read_back.proofs.StatesNone.{never-destroyed, no-functions, no-states, no-states_declared}
use Rattle.paje_read_back.proofs.StatesNone.{no-tracks, none-counted, nothing-destroyed}
use Rattle.paje_read_back.proofs.StatesTold.{count_of_lines, lines-counted, tells-tracks, tracks-counted}
use Rattle.paje_read_back.proofs.TracksSaid.{pairs_apart}

-- ---- behind the declarations

starts-in-time : (t : TraceText) → IsCanonical t → (i : ℕ) (c : Container)
    → slice_get t.names.containers i ≡ Some c → c.start ≤ c.end
starts-in-time t canonical i c there = all_at StartsBeforeItsEnd t.names.containers i c
    (recursion_from_All StartsBeforeItsEnd t.names.containers canonical.intervals) there

behind-declarations : (t : TraceText) → IsCanonical t → KeepsFinding t (declarations_told t)
    → Behind t (declarations_told t)
behind-declarations t canonical finds = record {
  rest = [];
  is_behind = sym (append-nil (declarations_told t));
  nothing = All-nil DeclaresNothing;
  undestroyed = never-destroyed (declarations_told t) (nothing-destroyed t);
  functions = subst (AreMembers t.names.functions)
      (sym (no-functions (declarations_told t) (no-states_declared t)))
      (λ q is. absurd (true≢false (sym is)));
  last_times = λ track c there.
      let begins = starts track.container c there in
      let last = ap (λ ps. option_map_or (λ p. p.line.time) (last_or None ps)
      (container_start (declarations_told t) track.container))
      (no-states (declarations_told t) (no-states_declared t) track) in
      let in_time = starts-in-time t canonical track.container c there in
      omega (arith, begins, last, in_time);
}
  where
    starts : (i : ℕ) (c : Container) → slice_get t.names.containers i ≡ Some c
        → container_start (declarations_told t) i ≡ c.start
    starts i c there = ap (λ lines. container_start lines i) (sym (append-nil (declarations_told t)))
        ∙ (finds [] (All-nil DeclaresNothing)).starts i c there

all_unseen : (t : TraceText) (ps : List (Track × TrackStream))
    → AllByRecursion (λ p. states_of (declarations_told t) p.0 ≡ []) ps
all_unseen t [] = tt
all_unseen t (p ∷ ps) = (no-states (declarations_told t) (no-states_declared t) p.0, all_unseen t ps)

tracks-wait : (t : TraceText) → IsCanonical t
    → Wait (declarations_told t) 0 (zip t.names.tracks t.tracks)
tracks-wait t canonical = record {
  states = omega (arith, none, counted, room);
  tracks = omega (arith, no_tracks, tracks, few);
  unseen = all_unseen t (zip t.names.tracks t.tracks);
}
  where
    none : states_in (declarations_told t) ≡ 0
    none = none-counted (declarations_told t) (no-states_declared t)

    counted : count_of_lines (zip t.names.tracks t.tracks) ≤ sum_by state_lines_of t.tracks
    counted = lines-counted t.names.tracks t.tracks

    room : sum_by state_lines_of t.tracks ≤ MAX_STATE_EVENTS
    room = canonical.limits.states

    no_tracks : length (tracks_in (declarations_told t)) ≡ 0
    no_tracks = ap length (no-tracks (declarations_told t) (no-states_declared t))

    tracks : length (zip t.names.tracks t.tracks) ≤ length t.names.tracks
    tracks = tracks-counted t.names.tracks t.tracks

    few : length t.names.tracks ≤ MAX_TRACKS
    few = canonical.limits.tracks

-- ---- the state lines

-- Their numbers don't matter.
states-passed : (t : TraceText) → IsCanonical t → KeepsFinding t (declarations_told t) → (n : ℕ)
    → ArePassed t (declarations_told t) (from n (states_told t))
states-passed t canonical finds n = tracks-passed t finds canonical.limits.functions
    (zip t.names.tracks t.tracks) (tells-tracks t canonical) (pairs_apart t canonical)
    (declarations_told t) n (behind-declarations t canonical finds) (tracks-wait t canonical)

-- none of them is refused
pub states-unrefused : (t : TraceText) → IsCanonical t → KeepsFinding t (declarations_told t) → (n : ℕ)
    → All (λ p. event_reason_at p ≡ None) (placed_behind (declarations_told t) (from n (states_told t)))
states-unrefused t canonical finds n = (states-passed t canonical finds n).unrefused

-- ---- the last times

-- so are those of the tracks that the state lines make known
pub last-times_known : (t : TraceText) → IsCanonical t → KeepsFinding t (declarations_told t) → (n : ℕ)
    → All (λ track. (c : Container) → slice_get t.names.containers track.container ≡ Some c
    → last_time (declarations_told t ++ from n (states_told t)) track ≤ c.end)
    (tracks_in (declarations_told t ++ from n (states_told t)))
last-times_known t canonical finds n k track within = (states-passed t canonical finds n).behind.last_times
    (get_or (tracks_in (declarations_told t ++ from n (states_told t))) k track)
