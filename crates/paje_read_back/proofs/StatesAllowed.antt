-- A state line that nothing on its track stops isn't refused.
use Rattle.std.proofs.Common.{◌≡◌, ℕ, ◌+◌, ◌≤◌, ◌<◌, ◌&&◌, ◌==◌, List, [], ◌∷◌, true, not, cond}
use Rattle.std.proofs.Common.{Option, Some, None, is_some, is_none, nat_le, nat_lt, ap, ◌∙◌, arith}
use Rattle.std.specs.Option.{option_and_then, option_map}
use Rattle.std.proofs.lemmas.Bool.{eqb-true, false_from_ne_true, leb-true, ltb-true}
use Rattle.std.proofs.lemmas.Option.{none-some}
use Rattle.list_lemmas.proofs.Booleans.{and_apart}
use Rattle.list_lemmas.proofs.Options.{cond_none_if}
use Rattle.trace_base.specs.declared.limits.TheConstants.{MAX_FUNCTIONS, MAX_OPEN_CALLS, MAX_STATE_EVENTS}
use Rattle.trace_base.specs.declared.limits.TheConstants.{MAX_TRACKS}
use Rattle.trace_base.specs.declared.names.Track.{Track}
use Rattle.paje_defs.specs.Refusals.{when}
use Rattle.paje_defs.specs.declared.role.Role.TheVariants as roles
use Rattle.paje_lines.specs.EventLine.{EventLine, pops, pushes, text_of}
use Rattle.paje_lines.specs.Reasons.{Met, back_reason, container_reason, destroyed_reason, full}
use Rattle.paje_lines.specs.Reasons.{met}
use Rattle.paje_lines.specs.Reasons.{met_reason, sort_reason, state_reason, type_reason}
use Rattle.paje_lines.specs.States.{track_named}
use Rattle.paje_lines.specs.Types.{DeclaredType, state_number, type_named}
use Rattle.paje_lines.specs.declared.model_fault.ModelFault.TheVariants.{Deep, EmptyPop, TimeBack}
use Rattle.paje_lines.specs.declared.model_fault.ModelFault.TheVariants.{UnknownEntity, WrongKind}
use Rattle.paje_lines.specs.declared.what.What.TheVariants as what
use Rattle.paje_legal.proofs.StreamTracks.{Finds}
use Rattle.paje_read_back.proofs.FindsNames.{found-track}
use Rattle.paje_read_back.proofs.NoReasons.{all_none, not-full, unless}

-- ---- on its track

-- nothing that a line meets on its track stops it
pub record IsLet (line : EventLine) (m : Met) : Type 0 where
  pub exists : m.destruction ≡ None
  pub in_order : m.last_time ≤ line.time
  pub some_open : pops line.event ≡ true → 1 ≤ m.open_calls
  pub more_room : pushes line.event ≡ true → m.open_calls + 1 ≤ MAX_OPEN_CALLS
  pub states : m.states < MAX_STATE_EVENTS
  pub tracks : m.is_new_track ≡ true → m.tracks < MAX_TRACKS
  pub functions : m.is_new_function ≡ true → m.functions < MAX_FUNCTIONS

met-none : (line : EventLine) (m : Met) → IsLet line m → met_reason line m ≡ None
met-none line m lets = all_none (destroyed_reason m.destruction
    ∷ back_reason line.time m.last_time
    ∷ when (pops line.event && (m.open_calls == 0)) EmptyPop
    ∷ when (pushes line.event && nat_le MAX_OPEN_CALLS m.open_calls) Deep
    ∷ full what.StateEvents m.states
    ∷ cond m.is_new_track (full what.Tracks m.tracks) None
    ∷ cond m.is_new_function (full what.Functions m.functions) None ∷ []) (
      ap destroyed_reason lets.exists,
      (
        in_time,
        (
          some,
          (
            room,
            (
              not-full what.StateEvents m.states lets.states,
              (tracks, (functions, tt)),
            ),
          ),
        ),
      ),
    )
  where
    in_time : back_reason line.time m.last_time ≡ None
    in_time = unless (nat_lt line.time m.last_time) (TimeBack m.last_time)
        (false_from_ne_true (nat_lt line.time m.last_time) (λ e.
        let back = ltb-true line.time m.last_time e in
        let order = lets.in_order in absurd (omega (arith, back, order))))

    some : when (pops line.event && (m.open_calls == 0)) EmptyPop ≡ None
    some = unless (pops line.event && (m.open_calls == 0)) EmptyPop
        (and_apart (pops line.event) (m.open_calls == 0) (λ is. false_from_ne_true (m.open_calls == 0) (λ e.
        let open_there = lets.some_open is in
        let none = eqb-true m.open_calls 0 e in absurd (omega (arith, open_there, none)))))

    room : when (pushes line.event && nat_le MAX_OPEN_CALLS m.open_calls) Deep ≡ None
    room = unless (pushes line.event && nat_le MAX_OPEN_CALLS m.open_calls) Deep
        (and_apart (pushes line.event) (nat_le MAX_OPEN_CALLS m.open_calls) (λ is.
        false_from_ne_true (nat_le MAX_OPEN_CALLS m.open_calls) (λ e.
        let below = lets.more_room is in
        let reached = leb-true MAX_OPEN_CALLS m.open_calls e in absurd (omega (arith, below, reached)))))

    tracks : cond m.is_new_track (full what.Tracks m.tracks) None ≡ None
    tracks = cond_none_if m.is_new_track (full what.Tracks m.tracks) (λ is. not-full what.Tracks m.tracks
        (lets.tracks is))

    functions : cond m.is_new_function (full what.Functions m.functions) None ≡ None
    functions = cond_none_if m.is_new_function (full what.Functions m.functions)
        (λ is. not-full what.Functions m.functions (lets.functions is))

-- ---- the line

sort-found : (o : Option DeclaredType) (k : ℕ) → option_and_then (λ t. state_number t.sort) o ≡ Some k
    → sort_reason (λ sort. is_some (state_number sort)) roles.Kind (option_map (λ t. t.sort) o) ≡ None
sort-found None k is = absurd (none-some k is)
sort-found (Some t) k is = ap (λ n. when (not (is_some n)) (WrongKind roles.Kind)) is

-- a state line that finds its track, and is let through there, has no reason to be refused
pub state-unrefused : (before : List EventLine) (line : EventLine) (track : Track) → Finds before line track
    → IsLet line (met before line track) → state_reason before line ≡ None
state-unrefused before line track finds lets = all_none (
    type_reason (λ sort. is_some (state_number sort)) before line roles.Kind
    ∷ container_reason before line roles.Holder
    ∷ option_and_then (λ track. met_reason line (met before line track)) (track_named before line) ∷ []) (
      sort-found (type_named before (text_of line roles.Kind)) track.kind finds.kind,
      (
        ap (λ o. when (is_none o) (UnknownEntity roles.Holder)) finds.container,
        (
          ap (option_and_then (λ track. met_reason line (met before line track)))
              (found-track before line track finds) ∙ met-none line (met before line track) lets,
          tt,
        ),
      ),
    )
