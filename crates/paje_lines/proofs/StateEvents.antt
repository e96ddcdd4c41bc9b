-- What a state event that isn't refused meets: a track that exists, and room.
use Rattle.std.proofs.Common.{◌≡◌, ℕ, ◌+◌, ◌<◌, ◌≤◌, ◌&&◌, ◌==◌, List, [], ◌∷◌, Bool, true, false, not, cond}
use Rattle.std.proofs.Common.{Option, Some, None, is_some, is_none, nat_le, refl, sym, ap, subst}
use Rattle.std.proofs.Common.{arith}
use Rattle.std.specs.Option.{option_map, option_and_then, option_zip}
use Rattle.std.proofs.lemmas.Bool.{true≢false, not-false}
use Rattle.std.proofs.lemmas.List.Sums.{sum_by_push}
use Rattle.trace_base.specs.declared.limits.TheConstants.{MAX_STATE_EVENTS, MAX_OPEN_CALLS}
use Rattle.trace_base.specs.declared.names.Track.{Track}
use Rattle.paje_defs.specs.declared.role.Role.TheVariants as roles
use Rattle.paje_defs.specs.Refusals.{when}
use Rattle.paje_defs.proofs.RefusedMore.{Keeps, unrefused}
use Rattle.paje_lines.specs.declared.what.What.TheVariants as what
use Rattle.paje_lines.specs.declared.model_fault.ModelFault.TheVariants.{Deep, EmptyPop, UnknownEntity}
use Rattle.paje_lines.specs.declared.model_fault.ModelFault.TheVariants.{WrongKind}
use Rattle.paje_lines.specs.EventLine.{EventLine, text_of, is_state_event, pops, pushes}
use Rattle.paje_lines.specs.Types.{DeclaredType, type_named, state_number, kind_named}
use Rattle.paje_lines.specs.Containers.{container_named}
use Rattle.paje_lines.specs.States.{states_in, track_named}
use Rattle.paje_lines.specs.Reasons.{Met, met, met_reason, event_reason_at, event_refusal, type_reason}
use Rattle.paje_lines.specs.Reasons.{container_reason, sort_reason, destroyed_reason, back_reason, full}
use Rattle.paje_lines.proofs.NoReason.{each_none, when_none, room, stated}

-- ---- the track

-- the state type that its text finds
kind_found : (o : Option DeclaredType)
    → sort_reason (λ sort. is_some (state_number sort)) roles.Kind (option_map (λ t. t.sort) o) ≡ None
    → is_some (option_and_then (λ t. state_number t.sort) o) ≡ true
kind_found None e = absurd (true≢false (ap is_some e))
kind_found (Some t) e = not-false (is_some (state_number t.sort))
    (when_none (not (is_some (state_number t.sort))) (WrongKind roles.Kind) e)

abbrev pair_of : ℕ × ℕ → Track
pair_of both = record { container = both.1; kind = both.0 }

both_found : (kind container : Option ℕ) → is_some kind ≡ true → is_none container ≡ false
    → is_some (option_map pair_of (option_zip kind container)) ≡ true
both_found None container e f = e
both_found (Some kind) None e f = absurd (true≢false f)
both_found (Some kind) (Some container) e f = refl

-- what holds of the track that a state event names, where it isn't refused
pub record Meets (before : List EventLine) (line : EventLine) : Type 0 where
  pub track : Track
  pub named : track_named before line ≡ Some track
  pub none : met_reason line (met before line track) ≡ None

meets_by : (before : List EventLine) (line : EventLine) (o : Option Track) → track_named before line ≡ o
    → is_some o ≡ true → option_and_then (λ track. met_reason line (met before line track)) o ≡ None
    → Meets before line
meets_by before line None is some none = absurd (true≢false (sym some))
meets_by before line (Some track) is some none = record { track = track; named = is; none = none }

pub meets : (before : List EventLine) (line : EventLine)
    → event_reason_at (record { before = before; line = line }) ≡ None → is_state_event line.event ≡ true
    → Meets before line
meets before line none is =
    let each = each_none (type_reason (λ sort. is_some (state_number sort)) before line roles.Kind
    ∷ container_reason before line roles.Holder
    ∷ option_and_then (λ track. met_reason line (met before line track)) (track_named before line) ∷ [])
    (stated line.event before line none is) in
    meets_by before line (track_named before line) refl
    (both_found (kind_named before (text_of line roles.Kind)) (container_named before (text_of line
    roles.Holder))
    (kind_found (type_named before (text_of line roles.Kind)) each.0)
    (when_none (is_none (container_named before (text_of line roles.Holder))) (UnknownEntity roles.Holder)
    each.1.0)) each.1.1.0

-- ---- what it meets there

pub record IsMet (line : EventLine) (m : Met) : Type 0 where
  pub exists : destroyed_reason m.destruction ≡ None
  pub in_order : back_reason line.time m.last_time ≡ None
  pub pops_open : (pops line.event && (m.open_calls == 0)) ≡ false
  pub pushes_within : (pushes line.event && nat_le MAX_OPEN_CALLS m.open_calls) ≡ false
  pub states : m.states < MAX_STATE_EVENTS
  pub tracks : cond m.is_new_track (full what.Tracks m.tracks) None ≡ None
  pub functions : cond m.is_new_function (full what.Functions m.functions) None ≡ None

pub is_met : (line : EventLine) (m : Met) → met_reason line m ≡ None → IsMet line m
is_met line m none =
    let each = each_none (destroyed_reason m.destruction
    ∷ back_reason line.time m.last_time
    ∷ when (pops line.event && (m.open_calls == 0)) EmptyPop
    ∷ when (pushes line.event && nat_le MAX_OPEN_CALLS m.open_calls) Deep
    ∷ full what.StateEvents m.states
    ∷ cond m.is_new_track (full what.Tracks m.tracks) None
    ∷ cond m.is_new_function (full what.Functions m.functions) None ∷ []) none in
    record {
      exists = each.0;
      in_order = each.1.0;
      pops_open = when_none (pops line.event && (m.open_calls == 0)) EmptyPop each.1.1.0;
      pushes_within = when_none (pushes line.event && nat_le MAX_OPEN_CALLS m.open_calls) Deep
          each.1.1.1.0;
      states = room what.StateEvents m.states each.1.1.1.1.0;
      tracks = each.1.1.1.1.1.0;
      functions = each.1.1.1.1.1.1.0;
    }

-- ---- how many there are

abbrev AreWithin : List EventLine → Type 0
AreWithin lines = states_in lines ≤ MAX_STATE_EVENTS

states_more : Keeps event_reason_at AreWithin
states_more before line none is holds =
    subst (λ n. n ≤ MAX_STATE_EVENTS) (sym (sum_by_push (λ l. cond (is_state_event l.event) 1 0) before line))
    (by (is_state_event line.event) refl)
  where
    by : (b : Bool) → is_state_event line.event ≡ b → states_in before + cond b 1 0 ≤ MAX_STATE_EVENTS
    by false e = omega (arith, holds)
    by true e =
        let track = meets before line is e in
        let below = (is_met line (met before line track.track) track.none).states in
        omega (arith, below)

pub states_within : (lines : List EventLine) → event_refusal lines ≡ None → states_in lines ≤ MAX_STATE_EVENTS
states_within lines none = unrefused event_reason_at AreWithin states_more (omega arith) lines none
