-- Load passes: which tracks they are over, how they are cut and put together, and how they share the tracks of
-- the traces that are loading.
use Rattle.std.specs.Prelude.{◌≡◌, ◌⊎◌, ℕ, ◌<◌, ◌≤◌, ◌==◌, ◌&&◌, Bool, List, All, count_by, length}
use Rattle.std.specs.Prelude.{max, min, nat_le, nat_lt, IsSome, IsTrue, None, Some}
use Rattle.hall_history.specs.History.{Entry, info_of, is_loading, published_of, tracks_of}
use Rattle.hall_history.specs.Passes.{state_after, state_at}
use Rattle.hall_history.specs.declared.asks.PassState.{PassState}
use Rattle.hall_history.specs.declared.asks.PassState.TheVariants.{Broken, Straight, Whole}
use Rattle.hall_history.specs.declared.seat.PassView.{PassView}
use Rattle.trace_base.specs.declared.names.TraceInfo.{TraceInfo}

-- ---- one pass

-- a pass over all tracks of a trace that was just opened
abbrev pub fresh_pass : ℕ → TraceInfo → PassView
fresh_pass id info = record {
  id = id;
  from = 0;
  to = length info.names.tracks;
  state = state_at 0 (length info.names.tracks);
}

-- the pass after its next track was published
abbrev pub pass_after : PassView → PassView
pass_after p = record p { state = state_after p.state p.to }

-- how far the front of a straight pass has come that ends before a track
abbrev pub front_state : PassState → ℕ → PassState
front_state (Straight next) at = state_at next at
front_state Whole at = Whole
front_state Broken at = Broken

-- the tracks of a pass before a track, and those from it on, of which none is published
abbrev pub front_part : PassView → ℕ → PassView
front_part p at = record p { to = at; state = front_state p.state at }

abbrev pub back_part : PassView → ℕ → PassView
back_part p at = record p { from = at; state = state_at at p.to }

-- the passes are of one trace, and one begins where the other ends
abbrev pub AreAdjacent : PassView → PassView → Type 0
AreAdjacent p q = (p.id ≡ q.id) × ((p.to ≡ q.from) ⊎ (q.to ≡ p.from))

-- what is known of two passes together
abbrev pub both_states : PassState → PassState → PassState
both_states Whole Whole = Whole
both_states _ _ = Broken

-- two adjacent passes put together
abbrev pub joined_pass : PassView → PassView → PassView
joined_pass p q = record {
  id = p.id;
  from = min p.from q.from;
  to = max p.to q.to;
  state = both_states p.state q.state;
}

-- whether the pass is over this track of the trace
abbrev pub covers : ℕ → ℕ → PassView → Bool
covers id track p = p.id == id && nat_le p.from track && nat_lt track p.to

-- ---- passes and the history

-- The history opened the trace, and the pass is over some of its tracks.
pub record IsPassOf (entries : List Entry) (p : PassView) : Type 0 where
  pub info : TraceInfo
  pub opened : info_of entries p.id ≡ Some info
  pub order : p.from ≤ p.to
  pub within : p.to ≤ length info.names.tracks

-- What is told by how far a pass has come. Its tracks before the next one are published, and its others
-- aren't; or all are; of a broken one nothing is known.
abbrev pub HasCome : List Entry → PassView → PassState → Type 0
HasCome entries p (Straight next) = (p.from ≤ next) × (next < p.to)
    × ((track : ℕ) → p.from ≤ track → track < next → IsSome (published_of entries p.id track))
    × ((track : ℕ) → next ≤ track → track < p.to → published_of entries p.id track ≡ None)
HasCome entries p Whole =
    (track : ℕ) → p.from ≤ track → track < p.to → IsSome (published_of entries p.id track)
HasCome entries p Broken = Unit {0}

-- A pass with a track, or of a trace without tracks, is of a trace that is loading.
pub record IsGoodPass (entries : List Entry) (p : PassView) : Type 0 where
  pub of_trace : IsPassOf entries p
  pub loading : (p.from < p.to) ⊎ (tracks_of entries p.id ≡ 0) → IsTrue (is_loading entries p.id)
  pub come : HasCome entries p p.state

-- Each track of a trace that is loading is in one pass, and a trace without tracks has one pass while it is
-- loading.
pub record SharePasses (entries : List Entry) (passes : List PassView) : Type 0 where
  pub one_a_track : (id track : ℕ) → IsTrue (is_loading entries id) → track < tracks_of entries id
      → count_by (covers id track) passes ≡ 1
  pub one_a_trace : (id : ℕ) → IsTrue (is_loading entries id) → tracks_of entries id ≡ 0
      → count_by (λ p. p.id == id) passes ≡ 1
  pub each : All (IsGoodPass entries) passes
