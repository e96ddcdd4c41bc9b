-- How many calls are entered on a track, and the numbers of their functions.
use Rattle.std.proofs.Common.{◌≡◌, ℕ, ◌≤◌, ◌<◌, Bool, true, false, cond, List, [], ◌∷◌, ◌++◌, length, filter}
use Rattle.std.proofs.Common.{flat_map, replicate, filter_map, Option, Some, None, IfSome, refl, ap}
use Rattle.std.proofs.Common.{◌∙◌, arith, zero, suc, bytes_eq}
use Rattle.std.specs.Prelude.{All}
use Rattle.std.specs.List.{position_or_len}
use Rattle.std.specs.Cmp.Lexicographic.{bytes_decides}
use Rattle.std.specs.Option.{option_map_or}
use Rattle.std.proofs.lemmas.List.{length-append}
use Rattle.std.proofs.lemmas.List.Elements.{All-append, All-replicate, All-nil, All-cons, All-filter}
use Rattle.std.proofs.lemmas.List.Elements.{All-weaker}
use Rattle.std.proofs.lemmas.List.Elements.{filter-append}
use Rattle.list_lemmas.proofs.All.{All-made, All-places, All-untold}
use Rattle.trace_base.specs.Stream.{is_enter}
use Rattle.trace_base.specs.declared.names.Track.{Track}
use Rattle.trace_base.specs.declared.stream.Event.{Event}
use Rattle.trace_base.specs.declared.stream.Event.TheVariants.{Enter, Leave}
use Rattle.paje_defs.specs.Refusals.{Placed, placed}
use Rattle.paje_lines.specs.EventLine.{EventLine, clears, pops}
use Rattle.paje_lines.specs.Containers.{container_end}
use Rattle.paje_lines.specs.States.{states_of, states_in, is_on, open_calls, entered_text}
use Rattle.paje_lines.specs.States.{functions_entered, function_number}
use Rattle.paje_lines.specs.Text.{left_at, entered_at, events_at, events_of}
use Rattle.paje_legal.proofs.StreamRuns.{IsNumbered}
use Rattle.paje_legal.proofs.StreamLists.{All-from_distinct}
use Rattle.paje_legal.proofs.StreamTracks.{states-few}

-- ---- how many there are

enters-none : (n t : ℕ) → filter is_enter (replicate n (Leave t)) ≡ []
enters-none zero t = refl
enters-none (suc n) t = enters-none n t

left-none : (track : Track) (p : Placed EventLine) → filter is_enter (left_at track p) ≡ []
left-none track p = by (clears p.line.event) (pops p.line.event)
  where
    by : (b c : Bool) → filter is_enter (cond b (replicate (open_calls p.before track) (Leave p.line.time))
        (cond c (Leave p.line.time ∷ []) [])) ≡ []
    by true c = enters-none (open_calls p.before track) p.line.time
    by false true = refl
    by false false = refl

entered-one : (functions : List (List ℕ)) (p : Placed EventLine)
    → length (filter is_enter (entered_at functions p)) ≤ 1
entered-one functions p = by (entered_text p)
  where
    by : (o : Option (List ℕ)) → length (filter is_enter (option_map_or
        (λ text. Enter (function_number functions text) p.line.time ∷ []) o [])) ≤ 1
    by None = omega arith
    by (Some text) = omega arith

at-most-one : (functions : List (List ℕ)) (track : Track) (p : Placed EventLine)
    → length (filter is_enter (events_at functions track p)) ≤ 1
at-most-one functions track p = omega (
  arith,
  ap length (filter-append is_enter (left_at track p) (entered_at functions p)
      ∙ ap (λ es. es ++ filter is_enter (entered_at functions p)) (left-none track p)),
  entered-one functions p,
)

enters-few : (functions : List (List ℕ)) (track : Track) (ps : List (Placed EventLine))
    → length (filter is_enter (flat_map (events_at functions track) ps)) ≤ length ps
enters-few functions track [] = omega arith
enters-few functions track (p ∷ ps) = omega (
  arith,
  ap length (filter-append is_enter (events_at functions track p) (flat_map (events_at functions track) ps)),
  length-append (filter is_enter (events_at functions track p))
      (filter is_enter (flat_map (events_at functions track) ps)),
  at-most-one functions track p,
  enters-few functions track ps,
)

pub calls-few : (lines : List EventLine) (track : Track)
    → length (filter is_enter (events_of lines track)) ≤ states_in lines
calls-few lines track =
    let functions : List (List ℕ) = functions_entered lines in
    let end : ℕ = container_end lines track.container in
    omega (
      arith,
      ap length (filter-append is_enter (flat_map (events_at functions track) (states_of lines track))
          (replicate (open_calls lines track) (Leave end))),
      length-append (filter is_enter (flat_map (events_at functions track) (states_of lines track)))
          (filter is_enter (replicate (open_calls lines track) (Leave end))),
      ap length (enters-none (open_calls lines track) end),
      enters-few functions track (states_of lines track),
      states-few lines track,
    )

-- ---- the numbers of the functions

-- each text that a line enters is among the functions
abbrev IsAmong : List (List ℕ) → List ℕ → Type 0
IsAmong functions text = position_or_len (bytes_eq text) functions < length functions

texts-among : (lines : List EventLine)
    → All (λ p. IfSome (entered_text p) (IsAmong (functions_entered lines))) (placed lines)
texts-among lines = All-untold entered_text (IsAmong (functions_entered lines)) (placed lines)
    (All-from_distinct bytes_eq (λ x y e. (bytes_decides x y).0 e) (IsAmong (functions_entered lines))
    (filter_map entered_text (placed lines))
    (All-places bytes_eq (λ x. (bytes_decides x x).1 refl) (functions_entered lines)))

left-numbered : (n : ℕ) (track : Track) (p : Placed EventLine) → All (IsNumbered n) (left_at track p)
left-numbered n track p = by (clears p.line.event) (pops p.line.event)
  where
    by : (b c : Bool) → All (IsNumbered n) (cond b (replicate (open_calls p.before track) (Leave p.line.time))
        (cond c (Leave p.line.time ∷ []) []))
    by true c = All-replicate (IsNumbered n) (open_calls p.before track) (Leave p.line.time) tt
    by false true = All-cons (IsNumbered n) (Leave p.line.time) [] tt (All-nil (IsNumbered n))
    by false false = All-nil (IsNumbered n)

entered-numbered : (functions : List (List ℕ)) (p : Placed EventLine)
    → IfSome (entered_text p) (IsAmong functions)
    → All (IsNumbered (length functions)) (entered_at functions p)
entered-numbered functions p among = by (entered_text p) among
  where
    by : (o : Option (List ℕ)) → IfSome o (IsAmong functions) → All (IsNumbered (length functions))
        (option_map_or (λ text. Enter (function_number functions text) p.line.time ∷ []) o [])
    by None among = All-nil (IsNumbered (length functions))
    by (Some text) among = All-cons (IsNumbered (length functions))
        (Enter (function_number functions text) p.line.time) [] (omega arith, omega (arith, among))
        (All-nil (IsNumbered (length functions)))

pub events-numbered : (lines : List EventLine) (track : Track)
    → All (IsNumbered (length (functions_entered lines))) (events_of lines track)
events-numbered lines track = All-append Numbered
    (flat_map (events_at functions track) (states_of lines track))
    (replicate (open_calls lines track) (Leave (container_end lines track.container)))
    (All-made (events_at functions track) Numbered (states_of lines track)
    (All-filter (is_on track) (λ p. All Numbered (events_at functions track p)) (placed lines)
    (All-weaker (λ p. IfSome (entered_text p) (IsAmong functions))
    (λ p. All Numbered (events_at functions track p))
    (λ p among. All-append Numbered (left_at track p) (entered_at functions p)
    (left-numbered (length functions) track p) (entered-numbered functions p among)) (placed lines)
    (texts-among lines))))
    (All-replicate Numbered (open_calls lines track) (Leave (container_end lines track.container)) tt)
  where
    functions : List (List ℕ)
    functions = functions_entered lines

    Numbered : Event → Type 0
    Numbered = IsNumbered (length functions)
