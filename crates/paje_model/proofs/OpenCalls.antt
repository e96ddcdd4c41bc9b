-- How many calls of a track are open, and of all tracks of a container.
use Rattle.std.proofs.Common.{◌≡◌, ℕ, ◌+◌, ◌*◌, ◌<◌, ◌≤◌, ◌^◌, ◌&&◌, ◌==◌, nat_le, Bool, true, false, cond}
use Rattle.std.proofs.Common.{List, []}
use Rattle.std.proofs.Common.{◌∷◌, ◌++◌, length, map, slice_get, sum_by, Option, Some, None}
use Rattle.std.proofs.Common.{refl, sym, ◌∙◌, ap, subst, arith, ◌-◌, zero, suc}
use Rattle.std.specs.Option.{option_map, option_map_or}
use Rattle.std.proofs.Math.Path.{fun_ext}
use Rattle.std.proofs.lemmas.Bool.{eqb-false, leb-false, true≢false}
use Rattle.std.proofs.lemmas.List.{map-append}
use Rattle.std.proofs.lemmas.List.Sums.{count_by-le-length, length-filter, sum_by-le}
use Rattle.std.proofs.lemmas.Option.{slice_get-map}
use Rattle.list_lemmas.proofs.Places.{places_where-items, sum-at_places}
use Rattle.trace_base.specs.declared.limits.TheConstants.{MAX_OPEN_CALLS, MAX_TRACKS}
use Rattle.trace_base.specs.declared.names.Track.{Track}
use Rattle.paje_defs.specs.declared.event_name.EventName.{EventName}
use Rattle.paje_defs.specs.declared.event_name.EventName.TheVariants as events
use Rattle.paje_defs.proofs.RefusedMore.{unrefused}
use Rattle.paje_lines.specs.EventLine.{EventLine, is_state_event, pops, pushes}
use Rattle.paje_lines.specs.Reasons.{event_reason_at, event_refusal, met}
use Rattle.paje_lines.specs.States.{container_tracks, is_same, open_behind, open_calls, open_in, states_of}
use Rattle.paje_lines.specs.States.{track_named, tracks_in}
use Rattle.paje_lines.proofs.StateEvents.{Meets, is_met, meets}
use Rattle.paje_lines.proofs.StreamCalls.{AreEntered, opens-cleared, opens-popped, opens-pushed}
use Rattle.paje_lines.proofs.Tracks.{tells_track, tracks_within}
use Rattle.paje_model.specs.declared.open_track.OpenTrack.{OpenTrack}
use Rattle.paje_model.specs.declared.track_table.TrackTable.{TrackTable}
use Rattle.paje_model.specs.Existing.{track_places}
use Rattle.paje_model.specs.MadeTracks.{AreTracks, made_of}
use Rattle.paje_model.specs.TrackTable.{calls_at}
use Rattle.paje_model.proofs.KeptFacts.{states-kept}
use Rattle.paje_model.proofs.TracksSoFar.{states-off, states-on}

-- ---- at most so many on a track

abbrev events_on : List EventLine → Track → List EventName
events_on lines t = map (λ p. p.line.event) (states_of lines t)

record IsFew (es : List EventName) : Type 0 where
  few : open_behind es ≤ MAX_OPEN_CALLS
  entered : AreEntered es

few-next : (es : List EventName) (event : EventName) → is_state_event event ≡ true
    → (pops event && (open_behind es == 0)) ≡ false → (pushes event && nat_le MAX_OPEN_CALLS (open_behind es))
    ≡ false → IsFew es → IsFew (es ++ event ∷ [])
few-next es events.PushState is some room before =
    let opens = opens-pushed es events.PushState refl refl refl before.entered in
    let open_now : open_behind (es ++ events.PushState ∷ []) ≡ open_behind es + 1 = opens.now_open in
    let less : open_behind es < MAX_OPEN_CALLS = leb-false MAX_OPEN_CALLS (open_behind es) room in
    record { few = omega (arith, open_now, less); entered = opens.entered }
few-next es events.SetState is some room before =
    let opens = opens-cleared es events.SetState refl in
    let open_now : open_behind (es ++ events.SetState ∷ []) ≡ 1 = opens.now_open in
    record { few = omega (arith, open_now); entered = opens.entered }
few-next es events.PopState is some room before =
    let apart = eqb-false (open_behind es) 0 some in
    let one : 1 ≤ open_behind es = positive (open_behind es) apart in
    let opens = opens-popped es events.PopState refl refl refl one in
    let open_now : open_behind (es ++ events.PopState ∷ []) ≡ open_behind es - 1 = opens.now_open in
    record { few = omega (arith, open_now, before.few); entered = opens.entered }
  where
    positive : (n : ℕ) → (n ≡ 0 → ⊥) → 1 ≤ n
    positive zero apart = absurd (apart refl)
    positive (suc n) apart = omega arith
few-next es events.ResetState is some room before =
    let opens = opens-cleared es events.ResetState refl in
    let open_now : open_behind (es ++ events.ResetState ∷ []) ≡ 0 = opens.now_open in
    record { few = omega (arith, open_now); entered = opens.entered }
few-next es _ is some room before = absurd (true≢false (sym is))

abbrev AreFew : List EventLine → Type 0
AreFew lines = (t : Track) → IsFew (events_on lines t)

few-on : (lines : List EventLine) (line : EventLine) (m : Meets lines line) → is_state_event line.event ≡ true
    → AreFew lines → IsFew (events_on (lines ++ line ∷ []) m.track)
few-on lines line m is before =
    let track = m.track in
    let met_by = is_met line (met lines line track) m.none in
    let at = ap (λ b. cond b (track_named lines line) None) is ∙ m.named in
    subst IsFew (sym (ap (map (λ p. p.line.event)) (states-on lines line track at)
    ∙ map-append (λ p. p.line.event) (states_of lines track) (record { before = lines; line = line } ∷ [])))
    (few-next (events_on lines track) line.event is met_by.pops_open met_by.pushes_within (before track))

few-more : (lines : List EventLine) (line : EventLine)
    → event_reason_at (record { before = lines; line = line }) ≡ None → AreFew lines
    → AreFew (lines ++ line ∷ [])
few-more lines line none before t = by (is_state_event line.event) refl
  where
    on : (m : Meets lines line) → is_state_event line.event ≡ true → (b : Bool) → is_same m.track t ≡ b
        → IsFew (events_on (lines ++ line ∷ []) t)
    on m is true same = subst (λ u. IsFew (events_on (lines ++ line ∷ []) u)) ((tells_track m.track t).0 same)
        (few-on lines line m is before)
    on m is false other = subst (λ ps. IsFew (map (λ p. p.line.event) ps))
        (sym (states-off lines line m.track t
        (ap (λ b. cond b (track_named lines line) None) is ∙ m.named) other)) (before t)

    by : (b : Bool) → is_state_event line.event ≡ b → IsFew (events_on (lines ++ line ∷ []) t)
    by true is = let m = meets lines line none is in on m is (is_same m.track t) refl
    by false is = subst (λ ps. IsFew (map (λ p. p.line.event) ps)) (sym (states-kept lines line t is))
        (before t)

pub few_open : (lines : List EventLine) → event_refusal lines ≡ None → (t : Track)
    → open_calls lines t ≤ MAX_OPEN_CALLS
few_open lines none t = (unrefused event_reason_at AreFew
    (λ before line unrefused none few. few-more before line none few)
    (λ t. record { few = omega arith; entered = omega arith }) lines none t).few

-- ---- those of a container

pub few_in : (lines : List EventLine) → event_refusal lines ≡ None → (c : ℕ) → open_in lines c < 2 ^ 32
few_in lines none c =
    let ts = container_tracks lines c in
    let sum : open_in lines c ≤ length ts * MAX_OPEN_CALLS = sum_by-le (open_calls lines) MAX_OPEN_CALLS ts
    (λ k d within. few_open lines none _) in
    let count : length ts ≤ length (tracks_in lines) = subst (λ n. n ≤ length (tracks_in lines))
    (sym (length-filter (λ t. t.container == c) (tracks_in lines)))
    (count_by-le-length (λ t. t.container == c) (tracks_in lines)) in
    let limit : length (tracks_in lines) ≤ MAX_TRACKS = tracks_within lines none in
    omega (arith, sum, count, limit)

-- ---- in the table

calls_made : (lines : List EventLine) (t : TrackTable) → AreTracks lines t → (i : ℕ)
    → calls_at t i ≡ option_map_or (open_calls lines) (slice_get (tracks_in lines) i) 0
calls_made lines t are i =
    ap (λ ms. option_map_or (λ (m : OpenTrack). m.open_calls) (slice_get ms i) 0) are.made
    ∙ (ap (λ o. option_map_or (λ (m : OpenTrack). m.open_calls) o 0) (slice_get-map (made_of lines)
    (tracks_in lines) i) ∙ by (slice_get (tracks_in lines) i))
  where
    by : (o : Option Track) → option_map_or (λ (m : OpenTrack). m.open_calls) (option_map (made_of lines) o) 0
        ≡ option_map_or (open_calls lines) o 0
    by None = refl
    by (Some t) = refl

pub calls-summed : (lines : List EventLine) (t : TrackTable) (c : ℕ) → AreTracks lines t
    → sum_by (calls_at t) (track_places lines c) ≡ open_in lines c
calls-summed lines t c are =
    ap (λ f. sum_by f (track_places lines c)) (fun_ext (calls_made lines t are))
    ∙ (sum-at_places (open_calls lines) (slice_get (tracks_in lines)) (track_places lines c)
    ∙ ap (sum_by (open_calls lines)) (places_where-items (λ t. t.container == c) (tracks_in lines)))
