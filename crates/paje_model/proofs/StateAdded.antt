-- A state event that isn't refused, added where it stands.
use Rattle.std.proofs.Common.{◌≡◌, ℕ, ◌+◌, ◌≤◌, ◌<◌, Bool, true, false, cond, List, []}
use Rattle.std.proofs.Common.{◌∷◌, ◌++◌}
use Rattle.std.proofs.Common.{length, map, set, position, slice_get, unwrap_or, Option, Some, None, is_some}
use Rattle.std.proofs.Common.{refl, sym}
use Rattle.std.proofs.Common.{ap, ◌∙◌, subst, arith}
use Rattle.std.specs.Option.{option_map, option_map_or, option_zip}
use Rattle.std.specs.Str.{bytes_eq}
use Rattle.std.proofs.lemmas.Bool.{true≢false, ltb-false}
use Rattle.std.proofs.lemmas.List.{append-nil, length-map, length-set}
use Rattle.std.proofs.lemmas.List.Sums.{sum_by_push}
use Rattle.std.proofs.lemmas.Option.{none-some, same_Some, slice_get_within, slice_get-map}
use Rattle.list_lemmas.proofs.Numbers.{pos_unless, room_unless}
use Rattle.list_lemmas.proofs.Positions.{slice_get-last}
use Rattle.trace_base.specs.declared.limits.TheConstants.{MAX_FUNCTIONS, MAX_OPEN_CALLS, MAX_STATE_EVENTS}
use Rattle.trace_base.specs.declared.limits.TheConstants.{MAX_TRACKS}
use Rattle.trace_base.specs.declared.names.Track.{Track}
use Rattle.trace_base.specs.declared.stream.Event.TheVariants.{Enter}
use Rattle.paje_defs.specs.declared.event_name.EventName.{EventName}
use Rattle.paje_defs.specs.declared.event_name.EventName.TheVariants as events
use Rattle.paje_defs.specs.declared.role.Role.TheVariants as roles
use Rattle.paje_lines.specs.Containers.{container_named, container_start}
use Rattle.paje_lines.specs.EventLine.{EventLine, defines_value, enters, is_link_event, is_state_event}
use Rattle.paje_lines.specs.EventLine.{is_state_type}
use Rattle.paje_lines.specs.EventLine.{pops, pushes, text_of}
use Rattle.paje_lines.specs.Reasons.{event_reason, met, met_reason, reason_of, state_reason}
use Rattle.paje_lines.specs.States.{entered_text, function_number, functions_entered, is_same, last_time}
use Rattle.paje_lines.specs.States.{open_calls}
use Rattle.paje_lines.specs.States.{states_in, track_named, tracks_in}
use Rattle.paje_lines.specs.Types.{kind_named, sort_of}
use Rattle.paje_lines.specs.Values.{text_among, value_text}
use Rattle.paje_lines.proofs.Functions.{functions_within}
use Rattle.paje_lines.proofs.StateEvents.{meets, is_met}
use Rattle.paje_lines.proofs.NoReason.{when_none}
use Rattle.paje_lines.proofs.Tracks.{tracks_within}
use Rattle.paje_model.specs.declared.function_place.FunctionPlace.{FunctionPlace}
use Rattle.paje_model.specs.declared.function_place.FunctionPlace.TheVariants.{At, New}
use Rattle.paje_model.specs.declared.known.Known.{Known}
use Rattle.paje_model.specs.declared.open_track.OpenTrack.{OpenTrack}
use Rattle.paje_model.specs.declared.state_spot.StateSpot.{StateSpot}
use Rattle.paje_model.specs.FoundTrack.{HasPlace, HasTrack, fresh}
use Rattle.paje_model.specs.ContainerTable.{ChangesContainer, touched_at, with_track}
use Rattle.paje_model.specs.declared.container_table.ContainerTable.{ContainerTable}
use Rattle.paje_model.specs.declared.container_table.Existing.{Existing}
use Rattle.paje_model.specs.declared.track_table.TrackTable.{TrackTable}
use Rattle.paje_model.specs.Existing.{AreContainers}
use Rattle.paje_model.specs.OpenTrack.{behind_event, effect_on}
use Rattle.paje_model.specs.TypeTable.{AreTypes}
use Rattle.paje_lines.specs.declared.effect.Effect.TheVariants.{Left}
use Rattle.paje_lines.specs.Effects.{effect_of}
use Rattle.paje_model.specs.FunctionPlace.{function_place, text_entered, with_function}
use Rattle.paje_model.specs.FunctionTable.{functions_kept}
use Rattle.paje_model.specs.Known.{AreValues, IsKnown}
use Rattle.paje_model.specs.MadeTracks.{AreTracks, made_of}
use Rattle.paje_model.specs.StateSpot.{IsSpot}
use Rattle.paje_model.specs.TrackTable.{ChangesTrack, track_of}
use Rattle.paje_model.specs.ValueTable.{values_at}
use Rattle.paje_model.proofs.FunctionsSoFar.{functions-more, functions_kept_by}
use Rattle.paje_model.proofs.StateReads.{HasContainer, has_container, tracks-at}
use Rattle.paje_model.proofs.StateSteps.{text_found}
use Rattle.paje_model.proofs.TracksSoFar.{Stated, made-fresh, made_after, place_of, tracks-more}
use Rattle.paje_model.proofs.StateCalls.{made_behind}
use Rattle.paje_model.proofs.TypesSoFar.{types_kept}
use Rattle.paje_model.proofs.KeptFacts.{AreValues-kept, containers-kept, links-kept, unrefused-kept}
use Rattle.paje_model.proofs.ContainersSoFar.{containers_touched, containers_tracked}
use Rattle.paje_model.proofs.ExistingMore.{no_declaration, track_is}

-- ---- what a state event is not

pub record IsState (lines : List EventLine) (line : EventLine) (event : EventName) : Type 0 where
  pub sort : sort_of lines event ≡ None
  pub state_types : is_state_type event ≡ false
  pub values : defines_value event ≡ false
  pub links : is_link_event event ≡ false
  pub reason : reason_of event lines line ≡ state_reason lines line

pub is_state : (lines : List EventLine) (line : EventLine) (event : EventName) → is_state_event event ≡ true
    → IsState lines line event
is_state lines line events.PushState is = record {
  sort = refl;
  state_types = refl;
  values = refl;
  links = refl;
  reason = refl;
}
is_state lines line events.SetState is = record {
  sort = refl;
  state_types = refl;
  values = refl;
  links = refl;
  reason = refl;
}
is_state lines line events.PopState is = record {
  sort = refl;
  state_types = refl;
  values = refl;
  links = refl;
  reason = refl;
}
is_state lines line events.ResetState is = record {
  sort = refl;
  state_types = refl;
  values = refl;
  links = refl;
  reason = refl;
}
is_state lines line _ is = absurd (true≢false (sym is))

-- ---- what it meets

pub record Ready (before : List EventLine) (line : EventLine) (k : Known) (spot : StateSpot) : Type 0 where
  pub container : HasContainer before k spot.pair.container
  pub kind : kind_named before (text_of line roles.Kind) ≡ Some spot.pair.kind
  pub functions : length (functions_kept k.functions) ≤ MAX_FUNCTIONS
  pub tracks : length k.tracks.list.items ≤ MAX_TRACKS
  pub some_open : pops line.event ≡ true → 1 ≤ open_calls before (track_of spot.pair)
  pub not_deep : pushes line.event ≡ true → open_calls before (track_of spot.pair) + 1 ≤ MAX_OPEN_CALLS
  pub states : k.states + 1 ≤ MAX_STATE_EVENTS
  pub in_order : last_time before (track_of spot.pair) ≤ line.time
  pub reason : event_reason before line ≡ None

kind_of : (before : List EventLine) (line : EventLine) (track : Track) → track_named before line ≡ Some track
    → kind_named before (text_of line roles.Kind) ≡ Some track.kind
kind_of before line track is = by (kind_named before (text_of line roles.Kind))
    (container_named before (text_of line roles.Holder)) is
  where
    by : (k c : Option ℕ) → option_map (λ both. record { container = both.1; kind = both.0 }) (option_zip k c)
        ≡ Some track → k ≡ Some track.kind
    by None c is = absurd (none-some track is)
    by (Some k) None is = absurd (none-some track is)
    by (Some k) (Some c) is = ap (λ (t : Track). Some t.kind)
        (same_Some (record { container = c; kind = k }) track is)

pub ready : (before : List EventLine) (line : EventLine) (k : Known) (spot : StateSpot) → IsKnown before k
    → is_state_event line.event ≡ true → IsSpot before line spot → Ready before line k spot
ready before line k spot known state is =
    let none : event_reason before line ≡ None = (is_state before line line.event state).reason ∙ is.reason in
    let m = meets before line none state in
    let same : m.track ≡ track_of spot.pair = same_Some m.track (track_of spot.pair) (sym m.named
    ∙ is.named) in
    let row = is_met line (met before line (track_of spot.pair))
    (subst (λ t. met_reason line (met before line t) ≡ None) same m.none) in
    let tracks = tracks_within before known.unrefused in
    let made = ap length known.tracks.made ∙ length-map (tracks_in before) (made_of before) in
    let below = row.states in
    let states = known.states in
    record {
      container = has_container before line k (track_of spot.pair) known is.named;
      kind = kind_of before line (track_of spot.pair) is.named;
      functions = subst (λ n. n ≤ MAX_FUNCTIONS) (sym (ap length known.functions))
          (functions_within before known.unrefused);
      tracks = omega (arith, tracks, made);
      some_open = λ one. pos_unless (open_calls before (track_of spot.pair)) (pops line.event) one
          row.pops_open;
      not_deep = λ one. room_unless MAX_OPEN_CALLS (open_calls before (track_of spot.pair)) (pushes
          line.event) one row.pushes_within;
      states = omega (arith, below, states);
      in_order = ltb-false line.time (last_time before (track_of spot.pair)) (when_none _ _ row.in_order);
      reason = none;
    }

-- ---- the text that it enters

text_by : (functions : List (List ℕ)) (e : Bool) (text : List ℕ) (place : FunctionPlace)
    → place ≡ function_place functions (cond e (Some text) None)
    → text_entered place text ≡ cond e (Some text) None
text_by functions false text place is = ap (λ p. text_entered p text) is
text_by functions true text place is = ap (λ p. text_entered p text) is
    ∙ by (position (bytes_eq text) functions)
  where
    by : (o : Option ℕ) → text_entered (option_map_or At o New) text ≡ Some text
    by None = refl
    by (Some n) = refl

pub text_kept : (before : List EventLine) (line : EventLine) (k : Known) (spot : StateSpot) (value : List ℕ)
    → IsKnown before k → IsSpot before line spot → Ready before line k spot → value ≡ text_of line roles.Value
    → text_entered spot.function (text_among (values_at k.values spot.pair.kind) value)
    ≡ entered_text (record { before = before; line = line })
text_kept before line k spot value known is now same =
    let found = text_found before line k.values spot.pair.kind value known.values now.kind same in
    text_by (functions_entered before) (enters line.event)
    (text_among (values_at k.values spot.pair.kind) value) spot.function
    (is.function ∙ ap (function_place (functions_entered before)) (sym found)) ∙ found

-- the functions behind it
pub functions_behind : (before : List EventLine) (line : EventLine)
    → functions_entered (before ++ line ∷ [])
    ≡ with_function (functions_entered before) (entered_text (record { before = before; line = line }))
functions_behind before line = by (entered_text (record { before = before; line = line })) refl
  where
    by : (o : Option (List ℕ)) → entered_text (record { before = before; line = line }) ≡ o
        → functions_entered (before ++ line ∷ []) ≡ with_function (functions_entered before) o
    by None is = functions_kept_by before line is
    by (Some text) is = functions-more before line text (position (bytes_eq text)
        (functions_entered before)) is
        refl

-- ---- its track

-- what was made of it stands at its place
pub made_there : (before : List EventLine) (track : Track) (list : List OpenTrack) (place : Option ℕ)
    → place ≡ position (is_same track) (tracks_in before)
    → list ≡ map (made_of before) (tracks_in before) ++ cond (is_some place) []
    (fresh (container_start before track.container) ∷ [])
    → slice_get list (place_of before place) ≡ Some (made_of before track)
made_there before track list None at is =
    ap (λ ts. slice_get ts (length (tracks_in before))) is
    ∙ (ap (slice_get (map (made_of before) (tracks_in before) ++ fresh (container_start before
    track.container) ∷
    [])) (sym (length-map (tracks_in before) (made_of before)))
    ∙ (slice_get-last (map (made_of before) (tracks_in before)) (fresh (container_start before
    track.container))
    ∙ ap Some (sym (made-fresh before track (sym at)))))
made_there before track list (Some n) at is =
    ap (λ ts. slice_get ts n) (is ∙ append-nil (map (made_of before) (tracks_in before)))
    ∙ (slice_get-map (made_of before) (tracks_in before) n
    ∙ ap (option_map (made_of before)) (tracks-at (tracks_in before) track n (sym at)))

pub track_there : (before : List EventLine) (line : EventLine) (k : Known) (spot : StateSpot)
    (tracks : TrackTable)
    (at : ℕ) → IsKnown before k → IsSpot before line spot → (now : Ready before line k spot)
    → at ≡ unwrap_or spot.place (length k.tracks.list.items)
    → HasTrack k.tracks tracks (track_of spot.pair) now.container.declared.start spot.place
    → slice_get tracks.list.items at ≡ Some (made_of before (track_of spot.pair))
track_there before line k spot tracks at known is now placed has =
    ap (slice_get tracks.list.items) (placed ∙ ap (unwrap_or spot.place) (ap length known.tracks.made
    ∙ length-map (tracks_in before) (made_of before)))
    ∙ made_there before (track_of spot.pair) tracks.list.items spot.place is.place (has.list
    ∙ (ap (λ ts. ts ++ cond (is_some spot.place) [] (fresh now.container.declared.start ∷ []))
    known.tracks.made
    ∙ ap (λ start. map (made_of before) (tracks_in before) ++ cond (is_some spot.place) [] (fresh start ∷ []))
    now.container.start))

pub container_there : (old new : ContainerTable) (c n : ℕ) (place : Option ℕ) (e : Existing)
    → slice_get old.list.items c ≡ Some e → HasPlace old new c n place → c < length new.list.items
container_there old new c n None e found has =
    let within = slice_get_within old.list.items c e found in
    let same = ap length (has.list e found) ∙ length-set old.list.items c (with_track n e) in
    omega (arith, within, same)
container_there old new c n (Some place) e found has = subst (λ (t : ContainerTable). c < length t.list.items)
    (sym has) (slice_get_within old.list.items c e found)

-- ---- all of it

pub record Added (before : List EventLine) (line : EventLine) (k new : Known) (spot : StateSpot)
    (tracks : TrackTable) (containers : ContainerTable) (number start at : ℕ) : Type 0 where
  pub types : new.types ≡ k.types
  pub values : new.values ≡ k.values
  pub links : new.links ≡ k.links
  pub states : new.states ≡ k.states + 1
  pub functions : functions_kept new.functions ≡ with_function (functions_kept k.functions)
      (entered_text (record { before = before; line = line }))
  pub numbered : number ≡ option_map_or (function_number (functions_kept new.functions))
      (entered_text (record { before = before; line = line })) 0
  pub place : at ≡ unwrap_or spot.place (length k.tracks.list.items)
  pub has : HasTrack k.tracks tracks (track_of spot.pair) start spot.place
  pub changed : ChangesTrack tracks new.tracks at (behind_event line.event number line.time)
  pub placed : HasPlace k.containers containers spot.pair.container (length k.tracks.list.items) spot.place
  pub touched : ChangesContainer containers new.containers spot.pair.container (touched_at line.time)

abbrev new_functions : List (List ℕ) → Option (List ℕ) → List (List ℕ)
new_functions functions None = []
new_functions functions (Some text) = cond (is_some (position (bytes_eq text) functions)) [] (text ∷ [])

grown : (functions : List (List ℕ)) (o : Option (List ℕ)) → with_function functions o
    ≡ functions ++ new_functions functions o
grown functions None = sym (append-nil functions)
grown functions (Some text) = refl

functions_added : (before : List EventLine) (line : EventLine) (k new : Known) (spot : StateSpot)
    (tracks : TrackTable) (containers : ContainerTable) (number start at : ℕ) → IsKnown before k
    → Added before line k new spot tracks containers number start at
    → functions_kept new.functions ≡ functions_entered (before ++ line ∷ [])
functions_added before line k new spot tracks containers number start at known added =
    added.functions ∙ (ap (λ fs. with_function fs (entered_text (record { before = before; line = line })))
    known.functions ∙ sym (functions_behind before line))

-- an event that enters a call has a text
enters_call : (functions : List (List ℕ)) (o : Option (List ℕ)) (number time : ℕ) → is_some o ≡ true
    → number ≡ option_map_or (function_number functions) o 0
    → option_map_or (λ text. Enter (function_number functions text) time ∷ []) o [] ≡ Enter number time ∷ []
enters_call functions None number time some is = absurd (true≢false (sym some))
enters_call functions (Some text) number time some is = ap (λ n. Enter n time ∷ []) (sym is)

tracks_added : (before : List EventLine) (line : EventLine) (k new : Known) (spot : StateSpot)
    (tracks : TrackTable) (containers : ContainerTable) (number at : ℕ) → IsKnown before k
    → is_state_event line.event ≡ true → IsSpot before line spot → (now : Ready before line k spot)
    → Added before line k new spot tracks containers number now.container.declared.start at
    → AreTracks (before ++ line ∷ []) new.tracks
tracks_added before line k new spot tracks containers number at known state is now added =
    let track = track_of spot.pair in
    let told = track_is before line track state is.named in
    let start = now.container.declared.start in
    let text = entered_text (record { before = before; line = line }) in
    let functions = functions_added before line k new spot tracks containers number start at known added in
    let stated : Stated before line track (new_functions (functions_entered before) text) = record {
      at = told;
      containers = containers-kept before line (no_declaration line.event state).0;
      functions = functions_behind before line ∙ grown (functions_entered before) text;
    } in
    let made = made_behind before line track (new_functions (functions_entered before) text) number stated
    state
    known.unrefused now.some_open (λ one. enters_call (functions_entered
    (before ++ line ∷ [])) text number line.time
    (ap (λ b. is_some (cond b (option_map (λ kind. value_text before kind (text_of line roles.Value))
    (kind_named
    before (text_of line roles.Kind))) None)) one ∙ ap (λ o. is_some (option_map
    (λ kind. value_text before kind
    (text_of line roles.Value)) o)) now.kind)
    (added.numbered ∙ ap (λ fs. option_map_or (function_number fs) text 0) functions)) in
    let place = added.place ∙ ap (unwrap_or spot.place) (ap length known.tracks.made
    ∙ length-map (tracks_in before) (made_of before)) in
    let list = added.has.list
    ∙ (ap (λ ts. ts ++ cond (is_some spot.place) [] (fresh start ∷ [])) known.tracks.made
    ∙ ap (λ start. map (made_of before) (tracks_in before) ++ cond (is_some spot.place) [] (fresh start ∷ []))
    now.container.start) in
    record {
      tracks = added.changed.tracks ∙ (added.has.tracks ∙ (ap (λ ts. ts ++ cond (is_some spot.place) []
          (track ∷ []))
          known.tracks.tracks ∙ sym (tracks-more before line track spot.place told (sym is.place))));
      made = added.changed.list (made_of before track) (track_there before line k spot tracks at known is now
          added.place added.has)
          ∙ (ap (λ n. set tracks.list.items n (behind_event line.event number line.time
          (made_of before track))) place
          ∙ (ap (λ ts. set ts (place_of before spot.place) (behind_event line.event number line.time
          (made_of before track))) list
          ∙ (ap (set (map (made_of before) (tracks_in before) ++ cond (is_some spot.place) []
          (fresh (container_start before track.container) ∷ [])) (place_of before spot.place)) (sym made)
          ∙ sym (made_after before line track (new_functions (functions_entered before) text) spot.place
          stated
          (sym is.place)))));
    }

containers_added : (before : List EventLine) (line : EventLine) (k new : Known) (track : Track)
    (containers : ContainerTable) (place : Option ℕ) (e : Existing) → IsKnown before k
    → is_state_event line.event ≡ true → track_named before line ≡ Some track
    → place ≡ position (is_same track) (tracks_in before) → last_time before track ≤ line.time
    → slice_get k.containers.list.items track.container ≡ Some e
    → HasPlace k.containers containers track.container (length k.tracks.list.items) place
    → ChangesContainer containers new.containers track.container (touched_at line.time)
    → AreContainers (before ++ line ∷ []) new.containers
containers_added before line k new track containers None e known state named at below found placed touched =
    containers_tracked before line k.containers containers new.containers track e known.containers state
    named below
    (sym at) (ap (λ es. slice_get es track.container) (sym known.containers.existing) ∙ found)
    (subst (λ n. ChangesContainer k.containers containers track.container (with_track n)) (ap length
    known.tracks.made ∙ length-map (tracks_in before) (made_of before)) placed) touched
containers_added before line k new track containers (Some n) e known state named at below found placed
    touched =
    containers_touched before line k.containers new.containers track e n known.containers state named below
    (sym at) (ap (λ es. slice_get es track.container) (sym known.containers.existing) ∙ found)
    (subst (λ (t : ContainerTable). ChangesContainer t new.containers track.container
    (touched_at line.time)) placed
    touched)

pub known_added : (before : List EventLine) (line : EventLine) (k new : Known) (spot : StateSpot)
    (tracks : TrackTable) (containers : ContainerTable) (number at : ℕ) → IsKnown before k
    → is_state_event line.event ≡ true → IsSpot before line spot → (now : Ready before line k spot)
    → Added before line k new spot tracks containers number now.container.declared.start at
    → IsKnown (before ++ line ∷ []) new
known_added before line k new spot tracks containers number at known state is now added =
    let facts = is_state before line line.event state in
    let start = now.container.declared.start in
    record {
      types = subst (AreTypes (before ++ line ∷ [])) (sym added.types) (types_kept before line k.types
          known.types
          facts.sort);
      containers = containers_added before line k new (track_of spot.pair) containers spot.place _ known state
          is.named is.place now.in_order now.container.found added.placed added.touched;
      values = subst (AreValues (before ++ line ∷ [])) (sym added.values) (AreValues-kept before line k.values
          known.values facts.values facts.state_types);
      functions = functions_added before line k new spot tracks containers number start at known added;
      tracks = tracks_added before line k new spot tracks containers number at known state is now added;
      links = added.links ∙ (known.links ∙ sym (links-kept before line facts.links));
      states = added.states ∙ (ap (λ n. n + 1) known.states
          ∙ (ap (λ b. states_in before + cond b 1 0) (sym state)
          ∙ sym (sum_by_push (λ l. cond (is_state_event l.event) 1 0) before line)));
      unrefused = unrefused-kept before line known.unrefused now.reason;
    }

-- what it does
pub effect_added : (before : List EventLine) (line : EventLine) (track : Track) (event : EventName)
    → is_state_event event ≡ true → track_named before line ≡ Some track
    → effect_on event (made_of before track) ≡ effect_of event before line
effect_added before line track events.PushState state named = refl
effect_added before line track events.SetState state named = refl
effect_added before line track events.PopState state named = refl
effect_added before line track events.ResetState state named =
    ap (λ o. Left (option_map_or (open_calls before) o 0)) (sym named)
effect_added before line track _ state named = absurd (true≢false (sym state))
