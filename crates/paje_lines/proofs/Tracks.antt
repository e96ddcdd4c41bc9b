-- The tracks of the lines of a trace: they differ, their containers and state types exist, and there are at
-- most as many as may be.
use Rattle.std.proofs.Common.{◌≡◌, ℕ, ◌<◌, ◌≤◌, ◌==◌, List, [], ◌∷◌, ◌++◌, Bool, true, false, not, cond}
use Rattle.std.proofs.Common.{Option, Some, None, is_some, filter_map, length, slice_get, refl, sym, ◌∙◌, ap}
use Rattle.std.proofs.Common.{subst, arith}
use Rattle.std.specs.List.{AllByRecursion, list_any}
use Rattle.std.specs.Option.{option_map, option_zip, option_to_list}
use Rattle.std.proofs.lemmas.Bool.{true≢false, and_parts, and_from, eqb-true, eq-eqb}
use Rattle.std.proofs.lemmas.List.{append-nil, length-append}
use Rattle.std.proofs.lemmas.Option.{same_Some}
use Rattle.list_lemmas.proofs.Distinct.{TellsSame, one_place}
use Rattle.list_lemmas.proofs.Each.{all_append, all_at, all_mapped}
use Rattle.list_lemmas.proofs.Fronts.{each_front}
use Rattle.list_lemmas.proofs.Options.{cond_given}
use Rattle.trace_base.specs.declared.limits.TheConstants.{MAX_TRACKS}
use Rattle.trace_base.specs.declared.names.Track.{Track}
use Rattle.paje_defs.specs.declared.role.Role.TheVariants as roles
use Rattle.paje_defs.specs.Refusals.{placed}
use Rattle.paje_defs.proofs.PlacedMore.{told-more}
use Rattle.paje_defs.proofs.RefusedMore.{Keeps, unrefused}
use Rattle.paje_lines.specs.declared.what.What.TheVariants as what
use Rattle.paje_lines.specs.EventLine.{EventLine, text_of, is_state_event}
use Rattle.paje_lines.specs.Types.{kind_named, state_types}
use Rattle.paje_lines.specs.Found.{distinct_by}
use Rattle.paje_lines.specs.Containers.{containers_in, container_named}
use Rattle.paje_lines.specs.States.{track_named, track_at, is_same, tracks_in}
use Rattle.paje_lines.specs.Reasons.{met, full, event_reason_at, event_refusal}
use Rattle.paje_lines.proofs.DifferentTexts.{different-push}
use Rattle.paje_lines.proofs.NoReason.{room}
use Rattle.paje_lines.proofs.DistinctItems.{distinct_all, distinct_apart, new_among}
use Rattle.paje_lines.proofs.Containers.{named_exists, containers_kept}
use Rattle.paje_lines.proofs.StateTypes.{kind_exists, state_types-more}
use Rattle.paje_lines.proofs.StateEvents.{meets, is_met}

-- ---- two that are the same

abbrev pair_of : ℕ × ℕ → Track
pair_of both = record { container = both.1; kind = both.0 }

pub tells_track : TellsSame is_same
tells_track s t = (
  λ e. let both = and_parts (s.container == t.container) (s.kind == t.kind) e in
      ap (λ c. pair_of (s.kind, c)) (eqb-true s.container t.container both.0)
      ∙ ap (λ k. pair_of (k, t.container)) (eqb-true s.kind t.kind both.1),
  λ e. and_from (s.container == t.container) (s.kind == t.kind)
      (eq-eqb s.container t.container (ap (λ t. t.container) e)) (eq-eqb s.kind t.kind (ap (λ t. t.kind) e)),
)

-- no two tracks are one pair
pub tracks_differ : (lines : List EventLine) (i j : ℕ) (t : Track) → slice_get (tracks_in lines) i ≡ Some t
    → slice_get (tracks_in lines) j ≡ Some t → i ≡ j
tracks_differ lines = one_place is_same tells_track (tracks_in lines)
    (distinct_apart is_same (filter_map track_at (placed lines)))

-- ---- they exist

-- a container and a state type below these numbers
abbrev IsBelow : ℕ → ℕ → Track → Type 0
IsBelow containers kinds t = (t.container < containers) × (t.kind < kinds)

pub track_exists : (lines : List EventLine) (line : EventLine) (t : Track) → track_named lines line ≡ Some t
    → (t.container < length (containers_in lines)) × (t.kind < state_types lines)
track_exists lines line t is = by (kind_named lines (text_of line roles.Kind))
    (container_named lines (text_of line roles.Holder)) refl refl is
  where
    by : (kind container : Option ℕ) → kind_named lines (text_of line roles.Kind) ≡ kind
        → container_named lines (text_of line roles.Holder) ≡ container
        → option_map pair_of (option_zip kind container) ≡ Some t
        → (t.container < length (containers_in lines)) × (t.kind < state_types lines)
    by None container k c e = absurd (true≢false (sym (ap is_some e)))
    by (Some kind) None k c e = absurd (true≢false (sym (ap is_some e)))
    by (Some kind) (Some container) k c e = subst (IsBelow (length (containers_in lines)) (state_types lines))
        (same_Some (pair_of (kind, container)) t e) (
          named_exists lines (text_of line roles.Holder) container c,
          kind_exists lines (text_of line roles.Kind) kind k,
        )

abbrev AreBelow : List EventLine → List Track → Type 0
AreBelow lines tracks = AllByRecursion (IsBelow (length (containers_in lines)) (state_types lines)) tracks

below_more : (lines : List EventLine) (line : EventLine) (tracks : List Track) → AreBelow lines tracks
    → AreBelow (lines ++ line ∷ []) tracks
below_more lines line tracks are =
    let containers = containers_kept lines line in
    let kinds = state_types-more lines line in
    all_mapped (IsBelow (length (containers_in lines)) (state_types lines))
    (IsBelow (length (containers_in (lines ++ line ∷ []))) (state_types (lines ++ line ∷ [])))
    (λ t is. (omega (arith, containers, is), omega (arith, kinds, is))) tracks are

told_below : (lines : List EventLine) (line : EventLine) → AreBelow lines
    (option_to_list (track_at (record { before = lines; line = line })))
told_below lines line = by (is_state_event line.event)
  where
    by_track : (o : Option Track) → track_named lines line ≡ o → AreBelow lines (option_to_list o)
    by_track None is = tt
    by_track (Some t) is = (track_exists lines line t is, tt)

    by : (b : Bool) → AreBelow lines (option_to_list (cond b (track_named lines line) None))
    by false = tt
    by true = by_track (track_named lines line) refl

all_below : (lines : List EventLine) → AreBelow lines (filter_map track_at (placed lines))
all_below lines = each_front (λ lines. AreBelow lines (filter_map track_at (placed lines)))
    (λ before line are. subst (AreBelow (before ++ line ∷ [])) (sym (told-more track_at before line))
    (below_more before line (filter_map track_at (placed before)
    ++ option_to_list (track_at (record { before = before; line = line })))
    (all_append (IsBelow (length (containers_in before)) (state_types before))
    (filter_map track_at (placed before))
    (option_to_list (track_at (record { before = before; line = line }))) are (told_below before line))))
    tt lines

-- the containers and the state types of all tracks exist
pub tracks_exist : (lines : List EventLine) → AllByRecursion
    (λ t. (t.container < length (containers_in lines)) × (t.kind < state_types lines)) (tracks_in lines)
tracks_exist lines = distinct_all is_same (IsBelow (length (containers_in lines)) (state_types lines))
    (filter_map track_at (placed lines)) (all_below lines)

-- the one at this place
pub found_track_exists : (lines : List EventLine) (k : ℕ) (t : Track) → slice_get (tracks_in lines) k ≡ Some t
    → (t.container < length (containers_in lines)) × (t.kind < state_types lines)
found_track_exists lines k t is = all_at (IsBelow (length (containers_in lines)) (state_types lines))
    (tracks_in lines) k t (tracks_exist lines) is

-- ---- how many there are

-- the tracks after one more line
pub tracks-more : (lines : List EventLine) (line : EventLine) (o : Option Track)
    → track_at (record { before = lines; line = line }) ≡ o → tracks_in (lines ++ line ∷ [])
    ≡ distinct_by is_same (filter_map track_at (placed lines) ++ option_to_list o)
tracks-more lines line o is =
    ap (distinct_by is_same) (told-more track_at lines line
    ∙ ap (λ o. filter_map track_at (placed lines) ++ option_to_list o) is)

abbrev AreWithin : List Track → Type 0
AreWithin tracks = length tracks ≤ MAX_TRACKS

track_room : (before : List EventLine) (line : EventLine) (t : Track)
    → event_reason_at (record { before = before; line = line }) ≡ None
    → track_at (record { before = before; line = line }) ≡ Some t
    → list_any (is_same t) (tracks_in before) ≡ false → length (tracks_in before) < MAX_TRACKS
track_room before line t none is new =
    let parts = cond_given (is_state_event line.event) (track_named before line) t is in
    let m = meets before line none parts.0 in
    let same : m.track ≡ t = same_Some m.track t (sym m.named ∙ parts.1) in
    let fresh : not (list_any (is_same m.track) (tracks_in before)) ≡ true =
    ap (λ t. not (list_any (is_same t) (tracks_in before))) same ∙ ap not new in
    room what.Tracks (length (tracks_in before))
    (subst (λ b. cond b (full what.Tracks (length (tracks_in before))) None ≡ None) fresh
    (is_met line (met before line m.track) m.none).tracks)

tracks_more : Keeps event_reason_at (λ lines. AreWithin (tracks_in lines))
tracks_more before line none is holds =
    by (track_at (record { before = before; line = line })) refl
  where
    by_test : (t : Track) (b : Bool) → track_at (record { before = before; line = line }) ≡ Some t
        → list_any (λ x. is_same x t) (filter_map track_at (placed before)) ≡ b
        → AreWithin (distinct_by is_same (filter_map track_at (placed before)) ++ cond b [] (t ∷ []))
    by_test t true at e = subst AreWithin (sym (append-nil (tracks_in before))) holds
    by_test t false at e =
        let below = track_room before line t is at
        (new_among is_same tells_track (filter_map track_at (placed before)) t e) in
        let more = length-append (tracks_in before) (t ∷ []) in
        omega (arith, below, more)

    by : (o : Option Track) → track_at (record { before = before; line = line }) ≡ o
        → AreWithin (tracks_in (before ++ line ∷ []))
    by None at = subst AreWithin (sym (tracks-more before line None at
        ∙ ap (distinct_by is_same) (append-nil (filter_map track_at (placed before))))) holds
    by (Some t) at = subst AreWithin (sym (tracks-more before line (Some t) at
        ∙ different-push is_same (filter_map track_at (placed before)) t))
        (by_test t (list_any (λ x. is_same x t) (filter_map track_at (placed before))) at refl)

pub tracks_within : (lines : List EventLine) → event_refusal lines ≡ None
    → length (tracks_in lines) ≤ MAX_TRACKS
tracks_within lines none = unrefused event_reason_at (λ lines. AreWithin (tracks_in lines)) tracks_more
    (omega arith) lines none
