-- The containers that a list of lines leaves, after one more line: one that creates a container, one that
-- destroys it, and a state event on one of its tracks.
use Rattle.std.proofs.Common.{◌≡◌, inl, inr, ℕ, ◌<◌, ◌≤◌, max, Bool, true, false, cond, List, [], ◌∷◌}
use Rattle.std.proofs.Common.{◌++◌, length, map, filter, fold, set, slice_get, Option, Some, None, IfSome}
use Rattle.std.proofs.Common.{refl, sym}
use Rattle.std.proofs.Common.{◌∙◌, ap, subst, arith, ◌&&◌, ◌==◌, All}
use Rattle.std.specs.List.{enumerate_from, list_any}
use Rattle.std.specs.Option.{option_map, option_map_or}
use Rattle.std.proofs.lemmas.Bool.{eq-eqb, eqb-true, ne_eqb, true≢false}
use Rattle.std.proofs.lemmas.List.{append-nil, map-append}
use Rattle.std.proofs.lemmas.List.Elements.{All-weaker, filter-append}
use Rattle.std.proofs.lemmas.List.Sums.{fold_push}
use Rattle.list_lemmas.proofs.Filters.{filter_All-none, map-filter_agree}
use Rattle.list_lemmas.proofs.Maps.{enumerate-kept, enumerate-push, enumerate-set}
use Rattle.list_lemmas.proofs.Places.{places_where, places_where-none, places_where-push}
use Rattle.list_lemmas.proofs.Sums.{RisesTo, greatest_reaches, greatest_rises}
use Rattle.trace_base.specs.declared.names.Track.{Track}
use Rattle.paje_defs.specs.declared.event_name.EventName.{EventName}
use Rattle.paje_defs.specs.declared.event_name.EventName.TheVariants.{CreateContainer, DestroyContainer}
use Rattle.paje_defs.specs.declared.role.Role.TheVariants as roles
use Rattle.paje_lines.specs.EventLine.{EventLine, creates, destroys, is_state_event, text_of}
use Rattle.paje_lines.specs.Containers.{DeclaredContainer, container_named, container_start, containers_in}
use Rattle.paje_lines.specs.Containers.{created_by, destruction, ends_container}
use Rattle.paje_lines.specs.States.{container_tracks, is_on, is_same, last_time, latest, track_at}
use Rattle.paje_lines.specs.States.{track_named}
use Rattle.paje_lines.specs.States.{tracks_in}
use Rattle.paje_model.specs.declared.container_table.Existing.{Existing}
use Rattle.paje_model.specs.ContainerTable.{created, destroyed_by, touched_at}
use Rattle.paje_model.specs.Existing.{existing_at, existing_in, track_places}
use Rattle.paje_lines.proofs.Containers.{start-more}
use Rattle.paje_lines.proofs.Tracks.{tells_track, track_exists}
use Rattle.paje_model.proofs.ContainersMore.{containers-created, count, destruction-now, destruction-stays}
use Rattle.paje_model.proofs.ContainersMore.{ends_other, not_destroyed, start-created}
use Rattle.paje_model.proofs.FoundPlaces.{container-within, tracks-within}
use Rattle.paje_model.proofs.KeptFacts.{containers-kept}
use Rattle.paje_model.proofs.TracksMore.{at_end, last_time-off, last_time-on, other_track, tracks-next}
use Rattle.paje_model.proofs.TracksMore.{tracks-stay}

-- ---- the greatest last time of a container

abbrev of : ℕ → Track → Bool
of c t = t.container == c

-- a line on none of its tracks
latest-by : (lines : List EventLine) (line : EventLine) (c : ℕ) → c < count lines
    → container_tracks (lines ++ line ∷ []) c ≡ container_tracks lines c
    → ((t : Track) → t.container ≡ c → is_on t (at_end lines line) ≡ false)
    → latest (lines ++ line ∷ []) c ≡ latest lines c
latest-by lines line c within tracks off =
    ap (λ start. fold max start (map (last_time (lines ++ line ∷ []))
    (container_tracks (lines ++ line ∷ []) c)))
    (start-more lines line c within)
    ∙ (ap (λ ts. fold max (container_start lines c) (map (last_time (lines ++ line ∷ [])) ts)) tracks
    ∙ ap (fold max (container_start lines c)) (map-filter_agree (of c) (last_time lines)
    (last_time (lines ++ line ∷ []))
    (λ t is. let at : t.container ≡ c = eqb-true t.container c is in
    last_time-off lines line t (off t at) (subst (λ n. n < count lines) (sym at) within))
    (tracks_in lines)))

off_by : (t : Track) (o : Option Track) → IfSome o (λ s. s.container ≡ t.container → ⊥)
    → option_map_or (is_same t) o false ≡ false
off_by t None apart = refl
off_by t (Some s) apart = other_track t s (λ e. apart (sym e))

-- the tracks of a container, where the line is on none of them
abbrev IsElsewhere : List EventLine → EventLine → ℕ → Type 0
IsElsewhere lines line c = IfSome (track_at (at_end lines line)) (λ t. t.container ≡ c → ⊥)

dropped : (c : ℕ) (t : Track) (b : Bool) → (t.container ≡ c → ⊥) → filter (of c) (cond b [] (t ∷ [])) ≡ []
dropped c t true apart = refl
dropped c t false apart = ap (λ b. cond b (t ∷ []) []) (ne_eqb t.container c apart)

tracks-elsewhere : (lines : List EventLine) (line : EventLine) (c : ℕ) (o : Option Track)
    → track_at (at_end lines line) ≡ o → IfSome o (λ t. t.container ≡ c → ⊥)
    → container_tracks (lines ++ line ∷ []) c ≡ container_tracks lines c
tracks-elsewhere lines line c None is apart = ap (filter (of c)) (tracks-stay lines line is)
tracks-elsewhere lines line c (Some t) is apart =
    ap (filter (of c)) (tracks-next lines line t is)
    ∙ (filter-append (of c) (tracks_in lines) (cond (list_any (is_same t) (tracks_in lines)) [] (t ∷ []))
    ∙ (ap (λ ts. container_tracks lines c ++ ts) (dropped c t (list_any (is_same t) (tracks_in lines)) apart)
    ∙ append-nil (container_tracks lines c)))

pub latest-elsewhere : (lines : List EventLine) (line : EventLine) (c : ℕ) → c < count lines
    → IsElsewhere lines line c → latest (lines ++ line ∷ []) c ≡ latest lines c
latest-elsewhere lines line c within apart =
    latest-by lines line c within (tracks-elsewhere lines line c (track_at (at_end lines line)) refl apart)
    (λ t is. off_by t (track_at (at_end lines line))
    (subst (λ n. IfSome (track_at (at_end lines line)) (λ s. s.container ≡ n → ⊥)) (sym is) apart))

places-elsewhere : (lines : List EventLine) (line : EventLine) (c : ℕ) (o : Option Track)
    → track_at (at_end lines line) ≡ o → IfSome o (λ t. t.container ≡ c → ⊥)
    → track_places (lines ++ line ∷ []) c ≡ track_places lines c
places-elsewhere lines line c None is apart =
    ap (λ ts. places_where (of c) ts) (tracks-stay lines line is)
places-elsewhere lines line c (Some t) is apart =
    ap (λ ts. places_where (of c) ts) (tracks-next lines line t is)
    ∙ by (list_any (is_same t) (tracks_in lines))
  where
    by : (b : Bool) → places_where (of c) (tracks_in lines ++ cond b [] (t ∷ [])) ≡ track_places lines c
    by true = ap (λ ts. places_where (of c) ts) (append-nil (tracks_in lines))
    by false = places_where-push (of c) (tracks_in lines) t
        ∙ (ap (λ b. track_places lines c ++ cond b (length (tracks_in lines) ∷ []) [])
        (ne_eqb t.container c apart)
        ∙ append-nil (track_places lines c))

-- ---- a state event on a track of it

-- its last time isn't past the line's
pub latest-on : (lines : List EventLine) (line : EventLine) (t : Track)
    → track_at (at_end lines line) ≡ Some t
    → t.container < count lines → last_time lines t ≤ line.time
    → latest (lines ++ line ∷ []) t.container ≡ max (latest lines t.container) line.time
latest-on lines line t is within below =
    ap (λ start. fold max start (map new (container_tracks (lines ++ line ∷ []) t.container)))
    (start-more lines line t.container within)
    ∙ (ap (λ ts. fold max start (map new (filter (of t.container) ts))) (tracks-next lines line t is)
    ∙ by (list_any (is_same t) (tracks_in lines)) refl)
  where
    new : Track → ℕ
    new = last_time (lines ++ line ∷ [])

    start : ℕ
    start = container_start lines t.container

    on : (s : Track) (b : Bool) → is_same s t ≡ b → is_on s (at_end lines line) ≡ b
    on s b e = ap (λ o. option_map_or (is_same s) o false) is ∙ e

    rises : (s : Track) → of t.container s ≡ true → RisesTo line.time (last_time lines) new s
    rises s of_it = one (is_same s t) refl
      where
        one : (b : Bool) → is_same s t ≡ b → RisesTo line.time (last_time lines) new s
        one true e = inr (
          last_time-on lines line s (on s true e),
          subst (λ u. last_time lines u ≤ line.time) (sym ((tells_track s t).0 e)) below,
        )
        one false e = inl (last_time-off lines line s (on s false e)
            (subst (λ n. n < count lines) (sym (eqb-true s.container t.container of_it)) within))

    risen : max (fold max start (map new (container_tracks lines t.container))) line.time
        ≡ max (latest lines t.container) line.time
    risen = greatest_rises (of t.container) (last_time lines) new line.time rises start start
        (tracks_in lines)
        refl

    by : (b : Bool) → list_any (is_same t) (tracks_in lines) ≡ b
        → fold max start (map new (filter (of t.container) (tracks_in lines ++ cond b [] (t ∷ []))))
        ≡ max (latest lines t.container) line.time
    by true known =
        let reaches : line.time ≤ fold max start (map new (container_tracks lines t.container)) =
        greatest_reaches (of t.container) (is_same t) new line.time
        (λ s e. let one : t ≡ s = (tells_track t s).0 e in (
          eq-eqb s.container t.container (ap (λ u. u.container) (sym one)),
          last_time-on lines line s (on s true (ap (λ u. is_same u t) (sym one) ∙ (tells_track t t).1 refl)),
        ))
        start (tracks_in lines) known in
        ap (λ ts. fold max start (map new (filter (of t.container) ts))) (append-nil (tracks_in lines))
        ∙ omega (arith, reaches, risen)
    by false fresh =
        ap (fold max start) (ap (map new) (filter-append (of t.container) (tracks_in lines) (t ∷ [])
        ∙ ap (λ b. container_tracks lines t.container ++ cond b (t ∷ []) [])
        (eq-eqb t.container t.container refl))
        ∙ map-append new (container_tracks lines t.container) (t ∷ []))
        ∙ (fold_push max start (map new (container_tracks lines t.container)) (new t)
        ∙ (ap (λ n. max (fold max start (map new (container_tracks lines t.container))) n)
        (last_time-on lines line t (on t true ((tells_track t t).1 refl))) ∙ risen))

pub places-on : (lines : List EventLine) (line : EventLine) (t : Track)
    → track_at (at_end lines line) ≡ Some t
    → track_places (lines ++ line ∷ []) t.container ≡ track_places lines t.container
    ++ cond (list_any (is_same t) (tracks_in lines)) [] (length (tracks_in lines) ∷ [])
places-on lines line t is =
    ap (λ ts. places_where (of t.container) ts) (tracks-next lines line t is)
    ∙ by (list_any (is_same t) (tracks_in lines))
  where
    by : (b : Bool) → places_where (of t.container) (tracks_in lines ++ cond b [] (t ∷ []))
        ≡ track_places lines t.container ++ cond b [] (length (tracks_in lines) ∷ [])
    by true = ap (λ ts. places_where (of t.container) ts) (append-nil (tracks_in lines))
        ∙ sym (append-nil (track_places lines t.container))
    by false = places_where-push (of t.container) (tracks_in lines) t
        ∙ ap (λ b. track_places lines t.container ++ cond b (length (tracks_in lines) ∷ []) [])
        (eq-eqb t.container t.container refl)

-- ---- the containers

-- one container at one place, by what changes
changed_at : (old new : List EventLine) (p : ℕ × DeclaredContainer) → latest new p.0 ≡ latest old p.0
    → destruction new p.0 ≡ destruction old p.0 → track_places new p.0 ≡ track_places old p.0
    → existing_at new p ≡ existing_at old p
changed_at old new p times ends places =
    ap (λ (n : ℕ). record {
      name = p.1.entity.name;
      start = p.1.start;
      latest = n;
      destruction = option_map (λ line. record { line = line.number; time = line.time })
          (destruction new p.0);
      tracks = track_places new p.0;
    }) times
    ∙ (ap (λ (o : Option EventLine). record {
      name = p.1.entity.name;
      start = p.1.start;
      latest = latest old p.0;
      destruction = option_map (λ line. record { line = line.number; time = line.time }) o;
      tracks = track_places new p.0;
    }) ends
    ∙ ap (λ (ts : List ℕ). record {
      name = p.1.entity.name;
      start = p.1.start;
      latest = latest old p.0;
      destruction = option_map (λ line. record { line = line.number; time = line.time })
          (destruction old p.0);
      tracks = ts;
    }) places)

is_plain : (lines : List EventLine) (line : EventLine) → is_state_event line.event ≡ false
    → track_at (at_end lines line) ≡ None
is_plain lines line none = ap (λ b. cond b (track_named lines line) None) none

-- it puts one container behind the others, without a track
pub existing-created : (lines : List EventLine) (line : EventLine) → line.event ≡ CreateContainer
    → existing_in (lines ++ line ∷ [])
    ≡ existing_in lines ++ created (text_of line roles.Name) line.time ∷ []
existing-created lines line is =
    ap (λ cs. map (existing_at (lines ++ line ∷ [])) (enumerate_from 0 cs))
    (containers-created lines line (ap creates is))
    ∙ (ap (map (existing_at (lines ++ line ∷ []))) (enumerate-push 0 (containers_in lines) (created_by line)
    (count lines) (omega arith))
    ∙ (map-append (existing_at (lines ++ line ∷ [])) (enumerate_from 0 (containers_in lines))
    ((count lines, created_by line) ∷ [])
    ∙ (ap (λ es. es ++ existing_at (lines ++ line ∷ []) (count lines, created_by line) ∷ [])
    (enumerate-kept (existing_at lines) (existing_at (lines ++ line ∷ [])) 0 (containers_in lines)
    (λ c d behind within. changed_at lines (lines ++ line ∷ []) (c, d)
    (latest-elsewhere lines line c (omega arith) (elsewhere c))
    (undestroyed c) (places-elsewhere lines line c (track_at (at_end lines line)) refl (elsewhere c))))
    ∙ ap (λ e. existing_in lines ++ e ∷ []) here)))
  where
    plain : track_at (at_end lines line) ≡ None
    plain = is_plain lines line (ap is_state_event is)

    elsewhere : (c : ℕ) → IsElsewhere lines line c
    elsewhere c = subst (λ o. IfSome o (λ (t : Track). t.container ≡ c → ⊥)) (sym plain) tt

    undestroyed : (c : ℕ) → destruction (lines ++ line ∷ []) c ≡ destruction lines c
    undestroyed c = destruction-stays lines line c (ap (λ e. destroys e && option_map_or (λ d. d == c)
        (container_named lines (text_of line roles.Name)) false) is)

    outside : All (λ t. of (count lines) t ≡ false) (tracks_in lines)
    outside = All-weaker (λ t. t.container < count lines) (λ t. of (count lines) t ≡ false)
        (λ t within. ne_eqb t.container (count lines) (λ e. omega arith)) (tracks_in lines)
        (tracks-within lines)

    no_places : track_places (lines ++ line ∷ []) (count lines) ≡ []
    no_places = places-elsewhere lines line (count lines) (track_at (at_end lines line)) refl
        (elsewhere (count lines)) ∙ places_where-none (of (count lines)) (tracks_in lines) outside

    no_tracks : container_tracks (lines ++ line ∷ []) (count lines) ≡ []
    no_tracks = ap (filter (of (count lines))) (tracks-stay lines line plain)
        ∙ filter_All-none (of (count lines)) (tracks_in lines) outside

    at_start : latest (lines ++ line ∷ []) (count lines) ≡ line.time
    at_start = ap (λ ts. fold max (container_start (lines ++ line ∷ []) (count lines))
        (map (last_time (lines ++ line ∷ [])) ts)) no_tracks ∙ start-created lines line (ap creates is)

    here : existing_at (lines ++ line ∷ []) (count lines, created_by line)
        ≡ created (text_of line roles.Name) line.time
    here = ap (λ (n : ℕ). record {
      name = text_of line roles.Name;
      start = line.time;
      latest = n;
      destruction = option_map (λ line. record { line = line.number; time = line.time })
          (destruction (lines ++ line ∷ []) (count lines));
      tracks = track_places (lines ++ line ∷ []) (count lines);
    }) at_start
        ∙ (ap (λ (o : Option EventLine). record {
          name = text_of line roles.Name;
          start = line.time;
          latest = line.time;
          destruction = option_map (λ line. record { line = line.number; time = line.time }) o;
          tracks = track_places (lines ++ line ∷ []) (count lines);
        }) (undestroyed (count lines) ∙ not_destroyed lines (count lines) (omega arith))
        ∙ ap (λ (ts : List ℕ). record {
          name = text_of line roles.Name;
          start = line.time;
          latest = line.time;
          destruction = None;
          tracks = ts;
        }) no_places)

-- it notes the end of the container that it names
pub existing-destroyed : (lines : List EventLine) (line : EventLine) (c : ℕ) (e : Existing)
    → line.event ≡ DestroyContainer → container_named lines (text_of line roles.Name) ≡ Some c
    → destruction lines c ≡ None → slice_get (existing_in lines) c ≡ Some e
    → existing_in (lines ++ line ∷ [])
    ≡ set (existing_in lines) c (destroyed_by line.number line.time e)
existing-destroyed lines line c e is named none at =
    ap (λ cs. map (existing_at (lines ++ line ∷ [])) (enumerate_from 0 cs))
    (containers-kept lines line (ap creates is))
    ∙ enumerate-set (existing_at lines) (existing_at (lines ++ line ∷ []))
    (destroyed_by line.number line.time)
    0 (containers_in lines) c c e (omega arith)
    (λ d x apart within. changed_at lines (lines ++ line ∷ []) (d, x)
    (latest-elsewhere lines line d (omega arith) (elsewhere d))
    (destruction-stays lines line d (ends_other lines line d
    (subst (λ o. IfSome o (λ (d' : ℕ). d' ≡ d → ⊥)) (sym named) (λ q. apart (sym q)))))
    (places-elsewhere lines line d (track_at (at_end lines line)) refl (elsewhere d)))
    (λ x. here x) at
  where
    plain : track_at (at_end lines line) ≡ None
    plain = is_plain lines line (ap is_state_event is)

    elsewhere : (d : ℕ) → IsElsewhere lines line d
    elsewhere d = subst (λ o. IfSome o (λ (t : Track). t.container ≡ d → ⊥)) (sym plain) tt

    ends : ends_container c (at_end lines line) ≡ true
    ends = ap (λ e. destroys e && option_map_or (λ d. d == c)
        (container_named lines (text_of line roles.Name)) false) is
        ∙ (ap (λ o. option_map_or (λ d. d == c) o false) named ∙ eq-eqb c c refl)

    there : c < count lines
    there = subst (λ o. IfSome o (λ c. c < count lines)) named
        (container-within lines (text_of line roles.Name))

    here : (x : DeclaredContainer) → existing_at (lines ++ line ∷ []) (c, x)
        ≡ destroyed_by line.number line.time (existing_at lines (c, x))
    here x = ap (λ (n : ℕ). record {
      name = x.entity.name;
      start = x.start;
      latest = n;
      destruction = option_map (λ line. record { line = line.number; time = line.time })
          (destruction (lines ++ line ∷ []) c);
      tracks = track_places (lines ++ line ∷ []) c;
    }) (latest-elsewhere lines line c there (elsewhere c))
        ∙ (ap (λ (o : Option EventLine). record {
          name = x.entity.name;
          start = x.start;
          latest = latest lines c;
          destruction = option_map (λ line. record { line = line.number; time = line.time }) o;
          tracks = track_places (lines ++ line ∷ []) c;
        }) (destruction-now lines line c ends none)
        ∙ ap (λ (ts : List ℕ). record {
          name = x.entity.name;
          start = x.start;
          latest = latest lines c;
          destruction = Some (record { line = line.number; time = line.time });
          tracks = ts;
        }) (places-elsewhere lines line c (track_at (at_end lines line)) refl (elsewhere c)))

-- a state event neither creates nor destroys
pub no_declaration : (event : EventName) → is_state_event event ≡ true
    → (creates event ≡ false) × (destroys event ≡ false)
no_declaration CreateContainer is = absurd (true≢false (sym is))
no_declaration DestroyContainer is = absurd (true≢false (sym is))
no_declaration _ is = (refl, refl)

-- the track of a state event
pub track_is : (lines : List EventLine) (line : EventLine) (t : Track) → is_state_event line.event ≡ true
    → track_named lines line ≡ Some t → track_at (at_end lines line) ≡ Some t
track_is lines line t is named = ap (λ b. cond b (track_named lines line) None) is ∙ named

-- its container has one track more exactly where the track is new
abbrev pub with_new_track : Bool → ℕ → Existing → Existing
with_new_track known track e = record e { tracks = e.tracks ++ cond known [] (track ∷ []) }

-- it notes its time at the container of its track
pub existing-touched : (lines : List EventLine) (line : EventLine) (t : Track) (e : Existing)
    → is_state_event line.event ≡ true → track_named lines line ≡ Some t → last_time lines t ≤ line.time
    → slice_get (existing_in lines) t.container ≡ Some e
    → existing_in (lines ++ line ∷ []) ≡ set (existing_in lines) t.container (touched_at line.time
    (with_new_track (list_any (is_same t) (tracks_in lines)) (length (tracks_in lines)) e))
existing-touched lines line t e is named below at =
    ap (λ cs. map (existing_at (lines ++ line ∷ [])) (enumerate_from 0 cs))
    (containers-kept lines line (no_declaration line.event is).0)
    ∙ enumerate-set (existing_at lines) (existing_at (lines ++ line ∷ []))
    (λ e. touched_at line.time (with_new_track (list_any (is_same t) (tracks_in lines))
    (length (tracks_in lines)) e))
    0 (containers_in lines) t.container t.container e (omega arith)
    (λ d x apart within. changed_at lines (lines ++ line ∷ []) (d, x)
    (latest-elsewhere lines line d (omega arith) (elsewhere d apart)) (undestroyed d)
    (places-elsewhere lines line d (track_at (at_end lines line)) refl (elsewhere d apart)))
    (λ x. here x) at
  where
    told : track_at (at_end lines line) ≡ Some t
    told = track_is lines line t is named

    there : t.container < count lines
    there = (track_exists lines line t named).0

    elsewhere : (d : ℕ) → (d ≡ t.container → ⊥) → IsElsewhere lines line d
    elsewhere d apart = subst (λ o. IfSome o (λ (t : Track). t.container ≡ d → ⊥)) (sym told)
        (λ q. apart (sym q))

    undestroyed : (d : ℕ) → destruction (lines ++ line ∷ []) d ≡ destruction lines d
    undestroyed d = destruction-stays lines line d (ap (λ b. b && option_map_or (λ c. c == d)
        (container_named lines (text_of line roles.Name)) false) (no_declaration line.event is).1)

    here : (x : DeclaredContainer) → existing_at (lines ++ line ∷ []) (t.container, x)
        ≡ touched_at line.time (with_new_track (list_any (is_same t) (tracks_in lines))
        (length (tracks_in lines))
        (existing_at lines (t.container, x)))
    here x = ap (λ (n : ℕ). record {
      name = x.entity.name;
      start = x.start;
      latest = n;
      destruction = option_map (λ line. record { line = line.number; time = line.time })
          (destruction (lines ++ line ∷ []) t.container);
      tracks = track_places (lines ++ line ∷ []) t.container;
    }) (latest-on lines line t told there below)
        ∙ (ap (λ (o : Option EventLine). record {
          name = x.entity.name;
          start = x.start;
          latest = max (latest lines t.container) line.time;
          destruction = option_map (λ line. record { line = line.number; time = line.time }) o;
          tracks = track_places (lines ++ line ∷ []) t.container;
        }) (undestroyed t.container)
        ∙ ap (λ (ts : List ℕ). record {
          name = x.entity.name;
          start = x.start;
          latest = max (latest lines t.container) line.time;
          destruction = option_map (λ line. record { line = line.number; time = line.time })
              (destruction lines t.container);
          tracks = ts;
        }) (places-on lines line t told))
