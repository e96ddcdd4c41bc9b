-- What the slots of a kept trace tell is what the history tells.
use Rattle.std.proofs.Common.{◌≡◌, ℕ, ◌+◌, ◌-◌, ◌<◌, ◌≤◌, inl, inr, Bool, true, false, ◌&&◌, ◌||◌, cond}
use Rattle.std.proofs.Common.{eqb, leb, List, [], ◌∷◌, suc, zero, length, take, filter, Option, None}
use Rattle.std.proofs.Common.{Some, refl, sym, ap, ◌∙◌, subst, arith}
use Rattle.std.specs.Prelude.{count_by, is_some, slice_get}
use Rattle.std.specs.List.{filter_map, range_with_len}
use Rattle.std.specs.Option.{option_and_then}
use Rattle.std.proofs.Math.Path.{fun_ext}
use Rattle.std.proofs.lemmas.Bool.{leb-true}
use Rattle.std.proofs.lemmas.Bool.Decides.{eqb_tells, nat_tests}
use Rattle.std.proofs.lemmas.List.{take-take}
use Rattle.list_lemmas.proofs.AroundOne.{Lacks, more, range_above, range_below}
use Rattle.list_lemmas.proofs.Booleans.{one_if}
use Rattle.list_lemmas.proofs.Distinct.{EachOnce, once_more}
use Rattle.list_lemmas.proofs.Filters.{count_by-cons, count_by-never, count_by-or}
use Rattle.list_lemmas.proofs.Fronts.{length-cond}
use Rattle.list_lemmas.proofs.Options.{cond_is_some, is_some-cons_option, none_before}
use Rattle.list_lemmas.proofs.Positions.{past_end}
use Rattle.hall_history.specs.declared.published.Published.TheVariants.{NotYet, Root}
use Rattle.hall_history.specs.History.{Asked, Closed, Dropped, EntryOf, Opened, Published, Sealed}
use Rattle.hall_history.specs.History.{published_as, published_count, published_of, publishes}
use Rattle.hall_history.proofs.HistoryFronts.{none_yet, published_stays}
use Rattle.registry_core.specs.Registry.{RegistryValue, kept_trace}
use Rattle.registry_core.specs.Standing.{KeepsTrace, KeepsTrack, RootsAre, StandsFor, Start}
use Rattle.registry_core.specs.Trace.{Trace, published_by, published_tracks, seen_by_place}
use Rattle.registry_core.specs.declared.track_root.TrackRoot.{TrackRoot}
use Rattle.registry_core.proofs.KeptTraces.{kept_id}

-- ---- a longer front tells no less

-- what the first m entries tell is told by the first n
pub published_later : {X : Type 0} (entries : List (EntryOf X)) (m n id track : ℕ) (what : X) → m ≤ n
    → published_of (take m entries) id track ≡ Some what → published_of (take n entries) id track ≡ Some what
published_later entries m n id track what le at = published_stays (take n entries) m id track what
    (ap (λ es. published_of es id track) (take-take m n entries (omega arith)) ∙ at)

-- what the first n entries don't tell isn't told by the first m
pub none_earlier : {X : Type 0} (entries : List (EntryOf X)) (m n id track : ℕ) → m ≤ n
    → published_of (take n entries) id track ≡ None → published_of (take m entries) id track ≡ None
none_earlier entries m n id track le none = none_before _ _
    (λ what at. published_later entries m n id track what le at) none

-- ---- no more tracks are published than entries say

-- how many of these tracks are published
abbrev pub published_among : {X : Type 0} → List (EntryOf X) → ℕ → List ℕ → ℕ
published_among entries id tracks = count_by (λ track. is_some (published_of entries id track)) tracks

-- entries publish at least as many tracks of a trace as are told among different ones
at_most : {X : Type 0} (entries : List (EntryOf X)) (id : ℕ) (tracks : List ℕ) → EachOnce tracks
    → published_among entries id tracks ≤ published_count entries id
unfolding published_of published_count
at_most [] id tracks once = omega (arith, count_by-never tracks)
at_most {X} (Published other which what ∷ entries) id tracks once =
    let this : ℕ → Bool = λ track. eqb other id && eqb which track in
    let before : ℕ → Bool = λ track. is_some (published_of entries id track) in
    let either : ℕ → Bool = λ track. this track || before track in
    let now : ℕ → Bool = λ track. is_some (published_of (Published other which what ∷ entries) id track) in
    let tests : now ≡ either = fun_ext (λ track.
    is_some-cons_option (cond (this track) (Some what) None) (filter_map (published_as id track) entries)
    ∙ ap (λ b. b || before track) (cond_is_some (this track) what)) in
    omega (
      arith,
      ap (λ p. count_by p tracks) tests,
      count_by-or this before tracks,
      once_more (eqb other id) which tracks once,
      length-cond (eqb other id) (Published other which what) (filter (publishes id) entries),
      at_most entries id tracks once,
    )
at_most (Opened other info ∷ entries) id tracks once = at_most entries id tracks once
at_most (Sealed other ∷ entries) id tracks once = at_most entries id tracks once
at_most (Dropped other ∷ entries) id tracks once = at_most entries id tracks once
at_most (Closed other ∷ entries) id tracks once = at_most entries id tracks once
at_most (Asked ∷ entries) id tracks once = at_most entries id tracks once

-- ---- a range, and one number outside of it

-- a number that a list lacks isn't counted in it
count_lacks : (x : ℕ) (xs : List ℕ) → Lacks x xs → count_by (eqb x) xs ≡ 0
count_lacks x [] lacks = refl
count_lacks x (y ∷ ys) (more z zs other rest) =
    omega (arith, count_by-cons (eqb x) y ys, ap one_if other, count_lacks x ys rest)

-- each number of a range stands in it once
range_once : (a n : ℕ) → EachOnce (range_with_len a n)
range_once a zero x = omega arith
range_once a (suc n) x =
    let first = count_by-cons (eqb x) a (range_with_len (a + 1) n) in
    elim (eqb_tells x a) [
      | inl same ↦ omega (
        arith,
        first,
        ap one_if same.0,
        count_lacks x (range_with_len (a + 1) n) (range_above (a + 1) n x (omega (arith, same.1))),
      )
      | inr other ↦ omega (arith, first, ap one_if other.0, range_once (a + 1) n x)
    ]

-- so it is with one number in front that lies past the range
past_once : (y n : ℕ) → n ≤ y → EachOnce (y ∷ range_with_len 0 n)
past_once y n le x =
    let first = count_by-cons (eqb x) y (range_with_len 0 n) in
    elim (eqb_tells x y) [
      | inl same ↦ omega (
        arith,
        first,
        ap one_if same.0,
        count_lacks x (range_with_len 0 n) (range_below 0 n x (omega (arith, same.1))),
      )
      | inr other ↦ omega (arith, first, ap one_if other.0, range_once 0 n x)
    ]

-- ---- what a slot says, and what no slot says

-- the slots that are published, counted by what is told at their places
slots_counted : {X : Type 0} (told : ℕ → Option X) (a : ℕ) (slots : List (Option TrackRoot))
    → ((track : ℕ) (slot : Option TrackRoot) → slice_get slots track ≡ Some slot
    → is_some slot ≡ is_some (told (a + track)))
    → count_by is_some slots ≡ count_by (λ track. is_some (told track)) (range_with_len a (length slots))
slots_counted told a [] each = refl
slots_counted told a (slot ∷ slots) each =
    let here : is_some slot ≡ is_some (told a) =
    each 0 slot refl ∙ ap (λ n. is_some (told n)) (let e : a + 0 ≡ a = omega arith in e) in
    let rest = slots_counted told (a + 1) slots (λ track s at. each (suc track) s at
    ∙ ap (λ n. is_some (told n)) (let e : a + suc track ≡ a + 1 + track = omega arith in e)) in
    omega (
      arith,
      rest,
      ap one_if here,
      count_by-cons is_some slot slots,
      count_by-cons (λ track. is_some (told track)) a (range_with_len (a + 1) (length slots)),
    )

-- a slot is published where its track is told
slot_tells : {X : Type 0} (are : RootsAre X) (start : Start) (entries : List (EntryOf X)) (id track : ℕ)
    (slot : Option TrackRoot) → KeepsTrack are start entries id track slot
    → is_some slot ≡ is_some (published_of entries id track)
slot_tells are start entries id track None keeps = ap is_some (sym keeps)
slot_tells are start entries id track (Some r) (what, is, from, by) = ap is_some
    (sym (published_stays entries _ id track what by.from))

-- of a track that the trace doesn't have nothing is published
pub none_past_slots : {X : Type 0} (are : RootsAre X) (start : Start) (entries : List (EntryOf X)) (t : Trace)
    (track : ℕ) → KeepsTrace are start entries t → length t.tracks ≤ track
    → published_of entries t.id track ≡ None
none_past_slots {X} are start entries t track keeps past = by (published_of entries t.id track) refl
  where
    among : published_tracks t ≡ published_among entries t.id (range_with_len 0 (length t.tracks))
    among = slots_counted (published_of entries t.id) 0 t.tracks
        (λ track slot at. slot_tells are start entries t.id track slot (keeps.tracks track slot at)
        ∙ ap (λ n. is_some (published_of entries t.id n)) (let e : track ≡ 0 + track = omega arith in e))

    by : (o : Option X) → published_of entries t.id track ≡ o → o ≡ None
    by None is = refl
    by (Some what) is = absurd (omega (
      arith,
      among,
      keeps.count,
      at_most entries t.id (track ∷ range_with_len 0 (length t.tracks))
          (past_once track (length t.tracks) past),
      count_by-cons (λ n. is_some (published_of entries t.id n)) track (range_with_len 0 (length t.tracks)),
      ap (λ o. one_if (is_some o)) is,
    ))

-- ---- what is told of a track as of a place

-- a root that a trace tells as of a place was published by then
root_told : {X : Type 0} (are : RootsAre X) (start : Start) (entries : List (EntryOf X)) (t : Trace)
    (place track from root : ℕ) → KeepsTrace are start entries t → published_by t place track ≡ Root from root
    → (what : X) × (published_of (take (place - start.place) entries) t.id track ≡ Some what)
    × are from root what
root_told {X} are start entries t place track from root keeps told = by (slice_get t.tracks track) refl told
  where
    seen : (q : TrackRoot) (b : Bool) → leb q.place place ≡ b
        → cond b (Root q.start q.root) NotYet ≡ Root from root
        → KeepsTrack are start entries t.id track (Some q)
        → (what : X) × (published_of (take (place - start.place) entries) t.id track ≡ Some what)
        × are from root what
    seen q true le is (what, so, since, by) =
        let first : q.start ≡ from = cc in
        let second : q.root ≡ root = cc in
        let behind : q.place ≤ place = leb-true q.place place le in (
          what,
          published_later entries (q.place - start.place) (place - start.place) t.id track what (omega arith)
              by.from,
          subst (λ (n : ℕ). are n root what) first (subst (λ (n : ℕ). are q.start n what) second so),
        )
    seen q false le is keeps = absurd cc

    by : (o : Option (Option TrackRoot)) → slice_get t.tracks track ≡ o
        → seen_by_place place (option_and_then (λ slot. slot) o) ≡ Root from root
        → (what : X) × (published_of (take (place - start.place) entries) t.id track ≡ Some what)
        × are from root what
    by None at is = absurd cc
    by (Some None) at is = absurd cc
    by (Some (Some q)) at is = seen q (leb q.place place) refl is (keeps.tracks track (Some q) at)

-- what a trace doesn't tell as of a place wasn't published by then
none_told : {X : Type 0} (are : RootsAre X) (start : Start) (entries : List (EntryOf X)) (t : Trace)
    (place track : ℕ) → KeepsTrace are start entries t → published_by t place track ≡ NotYet
    → published_of (take (place - start.place) entries) t.id track ≡ None
none_told {X} are start entries t place track keeps told = by (slice_get t.tracks track) refl told
  where
    seen : (q : TrackRoot) (b : Bool) → leb q.place place ≡ b → cond b (Root q.start q.root) NotYet ≡ NotYet
        → KeepsTrack are start entries t.id track (Some q)
        → published_of (take (place - start.place) entries) t.id track ≡ None
    seen q true le is keeps = absurd cc
    seen q false le is (what, so, since, by) =
        let least = by.least in
        let ahead : place < q.place = grind (arith, nat_tests) in
        none_earlier entries (place - start.place) (q.place - start.place - 1) t.id track (omega arith)
        by.before

    by : (o : Option (Option TrackRoot)) → slice_get t.tracks track ≡ o
        → seen_by_place place (option_and_then (λ slot. slot) o) ≡ NotYet
        → published_of (take (place - start.place) entries) t.id track ≡ None
    by None at is = none_yet entries _ t.id track
        (none_past_slots are start entries t track keeps (past_end t.tracks track at))
    by (Some None) at is = none_yet entries _ t.id track (keeps.tracks track None at)
    by (Some (Some q)) at is = seen q (leb q.place place) refl is (keeps.tracks track (Some q) at)

-- ---- a registry that stands for its history

-- a root that the registry tells as of a place is what the history published by then
pub published_told : {X : Type 0} (are : RootsAre X) (start : Start) (r : RegistryValue)
    (entries : List (EntryOf X)) (id place track from root : ℕ) (t : Trace) → StandsFor are start r entries
    → kept_trace r.traces id ≡ Some t → published_by t place track ≡ Root from root
    → (what : X) × (published_of (take (place - start.place) entries) id track ≡ Some what)
    × are from root what
published_told are start r entries id place track from root t stands at told =
    let it = root_told are start entries t place track from root (stands.traces id t at) told in (
      it.0,
      ap (λ n. published_of (take (place - start.place) entries) n track) (sym (kept_id r.traces id t at))
          ∙ it.1,
      it.2,
    )

-- what the registry doesn't tell as of a place the history hadn't published by then
pub not_yet_told : {X : Type 0} (are : RootsAre X) (start : Start) (r : RegistryValue)
    (entries : List (EntryOf X)) (id place track : ℕ) (t : Trace) → StandsFor are start r entries
    → kept_trace r.traces id ≡ Some t → published_by t place track ≡ NotYet
    → published_of (take (place - start.place) entries) id track ≡ None
not_yet_told are start r entries id place track t stands at told =
    ap (λ n. published_of (take (place - start.place) entries) n track) (sym (kept_id r.traces id t at))
    ∙ none_told are start entries t place track (stands.traces id t at) told

-- ---- more roots

-- a slot that keeps its track keeps it where each root is what it was
track_kept : {X : Type 0} (are others : RootsAre X) (start : Start) (entries : List (EntryOf X))
    (id track : ℕ) (slot : Option TrackRoot)
    → ((from root : ℕ) (what : X) → are from root what → others from root what)
    → KeepsTrack are start entries id track slot → KeepsTrack others start entries id track slot
track_kept are others start entries id track None stays keeps = keeps
track_kept are others start entries id track (Some r) stays (what, is, since, by) = (
  what,
  stays r.start r.root what is,
  since,
  by,
)

-- a registry stands for its history where each root is what it was
pub stands_with_more : {X : Type 0} (are others : RootsAre X) (start : Start) (r : RegistryValue)
    (entries : List (EntryOf X)) → ((from root : ℕ) (what : X) → are from root what → others from root what)
    → StandsFor are start r entries → StandsFor others start r entries
stands_with_more are others start r entries stays stands = record {
  sound = stands.sound;
  place = stands.place;
  ids = stands.ids;
  next_id = stands.next_id;
  promised = stands.promised;
  untold = stands.untold;
  opens = stands.opens;
  traces = λ id t at.
      let keeps = stands.traces id t at in
      record {
        info = keeps.info;
        loading = keeps.loading;
        count = keeps.count;
        tracks = λ track slot is. track_kept are others start entries t.id track slot stays
            (keeps.tracks track slot is);
      };
}
