-- What a history tells of a trace was in one of its entries, and stays.
use Rattle.std.proofs.Common.{◌≡◌, ℕ, ◌≤◌, true, false, ◌&&◌, cond, eqb, List, [], ◌∷◌, ◌++◌}
use Rattle.std.proofs.Common.{length, take, drop, Option, None, Some, refl, sym, ap, ◌∙◌, arith}
use Rattle.std.proofs.Common.{length-append, Contains, get_or, map, subst}
use Rattle.std.specs.Prelude.{is_some, IsSome}
use Rattle.std.specs.Option.{option_to_list, ForSome}
use Rattle.std.proofs.lemmas.List.{take-append-drop, take-append-le, take_all}
use Rattle.std.proofs.lemmas.Option.{cond_some}
use Rattle.std.specs.Cmp.{first_so, second_so}
use Rattle.list_lemmas.proofs.Found.{first-append, first_given, given_from_first}
use Rattle.list_lemmas.proofs.Options.{or_stays}
use Rattle.trace_base.specs.declared.names.TraceInfo.{TraceInfo}
use Rattle.hall_history.specs.History.{Entry, EntryOf, Opened, Published, Sealed, Dropped, Closed, Asked}
use Rattle.hall_history.specs.History.{info_opened, published_as, info_of}
use Rattle.hall_history.specs.History.{published_of, published_count, MayFollow, IsLegalHistory}
use Rattle.hall_history.specs.History.{IsTrackTree, PublishedTree}
use Rattle.hall_history.specs.Asks.{first_id, second_id, id_at}
use Rattle.plain_hall.specs.PlainSeat.{IsHeld, kept_view}
use Rattle.hall_history.specs.declared.seat.PinView.{PinView}
use Rattle.plain_hall.specs.declared.kept_pin.KeptPin.{KeptPin}
use Rattle.std.proofs.lemmas.Bool.{eqb-true}
use Rattle.std.proofs.lemmas.Bool.Decides.{nat_tests}
use Rattle.plain_hall.specs.Orderly.{IsOrderly}

-- the first value of some entries is that of all
first_stays : {X : Type 0} → {Y : Type 0} (h : EntryOf X → Option Y) (entries : List (EntryOf X)) (n : ℕ) (y : Y)
    → first_given h (take n entries) ≡ Some y → first_given h entries ≡ Some y
first_stays h entries n y at = ap (first_given h) (sym (take-append-drop n entries)) ∙ first-append h
    (take n entries) (drop n entries) ∙ or_stays (first_given h (take n entries)) _ y at

pub info_stays : {X : Type 0} → (entries : List (EntryOf X)) (n id : ℕ) (info : TraceInfo)
    → info_of (take n entries) id ≡ Some info → info_of entries id ≡ Some info
unfolding info_of
info_stays entries n id info at = first_stays (info_opened id) entries n info at

-- what was told at a place is told later
pub same_info : {X : Type 0} → (entries : List (EntryOf X)) (n id : ℕ) → IsSome (info_of (take n entries) id)
    → info_of (take n entries) id ≡ info_of entries id
same_info entries n id told = go (info_of (take n entries) id) refl told
  where
    go : (o : Option TraceInfo) → info_of (take n entries) id ≡ o → is_some o ≡ true
        → info_of (take n entries) id ≡ info_of entries id
    go None e t = absurd cc
    go (Some info) e t = e ∙ sym (info_stays entries n id info e)

published_tracks : (before : List Entry) (e : Entry) (id track : ℕ) (p : PublishedTree)
    → published_as id track e ≡ Some p → MayFollow before e → IsTrackTree before id track p
published_tracks before (Published other which t) id track p gives may =
    let both = cond_some (eqb other id && eqb which track) t p gives in
    let same_id : other ≡ id = eqb-true other id (first_so _ _ both.0) in
    let same_track : which ≡ track = eqb-true which track (second_so _ _ both.0) in
    let P : ℕ → Type 0 = λ i. IsTrackTree before i track p in
    let Q : ℕ → Type 0 = λ i. IsTrackTree before other i p in
    let R : PublishedTree → Type 0 = λ i. IsTrackTree before other which i in
    subst P same_id (subst Q same_track (subst R both.1 may.2))
published_tracks before (Opened other i) id track p gives may = absurd cc
published_tracks before (Sealed other) id track p gives may = absurd cc
published_tracks before (Dropped other) id track p gives may = absurd cc
published_tracks before (Closed other) id track p gives may = absurd cc
published_tracks before Asked id track p gives may = absurd cc

-- what is published in a legal history is the tree of a stream that fits its track
pub published_fits : (entries : List Entry) (id track : ℕ) (p : PublishedTree) → IsLegalHistory entries
    → published_of entries id track ≡ Some p → IsTrackTree entries id track p
unfolding published_of
published_fits entries id track p legal at =
    let where_from = given_from_first (published_as id track) entries p at in
    let tree = published_tracks (take where_from.0 entries) where_from.1 id track p where_from.3
    (legal where_from.0 where_from.1 where_from.2) in
    let fits = tree.1 in
    (tree.0, (fits.0, info_stays entries where_from.0 id fits.0 fits.1, fits.2, fits.3), tree.2)

-- a track that isn't published has no stream
pub not_published : {X : Type 0} → (entries : List (EntryOf X)) (id track : ℕ) → IsOrderly entries
    → published_count entries id ≤ track
    → published_of entries id track ≡ None
not_published entries id track orderly past =
    let off : is_some (published_of entries id track) ≡ false = orderly.in_order id track ∙ grind
    (arith, nat_tests) in
    elim (published_of entries id track) as (λ o. is_some o ≡ false → o ≡ None)
    [ None ↦ λ e. refl | Some s ↦ λ e. absurd cc ] off

-- a pin is held on
pub held_more : {X : Type 0} → (old new : List (EntryOf X)) (e : EntryOf X) (pin : Option KeptPin) → new ≡ old ++ e ∷ []
    → ForSome pin (IsHeld old) → ForSome pin (IsHeld new)
held_more old new e pin seen held p is =
    let was = held p is in
    let same : take p.place new ≡ take p.place old = ap (take p.place) seen ∙ take-append-le p.place old
    (e ∷ []) was.place in
    record {
      place = omega (arith, was.place, ap length seen, length-append old (e ∷ []));
      first = ap (λ es. is_some (info_of es (first_id p.ids))) same ∙ was.first;
      second = ap (λ es. is_some (info_of es (second_id p.ids))) same ∙ was.second;
    }

pub held_told : {X : Type 0} → (entries : List (EntryOf X)) (pin : KeptPin) → pin.place ≡ length entries
    → IsSome (info_of entries (first_id pin.ids)) → IsSome (info_of entries (second_id pin.ids))
    → IsHeld entries pin
held_told entries pin last first second =
    let same : take pin.place entries ≡ entries = take_all pin.place entries (omega arith) in
    record {
      place = omega arith;
      first = ap (λ es. is_some (info_of es (first_id pin.ids))) same ∙ first;
      second = ap (λ es. is_some (info_of es (second_id pin.ids))) same ∙ second;
    }

-- the pin of the seat is the one that is kept
pub has_pin : (o : Option KeptPin) (view : PinView) → Contains (map kept_view (option_to_list o)) view
    → (p : KeptPin) × (o ≡ Some p) × (kept_view p ≡ view)
has_pin None view has = absurd (omega (arith, has.1))
has_pin (Some p) view has =
    let at : has.0 ≡ 0 = omega (arith, has.1) in
    (p, refl, sym (ap (λ k. get_or (kept_view p ∷ []) k view) at) ∙ has.2)

-- the info of a pin's trace is told, and is the one of its place
pub pin_told : {X : Type 0} → (entries : List (EntryOf X)) (pin : Option KeptPin) (view : PinView) (which : ℕ)
    → ForSome pin (IsHeld entries) → Contains (map kept_view (option_to_list pin)) view
    → IsSome (info_of (take view.place entries) (id_at view.ids which))
pin_told entries pin view which held has =
    let here = has_pin pin view has in
    let facts = held here.0 here.1 in
    let P : PinView → Type 0 = λ v. IsSome (info_of (take v.place entries) (id_at v.ids which)) in
    subst P here.2
    (elim (eqb which 0) as (λ b. IsSome
    (info_of (take here.0.place entries) (cond b (first_id here.0.ids) (second_id here.0.ids))))
    [ true ↦ facts.first | false ↦ facts.second ])
