-- A legal and orderly history stays so with an entry that may follow.
use Rattle.std.proofs.Common.{◌≡◌, ℕ, ◌+◌, ◌<◌, ◌≤◌, inl, inr, true, false, ◌&&◌, cond, eqb}
use Rattle.std.proofs.Common.{ltb, List, [], ◌∷◌, ◌++◌, length, None, Some, refl, sym, ap, ◌∙◌, subst}
use Rattle.std.proofs.Common.{arith, length-append}
use Rattle.std.specs.Prelude.{is_some}
use Rattle.std.specs.List.{list_any, range_with_len}
use Rattle.std.specs.Option.{option_or, option_to_list, option_map_or}
use Rattle.std.proofs.lemmas.List.{append-nil}
use Rattle.std.proofs.lemmas.Bool.{eq-eqb}
use Rattle.std.proofs.lemmas.Bool.Decides.{eqb_tells, nat_tests}
use Rattle.std.specs.Cmp.{first_so}
use Rattle.list_lemmas.proofs.Options.{or_None, or_Some}
use Rattle.list_lemmas.proofs.Ranges.{in_range, range_with_len-more}
use Rattle.trace_base.specs.declared.names.TraceInfo.{TraceInfo}
use Rattle.hall_history.specs.History.{Entry, EntryOf, Opened, Published, Sealed, Dropped, Closed, Asked}
use Rattle.hall_history.specs.History.{opened_id, opened_ids, info_of, published_of, is_open, tracks_of}
use Rattle.hall_history.specs.History.{published_count, MayFollow, PublishedTree}
use Rattle.plain_hall.specs.Orderly.{IsOrderly, IsUnborn}
use Rattle.hall_history.proofs.HistoryMore.{SameData, subject, opened_more, info_more, published_more}
use Rattle.hall_history.proofs.HistoryMore.{count_more, data_of_others, fate_of_others, data_sealed}
use Rattle.hall_history.proofs.HistoryMore.{data_dropped, data_closed, data_asked, tracks_same}
use Rattle.hall_history.proofs.HistoryFronts.{loading_open}

-- an open trace has an id that was given
pub open_within : {X : Type 0} → (entries : List (EntryOf X)) (id : ℕ) → IsOrderly entries → is_open entries id ≡ true → (1 ≤ id)
    × (id ≤ length (opened_ids entries))
unfolding is_open
open_within entries id orderly on =
    let among : list_any (λ other. eqb other id) (opened_ids entries) ≡ true = first_so _ _ on in
    let within = in_range 1 (length (opened_ids entries)) id
    (sym (ap (list_any (λ other. eqb other id)) orderly.ids) ∙ among) in
    (within.0, omega arith)

-- the track that the entry publishes is the next of its trace
abbrev pub IsInTurn : List Entry → Entry → Type 0
IsInTurn entries (Published id track stream) = track ≡ published_count entries id
IsInTurn entries (Opened id info) = Unit {0}
IsInTurn entries (Sealed id) = Unit {0}
IsInTurn entries (Dropped id) = Unit {0}
IsInTurn entries (Closed id) = Unit {0}
IsInTurn entries Asked = Unit {0}

-- the subject has an id that is given after the entry
subject_within : (entries : List Entry) (e : Entry) → IsOrderly entries → MayFollow entries e
    → subject e ≤ length (opened_ids (entries ++ e ∷ []))
subject_within entries (Opened id info) orderly may = rw (opened_more entries (Opened id info))
    (omega (arith, length-append (opened_ids entries) (id ∷ []), may.0))
subject_within entries (Published id track s) orderly may =
    rw (opened_more entries (Published id track s), append-nil)
    (open_within entries id orderly (loading_open entries id may.0)).1
subject_within entries (Sealed id) orderly may = rw (opened_more entries (Sealed id), append-nil)
    (open_within entries id orderly (loading_open entries id may.0)).1
subject_within entries (Dropped id) orderly may = rw (opened_more entries (Dropped id), append-nil)
    (open_within entries id orderly (loading_open entries id may)).1
subject_within entries (Closed id) orderly may = rw (opened_more entries (Closed id), append-nil)
    (open_within entries id orderly may.0).1
subject_within entries Asked orderly may = omega arith

-- no fewer ids
ids_grow : {X : Type 0} → (entries : List (EntryOf X)) (e : EntryOf X) → length (opened_ids entries) ≤ length
    (opened_ids (entries ++ e ∷ []))
ids_grow entries e = rw (opened_more entries e)
    (omega (arith, length-append (opened_ids entries) (option_to_list (opened_id e))))

ids_more : (entries : List Entry) (e : Entry) → IsOrderly entries → MayFollow entries e
    → opened_ids (entries ++ e ∷ []) ≡ range_with_len 1 (length (opened_ids (entries ++ e ∷ [])))
ids_more entries (Opened id info) orderly may =
    let more : opened_ids (entries ++ Opened id info ∷ []) ≡ opened_ids entries ++ id
    ∷ [] = opened_more entries (Opened id info) in
    let n = length (opened_ids entries) in
    let next : id ≡ 1 + n = omega (arith, may.0) in
    let count : length (opened_ids (entries ++ Opened id info ∷ [])) ≡ n + 1 = ap length more ∙ length-append
    (opened_ids entries) (id ∷ []) in
    more ∙ ap (λ i. opened_ids entries ++ i ∷ []) next ∙ ap (λ xs. xs ++ (1 + n) ∷ []) orderly.ids ∙
    (sym (range_with_len-more 1 n (1 + n) refl)) ∙ ap (range_with_len 1) (sym count)
ids_more entries (Published id track s) orderly may =
    rw (opened_more entries (Published id track s), append-nil) orderly.ids
ids_more entries (Sealed id) orderly may = rw (opened_more entries (Sealed id), append-nil) orderly.ids
ids_more entries (Dropped id) orderly may = rw (opened_more entries (Dropped id), append-nil) orderly.ids
ids_more entries (Closed id) orderly may = rw (opened_more entries (Closed id), append-nil) orderly.ids
ids_more entries Asked orderly may = rw (opened_more entries Asked, append-nil) orderly.ids

-- the two facts about one trace
record IsInOrder {X : Type 0} (entries : List (EntryOf X)) (id : ℕ) : Type 0 where
  counted : published_count entries id ≤ tracks_of entries id
  in_order : (track : ℕ) → is_some (published_of entries id track) ≡ ltb track (published_count entries id)

in_order_same : {X : Type 0} → (old new : List (EntryOf X)) (id : ℕ) → SameData old new id → IsInOrder old id → IsInOrder new id
in_order_same old new id same was = record {
  counted = rw (same.count, tracks_same old new id same) was.counted;
  in_order = λ track. rw (same.published track, same.count) (was.in_order track);
}

-- a trace of which no entry tells has no tracks
unborn_tracks : {X : Type 0} → (entries : List (EntryOf X)) (id : ℕ) → IsUnborn entries id → tracks_of entries id ≡ 0
unborn_tracks entries id none = elim (info_of entries id) as (λ o. is_some o ≡ false
    → option_map_or (λ (info : TraceInfo). length info.names.tracks) o 0 ≡ 0) [
      | None ↦ λ e. refl
      | Some info ↦ λ e. absurd cc
    ] none.info

in_order_published : (entries : List Entry) (id which : ℕ) (s : PublishedTree) → IsOrderly entries
    → MayFollow entries (Published id which s) → which ≡ published_count entries id
    → IsInOrder (entries ++ Published id which s ∷ []) id
in_order_published entries id which s orderly may turn =
    let this : eqb id id ≡ true = eq-eqb id id refl in
    let count : published_count (entries ++ Published id which s ∷ []) id ≡ published_count entries id
    + 1 = count_more entries (Published id which s) id ∙ ap (λ b. published_count entries id + cond b 1 0)
    this in
    let told : tracks_of entries id ≡ length may.2.1.0.names.tracks =
    ap (λ o. option_map_or (λ (info : TraceInfo). length info.names.tracks) o 0) may.2.1.1 in
    let same : tracks_of (entries ++ Published id which s ∷ []) id ≡ tracks_of entries id =
    ap (λ o. option_map_or (λ (info : TraceInfo). length info.names.tracks) o 0)
    (info_more entries (Published id which s) id ∙ or_None _) in
    let below : which < length may.2.1.0.names.tracks = may.2.1.2 in
    record {
      counted = omega arith;
      in_order = λ track.
          let now : published_of (entries ++ Published id which s ∷ []) id track ≡ option_or
          (published_of entries id track) (cond (eqb which track) (Some s) None) = published_more entries
          (Published id which s) id track ∙ ap
          (λ b. option_or (published_of entries id track) (cond (b && eqb which track) (Some s) None)) this
          in
          let was : is_some (published_of entries id track) ≡ ltb track (published_count entries id) =
          orderly.in_order id track in
          elim (eqb_tells which track) [
            | inl at ↦
                let last : ltb track (published_count entries id + 1) ≡ true = grind (arith, nat_tests) in
                ap is_some now ∙ ap (λ b. is_some
                (option_or (published_of entries id track) (cond b (Some s) None))) at.0 ∙ or_Some
                (published_of entries id track) s ∙ sym last ∙ ap (ltb track) (sym count)
            | inr off ↦
                let lasts : ltb track (published_count entries id + 1) ≡ ltb track
                (published_count entries id) = grind (arith, nat_tests) in
                ap is_some now ∙ ap (λ b. is_some
                (option_or (published_of entries id track) (cond b (Some s) None))) off.0 ∙ ap is_some
                (or_None _) ∙ was ∙ sym lasts ∙ ap (ltb track) (sym count)
          ];
    }

in_order_more : (entries : List Entry) (e : Entry) (id : ℕ) → IsOrderly entries → MayFollow entries e
    → IsInTurn entries e → subject e ≡ id → IsInOrder entries id → IsInOrder (entries ++ e ∷ []) id
in_order_more entries (Opened other info) id orderly may turn about was =
    let count : published_count (entries ++ Opened other info ∷ []) id ≡ published_count entries id =
    count_more entries (Opened other info) id ∙ omega arith in
    let none : published_count entries id ≡ 0 =
    omega (arith, was.counted, unborn_tracks entries id (orderly.unborn id (omega (arith, may.0)))) in
    record {
      counted = omega arith;
      in_order = λ track. let same : published_of (entries ++ Opened other info ∷ []) id track ≡ published_of
          entries id track = published_more entries (Opened other info) id track ∙ or_None _
          in rw (same, count) (was.in_order track);
    }
in_order_more entries (Published other which s) id orderly may turn about was =
    subst (λ (i : ℕ). IsInOrder (entries ++ Published other which s ∷ []) i) about
    (in_order_published entries other which s orderly may turn)
in_order_more entries (Sealed other) id orderly may turn about was = in_order_same entries _ id
    (data_sealed entries other id) was
in_order_more entries (Dropped other) id orderly may turn about was = in_order_same entries _ id
    (data_dropped entries other id) was
in_order_more entries (Closed other) id orderly may turn about was = in_order_same entries _ id
    (data_closed entries other id) was
in_order_more entries Asked id orderly may turn about was = in_order_same entries _ id (data_asked entries id)
    was

pub orderly_more : (entries : List Entry) (e : Entry) → IsOrderly entries → MayFollow entries e
    → IsInTurn entries e → IsOrderly (entries ++ e ∷ [])
orderly_more entries e orderly may turn = record {
  ids = ids_more entries e orderly may;
  unborn = λ id above.
      let ne : eqb (subject e) id ≡ false = grind (arith, nat_tests, subject_within entries e orderly may) in
      let same = data_of_others entries e id ne in
      let fate = fate_of_others entries e id ne in
      let was = orderly.unborn id (omega (arith, ids_grow entries e)) in
      record {
        info = ap is_some same.info ∙ was.info;
        ended = fate.ended ∙ was.ended;
        sealed = fate.sealed ∙ was.sealed;
      };
  counted = λ id. (in_order_at id).counted;
  in_order = λ id. (in_order_at id).in_order;
}
  where
    in_order_at : (id : ℕ) → IsInOrder (entries ++ e ∷ []) id
    in_order_at id =
        let was : IsInOrder entries id =
        record { counted = orderly.counted id; in_order = orderly.in_order id } in
        elim (eqb_tells (subject e) id) [
          | inl about ↦ in_order_more entries e id orderly may turn about.1 was
          | inr other ↦ in_order_same entries _ id (data_of_others entries e id other.0) was
        ]

pub orderly_none : {X : Type 0} → IsOrderly {X = X} []
unfolding opened_ids info_of published_of published_count
orderly_none = record {
  ids = refl;
  unborn = λ id above. record { info = refl; ended = refl; sealed = refl };
  counted = λ id. omega arith;
  in_order = λ id track. grind (arith, nat_tests);
}
