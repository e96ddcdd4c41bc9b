-- What each word of a history is after one more entry.
use Rattle.std.proofs.Common.{◌≡◌, ℕ, ◌+◌, true, false, ◌||◌, ◌&&◌, cond, eqb, List, [], ◌∷◌, ◌++◌}
use Rattle.std.proofs.Common.{length, filter, None, Some, refl, ap, ◌∙◌, arith, length-append}
use Rattle.std.specs.List.{list_any, filter_map, cons_option}
use Rattle.std.specs.Option.{option_or, option_to_list, option_map_or}
use Rattle.std.proofs.lemmas.List.Elements.{filter_map-append, filter-append}
use Rattle.std.proofs.lemmas.List.Folds.{list_any-append}
use mathlib.Core.Bool.{or-false}
use Rattle.list_lemmas.proofs.Found.{any_more, first_more}
use Rattle.list_lemmas.proofs.Options.{or_None}
use Rattle.trace_base.specs.declared.names.TraceInfo.{TraceInfo}
use Rattle.hall_history.specs.History.{EntryOf, Opened, Published, Sealed, Dropped, Closed, Asked}
use Rattle.hall_history.specs.History.{opened_id, info_opened, published_as, publishes, seals}
use Rattle.hall_history.specs.History.{ends, opened_ids, published_of}
use Rattle.hall_history.specs.History.{info_of, is_open, is_loading, tracks_of, published_count}

pub opened_more : {X : Type 0} (entries : List (EntryOf X)) (e : EntryOf X)
    → opened_ids (entries ++ e ∷ []) ≡ opened_ids entries
    ++ option_to_list (opened_id e)
unfolding opened_ids
opened_more entries e = filter_map-append opened_id entries (e ∷ []) ∙ ap (λ ids. filter_map opened_id entries
    ++ ids) (elim (opened_id e) as (λ o. cons_option o [] ≡ option_to_list o) [
      | None ↦ refl
      | Some id ↦ refl
    ])

pub info_more : {X : Type 0} (entries : List (EntryOf X)) (e : EntryOf X) (id : ℕ)
    → info_of (entries ++ e ∷ []) id ≡ option_or
    (info_of entries id) (info_opened id e)
unfolding info_of
info_more entries e id = first_more (info_opened id) entries e

pub published_more : {X : Type 0} (entries : List (EntryOf X)) (e : EntryOf X) (id track : ℕ)
    → published_of (entries ++ e ∷ []) id track ≡ option_or (published_of entries id track)
    (published_as id track e)
unfolding published_of
published_more entries e id track = first_more (published_as id track) entries e

pub count_more : {X : Type 0} (entries : List (EntryOf X)) (e : EntryOf X) (id : ℕ)
    → published_count (entries ++ e ∷ []) id ≡
    published_count entries id + cond (publishes id e) 1 0
unfolding published_count
count_more entries e id = ap length (filter-append (publishes id) entries (e ∷ [])) ∙ length-append
    (filter (publishes id) entries) (filter (publishes id) (e ∷ [])) ∙ ap
    (λ n. length (filter (publishes id) entries) + n)
    (elim (publishes id e) as (λ b. length (cond b (e ∷ []) []) ≡ cond b 1 0) [ true ↦ refl | false ↦ refl ])

-- nothing that the histories say of the trace differs, but for its end and its seal
pub record SameData {X : Type 0} (old new : List (EntryOf X)) (id : ℕ) : Type 0 where
  pub opened : list_any (λ other. eqb other id) (opened_ids new) ≡ list_any (λ other. eqb other id)
      (opened_ids old)
  pub info : info_of new id ≡ info_of old id
  pub count : published_count new id ≡ published_count old id
  pub published : (track : ℕ) → published_of new id track ≡ published_of old id track

-- nor do these
pub record SameFate {X : Type 0} (old new : List (EntryOf X)) (id : ℕ) : Type 0 where
  pub ended : list_any (ends id) new ≡ list_any (ends id) old
  pub sealed : list_any (seals id) new ≡ list_any (seals id) old

-- the entry adds nothing to the trace
pub record AddsNothing {X : Type 0} (e : EntryOf X) (id : ℕ) : Type 0 where
  pub opened : list_any (λ other. eqb other id) (option_to_list (opened_id e)) ≡ false
  pub info : info_opened id e ≡ None
  pub count : publishes id e ≡ false
  pub published : (track : ℕ) → published_as id track e ≡ None

pub SameData-from_nothing : {X : Type 0} (entries : List (EntryOf X)) (e : EntryOf X) (id : ℕ)
    → AddsNothing e id
    → SameData entries (entries ++ e ∷ []) id
SameData-from_nothing entries e id none = record {
  opened = ap (list_any (λ other. eqb other id)) (opened_more entries e) ∙ list_any-append
      (λ other. eqb other id) (opened_ids entries) (option_to_list (opened_id e)) ∙ ap
      (λ b. list_any (λ other. eqb other id) (opened_ids entries) || b) none.opened ∙ or-false _;
  info = info_more entries e id ∙ ap (option_or (info_of entries id)) none.info ∙ or_None _;
  count = count_more entries e id ∙ ap (λ b. published_count entries id + cond b 1 0) none.count ∙ omega
      arith;
  published = λ track. published_more entries e id track ∙ ap (option_or (published_of entries id track))
      (none.published track) ∙ or_None _;
}

-- the trace that the entry is about
abbrev pub subject : {X : Type 0} → EntryOf X → ℕ
subject (Opened id info) = id
subject (Published id track what) = id
subject (Sealed id) = id
subject (Dropped id) = id
subject (Closed id) = id
subject Asked = 0

pub nothing_of_others : {X : Type 0} (e : EntryOf X) (id : ℕ) → eqb (subject e) id ≡ false → AddsNothing e id
nothing_of_others (Opened other info) id ne = record {
  opened = ap (λ b. b || false) ne;
  info = ap (λ b. cond b (Some info) None) ne;
  count = refl;
  published = λ track. refl;
}
nothing_of_others (Published other which what) id ne = record {
  opened = refl;
  info = refl;
  count = ne;
  published = λ track. ap (λ b. cond (b && eqb which track) (Some what) None) ne;
}
nothing_of_others (Sealed other) id ne = record {
  opened = refl;
  info = refl;
  count = refl;
  published = λ track. refl;
}
nothing_of_others (Dropped other) id ne = record {
  opened = refl;
  info = refl;
  count = refl;
  published = λ track. refl;
}
nothing_of_others (Closed other) id ne = record {
  opened = refl;
  info = refl;
  count = refl;
  published = λ track. refl;
}
nothing_of_others Asked id ne = record { opened = refl; info = refl; count = refl; published = λ track. refl }

fate_more : {X : Type 0} (entries : List (EntryOf X)) (e : EntryOf X) (id : ℕ) → ends id e ≡ false
    → seals id e ≡ false
    → SameFate entries (entries ++ e ∷ []) id
fate_more entries e id not_ended not_sealed = record {
  ended = any_more (ends id) entries e ∙ ap (λ b. list_any (ends id) entries || b) not_ended ∙ or-false _;
  sealed = any_more (seals id) entries e ∙ ap (λ b. list_any (seals id) entries || b) not_sealed ∙ or-false _;
}

pub fate_of_others : {X : Type 0} (entries : List (EntryOf X)) (e : EntryOf X) (id : ℕ)
    → eqb (subject e) id ≡ false
    → SameFate entries (entries ++ e ∷ []) id
fate_of_others entries (Opened other info) id ne = fate_more entries _ id refl refl
fate_of_others entries (Published other which what) id ne = fate_more entries _ id refl refl
fate_of_others entries (Sealed other) id ne = fate_more entries _ id refl ne
fate_of_others entries (Dropped other) id ne = fate_more entries _ id ne refl
fate_of_others entries (Closed other) id ne = fate_more entries _ id ne refl
fate_of_others entries Asked id ne = fate_more entries _ id refl refl

pub data_of_others : {X : Type 0} (entries : List (EntryOf X)) (e : EntryOf X) (id : ℕ)
    → eqb (subject e) id ≡ false
    → SameData entries (entries ++ e ∷ []) id
data_of_others entries e id ne = SameData-from_nothing entries e id (nothing_of_others e id ne)

-- of these entries the data stays
pub data_sealed : {X : Type 0} (entries : List (EntryOf X)) (other id : ℕ)
    → SameData entries (entries ++ Sealed other ∷ []) id
data_sealed entries other id = SameData-from_nothing entries _ id
    (record { opened = refl; info = refl; count = refl; published = λ track. refl })

pub data_dropped : {X : Type 0} (entries : List (EntryOf X)) (other id : ℕ)
    → SameData entries (entries ++ Dropped other ∷ []) id
data_dropped entries other id = SameData-from_nothing entries _ id
    (record { opened = refl; info = refl; count = refl; published = λ track. refl })

pub data_closed : {X : Type 0} (entries : List (EntryOf X)) (other id : ℕ)
    → SameData entries (entries ++ Closed other ∷ []) id
data_closed entries other id = SameData-from_nothing entries _ id
    (record { opened = refl; info = refl; count = refl; published = λ track. refl })

pub data_asked : {X : Type 0} (entries : List (EntryOf X)) (id : ℕ)
    → SameData entries (entries ++ Asked ∷ []) id
data_asked entries id = SameData-from_nothing entries _ id
    (record { opened = refl; info = refl; count = refl; published = λ track. refl })

pub fate_asked : {X : Type 0} (entries : List (EntryOf X)) (id : ℕ)
    → SameFate entries (entries ++ Asked ∷ []) id
fate_asked entries id = fate_more entries _ id refl refl

pub fate_published : {X : Type 0} (entries : List (EntryOf X)) (other which : ℕ) (what : X) (id : ℕ)
    → SameFate entries (entries ++ Published other which what ∷ []) id
fate_published entries other which what id = fate_more entries _ id refl refl

-- what follows from the same data and the same fate
pub open_same : {X : Type 0} (old new : List (EntryOf X)) (id : ℕ) → SameData old new id → SameFate old new id
    → is_open new id ≡ is_open old id
unfolding is_open
open_same old new id same fate = rw (same.opened, fate.ended) refl

pub loading_same : {X : Type 0} (old new : List (EntryOf X)) (id : ℕ) → SameData old new id
    → SameFate old new id
    → is_loading new id ≡ is_loading old id
unfolding is_loading
loading_same old new id same fate = rw (open_same old new id same fate, fate.sealed) refl

pub tracks_same : {X : Type 0} (old new : List (EntryOf X)) (id : ℕ) → SameData old new id
    → tracks_of new id ≡ tracks_of old id
tracks_same old new id same = ap (λ o. option_map_or (λ (info : TraceInfo). length info.names.tracks) o 0)
    same.info
