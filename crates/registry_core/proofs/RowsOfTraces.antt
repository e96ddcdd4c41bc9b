-- The rows of open traces, trace by trace.
use Rattle.std.proofs.Common.{◌≡◌, ℕ, ◌<◌, ◌≤◌, true, false, List, [], ◌∷◌, ◌++◌, map, filter}
use Rattle.std.proofs.Common.{length, ap, ap₂, ◌∙◌, sym, subst, arith, append-nil, append_assoc}
use Rattle.std.proofs.Common.{length-append}
use Rattle.std.specs.List.{All}
use Rattle.std.proofs.lemmas.List.{length-map}
use Rattle.std.proofs.lemmas.List.Elements.{All-head, All-tail}
use Rattle.std.proofs.lemmas.List.Sums.{length-filter}
use Rattle.trace_base.specs.declared.limits.TheConstants.{MAX_TRACKS}
use Rattle.hall_history.specs.declared.listing.ListRow.{ListRow}
use Rattle.registry_core.specs.Registry.{is_open_trace, open_count}
use Rattle.registry_core.specs.Trace.{Trace, list_row}

-- the rows of the open ones
abbrev pub open_rows : List Trace → List ListRow
open_rows traces = map list_row (filter is_open_trace traces)

-- some traces are left; the rows of those before them are told, and there is room for all
pub record TellsRows (all left : List Trace) (rows : List ListRow) (capacity : ℕ) : Type 0 where
  pub told : rows ++ open_rows left ≡ open_rows all
  pub room : open_count all ≤ capacity
  pub few : All (λ (t : Trace). length t.tracks ≤ MAX_TRACKS) left

-- an open trace has a row
open_rows-open : (t : Trace) (left : List Trace) → t.closing ≡ false
    → open_rows (t ∷ left) ≡ list_row t ∷ open_rows left
open_rows-open t left is = rw is

-- one that has ended has none
open_rows-closing : (t : Trace) (left : List Trace) → t.closing ≡ true → open_rows (t ∷ left) ≡ open_rows left
open_rows-closing t left is = rw is

-- there are as many rows as open traces
length-open_rows : (traces : List Trace) → length (open_rows traces) ≡ open_count traces
length-open_rows traces =
    length-map (filter is_open_trace traces) list_row ∙ length-filter is_open_trace traces

-- none is told
pub none_told : (all left : List Trace) (rows : List ListRow) (capacity : ℕ) → left ≡ all → rows ≡ []
    → open_count all ≤ capacity → All (λ (t : Trace). length t.tracks ≤ MAX_TRACKS) all
    → TellsRows all left rows capacity
none_told all left rows capacity is empty room few = record {
  told = ap₂ (λ ys ts. ys ++ open_rows ts) empty is;
  room = room;
  few = subst (All (λ (t : Trace). length t.tracks ≤ MAX_TRACKS)) (sym is) few;
}

-- the next trace has few tracks
pub few_next : {all left next : List Trace} {rows : List ListRow} {capacity : ℕ} (t : Trace)
    → TellsRows all left rows capacity → left ≡ t ∷ next → length t.tracks ≤ MAX_TRACKS
few_next {next = next} t k is = All-head (λ (t : Trace). length t.tracks ≤ MAX_TRACKS) t next
    (subst (All (λ (t : Trace). length t.tracks ≤ MAX_TRACKS)) is k.few)

-- there is room for its row
pub room_next : {all left next : List Trace} {rows : List ListRow} {capacity : ℕ} (t : Trace)
    → TellsRows all left rows capacity → left ≡ t ∷ next → t.closing ≡ false → length rows < capacity
room_next {all} {left} {next} {rows} t k is stays =
    let left_rows : open_rows left ≡ list_row t ∷ open_rows next =
    ap open_rows is ∙ open_rows-open t next stays in
    let told = ap length (sym (ap (λ ys. rows ++ ys) left_rows) ∙ k.told) in
    omega (arith, k.room, told, length-append rows (list_row t ∷ open_rows next), length-open_rows all)

-- it is told
pub told_next : {all left next : List Trace} {rows new : List ListRow} {capacity room : ℕ} (t : Trace)
    (row : ListRow) → TellsRows all left rows capacity → left ≡ t ∷ next → t.closing ≡ false
    → new ≡ rows ++ row ∷ [] → row ≡ list_row t → room ≡ capacity → TellsRows all next new room
told_next {all} {left} {next} {rows} t row k is stays more its same = record {
  told = ap (λ ys. ys ++ open_rows next) (more ∙ ap (λ y. rows ++ y ∷ []) its)
      ∙ append_assoc rows (list_row t ∷ []) (open_rows next) ∙ ap (λ ys. rows ++ ys)
      (sym (ap open_rows is ∙ open_rows-open t next stays)) ∙ k.told;
  room = omega (arith, k.room, same);
  few = All-tail (λ (t : Trace). length t.tracks ≤ MAX_TRACKS) t next
      (subst (All (λ (t : Trace). length t.tracks ≤ MAX_TRACKS)) is k.few);
}

-- it has ended, and isn't told
pub passed_next : {all left next : List Trace} {rows : List ListRow} {capacity : ℕ} (t : Trace)
    → TellsRows all left rows capacity → left ≡ t ∷ next → t.closing ≡ true → TellsRows all next rows capacity
passed_next {all} {left} {next} {rows} t k is ended = record {
  told = ap (λ ys. rows ++ ys) (sym (ap open_rows is ∙ open_rows-closing t next ended)) ∙ k.told;
  room = k.room;
  few = All-tail (λ (t : Trace). length t.tracks ≤ MAX_TRACKS) t next
      (subst (All (λ (t : Trace). length t.tracks ≤ MAX_TRACKS)) is k.few);
}

-- all are told
pub all_told : {all left : List Trace} {rows : List ListRow} {capacity : ℕ}
    → TellsRows all left rows capacity → left ≡ [] → rows ≡ open_rows all
all_told {all} {left} {rows} k is = sym (append-nil rows) ∙ sym (ap (λ ts. rows ++ open_rows ts) is) ∙ k.told
