-- What a front of a history says, and what the entries of a legal one keep.
use Rattle.std.proofs.Common.{List, None, Some, ap, drop, eqb, subst, sym, take, true, ℕ, ◌∙◌, ◌≡◌}
use Rattle.std.proofs.lemmas.Bool.{and_parts}
use Rattle.std.proofs.lemmas.List.{take-append-drop}
use Rattle.std.proofs.lemmas.Option.{cond_some}
use Rattle.std.specs.List.{filter_map}
use Rattle.std.specs.Option.{option_or}
use Rattle.std.specs.Prelude.{slice_get}
use Rattle.list_lemmas.proofs.Found.{first-append, given_from_first}
use Rattle.list_lemmas.proofs.Options.{none_before}
use Rattle.hall_history.specs.History.{Asked, Closed, Dropped, Entry, EntryOf, IsLegalHistory, MayFollow}
use Rattle.hall_history.specs.History.{Opened, Published, Sealed, info_of, info_opened, is_loading, is_open}
use Rattle.hall_history.specs.History.{published_as, published_of}
use Rattle.trace_base.specs.Info.{IsLegalInfo}
use Rattle.trace_base.specs.declared.names.TraceInfo.{TraceInfo}

-- what some first entries tell is told by all
pub published_stays : {X : Type 0} (entries : List (EntryOf X)) (n id track : ℕ) (what : X)
    → published_of (take n entries) id track ≡ Some what → published_of entries id track ≡ Some what
unfolding published_of
published_stays entries n id track what at =
    let first = λ (es : List (EntryOf _)). slice_get (filter_map (published_as id track) es) 0 in
    ap first (sym (take-append-drop n entries))
    ∙ first-append (published_as id track) (take n entries) (drop n entries)
    ∙ ap (λ o. option_or o (first (drop n entries))) at

-- what all entries don't tell isn't told by the first of them
pub none_yet : {X : Type 0} (entries : List (EntryOf X)) (n id track : ℕ)
    → published_of entries id track ≡ None → published_of (take n entries) id track ≡ None
none_yet entries n id track none = none_before _ _ (λ what at. published_stays entries n id track what at)
    none

-- a loading trace is open
pub loading_open : {X : Type 0} (entries : List (EntryOf X)) (id : ℕ) → is_loading entries id ≡ true
    → is_open entries id ≡ true
unfolding is_loading
loading_open entries id loading = (and_parts _ _ loading).0

opened_legal : (before : List Entry) (e : Entry) (id : ℕ) (info : TraceInfo) → info_opened id e ≡ Some info
    → MayFollow before e → IsLegalInfo info
opened_legal before (Opened other i) id info gives may = let P : TraceInfo → Type 0 = λ i. IsLegalInfo i
    in subst P (cond_some (eqb other id) i info gives).1 may.1
opened_legal before (Published other track s) id info gives may = absurd cc
opened_legal before (Sealed other) id info gives may = absurd cc
opened_legal before (Dropped other) id info gives may = absurd cc
opened_legal before (Closed other) id info gives may = absurd cc
opened_legal before Asked id info gives may = absurd cc

-- what a trace of a legal history was opened with is legal
pub info_legal : (entries : List Entry) (id : ℕ) (info : TraceInfo) → IsLegalHistory entries
    → info_of entries id ≡ Some info → IsLegalInfo info
unfolding info_of
info_legal entries id info legal at =
    let where_from = given_from_first (info_opened id) entries info at in
    opened_legal (take where_from.0 entries) where_from.1 id info where_from.3
    (legal where_from.0 where_from.1 where_from.2)
