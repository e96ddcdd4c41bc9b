-- What a registry knows of the traces of a pin.
use Rattle.std.proofs.Common.{◌≡◌, ℕ, ◌<◌, true, false, cond, eqb, List, [], ◌∷◌, ◌++◌, map, Option}
use Rattle.std.proofs.Common.{None, Some, inl, inr, refl, sym, ap, ◌∙◌, arith, eq-eqb, Contains, subst}
use Rattle.std.specs.Prelude.{is_some, IsSome, length}
use Rattle.std.specs.Option.{option_to_list}
use Rattle.std.proofs.lemmas.Bool.{cases_Bool}
use Rattle.list_lemmas.proofs.Booleans.{one_if}
use Rattle.list_lemmas.proofs.Filters.{count_by-cons}
use Rattle.list_lemmas.proofs.Members.{has_here, has_there}
use Rattle.list_lemmas.proofs.Options.{given_some}
use Rattle.hall_history.specs.History.{Entry, EntryOf, Asked, info_of, is_open, tracks_of}
use Rattle.hall_history.proofs.HistoryMore.{data_asked, fate_asked, open_same}
use Rattle.hall_history.specs.declared.asks.AskIds.{AskIds}
use Rattle.hall_history.specs.declared.asks.AskIds.TheVariants.{One, Two}
use Rattle.hall_history.specs.declared.seat.PinView.{PinView}
use Rattle.hall_history.specs.Asks.{AreOpen, IsFirstUnknown}
use Rattle.hall_history.specs.Asks.{first_id, second_id, id_at}
use Rattle.node_key.specs.Stands.{KeyAt}
use Rattle.node_store.specs.Given.{ever}
use Rattle.node_store.specs.Kept.{NodesKept}
use Rattle.registry_core.proofs.FollowsRegistry.{slots_told}
use Rattle.registry_core.proofs.KeptTraces.{kept_id}
use Rattle.registry_core.proofs.UsedByQueries.{known-open, named-first}
use Rattle.registry_core.specs.Asking.{asked_ids, first_unknown, times_asked}
use Rattle.registry_core.specs.Registry.{RegistryValue, kept_trace, open_trace}
use Rattle.registry_core.specs.Standing.{AreTrees, StandsFor}
use Rattle.registry_core.specs.Trace.{Trace}
use Rattle.registry_core.specs.UsedBy.{AreUsedBy}
use Rattle.plain_hall.specs.PlainSeat.{IsHeld, kept_view, queries_of}
use Rattle.plain_hall.specs.Rooted.{tree_of_root, with_trees}
use Rattle.plain_hall.specs.Whole.{IsSoundHall, at_first}
use Rattle.plain_hall.specs.declared.kept_pin.KeptPin.{KeptPin}
use Rattle.plain_hall.specs.declared.root.Root.{Root}
use Rattle.plain_hall.proofs.Found.{has_pin, held_told}
use Rattle.plain_hall.proofs.Told.{info_of-told}

-- each of the traces that are asked for is
pub first_asked : (ids : AskIds) → 0 < times_asked ids (first_id ids)
first_asked (One a) = omega (arith, count_by-cons (λ x. eqb x a) a [], ap one_if (eq-eqb a a refl))
first_asked (Two a b) = omega (arith, count_by-cons (λ x. eqb x a) a (b ∷ []), ap one_if (eq-eqb a a refl))

pub second_asked : (ids : AskIds) → 0 < times_asked ids (second_id ids)
second_asked (One a) = omega (arith, count_by-cons (λ x. eqb x a) a [], ap one_if (eq-eqb a a refl))
second_asked (Two a b) = omega (
  arith,
  count_by-cons (λ x. eqb x b) a (b ∷ []),
  count_by-cons (λ x. eqb x b) b [],
  ap one_if (eq-eqb b b refl),
)

pub asked_at : (ids : AskIds) (which : ℕ) → Contains (asked_ids ids) (id_at ids which)
asked_at (One a) which = elim (eqb which 0) as (λ b. Contains (a ∷ []) (cond b a a)) [
  | true ↦ has_here a []
  | false ↦ has_here a []
]
asked_at (Two a b) which = elim (eqb which 0) as (λ x. Contains (a ∷ b ∷ []) (cond x a b)) [
  | true ↦ has_here a (b ∷ [])
  | false ↦ has_there a b (b ∷ []) (has_here b [])
]

-- so each of a query's traces is kept
pub query_kept : (r : RegistryValue) (ids : AskIds) (queries : List AskIds) (id : ℕ)
    → AreUsedBy r.traces (ids ∷ queries) → 0 < times_asked ids id → IsSome (kept_trace r.traces id)
query_kept r ids queries id used asked =
    used.kept id (omega (arith, asked, named-first ids queries id))

pub ids_kept : (r : RegistryValue) (ids : AskIds) (queries : List AskIds) (which : ℕ)
    → AreUsedBy r.traces (ids ∷ queries) → IsSome (kept_trace r.traces (id_at ids which))
ids_kept r ids queries which used = elim (eqb which 0) as
    (λ b. IsSome (kept_trace r.traces (cond b (first_id ids) (second_id ids)))) [
      | true ↦ query_kept r ids queries (first_id ids) used (first_asked ids)
      | false ↦ query_kept r ids queries (second_id ids) used (second_asked ids)
    ]

-- the query of the seat's pin is the one that runs
pub pin_query : (o : Option KeptPin) (view : PinView) → Contains (map kept_view (option_to_list o)) view
    → queries_of o ≡ view.ids ∷ []
pin_query o view has =
    let (p, is, same) = has_pin o view has in
    ap queries_of is ∙ ap (λ (v : PinView). v.ids ∷ []) same

pub pin_runs : (o : Option KeptPin) (view : PinView) → Contains (map kept_view (option_to_list o)) view
    → Contains (queries_of o) view.ids
pin_runs o view has = subst (λ (qs : List AskIds). Contains qs view.ids) (sym (pin_query o view has))
    (has_here view.ids [])

pub no_query : (o : Option KeptPin) → map kept_view (option_to_list o) ≡ [] → queries_of o ≡ []
no_query None none = refl
no_query (Some p) none = absurd cc

-- what a query's traces were opened with is told
query_told : (s : NodesKept) (r : RegistryValue) (entries : List (EntryOf Root)) (ids : AskIds)
    (queries : List AskIds) (id : ℕ) → IsSoundHall s r entries (ids ∷ queries) → 0 < times_asked ids id
    → IsSome (info_of entries id)
query_told s r entries ids queries id whole asked =
    let (t, kept) = given_some (kept_trace r.traces id) (query_kept r ids queries id whole.used asked) in
    let seen = with_trees (ever s.given) entries in
    let told : info_of seen id ≡ Some t.info =
    ap (info_of seen) (sym (kept_id r.traces id t kept)) ∙ (whole.stands.traces id t kept).info in
    ap is_some (sym (info_of-told (tree_of_root (ever s.given)) entries id) ∙ told)

-- the number of tracks of a query's trace is told
pub query_tracks : (s : NodesKept) (r : RegistryValue) (entries : List (EntryOf Root)) (ids : AskIds)
    (queries : List AskIds) (which n : ℕ) → IsSoundHall s r entries (ids ∷ queries)
    → ((t : Trace) → kept_trace r.traces (id_at ids which) ≡ Some t → n ≡ length t.tracks)
    → n ≡ tracks_of (with_trees (ever s.given) entries) (id_at ids which)
query_tracks s r entries ids queries which n whole counted =
    let (t, kept) = given_some (kept_trace r.traces (id_at ids which)) (ids_kept r ids queries which whole.used)
    in
    counted t kept ∙ sym (slots_told (AreTrees (ever s.given)) at_first r (with_trees (ever s.given) entries)
    (id_at ids which) t whole.stands kept)

pub held_by : (s : NodesKept) (r : RegistryValue) (entries : List (EntryOf Root)) (pin : KeptPin)
    (queries : List AskIds) → IsSoundHall s r entries (pin.ids ∷ queries)
    → pin.place ≡ length entries → IsHeld entries pin
held_by s r entries pin queries whole last = held_told entries pin last
    (query_told s r entries pin.ids queries (first_id pin.ids) whole (first_asked pin.ids))
    (query_told s r entries pin.ids queries (second_id pin.ids) whole (second_asked pin.ids))

-- ---- which traces are open, as the registry tells

-- a question leaves them open
asked_open : (key_at : KeyAt) (r : RegistryValue) (old new : List Entry) (id : ℕ)
    → StandsFor (AreTrees key_at) at_first r old → new ≡ old ++ Asked ∷ []
    → is_open new id ≡ is_some (open_trace r.traces id)
asked_open key_at r old new id stands seen = ap (λ (es : List Entry). is_open es id) seen
    ∙ open_same old (old ++ Asked ∷ []) id (data_asked old id) (fate_asked old id) ∙ stands.opens id

both_open : (entries : List Entry) (ids : AskIds) → is_open entries (first_id ids) ≡ true
    → is_open entries (second_id ids) ≡ true → AreOpen entries ids
both_open entries (One a) first second = first
both_open entries (Two a b) first second = (first, second)

pub known_are_open : (key_at : KeyAt) (r : RegistryValue) (old new : List Entry) (ids : AskIds)
    → StandsFor (AreTrees key_at) at_first r old → new ≡ old ++ Asked ∷ [] → first_unknown r ids ≡ None
    → AreOpen new ids
known_are_open key_at r old new ids stands seen known = both_open new ids
    (asked_open key_at r old new (first_id ids) stands seen
    ∙ known-open r ids known (first_id ids) (first_asked ids))
    (asked_open key_at r old new (second_id ids) stands seen
    ∙ known-open r ids known (second_id ids) (second_asked ids))

-- the first that isn't
unknown_by : (r : RegistryValue) (entries : List Entry) (ids : AskIds) (id : ℕ)
    → ((x : ℕ) → is_open entries x ≡ is_some (open_trace r.traces x)) → first_unknown r ids ≡ Some id
    → IsFirstUnknown entries ids id
unknown_by r entries (One a) id tells found = elim (cases_Bool (is_some (open_trace r.traces a))) [
  | inl on ↦ let none = rw on at found in absurd cc
  | inr off ↦
      let here : Some a ≡ Some id = rw off at found in
      let same : id ≡ a = cc in (same, tells a ∙ off)
]
unknown_by r entries (Two a b) id tells found = elim (cases_Bool (is_some (open_trace r.traces a))) [
  | inr off ↦
      let here : Some a ≡ Some id = rw off at found in
      let same : id ≡ a = cc in inl (same, tells a ∙ off)
  | inl on ↦
      let rest = rw on at found in
      elim (cases_Bool (is_some (open_trace r.traces b))) [
        | inl too ↦ let none = rw too at rest in absurd cc
        | inr off ↦
            let here : Some b ≡ Some id = rw off at rest in
            let same : id ≡ b = cc in inr (same, tells a ∙ on, tells b ∙ off)
      ]
]

pub unknown_told : (key_at : KeyAt) (r : RegistryValue) (old new : List Entry) (ids : AskIds) (id : ℕ)
    → StandsFor (AreTrees key_at) at_first r old → new ≡ old ++ Asked ∷ []
    → first_unknown r ids ≡ Some id → IsFirstUnknown new ids id
unknown_told key_at r old new ids id stands seen found =
    unknown_by r new ids id (λ x. asked_open key_at r old new x stands seen) found
