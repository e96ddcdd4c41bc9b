-- What is told of the tracks of a query's traces, once other traces or other queries have changed.
use Rattle.std.proofs.Common.{◌≡◌, ℕ, ◌<◌, ◌≤◌, true, false, cond, eqb, List, Option, None}
use Rattle.std.proofs.Common.{Contains, Some, inl, inr, refl, sym, ap, ◌∙◌, arith, option_map, filter, map}
use Rattle.std.proofs.Common.{leb, not, subst, eqb-true, ◌∷◌, ◌++◌, []}
use Rattle.std.specs.Prelude.{slice_get}
use Rattle.std.specs.Option.{option_and_then, option_or}
use Rattle.std.proofs.lemmas.Bool.{cond_both}
use Rattle.std.proofs.lemmas.Bool.Decides.{eqb_tells}
use Rattle.std.proofs.lemmas.List.Folds.{find_at}
use Rattle.std.proofs.lemmas.Option.{same_Some}
use Rattle.list_lemmas.proofs.All.{All-found}
use Rattle.list_lemmas.proofs.Found.{find-map_same}
use Rattle.list_lemmas.proofs.Members.{Contains-from_IsAmong, IsAmong-flat_map, IsAmong-from_Contains}
use Rattle.list_lemmas.proofs.Members.{IsAmong-from_place, part-le-sum_by}
use Rattle.list_lemmas.proofs.Positions.{slice_get-set_else}
use Rattle.hall_history.specs.declared.asks.AskIds.{AskIds}
use Rattle.hall_history.specs.declared.published.Published.TheVariants.{NotYet, Root}
use Rattle.registry_core.specs.Asking.{times_asked, without_users}
use Rattle.registry_core.specs.Loading.{with_ended, with_kept}
use Rattle.registry_core.specs.Registry.{RegistryValue, has_id, kept_trace, with_changed, without_trace}
use Rattle.registry_core.specs.Roots.{roots_kept}
use Rattle.registry_core.specs.Staying.{KeepsTold, TellsRootsOf}
use Rattle.registry_core.specs.Trace.{Trace, is_over, kept_for_users, published_by, roots_in, seen_by_place}
use Rattle.registry_core.specs.Trace.{used_less, with_root}
use Rattle.registry_core.specs.UsedBy.{AreUsedBy, times_named}
use Rattle.registry_core.specs.declared.track_root.TrackRoot.{TrackRoot}
use Rattle.registry_core.proofs.KeptTraces.{IsRising, kept_id, kept_own}
use Rattle.registry_core.proofs.LawTraces.{KeepsId, changed_at, kept_more}
use Rattle.registry_core.proofs.RootsOfTracks.{slot_root}
use Rattle.registry_core.proofs.UsedByQueries.{HasUsers, all_asked, kept-given_back, kept-without}
use Rattle.registry_core.proofs.UsedByQueries.{named-first}

-- ---- one trace

-- the traces have one of this id, which tells the roots that t tells
abbrev pub HasSuch : List Trace → ℕ → ℕ → Trace → Type 0
HasSuch traces place id t = (u : Trace) × (kept_trace traces id ≡ Some u) × TellsRootsOf place t u

-- it is enough to look at the ids that are asked for
pub told-each : (old new : RegistryValue) (ids : AskIds) (place : ℕ)
    → ((id : ℕ) (t : Trace) → 0 < times_asked ids id → kept_trace old.traces id ≡ Some t
    → HasSuch new.traces place id t) → KeepsTold old new ids place
told-each old new ids place each = all_asked (λ id. (t : Trace) → kept_trace old.traces id ≡ Some t
    → HasSuch new.traces place id t) ids (λ id named t kept. each id t named kept)

-- the same traces tell the same
pub told-same : (old new : RegistryValue) (ids : AskIds) (place : ℕ) → new.traces ≡ old.traces
    → KeepsTold old new ids place
told-same old new ids place same = told-each old new ids place
    (λ id t named kept. (t, ap (λ ts. kept_trace ts id) same ∙ kept, λ track start root is. is))

-- one trace more, whatever it is
pub told-more : (traces : List Trace) (u : Trace) (place id : ℕ) (t : Trace) → kept_trace traces id ≡ Some t
    → HasSuch (traces ++ u ∷ []) place id t
told-more traces u place id t kept = (
  t,
  kept_more traces u id ∙ ap (λ o. option_or o (cond (has_id id u) (Some u) None)) kept,
  λ track start root is. is,
)

-- traces that are changed, and keep their ids
pub told-mapped : (g : Trace → Trace) (traces : List Trace) (place id : ℕ) (t : Trace) → KeepsId g
    → TellsRootsOf place t (g t) → kept_trace traces id ≡ Some t → HasSuch (map g traces) place id t
told-mapped g traces place id t keeps tells kept = (
  g t,
  find-map_same (has_id id) g (λ u. ap (λ i. eqb i id) (keeps u)) traces ∙ ap (option_map g) kept,
  tells,
)

-- the trace of one id is changed
pub told-changed : (changed : ℕ) (f : Trace → Trace) (traces : List Trace) (place id : ℕ) (t : Trace)
    → KeepsId f → ((u : Trace) → kept_trace traces changed ≡ Some u → TellsRootsOf place u (f u))
    → kept_trace traces id ≡ Some t → HasSuch (with_changed changed f traces) place id t
told-changed changed f traces place id t keeps tells kept =
    told-mapped (changed_at changed f) traces place id t
    (λ u. elim (has_id changed u) as (λ b. (cond b (f u) u).id ≡ u.id) [ true ↦ keeps u | false ↦ refl ])
    (cond_both (has_id changed t) (f t) t (TellsRootsOf place t)
    (λ hit. tells t (ap (kept_trace traces) (sym (eqb-true t.id changed hit)) ∙ kept_own traces id t kept))
    (λ miss track start root is. is)) kept

-- ---- a slot that was free is filled

-- a free slot tells no root
free_untold : (place start root : ℕ) (slot : Option (Option TrackRoot)) → slot ≡ Some None
    → seen_by_place place (option_and_then (λ s. s) slot) ≡ Root start root → ⊥
free_untold place start root slot free is =
    let none : seen_by_place place (option_and_then (λ s. s) slot) ≡ NotYet =
    ap (λ o. seen_by_place place (option_and_then (λ s. s) o)) free in
    let both : NotYet ≡ Root start root = sym none ∙ is in
    absurd cc

pub told-filled : (place track : ℕ) (r : TrackRoot) (t : Trace) → slice_get t.tracks track ≡ Some None
    → TellsRootsOf place t (with_root track r t)
told-filled place track r t free k start root is =
    ap (λ o. seen_by_place place (option_and_then (λ s. s) o))
    (slice_get-set_else t.tracks track k (Some r) (λ same. free_untold place start root
    (slice_get t.tracks k) (ap (slice_get t.tracks) same ∙ free) is)) ∙ is

-- ---- traces that a query uses

-- a query that runs names an id no oftener than all of them
named-among : (queries : List AskIds) (ids : AskIds) (id : ℕ) → Contains queries ids
    → times_asked ids id ≤ times_named queries id
named-among queries ids id runs =
    part-le-sum_by (λ (q : AskIds). times_asked q id) queries ids (IsAmong-from_Contains queries ids runs)

-- so a trace that it asks for has users
pub running-used : (traces : List Trace) (queries : List AskIds) (ids : AskIds) (id : ℕ) (t : Trace)
    → AreUsedBy traces queries → Contains queries ids → 0 < times_asked ids id
    → kept_trace traces id ≡ Some t → 0 < t.users
running-used traces queries ids id t used runs named kept = omega (
  arith,
  named,
  named-among queries ids id runs,
  All-found (HasUsers queries) (has_id id) traces t used.users kept,
  ap (times_named queries) (kept_id traces id t kept),
)

-- a trace without users is gone: it isn't one that a query asks for
pub told-without : (traces : List Trace) (gone : Trace) (place id : ℕ) (t : Trace)
    → kept_trace traces gone.id ≡ Some gone → gone.users ≡ 0 → 0 < t.users → kept_trace traces id ≡ Some t
    → HasSuch (without_trace gone.id traces) place id t
told-without traces gone place id t there unused used kept = elim (eqb_tells gone.id id) [
  | inl same ↦
      let one : gone ≡ t = same_Some gone t (sym there ∙ ap (kept_trace traces) same.1 ∙ kept) in
      absurd (omega (arith, unused, used, ap (λ (u : Trace). u.users) one))
  | inr other ↦ (t, kept-without gone.id id traces other.0 ∙ kept, λ track start root is. is)
]

-- another query gives its traces back
pub told-given_back : (others : AskIds) (traces : List Trace) (queries : List AskIds) (ids : AskIds)
    (place id : ℕ) (t : Trace) → IsRising traces → AreUsedBy traces (others ∷ queries)
    → Contains queries ids → 0 < times_asked ids id → kept_trace traces id ≡ Some t
    → HasSuch (filter (λ t. not (is_over t)) (without_users others traces)) place id t
told-given_back others traces queries ids place id t up used runs named kept = (
  used_less (times_asked others t.id) t,
  kept-given_back others traces id t up kept (omega (
    arith,
    named,
    named-among queries ids id runs,
    All-found (HasUsers (others ∷ queries)) (has_id id) traces t used.users kept,
    named-first others queries t.id,
    ap (times_named queries) (kept_id traces id t kept),
  )),
  λ track start root is. is,
)

-- ---- roots that are told

-- a root that is told is in the slot of its track
told_slot : (place start root : ℕ) (slot : Option (Option TrackRoot))
    → seen_by_place place (option_and_then (λ s. s) slot) ≡ Root start root
    → (r : TrackRoot) × (slot ≡ Some (Some r)) × (r.root ≡ root)
told_slot place start root None is = absurd cc
told_slot place start root (Some None) is = absurd cc
told_slot place start root (Some (Some r)) is = (
  r,
  refl,
  elim (leb r.place place) as
      (λ b. cond b (Root r.start r.root) NotYet ≡ Root start root → r.root ≡ root)
      [ true ↦ λ same. cc | false ↦ λ none. absurd cc ] is,
)

-- so it is among the roots that are kept
pub told-kept : (traces : List Trace) (id place track start root : ℕ) (t : Trace)
    → kept_trace traces id ≡ Some t → published_by t place track ≡ Root start root
    → Contains (roots_kept traces) root
told-kept traces id place track start root t kept is =
    let (r, at, same) = told_slot place start root (slice_get t.tracks track) is in
    subst (Contains (roots_kept traces)) same (Contains-from_IsAmong (roots_kept traces) r.root
    (IsAmong-flat_map (λ (u : Trace). roots_in u.tracks) traces t r.root
    (IsAmong-from_place traces t _ (sym (find_at (has_id id) traces) ∙ kept))
    (slot_root t.tracks track r at)))

-- ---- a trace that ends

-- it is gone, if it has no users
pub told-ended : (old : RegistryValue) (t : Trace) (queries : List AskIds) (ids : AskIds) (place : ℕ)
    → AreUsedBy old.traces queries → Contains queries ids → kept_trace old.traces t.id ≡ Some t
    → t.users ≡ 0 → KeepsTold old (with_ended old t) ids place
told-ended old t queries ids place used runs there unused =
    told-each old (with_ended old t) ids place (λ id u named kept.
    told-without old.traces t place id u there unused
    (running-used old.traces queries ids id u used runs named kept) kept)

-- or kept for its users
pub told-kept_for_users : (old : RegistryValue) (t : Trace) (ids : AskIds) (place : ℕ)
    → KeepsTold old (with_kept old t) ids place
told-kept_for_users old t ids place = told-each old (with_kept old t) ids place (λ id u named.
    told-changed t.id kept_for_users old.traces place id u (λ v. refl) (λ v there track start root is. is))
