-- What holds of a plain hall after each of its calls.
use Rattle.std.proofs.Common.{◌≡◌, ℕ, true, false, List, [], ◌∷◌, ◌++◌, Ok, Some, refl, sym, ap}
use Rattle.std.proofs.Common.{◌∙◌, subst, arith}
use Rattle.std.specs.Prelude.{is_some}
use Rattle.std.proofs.lemmas.Bool.{false≢true}
use Rattle.std.proofs.lemmas.Option.{same_Some}
use Rattle.list_lemmas.proofs.All.{All-found}
use Rattle.trace_base.specs.Info.{IsLegalInfo}
use Rattle.trace_base.specs.declared.names.TraceInfo.{TraceInfo}
use Rattle.hall_history.specs.History.{Entry, EntryOf, IsTrackTree, MayFollow, is_loading, published_count}
use Rattle.hall_history.specs.History.{Opened, Published, Sealed, Dropped, Closed, Asked}
use Rattle.hall_history.specs.declared.asks.AskIds.{AskIds}
use Rattle.node_key.specs.Stakes.{stake}
use Rattle.node_key.specs.Stands.{Stands}
use Rattle.node_store.specs.Given.{ever}
use Rattle.node_store.specs.Kept.{AreKept, KeepsFor, NodesKept}
use Rattle.node_store.specs.TreeUnder.{tree_under}
use Rattle.registry_core.proofs.EndedMore.{IsEndOf, IsEndOf-closed, IsEndOf-dropped}
use Rattle.registry_core.proofs.FollowsRegistry.{all_told, awaited_none, loads_told}
use Rattle.registry_core.proofs.KeptTraces.{kept_own, open_kept}
use Rattle.registry_core.proofs.LawTraces.{kept_above}
use Rattle.registry_core.proofs.OpenRows.{open_count_told}
use Rattle.registry_core.proofs.RootsKept.{roots-changed, roots-opened, roots-published, roots-same}
use Rattle.registry_core.proofs.RootsKept.{roots-without}
use Rattle.registry_core.proofs.SoundAsks.{sound-asked, sound-unpinned}
use Rattle.registry_core.proofs.SoundLoads.{HasEnd, may-end, sound-ended, sound-entry, sound-kept, sound-opened}
use Rattle.registry_core.proofs.SoundLoads.{sound-published, sound-sealed}
use Rattle.registry_core.proofs.StandsAsked.{stands-asked}
use Rattle.registry_core.proofs.StandsEnded.{stands-gone, stands-kept}
use Rattle.registry_core.proofs.StandsGiven.{differs-over, differs-users, stands-given}
use Rattle.registry_core.proofs.StandsOpened.{stands-opened}
use Rattle.registry_core.proofs.StandsPublished.{stands-published}
use Rattle.registry_core.proofs.StandsSealed.{stands-sealed}
use Rattle.registry_core.proofs.UsedByQueries.{HasUsers, known-kept, used-asked, used-changed, used-given_back}
use Rattle.registry_core.proofs.UsedByQueries.{used-in_use, used-opened, used-without}
use Rattle.registry_core.proofs.KeptTraces.{IsRising-map}
use Rattle.registry_core.specs.Asking.{AsksIn, after_unpin, times_asked, with_users, without_users}
use Rattle.registry_core.specs.Closing.{ClosesIn}
use Rattle.registry_core.specs.Loading.{AdmitsIn, AwaitsSeal, AwaitsTrack, EndsIn, IsLoadingTrace}
use Rattle.registry_core.specs.Loading.{with_ended, with_opened, with_published, with_sealed}
use Rattle.registry_core.specs.Registry.{FitsPlaces, IsSoundRegistry, RegistryValue, after_entry, has_id, kept_trace}
use Rattle.registry_core.specs.Registry.{open_trace}
use Rattle.registry_core.specs.Roots.{ExchangesRoots, roots_kept}
use Rattle.registry_core.specs.Standing.{AreTrees, StandsFor}
use Rattle.registry_core.specs.Trace.{Trace, just_opened, kept_for_users, loaded, used_less, used_more}
use Rattle.registry_core.specs.Trace.{with_root}
use Rattle.registry_core.specs.UsedBy.{AreUsedBy}
use Rattle.registry_core.specs.declared.answers.Opened.{Opened as OpenedTrace}
use Rattle.registry_core.specs.declared.answers.RegAsk.TheVariants.{Pinned}
use Rattle.registry_core.specs.declared.answers.RegClose.TheVariants as close
use Rattle.registry_core.specs.declared.answers.RegEnd.{RegEnd}
use Rattle.registry_core.specs.declared.answers.RegEnd.TheVariants.{Ended, Kept}
use Rattle.plain_hall.specs.Rooted.{stakes_under, tree_of_root, with_trees}
use Rattle.plain_hall.specs.Whole.{IsSoundHall, at_first}
use Rattle.plain_hall.specs.declared.root.Root.{Root}
use Rattle.plain_hall.proofs.RootStakes.{keeps_added}
use Rattle.plain_hall.proofs.WholeAfter.{whole_back, whole_entry}

-- ---- questions

pub whole_asked : (s : NodesKept) (r q : RegistryValue) (old new : List (EntryOf Root)) (queries : List AskIds)
    → new ≡ old ++ Asked ∷ [] → q ≡ after_entry r → FitsPlaces r 1 → IsSoundHall s r old queries
    → IsSoundHall s q new queries
whole_asked s r q old new queries seen is fits was =
    subst (λ (q : RegistryValue). IsSoundHall s q new queries) (sym is)
    (whole_entry s s r (after_entry r) old new Asked queries queries seen tt tt
    (stands-asked (AreTrees (ever s.given)) at_first r (with_trees (ever s.given) old) was.stands
    (sound-entry r was.stands.sound fits)) was.used refl was.store was.roots tt was)

pub whole_pinned : (s : NodesKept) (r q : RegistryValue) (old new : List (EntryOf Root)) (ids : AskIds)
    (place : ℕ) (queries : List AskIds) → new ≡ old ++ Asked ∷ [] → AsksIn r ids (Pinned place) q
    → IsSoundHall s r old queries → IsSoundHall s q new (ids ∷ queries)
whole_pinned s r q old new ids place queries seen (fits, known, is, becomes) was =
    let after : RegistryValue = record (after_entry r) { traces = with_users ids r.traces } in
    subst (λ (q : RegistryValue). IsSoundHall s q new (ids ∷ queries)) (sym becomes)
    (whole_entry s s r after old new Asked queries (ids ∷ queries) seen tt tt
    (stands-given (AreTrees (ever s.given)) at_first (after_entry r)
    (with_trees (ever s.given) old ++ Asked ∷ []) (with_users ids r.traces)
    (stands-asked (AreTrees (ever s.given)) at_first r (with_trees (ever s.given) old) was.stands
    (sound-entry r was.stands.sound fits))
    (differs-users (λ t. used_more (times_asked ids t.id) t) r.traces
    (λ t. (record { id = refl; info = refl; tracks = refl }, refl, refl)))
    (sound-asked r ids was.stands.sound fits known))
    (used-asked ids r.traces queries (known-kept r ids known) was.used) refl was.store
    (subst (λ (roots : List ℕ). KeepsFor s (stakes_under (ever s.given) roots))
    (sym (roots-same (λ t. used_more (times_asked ids t.id) t) (λ t. refl) r.traces)) was.roots) tt was)

-- the traces of a query are given back
pub whole_unpinned : (s t : NodesKept) (r q : RegistryValue) (entries : List (EntryOf Root)) (ids : AskIds)
    (queries : List AskIds) → q ≡ after_unpin r ids → ever t.given ≡ ever s.given → AreKept t
    → KeepsFor t (stakes_under (ever s.given) (roots_kept (after_unpin r ids).traces))
    → IsSoundHall s r entries (ids ∷ queries) → IsSoundHall t q entries queries
whole_unpinned s t r q entries ids queries is same kept keeps was =
    let less = λ (t : Trace). used_less (times_asked ids t.id) t in
    let traces = without_users ids r.traces in
    let used = used-in_use r ids queries was.used in
    let rising = was.stands.sound.rising in
    subst (λ (q : RegistryValue). IsSoundHall t q entries queries) (sym is)
    (whole_back s t r (after_unpin r ids) entries (ids ∷ queries) queries
    (stands-given (AreTrees (ever s.given)) at_first r (with_trees (ever s.given) entries) _ was.stands
    (differs-over r.traces traces (IsRising-map less r.traces (λ t. refl) rising)
    (differs-users less r.traces (λ t. (record { id = refl; info = refl; tracks = refl }, refl, refl))))
    (sound-unpinned r ids was.stands.sound used))
    (used-given_back ids r.traces queries rising was.used) same kept keeps was)

-- ---- loads

pub whole_opened : (s : NodesKept) (r q : RegistryValue) (old new : List (EntryOf Root)) (info : TraceInfo)
    (o : OpenedTrace) (queries : List AskIds) → new ≡ old ++ Opened o.id info ∷ [] → IsLegalInfo info
    → AdmitsIn r info (Ok o) q → IsSoundHall s r old queries → IsSoundHall s q new queries
whole_opened s r q old new info o queries seen legal (fits, few, is, becomes) was =
    let are = AreTrees (ever s.given) in
    let entries = with_trees (ever s.given) old in
    let id : o.id ≡ r.next_id = ap (λ (o : OpenedTrace). o.id) is in
    let may : MayFollow entries (Opened r.next_id info) = (
      omega (arith, was.stands.next_id),
      legal,
      omega (arith, few, open_count_told are at_first r entries was.stands),
    ) in
    let sound = sound-opened r info was.stands.sound fits few legal in
    subst (λ (q : RegistryValue). IsSoundHall s q new queries) (sym becomes)
    (whole_entry s s r (with_opened r info) old new (Opened r.next_id info) queries queries
    (seen ∙ ap (λ i. old ++ Opened i info ∷ []) id) may tt
    (stands-opened are at_first r entries info was.stands sound)
    (used-opened r.traces (just_opened r.next_id info) queries refl
    (kept_above r.traces r.next_id r.next_id was.stands.sound.given (omega arith)) was.used) refl was.store
    (subst (λ (roots : List ℕ). KeepsFor s (stakes_under (ever s.given) roots))
    (sym (roots-opened r info)) was.roots) tt was)

pub whole_published : (s t : NodesKept) (r q : RegistryValue) (old new : List (EntryOf Root)) (id track : ℕ)
    (x : Root) (queries : List AskIds) → new ≡ old ++ Published id track x ∷ []
    → q ≡ with_published r id track x.start x.node → ever t.given ≡ ever s.given → AreKept t
    → AwaitsTrack r id track
    → IsTrackTree (with_trees (ever s.given) old) id track (tree_of_root (ever s.given) x)
    → track ≡ published_count (with_trees (ever s.given) old) id
    → Stands (ever s.given) x.node (tree_under (ever s.given) x.node)
    → KeepsFor t (stake x.node (tree_under (ever s.given) x.node)
    ∷ stakes_under (ever s.given) (roots_kept r.traces)) → IsSoundHall s r old queries
    → IsSoundHall t q new queries
whole_published s t r q old new id track x queries seen is same kept awaits fits turn stands keeps was =
    let are = AreTrees (ever s.given) in
    let entries = with_trees (ever s.given) old in
    let (u, there, loading, free) = awaits in
    let sound = sound-published r id track x.start x.node was.stands.sound awaits in
    let may : MayFollow entries (Published id track (tree_of_root (ever s.given) x)) = (
      sym (loads_told are at_first r entries id u was.stands there) ∙ loading,
      awaited_none are at_first r entries id track u was.stands there free,
      fits,
    ) in
    subst (λ (q : RegistryValue). IsSoundHall t q new queries) (sym is)
    (whole_entry s t r (with_published r id track x.start x.node) old new (Published id track x) queries queries
    seen may turn
    (stands-published are at_first r entries id track x.start x.node (tree_of_root (ever s.given) x) was.stands
    awaits (refl, stands) sound)
    (used-changed id (with_root track _) r.traces queries (λ t. refl) (λ t. refl) was.used) same kept
    (keeps_added t (ever s.given) (roots_kept r.traces) _ x.node
    (roots-published r.traces id track u _ was.stands.sound.rising there free) keeps)
    (ap Rattle.std.specs.Prelude.is_some stands.2) was)

pub whole_sealed : (s : NodesKept) (r q : RegistryValue) (old new : List (EntryOf Root)) (id : ℕ)
    (queries : List AskIds) → new ≡ old ++ Sealed id ∷ [] → q ≡ with_sealed r id → AwaitsSeal r id
    → IsSoundHall s r old queries → IsSoundHall s q new queries
whole_sealed s r q old new id queries seen is awaits was =
    let are = AreTrees (ever s.given) in
    let entries = with_trees (ever s.given) old in
    let (u, there, loading, all) = awaits in
    let may : MayFollow entries (Sealed id) = (
      sym (loads_told are at_first r entries id u was.stands there) ∙ loading,
      λ track within. all_told are at_first r entries id track u was.stands there all within,
    ) in
    subst (λ (q : RegistryValue). IsSoundHall s q new queries) (sym is)
    (whole_entry s s r (with_sealed r id) old new (Sealed id) queries queries seen may tt
    (stands-sealed are at_first r entries id was.stands awaits (sound-sealed r id was.stands.sound awaits))
    (used-changed id loaded r.traces queries (λ t. refl) (λ t. refl) was.used) refl was.store
    (subst (λ (roots : List ℕ). KeepsFor s (stakes_under (ever s.given) roots))
    (sym (roots-changed id loaded (λ t. refl) r.traces)) was.roots) tt was)

-- a trace that is given up ends
dropped_end : (r : RegistryValue) (id : ℕ) (t : Trace) → IsSoundRegistry r
    → IsLoadingTrace r id → kept_trace r.traces id ≡ Some t → HasEnd r t
dropped_end r id t sound (u, found, loading) kept =
    let same : t ≡ u = cc in
    let loads : t.loading ≡ true = ap (λ (v : Trace). v.loading) same ∙ loading in
    may-end r id t sound kept (t, kept, λ sealed. absurd (false≢true (sym sealed ∙ loads)))

-- a registry whose trace ends stands for the history with the entry that ends it
ended_stands : (s : NodesKept) (r q : RegistryValue) (old : List (EntryOf Root)) (e : Entry) (id : ℕ)
    (end : RegEnd) (queries : List AskIds) → IsEndOf e id → ((t : Trace) → kept_trace r.traces id ≡ Some t → HasEnd r t)
    → EndsIn r id end q → IsSoundHall s r old queries
    → StandsFor (AreTrees (ever s.given)) at_first q (with_trees (ever s.given) old ++ e ∷ [])
    × AreUsedBy q.traces queries
ended_stands s r q old e id (Ended place roots) queries is_end ends (t, kept, unused, is, are, becomes) was =
    let end = ends t kept in
    let entries = with_trees (ever s.given) old in
    let trees = AreTrees (ever s.given) in
    subst (λ (q : RegistryValue). StandsFor trees at_first q (entries ++ e ∷ [])
    × AreUsedBy q.traces queries) (sym becomes) (
      stands-gone trees at_first r entries e id t was.stands kept is_end
          (sound-ended r t was.stands.sound (kept_own r.traces id t kept) end.0 end.1),
      used-without r.traces t queries
          (All-found (HasUsers queries) (has_id id) r.traces t was.used.users kept) unused was.used,
    )
ended_stands s r q old e id (Kept place) queries is_end ends (t, kept, used, is, becomes) was =
    let end = ends t kept in
    let entries = with_trees (ever s.given) old in
    let trees = AreTrees (ever s.given) in
    subst (λ (q : RegistryValue). StandsFor trees at_first q (entries ++ e ∷ [])
    × AreUsedBy q.traces queries) (sym becomes) (
      stands-kept trees at_first r entries e id t was.stands kept is_end
          (sound-kept r t was.stands.sound (kept_own r.traces id t kept) end.0 end.1 used),
      used-changed t.id kept_for_users r.traces queries (λ u. refl) (λ u. refl) was.used,
    )

pub whole_dropped : (s t : NodesKept) (r q : RegistryValue) (old new : List (EntryOf Root)) (id : ℕ)
    (end : RegEnd) (queries : List AskIds) → new ≡ old ++ Dropped id ∷ [] → IsLoadingTrace r id
    → EndsIn r id end q → ever t.given ≡ ever s.given → AreKept t
    → KeepsFor t (stakes_under (ever s.given) (roots_kept q.traces)) → IsSoundHall s r old queries
    → IsSoundHall t q new queries
whole_dropped s t r q old new id end queries seen loads ends same kept keeps was =
    let after = ended_stands s r q old (Dropped id) id end queries (IsEndOf-dropped id)
    (λ t kept. dropped_end r id t was.stands.sound loads kept) ends was in
    let (u, there, loading) = loads in
    let may : MayFollow (with_trees (ever s.given) old) (Dropped id) =
    sym (loads_told (AreTrees (ever s.given)) at_first r (with_trees (ever s.given) old) id u was.stands there)
    ∙ loading in
    whole_entry s t r q old new (Dropped id) queries queries seen may tt after.0 after.1 same kept keeps tt was

-- a trace that is sealed ends, where a place is left
pub record ClosesTrace (r : RegistryValue) (id : ℕ) (end : RegEnd) (q : RegistryValue) : Type 0 where
  pub fits : FitsPlaces r 1
  pub trace : Trace
  pub kept : kept_trace r.traces id ≡ Some trace
  pub is_open : open_trace r.traces id ≡ Some trace
  pub on : trace.closing ≡ false
  pub sealed : trace.loading ≡ false
  pub ends : EndsIn r id end q

pub closes_ended : (r q : RegistryValue) (id place : ℕ) (roots : List ℕ) → IsSoundRegistry r
    → ClosesIn r id (close.Ended place roots) q → ClosesTrace r id (Ended place roots) q
closes_ended r q id place roots sound (fits, t, seals, unused, is, are, becomes) =
    let was = open_kept r.traces id t sound.rising seals.is_open in
    record {
      fits = fits;
      trace = t;
      kept = was.0;
      is_open = seals.is_open;
      on = was.1;
      sealed = seals.sealed;
      ends = (t, was.0, unused, is, are, becomes);
    }

pub closes_kept : (r q : RegistryValue) (id place : ℕ) → IsSoundRegistry r
    → ClosesIn r id (close.Kept place) q → ClosesTrace r id (Kept place) q
closes_kept r q id place sound (fits, t, seals, used, is, becomes) =
    let was = open_kept r.traces id t sound.rising seals.is_open in
    record {
      fits = fits;
      trace = t;
      kept = was.0;
      is_open = seals.is_open;
      on = was.1;
      sealed = seals.sealed;
      ends = (t, was.0, used, is, becomes);
    }

-- so it has an end
closed_end : (r q : RegistryValue) (id : ℕ) (end : RegEnd) (t : Trace) → ClosesTrace r id end q
    → kept_trace r.traces id ≡ Some t → HasEnd r t
closed_end r q id end t closes kept =
    let same : closes.trace ≡ t = same_Some closes.trace t (sym closes.kept ∙ kept) in
    subst (HasEnd r) same (closes.on, omega (arith, closes.fits))

-- it isn't loading, as the history tells
pub closed_sealed : (s : NodesKept) (r q : RegistryValue) (old : List (EntryOf Root)) (id : ℕ) (end : RegEnd)
    (queries : List AskIds) → ClosesTrace r id end q → IsSoundHall s r old queries
    → is_loading (with_trees (ever s.given) old) id ≡ false
closed_sealed s r q old id end queries closes was =
    sym (loads_told (AreTrees (ever s.given)) at_first r (with_trees (ever s.given) old) id closes.trace
    was.stands closes.kept) ∙ closes.sealed

pub whole_closed : (s t : NodesKept) (r q : RegistryValue) (old new : List (EntryOf Root)) (id : ℕ)
    (end : RegEnd) (queries : List AskIds) → new ≡ old ++ Closed id ∷ [] → ClosesTrace r id end q
    → ever t.given ≡ ever s.given → AreKept t
    → KeepsFor t (stakes_under (ever s.given) (roots_kept q.traces)) → IsSoundHall s r old queries
    → IsSoundHall t q new queries
whole_closed s t r q old new id end queries seen closes same kept keeps was =
    let after = ended_stands s r q old (Closed id) id end queries (IsEndOf-closed id)
    (λ u is. closed_end r q id end u closes is) closes.ends was in
    let may : MayFollow (with_trees (ever s.given) old) (Closed id) = (
      was.stands.opens id ∙ ap is_some closes.is_open,
      closed_sealed s r q old id end queries closes was,
    ) in
    whole_entry s t r q old new (Closed id) queries queries seen may tt after.0 after.1 same kept keeps tt was

-- a trace that is gone takes its roots along, and one that is kept leaves them
pub ended_roots : (r q : RegistryValue) (id place : ℕ) (roots : List ℕ)
    → IsSoundRegistry r → EndsIn r id (Ended place roots) q
    → ExchangesRoots (roots_kept r.traces) (roots_kept q.traces) roots []
ended_roots r q id place roots sound (t, kept, unused, is, are, becomes) =
    subst (λ (q : RegistryValue). ExchangesRoots (roots_kept r.traces) (roots_kept q.traces) roots [])
    (sym becomes) (subst (λ rs. ExchangesRoots (roots_kept r.traces) (roots_kept (with_ended r t).traces) rs [])
    (sym are) (roots-without r.traces t.id t sound.rising (kept_own r.traces id t kept)))

pub kept_roots : (r q : RegistryValue) (id place : ℕ) → EndsIn r id (Kept place) q
    → roots_kept q.traces ≡ roots_kept r.traces
kept_roots r q id place (t, kept, used, is, becomes) = ap (λ (r : RegistryValue). roots_kept r.traces) becomes
    ∙ roots-changed t.id kept_for_users (λ u. refl) r.traces
