-- What each call of the registry makes of a registry that stands for a history: which entry may follow, and that
-- the new registry stands for the history with it.
use Rattle.std.proofs.Common.{◌≡◌, ◌-◌, ◌∙◌, ℕ, List, [], ◌∷◌, ◌++◌, Ok, Some, ap, arith}
use Rattle.std.proofs.Common.{filter, false, not, refl, subst, sym, true}
use Rattle.std.proofs.lemmas.Bool.{false≢true}
use Rattle.std.specs.Prelude.{is_some}
use Rattle.trace_base.specs.Info.{IsLegalInfo}
use Rattle.trace_base.specs.declared.names.TraceInfo.{TraceInfo}
use Rattle.hall_history.specs.declared.asks.AskIds.{AskIds}
use Rattle.hall_history.specs.History.{Asked, Closed, Dropped, Entry, IsTrackTree, MayFollow, Opened, Published}
use Rattle.hall_history.specs.History.{PublishedTree, Sealed}
use Rattle.hall_world.specs.Past.{Past, start_of}
use Rattle.node_key.specs.Stands.{KeyAt, Stands}
use Rattle.registry_core.proofs.EndedMore.{IsEndOf-closed, IsEndOf-dropped}
use Rattle.registry_core.proofs.FollowsRegistry.{all_told, awaited_none, loads_told}
use Rattle.registry_core.proofs.KeptTraces.{IsRising-map, kept_own, open_kept}
use Rattle.registry_core.proofs.OpenRows.{open_count_told}
use Rattle.registry_core.proofs.SoundAsks.{sound-asked, sound-unpinned}
use Rattle.registry_core.proofs.SoundLoads.{HasEnd, may-end, sound-ended, sound-entry, sound-kept, sound-opened}
use Rattle.registry_core.proofs.SoundLoads.{sound-published, sound-sealed}
use Rattle.registry_core.proofs.StandsAsked.{stands-asked}
use Rattle.registry_core.proofs.StandsEnded.{stands-gone, stands-kept}
use Rattle.registry_core.proofs.StandsGiven.{differs-over, differs-users, stands-given}
use Rattle.registry_core.proofs.StandsOpened.{stands-opened}
use Rattle.registry_core.proofs.StandsPublished.{stands-published}
use Rattle.registry_core.proofs.StandsSealed.{stands-sealed}
use Rattle.registry_core.specs.Asking.{AreUsed, AsksIn, after_unpin, times_asked, with_users, without_users}
use Rattle.registry_core.specs.Closing.{ClosesIn}
use Rattle.registry_core.specs.Loading.{AdmitsIn, AwaitsSeal, AwaitsTrack, EndsIn, IsLoadingTrace}
use Rattle.registry_core.specs.Loading.{with_opened, with_published, with_sealed}
use Rattle.registry_core.specs.Registry.{FitsPlaces, RegistryValue, after_entry, kept_trace}
use Rattle.registry_core.specs.Registry.{open_trace}
use Rattle.registry_core.specs.Standing.{AreTrees, StandsFor}
use Rattle.registry_core.specs.Trace.{Trace, is_over, promise_of, used_less, used_more}
use Rattle.registry_core.specs.declared.answers.Opened.{Opened as OpenedTrace}
use Rattle.registry_core.specs.declared.answers.RegAsk.TheVariants as ask
use Rattle.registry_core.specs.declared.answers.RegClose.TheVariants as close
use Rattle.registry_core.specs.declared.answers.RegEnd.{RegEnd}
use Rattle.registry_core.specs.declared.answers.RegEnd.TheVariants as end

-- the entry may follow the history, and the registry stands for it with this entry
pub record OneMore (key_at : KeyAt) (past : Past) (e : Entry) (new : RegistryValue) : Type 0 where
  pub may : MayFollow past.entries e
  pub stands : StandsFor (AreTrees key_at) (start_of past) new (past.entries ++ e ∷ [])

module _ (key_at : KeyAt) (past : Past) (old : RegistryValue)
    (was : StandsFor (AreTrees key_at) (start_of past) old past.entries)
  where
    -- for another registry that is that one
    same : (e : Entry) (new is : RegistryValue) → new ≡ is → OneMore key_at past e is → OneMore key_at past e new
    same e new is becomes more = subst (OneMore key_at past e) (sym becomes) more

    -- ---- questions

    -- an entry that changes nothing else
    pub made_asked : (new : RegistryValue) → new ≡ after_entry old → FitsPlaces old 1
        → OneMore key_at past Asked new
    made_asked new becomes fits =
        same Asked new (after_entry old) becomes (record {
          may = _;
          stands = stands-asked (AreTrees key_at) (start_of past) old past.entries was
              (sound-entry old was.sound fits);
        })

    -- a question whose traces are open
    pub made_pinned : (new : RegistryValue) (ids : AskIds) (place : ℕ) → AsksIn old ids (ask.Pinned place) new
        → OneMore key_at past Asked new
    made_pinned new ids place (fits, known, is, becomes) =
        same Asked new (record (after_entry old) { traces = with_users ids old.traces }) becomes (record {
          may = _;
          stands = stands-given (AreTrees key_at) (start_of past) (after_entry old) (past.entries ++ Asked ∷ [])
              (with_users ids old.traces)
              (stands-asked (AreTrees key_at) (start_of past) old past.entries was
              (sound-entry old was.sound fits))
              (differs-users (λ t. used_more (times_asked ids t.id) t) old.traces
              (λ t. (record { id = refl; info = refl; tracks = refl }, refl, refl)))
              (sound-asked old ids was.sound fits known);
        })

    -- traces that are given back make no entry
    pub stands_unpinned : (ids : AskIds) → AreUsed old ids
        → StandsFor (AreTrees key_at) (start_of past) (after_unpin old ids) past.entries
    stands_unpinned ids used =
        let less = λ (t : Trace). used_less (times_asked ids t.id) t in
        let traces = without_users ids old.traces in
        stands-given (AreTrees key_at) (start_of past) old past.entries (filter (λ t. not (is_over t)) traces) was
        (differs-over old.traces traces (IsRising-map less old.traces (λ t. refl) was.sound.rising)
        (differs-users less old.traces (λ t. (record { id = refl; info = refl; tracks = refl }, refl, refl))))
        (sound-unpinned old ids was.sound used)

    -- ---- loads

    -- a trace that is opened
    pub made_opened : (new : RegistryValue) (info : TraceInfo) (o : OpenedTrace) → IsLegalInfo info
        → AdmitsIn old info (Ok o) new → OneMore key_at past (Opened o.id info) new
    made_opened new info o legal (fits, few, is, becomes) =
        let entries = past.entries in
        let id : o.id ≡ old.next_id = ap (λ (o : OpenedTrace). o.id) is in
        let may : MayFollow entries (Opened old.next_id info) = (
          omega (arith, was.next_id),
          legal,
          omega (arith, few, open_count_told (AreTrees key_at) (start_of past) old entries was),
        ) in
        subst (λ (i : ℕ). OneMore key_at past (Opened i info) new) (sym id)
        (same (Opened old.next_id info) new (with_opened old info) becomes (record {
          may = may;
          stands = stands-opened (AreTrees key_at) (start_of past) old entries info was
              (sound-opened old info was.sound fits few legal);
        }))

    -- a track that is published
    pub made_published : (new : RegistryValue) (id track start root : ℕ) (p : PublishedTree)
        → AwaitsTrack old id track → IsTrackTree past.entries id track p → start ≡ p.start
        → Stands key_at root p.tree → new ≡ with_published old id track start root
        → OneMore key_at past (Published id track p) new
    made_published new id track start root p (t, kept, loading, free) is begins stands becomes =
        let awaits : AwaitsTrack old id track = (t, kept, loading, free) in
        let are = AreTrees key_at in
        same (Published id track p) new (with_published old id track start root) becomes (record {
          may = (
            sym (loads_told are (start_of past) old past.entries id t was kept) ∙ loading,
            awaited_none are (start_of past) old past.entries id track t was kept free,
            is,
          );
          stands = stands-published are (start_of past) old past.entries id track start root p was awaits
              (begins, stands) (sound-published old id track start root was.sound awaits);
        })

    -- a load that is sealed
    pub made_sealed : (new : RegistryValue) (id : ℕ) → AwaitsSeal old id → new ≡ with_sealed old id
        → OneMore key_at past (Sealed id) new
    made_sealed new id (t, kept, loading, all) becomes =
        let awaits : AwaitsSeal old id = (t, kept, loading, all) in
        let are = AreTrees key_at in
        same (Sealed id) new (with_sealed old id) becomes (record {
          may = (
            sym (loads_told are (start_of past) old past.entries id t was kept) ∙ loading,
            λ track within. all_told are (start_of past) old past.entries id track t was kept all within,
          );
          stands = stands-sealed are (start_of past) old past.entries id was awaits
              (sound-sealed old id was.sound awaits);
        })

    -- ---- traces that end

    -- the kept trace is the loading one
    is_loaded : (id : ℕ) (t : Trace) → IsLoadingTrace old id → kept_trace old.traces id ≡ Some t
        → t.loading ≡ true
    is_loaded id t (u, kept, loading) at =
        let is : t ≡ u = cc in
        ap (λ (v : Trace). v.loading) is ∙ loading

    -- so a place is promised for its end
    has_end : (id : ℕ) (t : Trace) → kept_trace old.traces id ≡ Some t → t.loading ≡ true → HasEnd old t
    has_end id t kept loading =
        may-end old id t was.sound kept (t, kept, λ sealed. absurd (false≢true (sym sealed ∙ loading)))

    -- a load that is given up
    pub made_ended : (new : RegistryValue) (id : ℕ) (ended : RegEnd) → IsLoadingTrace old id
        → EndsIn old id ended new → OneMore key_at past (Dropped id) new
    made_ended new id (end.Ended place roots) loads (t, kept, unused, is, are, becomes) =
        let loading = is_loaded id t loads kept in
        let promised = has_end id t kept loading in
        same (Dropped id) new _ becomes (record {
          may = sym (loads_told (AreTrees key_at) (start_of past) old past.entries id t was kept) ∙ loading;
          stands = stands-gone (AreTrees key_at) (start_of past) old past.entries (Dropped id) id t was kept
              (IsEndOf-dropped id)
              (sound-ended old t was.sound (kept_own old.traces id t kept) promised.0 promised.1);
        })
    made_ended new id (end.Kept place) loads (t, kept, used, is, becomes) =
        let loading = is_loaded id t loads kept in
        let promised = has_end id t kept loading in
        same (Dropped id) new _ becomes (record {
          may = sym (loads_told (AreTrees key_at) (start_of past) old past.entries id t was kept) ∙ loading;
          stands = stands-kept (AreTrees key_at) (start_of past) old past.entries (Dropped id) id t was kept
              (IsEndOf-dropped id)
              (sound-kept old t was.sound (kept_own old.traces id t kept) promised.0 promised.1 used);
        })

    -- a sealed trace may be closed
    may_close : (id : ℕ) (t : Trace) → kept_trace old.traces id ≡ Some t
        → is_some (open_trace old.traces id) ≡ true → t.loading ≡ false
        → MayFollow past.entries (Closed id)
    may_close id t kept opened sealed = (
      was.opens id ∙ opened,
      sym (loads_told (AreTrees key_at) (start_of past) old past.entries id t was kept) ∙ sealed,
    )

    -- a trace that is closed and gone
    pub made_closed : (new : RegistryValue) (id place : ℕ) (roots : List ℕ)
        → ClosesIn old id (close.Ended place roots) new → OneMore key_at past (Closed id) new
    made_closed new id place roots (fits, t, sealed, unused, is, are, becomes) =
        let kept = open_kept old.traces id t was.sound.rising sealed.is_open in
        let room : FitsPlaces old (1 - promise_of t) = omega (arith, fits) in
        same (Closed id) new _ becomes (record {
          may = may_close id t kept.0 (ap is_some sealed.is_open) sealed.sealed;
          stands = stands-gone (AreTrees key_at) (start_of past) old past.entries (Closed id) id t was kept.0
              (IsEndOf-closed id) (sound-ended old t was.sound (kept_own old.traces id t kept.0) kept.1 room);
        })

    -- a trace that is closed and kept for its users
    pub made_closed_kept : (new : RegistryValue) (id place : ℕ) → ClosesIn old id (close.Kept place) new
        → OneMore key_at past (Closed id) new
    made_closed_kept new id place (fits, t, sealed, used, is, becomes) =
        let kept = open_kept old.traces id t was.sound.rising sealed.is_open in
        let room : FitsPlaces old (1 - promise_of t) = omega (arith, fits) in
        same (Closed id) new _ becomes (record {
          may = may_close id t kept.0 (ap is_some sealed.is_open) sealed.sealed;
          stands = stands-kept (AreTrees key_at) (start_of past) old past.entries (Closed id) id t was kept.0
              (IsEndOf-closed id) (sound-kept old t was.sound (kept_own old.traces id t kept.0) kept.1 room used);
        })
