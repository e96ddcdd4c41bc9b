-- A good world stays good after each event of a seat on the registry.
use Rattle.std.proofs.Common.{◌≡◌, ◌-◌, ◌≤◌, ◌∙◌, ℕ, Contains, true, List, [], ◌∷◌, ◌++◌, Ok, Some, ap, arith}
use Rattle.std.proofs.Common.{drop, inl, inr, length, refl, slice_get, slice_set, subst, sym}
use Rattle.std.proofs.Math.Arith.{lt_of_le-ne}
use Rattle.std.proofs.lemmas.Bool.{cases_eq}
use Rattle.std.proofs.lemmas.List.Elements.{All-contains}
use Rattle.std.proofs.lemmas.Option.{none-some, same_Some}
use Rattle.std.proofs.lemmas.List.{take-append-drop}
use Rattle.std.specs.Arc.{arc_value}
use Rattle.std.specs.List.{filter_map}
use Rattle.list_lemmas.proofs.Found.{first-append}
use Rattle.list_lemmas.proofs.Options.{option_map_found, or_stays}
use Rattle.std.specs.Option.{option_and_then, option_map, option_map_or}
use Rattle.list_lemmas.proofs.All.{All-at}
use Rattle.hall_history.specs.Asks.{id_at}
use Rattle.hall_history.specs.History.{Asked, Closed, Dropped, Entry, IsTrackTree, Opened, Published, PublishedTree, Sealed}
use Rattle.hall_history.specs.History.{FitsTrack, info_of, info_opened, is_loading, tracks_of}
use Rattle.hall_history.specs.declared.asks.PassState.{PassState}
use Rattle.hall_history.specs.declared.asks.PassState.TheVariants.{Straight, Whole}
use Rattle.hall_history.specs.declared.seat.PassView.{PassView}
use Rattle.hall_history.specs.declared.seat.PinView.{PinView}
use Rattle.hall_world.specs.Calls.{Abandoning, Admitting, AnswersInRegistry, Asking, Closing, ComparingNames, GivingBack}
use Rattle.hall_world.specs.Calls.{InRegistry, ListingTraces, Publishing, RoomCall, Sealing, TellingInfo, TellingTrack}
use Rattle.hall_world.specs.Calls.{Dropping, Interning, ReadingKey, call_of, next_track, publication, read_call}
use Rattle.hall_history.specs.declared.asks.AskIds.{AskIds}
use Rattle.hall_world.specs.Good.{HoldsNodes, IsGood, SeesHistory}
use Rattle.hall_world.specs.Passes.{HasCome, IsGoodPass, IsPassOf, fresh_pass, pass_after}
use Rattle.trace_base.specs.Info.{IsLegalInfo}
use Rattle.hall_world.specs.Past.{Past, next_place, start_of, up_to, with_entries}
use Rattle.hall_world.specs.Seats.{AreRootStakes, Changes, MayMake, Restaked, anything, entered}
use Rattle.hall_world.specs.Seats.{AreFreedStakes, HasWholePass, MayPublish, without_at}
use Rattle.hall_world.specs.Steps.{with_changes}
use Rattle.hall_world.specs.World.{IsActive}
use Rattle.hall_world.specs.declared.events.HallEvent.{HallEvent}
use Rattle.hall_world.specs.declared.events.HallEvent.TheVariants as event
use Rattle.hall_world.specs.declared.events.ReadOf.{ReadOf}
use Rattle.hall_world.specs.declared.events.ReadOf.TheVariants as read
use Rattle.hall_world.specs.declared.events.StepAnswer.{StepAnswer}
use Rattle.hall_world.specs.declared.events.StepAnswer.TheVariants as answer
use Rattle.hall_world.specs.declared.limits.TheConstants.{REGISTRY_ROOM}
use Rattle.hall_world.specs.declared.world.SeatView.{SeatView}
use Rattle.hall_world.specs.declared.world.World.{World}
use Rattle.hall_world.proofs.EventsOnRegistry.{entry_goes_on, good_pass, one_first, same_goes_on}
use Rattle.hall_world.proofs.EventsOnRegistry.{shared_asked, shared_closed, shared_dropped, shared_opened}
use Rattle.hall_world.proofs.EventsOnRegistry.{shared_published, shared_sealed}
use Rattle.hall_world.proofs.HistoryMade.{made_asked, made_closed, made_closed_kept, made_ended, made_opened}
use Rattle.hall_world.proofs.HistoryMade.{made_pinned, made_published, made_sealed, stands_unpinned}
use Rattle.hall_world.proofs.ListsApart.{of_the_others}
use Rattle.hall_world.proofs.NodesKept.{freed_nodes, published_nodes, same_nodes, seat_one, seat_stands}
use Rattle.hall_world.proofs.PassesMoved.{ready_to_publish, tracks_of_pass}
use Rattle.hall_world.proofs.PinUsers.{users_unpinned}
use Rattle.hall_world.proofs.PinsGivenBack.{freed_stand}
use Rattle.hall_world.proofs.SeatsParted.{sees_at}
use Rattle.hall_world.proofs.RegistryReady.{awaits_seal, awaits_track, is_loading_trace}
use Rattle.hall_world.proofs.RootStakes.{StakeStands, root_stakes_stand}
use Rattle.node_key.specs.Stakes.{Exchanges, stake, times}
use Rattle.node_key.specs.Tree.{Tree}
use Rattle.node_key.specs.Trees.{tree}
use Rattle.node_key.specs.declared.stake.Stake.{Stake}
use Rattle.registry_core.proofs.KeptTraces.{kept_own, open_kept}
use Rattle.registry_core.proofs.RootsGivenBack.{roots-given_back}
use Rattle.registry_core.proofs.RootsKept.{roots-changed, roots-opened, roots-published, roots-same, roots-without}
use Rattle.registry_core.specs.Asking.{AsksIn, after_unpin, times_asked, unpinned}
use Rattle.registry_core.specs.Closing.{ClosesIn}
use Rattle.registry_core.specs.Loading.{AdmitsIn, EndsIn, with_published, with_sealed}
use Rattle.registry_core.specs.Registry.{FitsPlaces, RegistryValue, after_entry, kept_trace, without_trace}
use Rattle.registry_core.specs.Roots.{ExchangesRoots, roots_freed_by, roots_kept, times_root}
use Rattle.registry_core.specs.Standing.{AreTrees, IsUntold, StandsFor}
use Rattle.registry_core.specs.Trace.{Trace, kept_for_users, loaded, roots_in, used_more}
use Rattle.registry_core.specs.declared.answers.Opened.{Opened as OpenedTrace}
use Rattle.registry_core.specs.declared.answers.RegAsk.TheVariants as ask
use Rattle.registry_core.specs.declared.answers.RegClose.TheVariants as close
use Rattle.registry_core.specs.declared.answers.RegEnd.{RegEnd}
use Rattle.registry_core.specs.declared.answers.RegEnd.TheVariants as end
use Rattle.store_laws.specs.Store.{key_in}
use Rattle.trace_base.specs.declared.names.TraceInfo.{TraceInfo}

-- stakes that are the same are exchanged for none
pub exchanged_same : (old new : List Stake) → new ≡ old → Exchanges old new [] []
exchanged_same old new same x = omega (arith, ap (times x) same)

module _ (past : Past) (w : World) (actor : ℕ) (seat after : SeatView) (good : IsGood past w)
    (acts : IsActive w actor seat) (r : RegistryValue) (e : HallEvent) (a : StepAnswer) (call : RoomCall)
    (entries : List Entry) (asks : call_of seat e ≡ Some call)
    (answered : AnswersInRegistry call a w.state.registry r) (changed : Changes past seat e a entries after)
  where
    abbrev old : RegistryValue
    old = w.state.registry

    -- what is to be shown
    abbrev pub StaysGood : Type 0
    StaysGood = IsGood (with_entries past entries) (with_changes w REGISTRY_ROOM (InRegistry r) actor after)

    -- the nodes where the stakes of the seat and the roots stay
    nodes_stay : after.stakes ≡ seat.stakes → roots_kept r.traces ≡ roots_kept old.traces
        → HoldsNodes w.state.shards (slice_set w.seats actor after) r
    nodes_stay stakes roots =
        same_nodes w.state.shards w.seats old actor seat after good.nodes acts.there r
        (exchanged_same seat.stakes after.stakes stakes) (λ n. ap (times_root n) roots)

    -- a question that changes nothing else
    pub asked_goes : entries ≡ Asked ∷ [] → after ≡ entered (next_place past) seat → r ≡ after_entry old
        → FitsPlaces old 1 → StaysGood
    asked_goes made is becomes fits =
        entry_goes_on past w actor seat after good acts r e a call entries asks answered changed Asked made
        (nodes_stay (ap (λ (s : SeatView). s.stakes) is) (ap (λ (q : RegistryValue). roots_kept q.traces) becomes))
        (made_asked (key_in w.state.shards) past old good.history.stands r becomes fits)
        (shared_asked past.entries w.seats actor seat after acts.there good.passes (ap (λ (s : SeatView). s.passes) is))

    -- nothing changes
    pub kept_goes : entries ≡ [] → after ≡ seat → r ≡ old → StaysGood
    kept_goes none is same =
        same_goes_on past w actor seat after good acts r e a call entries asks answered changed none
        (nodes_stay (ap (λ (s : SeatView). s.stakes) is) (ap (λ (q : RegistryValue). roots_kept q.traces) same))
        (subst (λ q. StandsFor (AreTrees (key_in w.state.shards)) (start_of past) q past.entries) (sym same)
        good.history.stands)
        (ap (λ (s : SeatView). s.passes) is)

    -- a question whose traces are open
    pub pinned_goes : (ids : AskIds) (place : ℕ)
        → entries ≡ Asked ∷ [] → after.stakes ≡ seat.stakes → after.passes ≡ seat.passes
        → AsksIn old ids (ask.Pinned place) r → StaysGood
    pinned_goes ids place made stakes passes (fits, known, is, becomes) =
        entry_goes_on past w actor seat after good acts r e a call entries asks answered changed Asked made
        (nodes_stay stakes (ap (λ (q : RegistryValue). roots_kept q.traces) becomes
        ∙ roots-same (λ t. used_more (times_asked ids t.id) t) (λ t. refl) old.traces))
        (made_pinned (key_in w.state.shards) past old good.history.stands r ids place (fits, known, is, becomes))
        (shared_asked past.entries w.seats actor seat after acts.there good.passes passes)

    -- a trace that is opened
    pub opened_goes : (info : TraceInfo) (o : OpenedTrace) → IsLegalInfo info
        → entries ≡ Opened o.id info ∷ [] → after.stakes ≡ seat.stakes
        → after.passes ≡ seat.passes ++ fresh_pass o.id info ∷ []
        → AdmitsIn old info (Ok o) r → StaysGood
    opened_goes info o legal made stakes passes (fits, few, is, becomes) =
        let id : o.id ≡ old.next_id = ap (λ (o : OpenedTrace). o.id) is in
        let untold : IsUntold past.entries o.id =
        subst (IsUntold past.entries) (sym id) (good.history.stands.untold old.next_id (omega arith)) in
        entry_goes_on past w actor seat after good acts r e a call entries asks answered changed (Opened o.id info) made
        (nodes_stay stakes (ap (λ (q : RegistryValue). roots_kept q.traces) becomes ∙ roots-opened old info))
        (made_opened (key_in w.state.shards) past old good.history.stands r info o legal (fits, few, is, becomes))
        (shared_opened past.entries w.seats actor seat after acts.there good.passes o.id info untold passes)

    -- the pass of an index is good
    pass_good : (at : ℕ) (p : PassView) → slice_get seat.passes at ≡ Some p → IsGoodPass past.entries p
    pass_good at p there = good_pass past.entries w.seats actor seat after acts.there good.passes at p there

    -- a track that is published, with the stake on its root
    pub published_goes : (at start root track : ℕ) (p : PassView) (t : Tree)
        → slice_get seat.passes at ≡ Some p → p.state ≡ Straight track
        → IsTrackTree past.entries p.id track (record { start = start; tree = t })
        → Contains seat.stakes (stake root t)
        → entries ≡ Published p.id track (record { start = start; tree = t }) ∷ []
        → Exchanges seat.stakes after.stakes (stake root t ∷ []) []
        → after.passes ≡ slice_set seat.passes at (pass_after p)
        → r ≡ with_published old p.id track start root → StaysGood
    published_goes at start root track p t there straight fits has made swap passes becomes =
        let what : PublishedTree = record { start = start; tree = t } in
        let rest = without_at at seat.passes ++ of_the_others (λ (s : SeatView). s.passes) w.seats actor in
        let (loading, none, within) = ready_to_publish past.entries p track what rest
        (one_first past.entries w.seats actor seat after acts.there good.passes at p there) straight in
        let (u, kept, loads, free) = awaits_track (key_in w.state.shards) (start_of past) old past.entries p.id
        good.history.stands loading track within none in
        entry_goes_on past w actor seat after good acts r e a call entries asks answered changed
        (Published p.id track what) made
        (published_nodes w.state.shards w.seats old actor seat after good.nodes acts.there r root t swap
        (subst (λ (q : RegistryValue). ExchangesRoots (roots_kept old.traces) (roots_kept q.traces) [] (root ∷ []))
        (sym becomes)
        (roots-published old.traces p.id track u _ good.history.stands.sound.rising kept free)))
        (made_published (key_in w.state.shards) past old good.history.stands r p.id track start root what
        (u, kept, loads, free) fits refl
        (seat_stands w.state.shards w.seats old actor seat after good.nodes acts.there (stake root t) has) becomes)
        (shared_published past.entries w.seats actor seat after acts.there good.passes at track p what there straight
        passes)

    -- a pass over all tracks is of a loading trace
    pub loads_whole : (at : ℕ) (p : PassView) → slice_get seat.passes at ≡ Some p → p.from ≡ 0
        → p.to ≡ tracks_of past.entries p.id → is_loading past.entries p.id ≡ true
    loads_whole at p there from to = (pass_good at p there).loading (elim (cases_eq p.to 0) [
      | inl none ↦ inr (sym to ∙ none)
      | inr some ↦ inl (omega (arith, from, lt_of_le-ne (let e : 0 ≤ p.to = omega arith in e) (λ z. some (sym z))))
    ])

    -- a load that is sealed
    pub sealed_goes : (at : ℕ) (p : PassView) → slice_get seat.passes at ≡ Some p → p.from ≡ 0
        → p.to ≡ tracks_of past.entries p.id → p.state ≡ Whole → entries ≡ Sealed p.id ∷ []
        → after.stakes ≡ seat.stakes → after.passes ≡ without_at at seat.passes → r ≡ with_sealed old p.id
        → StaysGood
    sealed_goes at p there from to whole made stakes passes becomes =
        let loading = loads_whole at p there from to in
        let come = subst (HasCome past.entries p) whole (pass_good at p there).come in
        let awaits = awaits_seal (key_in w.state.shards) (start_of past) old past.entries p.id good.history.stands
        loading (λ track within. come track (omega (arith, from)) (omega (arith, to, within))) in
        entry_goes_on past w actor seat after good acts r e a call entries asks answered changed (Sealed p.id) made
        (nodes_stay stakes (ap (λ (q : RegistryValue). roots_kept q.traces) becomes
        ∙ roots-changed p.id loaded (λ t. refl) old.traces))
        (made_sealed (key_in w.state.shards) past old good.history.stands r p.id awaits becomes)
        (shared_sealed past.entries w.seats actor seat after acts.there good.passes at p there from to loading passes)

    -- the roots of a trace that is gone become stakes of the seat
    nodes_freed : (id : ℕ) (t : Trace) (roots : List ℕ) (freed : List Stake) → kept_trace old.traces id ≡ Some t
        → roots ≡ roots_in t.tracks → r.traces ≡ without_trace t.id old.traces
        → AreRootStakes past.entries id roots freed → Exchanges seat.stakes after.stakes [] freed
        → HoldsNodes w.state.shards (slice_set w.seats actor after) r
    nodes_freed id t roots freed kept are becomes on_roots swap =
        let stand = root_stakes_stand (key_in w.state.shards) (start_of past) old past.entries id t freed
        good.history.stands kept (subst (λ rs. AreRootStakes past.entries id rs freed) are on_roots) in
        freed_nodes w.state.shards w.seats old actor seat after good.nodes acts.there r roots freed
        (subst (λ ts. ExchangesRoots (roots_kept old.traces) (roots_kept ts) roots []) (sym becomes)
        (subst (λ rs. ExchangesRoots (roots_kept old.traces) (roots_kept (without_trace t.id old.traces)) rs [])
        (sym are)
        (roots-without old.traces t.id t good.history.stands.sound.rising (kept_own old.traces id t kept))))
        on_roots.numbers (λ x among. All-contains (StakeStands (key_in w.state.shards)) freed x stand among) swap

    -- a load that is given up, whose trace is gone
    pub ended_goes : (at place : ℕ) (p : PassView) (roots : List ℕ) (freed : List Stake)
        → slice_get seat.passes at ≡ Some p → p.from ≡ 0 → p.to ≡ tracks_of past.entries p.id
        → entries ≡ Dropped p.id ∷ [] → AreRootStakes past.entries p.id roots freed
        → Exchanges seat.stakes after.stakes [] freed → after.passes ≡ without_at at seat.passes
        → EndsIn old p.id (end.Ended place roots) r → StaysGood
    ended_goes at place p roots freed there from to made on_roots swap passes (t, kept, unused, is, are, becomes) =
        let loading = loads_whole at p there from to in
        entry_goes_on past w actor seat after good acts r e a call entries asks answered changed (Dropped p.id) made
        (nodes_freed p.id t roots freed kept are (ap (λ (q : RegistryValue). q.traces) becomes) on_roots swap)
        (made_ended (key_in w.state.shards) past old good.history.stands r p.id (end.Ended place roots)
        (is_loading_trace (key_in w.state.shards) (start_of past) old past.entries p.id good.history.stands loading)
        (t, kept, unused, is, are, becomes))
        (shared_dropped past.entries w.seats actor seat after acts.there good.passes at p there from to loading passes)

    -- one whose trace is kept for its users
    pub ended_kept_goes : (at place : ℕ) (p : PassView) → slice_get seat.passes at ≡ Some p → p.from ≡ 0
        → p.to ≡ tracks_of past.entries p.id → entries ≡ Dropped p.id ∷ [] → after.stakes ≡ seat.stakes
        → after.passes ≡ without_at at seat.passes → EndsIn old p.id (end.Kept place) r → StaysGood
    ended_kept_goes at place p there from to made stakes passes (t, kept, used, is, becomes) =
        let loading = loads_whole at p there from to in
        entry_goes_on past w actor seat after good acts r e a call entries asks answered changed (Dropped p.id) made
        (nodes_stay stakes (ap (λ (q : RegistryValue). roots_kept q.traces) becomes
        ∙ roots-changed t.id kept_for_users (λ u. refl) old.traces))
        (made_ended (key_in w.state.shards) past old good.history.stands r p.id (end.Kept place)
        (is_loading_trace (key_in w.state.shards) (start_of past) old past.entries p.id good.history.stands loading)
        (t, kept, used, is, becomes))
        (shared_dropped past.entries w.seats actor seat after acts.there good.passes at p there from to loading passes)

    -- a trace that is closed and gone
    pub closed_goes : (id place : ℕ) (roots : List ℕ) (freed : List Stake) → entries ≡ Closed id ∷ []
        → AreRootStakes past.entries id roots freed → Exchanges seat.stakes after.stakes [] freed
        → after.passes ≡ seat.passes → ClosesIn old id (close.Ended place roots) r → StaysGood
    closed_goes id place roots freed made on_roots swap passes (fits, t, sealed, unused, is, are, becomes) =
        let kept = (open_kept old.traces id t good.history.stands.sound.rising sealed.is_open).0 in
        let more = made_closed (key_in w.state.shards) past old good.history.stands r id place roots
        (fits, t, sealed, unused, is, are, becomes) in
        entry_goes_on past w actor seat after good acts r e a call entries asks answered changed (Closed id) made
        (nodes_freed id t roots freed kept are (ap (λ (q : RegistryValue). q.traces) becomes) on_roots swap)
        more
        (shared_closed past.entries w.seats actor seat after acts.there good.passes id more.may.1 passes)

    -- one that is kept for its users
    pub closed_kept_goes : (id place : ℕ) → entries ≡ Closed id ∷ [] → after.stakes ≡ seat.stakes
        → after.passes ≡ seat.passes → ClosesIn old id (close.Kept place) r → StaysGood
    closed_kept_goes id place made stakes passes (fits, t, sealed, used, is, becomes) =
        let more = made_closed_kept (key_in w.state.shards) past old good.history.stands r id place
        (fits, t, sealed, used, is, becomes) in
        entry_goes_on past w actor seat after good acts r e a call entries asks answered changed (Closed id) made
        (nodes_stay stakes (ap (λ (q : RegistryValue). roots_kept q.traces) becomes
        ∙ roots-changed t.id kept_for_users (λ u. refl) old.traces))
        more
        (shared_closed past.entries w.seats actor seat after acts.there good.passes id more.may.1 passes)

    -- a pin that is given back
    pub unpinned_goes : (at : ℕ) (p : PinView) (stakes : List Stake) → slice_get seat.pins at ≡ Some p
        → entries ≡ [] → after.pins ≡ without_at at seat.pins → AreFreedStakes past.entries p.ids (unpinned p.ids old.traces) stakes
        → Exchanges seat.stakes after.stakes [] stakes → after.passes ≡ seat.passes
        → r ≡ after_unpin old p.ids → StaysGood
    unpinned_goes at p stakes there none pins are swap passes becomes =
        let used = (users_unpinned old w.seats actor at seat after p good.history.stands.sound acts.there there pins
        good.users).0 in
        let (numbers, stand) = freed_stand (key_in w.state.shards) (start_of past) old past.entries
        good.history.stands p.ids stakes are in
        same_goes_on past w actor seat after good acts r e a call entries asks answered changed none
        (freed_nodes w.state.shards w.seats old actor seat after good.nodes acts.there r
        (roots_freed_by (unpinned p.ids old.traces)) stakes
        (subst (λ (q : RegistryValue). ExchangesRoots (roots_kept old.traces) (roots_kept q.traces)
        (roots_freed_by (unpinned p.ids old.traces)) []) (sym becomes)
        (roots-given_back old p.ids good.history.stands.sound))
        numbers (λ x among. All-contains (StakeStands (key_in w.state.shards)) stakes x stand among) swap)
        (subst (λ q. StandsFor (AreTrees (key_in w.state.shards)) (start_of past) q past.entries) (sym becomes)
        (stands_unpinned (key_in w.state.shards) past old good.history.stands p.ids used))
        passes

-- ---- the seat's part

-- what a seat exchanges
pub restaked_swap : (s after : SeatView) (taken given : List Stake) → Restaked s taken given after
    → Exchanges s.stakes after.stakes taken given
restaked_swap s after taken given is =
    subst (λ stakes. Exchanges s.stakes stakes taken given) (ap (λ (t : SeatView). t.stakes) (sym is.now)) is.exchanged

-- what was opened for the entries that a seat has seen was opened
opened_stays : (past : Past) (n id : ℕ) (info : TraceInfo) → info_of (up_to past n) id ≡ Some info
    → info_of past.entries id ≡ Some info
unfolding info_of
opened_stays past n id info is =
    let first = λ (es : List Entry). slice_get (filter_map (info_opened id) es) 0 in
    ap first (sym (take-append-drop (n - past.first) past.entries))
    ∙ first-append (info_opened id) (up_to past n) (drop (n - past.first) past.entries)
    ∙ or_stays _ _ info is

-- a trace of a pass that a seat has seen has the tracks that it has seen
tracks_seen : (past : Past) (n : ℕ) (p : PassView) → IsPassOf (up_to past n) p
    → tracks_of (up_to past n) p.id ≡ tracks_of past.entries p.id
tracks_seen past n p of =
    tracks_of_pass (up_to past n) p of
    ∙ sym (ap (λ o. option_map_or (λ (i : TraceInfo). length i.names.tracks) o 0)
    (opened_stays past n p.id of.info of.opened))

-- one state of a pass has one next track
one_next : (s : PassState) (m n : ℕ) → s ≡ Straight m → s ≡ Straight n → m ≡ n
one_next s m n is is' = same_Some m n (ap next_track (sym is ∙ is'))

module _ (past : Past) (w : World) (actor : ℕ) (seat after : SeatView) (good : IsGood past w)
    (acts : IsActive w actor seat) (r : RegistryValue)
  where
    abbrev was : RegistryValue
    was = w.state.registry

    sees : SeesHistory past seat
    sees = sees_at past w.seats actor seat good.seats acts.there acts.active

    -- what is to be shown of some entries
    abbrev pub Stays : List Entry → Type 0
    Stays entries = IsGood (with_entries past entries) (with_changes w REGISTRY_ROOM (InRegistry r) actor after)

    -- a pass over all tracks that a seat has seen is over all
    all_tracks : (at : ℕ) (p : PassView) → slice_get seat.passes at ≡ Some p
        → p.to ≡ tracks_of (up_to past seat.seen) p.id → p.to ≡ tracks_of past.entries p.id
    all_tracks at p there to =
        to ∙ tracks_seen past seat.seen p (All-at (IsPassOf (up_to past seat.seen)) seat.passes at p sees.passes there)

    publish : (at start root : ℕ) (place : ℕ) (call : RoomCall) (entries : List Entry)
        → MayPublish (up_to past seat.seen) seat at start root
        → call_of seat (event.Publish at start root) ≡ Some call
        → AnswersInRegistry call (answer.Placed place) was r
        → Changes past seat (event.Publish at start root) (answer.Placed place) entries after → Stays entries
    publish at start root place call entries may asks answered changed =
        let p = changed.pass in
        let pass : may.pass ≡ p = same_Some may.pass p (sym may.there ∙ changed.there) in
        let next : may.next ≡ changed.track = one_next p.state may.next changed.track
        (subst (λ (q : PassView). q.state ≡ Straight may.next) pass may.straight) changed.straight in
        let is : Publishing p.id changed.track start root ≡ call = same_Some _ call
        (sym (ap (λ o. option_and_then (publication start root) o) changed.there
        ∙ ap (λ s. option_map (λ track. Publishing p.id track start root) (next_track s)) changed.straight) ∙ asks) in
        let (at_place, becomes) = subst (λ c. AnswersInRegistry c (answer.Placed place) was r) (sym is) answered in
        let (info, opened, within, fits) = may.fits in
        let one : tree may.stream ≡ changed.tree =
        ap (λ (x : Stake). x.tree) (seat_one w.state.shards w.seats was actor seat after good.nodes acts.there
        (stake root (tree may.stream)) (stake root changed.tree) may.staked changed.has refl) in
        let tracked : IsTrackTree past.entries p.id changed.track (record { start = start; tree = changed.tree }) = (
          may.stream,
          subst (λ n. FitsTrack past.entries n changed.track may.stream) (ap (λ (q : PassView). q.id) pass)
              (subst (λ n. FitsTrack past.entries may.pass.id n may.stream) next
              (info, opened_stays past seat.seen may.pass.id info opened, within, fits)),
          λ i. record { start = may.begins i; tree = sym one i },
        ) in
        let s = entered (next_place past) (record seat { passes = slice_set seat.passes at (pass_after p) }) in
        published_goes past w actor seat after good acts r (event.Publish at start root) (answer.Placed place) call
        entries asks answered changed at start root changed.track p changed.tree changed.there changed.straight tracked
        changed.has changed.made (restaked_swap s after (stake root changed.tree ∷ []) [] changed.restaked)
        (ap (λ (t : SeatView). t.passes) changed.restaked.now) becomes

    seal : (at place : ℕ) (call : RoomCall) (entries : List Entry) (q : PassView)
        → HasWholePass (up_to past seat.seen) seat at q → q.state ≡ Whole
        → call_of seat (event.Seal at) ≡ Some call → AnswersInRegistry call (answer.Placed place) was r
        → Changes past seat (event.Seal at) (answer.Placed place) entries after → Stays entries
    seal at place call entries q whole state asks answered (p, there, (made, is)) =
        let same : q ≡ p = same_Some q p (sym whole.there ∙ there) in
        let sealing : Sealing p.id ≡ call = same_Some _ call
        (sym (ap (λ o. option_map (λ (p : PassView). Sealing p.id) o) there) ∙ asks) in
        let (at_place, becomes) = subst (λ c. AnswersInRegistry c (answer.Placed place) was r) (sym sealing) answered in
        sealed_goes past w actor seat after good acts r (event.Seal at) (answer.Placed place) call entries asks answered
        (p, there, (made, is)) at p there (ap (λ (x : PassView). x.from) (sym same) ∙ whole.from)
        (all_tracks at p there (subst (λ (x : PassView). x.to ≡ tracks_of (up_to past seat.seen) x.id) same whole.to))
        (ap (λ (x : PassView). x.state) (sym same) ∙ state) made (ap (λ (s : SeatView). s.stakes) is)
        (ap (λ (s : SeatView). s.passes) is) becomes

    abandon : (at : ℕ) (ended : RegEnd) (call : RoomCall) (entries : List Entry) (q : PassView)
        → HasWholePass (up_to past seat.seen) seat at q
        → call_of seat (event.Abandon at) ≡ Some call → AnswersInRegistry call (answer.Ended ended) was r
        → Changes past seat (event.Abandon at) (answer.Ended ended) entries after → Stays entries
    abandon at (end.Ended place roots) call entries q whole asks answered (p, there, (made, freed, on_roots, restaked)) =
        let same : q ≡ p = same_Some q p (sym whole.there ∙ there) in
        let abandoning : Abandoning p.id ≡ call = same_Some _ call
        (sym (ap (λ o. option_map (λ (p : PassView). Abandoning p.id) o) there) ∙ asks) in
        let ends = subst (λ c. AnswersInRegistry c (answer.Ended (end.Ended place roots)) was r) (sym abandoning)
        answered in
        let s = entered (next_place past) (record seat { passes = without_at at seat.passes }) in
        ended_goes past w actor seat after good acts r (event.Abandon at) (answer.Ended (end.Ended place roots)) call
        entries asks answered (p, there, (made, freed, on_roots, restaked)) at place p roots freed there
        (ap (λ (x : PassView). x.from) (sym same) ∙ whole.from)
        (all_tracks at p there (subst (λ (x : PassView). x.to ≡ tracks_of (up_to past seat.seen) x.id) same whole.to))
        made on_roots (restaked_swap s after [] freed restaked) (ap (λ (t : SeatView). t.passes) restaked.now) ends
    abandon at (end.Kept place) call entries q whole asks answered (p, there, (made, is)) =
        let same : q ≡ p = same_Some q p (sym whole.there ∙ there) in
        let abandoning : Abandoning p.id ≡ call = same_Some _ call
        (sym (ap (λ o. option_map (λ (p : PassView). Abandoning p.id) o) there) ∙ asks) in
        let ends = subst (λ c. AnswersInRegistry c (answer.Ended (end.Kept place)) was r) (sym abandoning) answered in
        ended_kept_goes past w actor seat after good acts r (event.Abandon at) (answer.Ended (end.Kept place)) call
        entries asks answered (p, there, (made, is)) at place p there
        (ap (λ (x : PassView). x.from) (sym same) ∙ whole.from)
        (all_tracks at p there (subst (λ (x : PassView). x.to ≡ tracks_of (up_to past seat.seen) x.id) same whole.to))
        made (ap (λ (s : SeatView). s.stakes) is) (ap (λ (s : SeatView). s.passes) is) ends

    -- ---- all events

    -- what the registry answers to a read changes nothing
    track_same : (id place track : ℕ) (a : StepAnswer) → AnswersInRegistry (TellingTrack id place track) a was r
        → r ≡ was
    track_same id place track (answer.Root told) (t, kept, is, same) = same
    track_same id place track a answered = absurd answered

    info_same : (id : ℕ) (a : StepAnswer) → AnswersInRegistry (TellingInfo id) a was r → r ≡ was
    info_same id (answer.Info info) (t, kept, is, same) = same
    info_same id a answered = absurd answered

    names_same : (ids : AskIds) (a : StepAnswer) → AnswersInRegistry (ComparingNames ids) a was r → r ≡ was
    names_same ids (answer.Names names) (is, same) = same
    names_same ids a answered = absurd answered

    told_same : (call : RoomCall) (a : StepAnswer) (of : ReadOf) → read_call seat of ≡ Some call
        → AnswersInRegistry call a was r → r ≡ was
    told_same call a (read.Node n) asks answered =
        absurd (subst (λ c. AnswersInRegistry c a was r) (sym (same_Some (ReadingKey n) call asks)) answered)
    told_same call a (read.Root pin which track) asks answered =
        let (p, there, is) = option_map_found _ (slice_get seat.pins pin) call asks in
        track_same (id_at p.ids which) p.place track a (subst (λ c. AnswersInRegistry c a was r) (sym is) answered)
    told_same call a (read.Info pin which) asks answered =
        let (p, there, is) = option_map_found _ (slice_get seat.pins pin) call asks in
        info_same (id_at p.ids which) a (subst (λ c. AnswersInRegistry c a was r) (sym is) answered)
    told_same call a (read.Names pin) asks answered =
        let (p, there, is) = option_map_found _ (slice_get seat.pins pin) call asks in
        names_same p.ids a (subst (λ c. AnswersInRegistry c a was r) (sym is) answered)

    pub registry_kept : (e : HallEvent) (a : StepAnswer) (call : RoomCall) (entries : List Entry)
        → MayMake anything (up_to past seat.seen) seat e → call_of seat e ≡ Some call
        → AnswersInRegistry call a was r → Changes past seat e a entries after → Stays entries
    registry_kept (event.Intern key) a call entries may asks answered changed =
        absurd (subst (λ c. AnswersInRegistry c a was r) (sym (same_Some (Interning key) call asks)) answered)
    registry_kept (event.Read of) a call entries may asks answered (none, is) =
        kept_goes past w actor seat after good acts r (event.Read of) a call entries asks answered (none, is) none is
        (told_same call a of asks answered)
    registry_kept (event.Drop n) a call entries may asks answered changed =
        absurd (subst (λ c. AnswersInRegistry c a was r) (sym (same_Some (Dropping n) call asks)) answered)
    registry_kept (event.Split part) a call entries may asks answered changed = absurd (none-some call asks)
    registry_kept (event.Join other) a call entries may asks answered changed = absurd (none-some call asks)
    registry_kept (event.Admit info) (answer.Opened o) call entries may asks answered (made, is) =
        opened_goes past w actor seat after good acts r (event.Admit info) (answer.Opened o) call entries asks answered
        (made, is) (arc_value info) o may made (ap (λ (s : SeatView). s.stakes) is) (ap (λ (s : SeatView). s.passes) is)
        (subst (λ c. AnswersInRegistry c (answer.Opened o) was r)
        (sym (same_Some (Admitting (arc_value info)) call asks)) answered)
    registry_kept (event.Admit info) (answer.Full place) call entries may asks answered (made, is) =
        let (fits, full, at, becomes) = subst (λ c. AnswersInRegistry c (answer.Full place) was r)
        (sym (same_Some (Admitting (arc_value info)) call asks)) answered in
        asked_goes past w actor seat after good acts r (event.Admit info) (answer.Full place) call entries asks answered
        (made, is) made is becomes (omega (arith, fits))
    registry_kept (event.Admit info) (answer.Spent p) call entries may asks answered (none, is) =
        let (lacks, same) = subst (λ c. AnswersInRegistry c (answer.Spent p) was r)
        (sym (same_Some (Admitting (arc_value info)) call asks)) answered in
        kept_goes past w actor seat after good acts r (event.Admit info) (answer.Spent p) call entries asks answered
        (none, is) none is same
    registry_kept (event.Publish at start root) (answer.Placed place) call entries may asks answered changed =
        publish at start root place call entries may asks answered changed
    registry_kept (event.Seal at) (answer.Placed place) call entries (q, whole, state) asks answered changed =
        seal at place call entries q whole state asks answered changed
    registry_kept (event.Abandon at) (answer.Ended ended) call entries (q, whole) asks answered changed =
        abandon at ended call entries q whole asks answered changed
    registry_kept (event.Ask ids) (answer.Asked (ask.Pinned place)) call entries may asks answered (made, is) =
        pinned_goes past w actor seat after good acts r (event.Ask ids) (answer.Asked (ask.Pinned place)) call entries
        asks answered (made, is) ids place made (ap (λ (s : SeatView). s.stakes) is) (ap (λ (s : SeatView). s.passes) is)
        (subst (λ c. AnswersInRegistry c (answer.Asked (ask.Pinned place)) was r)
        (sym (same_Some (Asking ids) call asks)) answered)
    registry_kept (event.Ask ids) (answer.Asked (ask.Unknown id next place)) call entries may asks answered (made, is) =
        let (fits, unknown, at, told, becomes) =
        subst (λ c. AnswersInRegistry c (answer.Asked (ask.Unknown id next place)) was r)
        (sym (same_Some (Asking ids) call asks)) answered in
        asked_goes past w actor seat after good acts r (event.Ask ids) (answer.Asked (ask.Unknown id next place)) call
        entries asks answered (made, is) made is becomes fits
    registry_kept (event.Ask ids) (answer.Asked (ask.Spent p)) call entries may asks answered (none, is) =
        let (lacks, same) = subst (λ c. AnswersInRegistry c (answer.Asked (ask.Spent p)) was r)
        (sym (same_Some (Asking ids) call asks)) answered in
        kept_goes past w actor seat after good acts r (event.Ask ids) (answer.Asked (ask.Spent p)) call entries asks
        answered (none, is) none is same
    registry_kept (event.Unpin at) (answer.Unpinned freed) call entries may asks answered
        (none, p, there, stakes, are, restaked) =
        let giving : GivingBack p.ids ≡ call = same_Some _ call
        (sym (ap (λ o. option_map (λ (p : PinView). GivingBack p.ids) o) there) ∙ asks) in
        let (is, becomes) = subst (λ c. AnswersInRegistry c (answer.Unpinned freed) was r) (sym giving) answered in
        let s = record seat { pins = without_at at seat.pins } in
        unpinned_goes past w actor seat after good acts r (event.Unpin at) (answer.Unpinned freed) call entries asks
        answered (none, p, there, stakes, are, restaked) at p stakes there none
        (ap (λ (t : SeatView). t.pins) restaked.now)
        (subst (λ f. AreFreedStakes past.entries p.ids f stakes) is are)
        (restaked_swap s after [] stakes restaked) (ap (λ (t : SeatView). t.passes) restaked.now) becomes
    registry_kept (event.Close id) (answer.Closed (close.Ended place roots)) call entries may asks answered
        (made, freed, on_roots, restaked) =
        closed_goes past w actor seat after good acts r (event.Close id) (answer.Closed (close.Ended place roots)) call
        entries asks answered (made, freed, on_roots, restaked) id place roots freed made on_roots
        (restaked_swap (entered (next_place past) seat) after [] freed restaked)
        (ap (λ (t : SeatView). t.passes) restaked.now)
        (subst (λ c. AnswersInRegistry c (answer.Closed (close.Ended place roots)) was r)
        (sym (same_Some (Closing id) call asks)) answered)
    registry_kept (event.Close id) (answer.Closed (close.Kept place)) call entries may asks answered (made, is) =
        closed_kept_goes past w actor seat after good acts r (event.Close id) (answer.Closed (close.Kept place)) call
        entries asks answered (made, is) id place made (ap (λ (s : SeatView). s.stakes) is)
        (ap (λ (s : SeatView). s.passes) is)
        (subst (λ c. AnswersInRegistry c (answer.Closed (close.Kept place)) was r)
        (sym (same_Some (Closing id) call asks)) answered)
    registry_kept (event.Close id) (answer.Closed (close.Loading place)) call entries may asks answered (made, is) =
        let (fits, t, opened, loads, at, becomes) =
        subst (λ c. AnswersInRegistry c (answer.Closed (close.Loading place)) was r)
        (sym (same_Some (Closing id) call asks)) answered in
        asked_goes past w actor seat after good acts r (event.Close id) (answer.Closed (close.Loading place)) call
        entries asks answered (made, is) made is becomes fits
    registry_kept (event.Close id) (answer.Closed (close.Unknown next place)) call entries may asks answered (made, is) =
        let (fits, none, next_is, at, becomes) =
        subst (λ c. AnswersInRegistry c (answer.Closed (close.Unknown next place)) was r)
        (sym (same_Some (Closing id) call asks)) answered in
        asked_goes past w actor seat after good acts r (event.Close id) (answer.Closed (close.Unknown next place)) call
        entries asks answered (made, is) made is becomes fits
    registry_kept (event.Close id) (answer.Closed (close.Spent p)) call entries may asks answered (none, is) =
        let (lacks, same) = subst (λ c. AnswersInRegistry c (answer.Closed (close.Spent p)) was r)
        (sym (same_Some (Closing id) call asks)) answered in
        kept_goes past w actor seat after good acts r (event.Close id) (answer.Closed (close.Spent p)) call entries asks
        answered (none, is) none is same
    registry_kept event.List (answer.Listed listing) call entries may asks answered (made, is) =
        let (fits, told, becomes) = subst (λ c. AnswersInRegistry c (answer.Listed listing) was r)
        (sym (same_Some ListingTraces call asks)) answered in
        asked_goes past w actor seat after good acts r event.List (answer.Listed listing) call entries asks answered
        (made, is) made is becomes fits
    registry_kept event.List (answer.Spent p) call entries may asks answered (none, is) =
        let (lacks, same) = subst (λ c. AnswersInRegistry c (answer.Spent p) was r)
        (sym (same_Some ListingTraces call asks)) answered in
        kept_goes past w actor seat after good acts r event.List (answer.Spent p) call entries asks answered
        (none, is) none is same
    registry_kept e a call entries may asks answered none = absurd none
