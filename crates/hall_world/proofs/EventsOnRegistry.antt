-- A good world stays good after the event of a seat on the registry, given what becomes of its stakes and its passes.
use Rattle.std.proofs.Common.{◌≡◌, ℕ, false, true, List, [], ◌∷◌, ◌++◌, Some}
use Rattle.std.proofs.Common.{slice_get, slice_set, subst, sym}
use Rattle.std.proofs.lemmas.List.Sorted.{IsPermutation-append_left, IsPermutation-sym, IsPermutation-to_front}
use Rattle.std.proofs.lemmas.List.Elements.{All-head}
use Rattle.hall_history.proofs.Legal.{legal_more}
use Rattle.hall_history.specs.History.{Asked, Closed, Dropped, Entry, Opened, Published, PublishedTree, Sealed}
use Rattle.hall_history.specs.History.{is_loading, tracks_of}
use Rattle.hall_history.specs.declared.asks.PassState.TheVariants.{Straight}
use Rattle.hall_history.specs.declared.seat.PassView.{PassView}
use Rattle.hall_world.specs.Calls.{AnswersInRegistry, InRegistry, RoomCall, call_of}
use Rattle.hall_world.specs.Good.{HoldsNodes, IsGood, KeepsHistory}
use Rattle.hall_world.specs.Passes.{IsGoodPass, SharePasses, fresh_pass, pass_after}
use Rattle.hall_world.specs.Past.{Past, start_of, with_entries}
use Rattle.hall_world.specs.Seats.{Changes, without_at}
use Rattle.hall_world.specs.Steps.{with_changes}
use Rattle.hall_world.specs.World.{IsActive, all_passes}
use Rattle.hall_world.specs.declared.events.HallEvent.{HallEvent}
use Rattle.hall_world.specs.declared.events.StepAnswer.{StepAnswer}
use Rattle.hall_world.specs.declared.limits.TheConstants.{REGISTRY_ROOM}
use Rattle.hall_world.specs.declared.world.SeatView.{SeatView}
use Rattle.hall_world.specs.declared.world.World.{World}
use Rattle.hall_world.proofs.HistoryMade.{OneMore}
use Rattle.hall_world.proofs.ListsApart.{item_first, of_the_others, other_first, seat_first, set_first}
use Rattle.hall_world.proofs.PassesEntered.{passes_closed, passes_dropped, passes_opened, passes_sealed}
use Rattle.hall_world.proofs.PassesKept.{passes_asked}
use Rattle.hall_world.proofs.PassesMoved.{passes_published}
use Rattle.hall_world.proofs.PassesShared.{shares_permuted}
use Rattle.hall_world.proofs.SeatsGoOn.{GoesOn, places_go_on, seat_goes_on, seats_go_on}
use Rattle.hall_world.proofs.SeatsParted.{sees_at}
use Rattle.hall_world.proofs.SeatsSeePast.{no_entries}
use Rattle.hall_world.proofs.UsersGoOn.{answers_are_news, users_go_on}
use Rattle.hall_world.proofs.WorldsChanged.{good_registry}
use Rattle.registry_core.specs.Registry.{RegistryValue}
use Rattle.registry_core.specs.Standing.{AreTrees, IsUntold, StandsFor}
use Rattle.store_laws.specs.Store.{key_in}
use Rattle.trace_base.specs.declared.names.TraceInfo.{TraceInfo}

-- ---- the passes of all seats

-- the passes of a seat and those of the others are the passes of all
pub back_again : (seats : List SeatView) (actor : ℕ) (seat after : SeatView) → slice_get seats actor ≡ Some seat
    → (k : List Entry) (mine : List PassView) → after.passes ≡ mine
    → SharePasses k (mine ++ of_the_others (λ (s : SeatView). s.passes) seats actor)
    → SharePasses k (all_passes (slice_set seats actor after))
back_again seats actor seat after there k mine is now =
    let rest = of_the_others (λ (s : SeatView). s.passes) seats actor in
    shares_permuted k (after.passes ++ rest) (all_passes (slice_set seats actor after))
    (IsPermutation-sym (all_passes (slice_set seats actor after)) (after.passes ++ rest)
    (other_first (λ (s : SeatView). s.passes) seats actor seat after there))
    (subst (λ ps. SharePasses k (ps ++ rest)) (sym is) now)

module _ (h : List Entry) (seats : List SeatView) (actor : ℕ) (seat after : SeatView)
    (there : slice_get seats actor ≡ Some seat) (share : SharePasses h (all_passes seats))
  where
    -- the passes of the other seats
    abbrev pub others : List PassView
    others = of_the_others (λ (s : SeatView). s.passes) seats actor

    -- the seat's passes first
    pub mine_first : SharePasses h (seat.passes ++ others)
    mine_first = shares_permuted h (all_passes seats) (seat.passes ++ others)
        (seat_first (λ (s : SeatView). s.passes) seats actor seat there) share

    -- one of them first
    pub one_first : (at : ℕ) (p : PassView) → slice_get seat.passes at ≡ Some p
        → SharePasses h (p ∷ (without_at at seat.passes ++ others))
    one_first at p is =
        shares_permuted h (seat.passes ++ others) (p ∷ (without_at at seat.passes ++ others))
        (IsPermutation-append_left others seat.passes (p ∷ without_at at seat.passes)
        (item_first seat.passes at p is))
        mine_first

    -- the pass is good
    pub good_pass : (at : ℕ) (p : PassView) → slice_get seat.passes at ≡ Some p → IsGoodPass h p
    good_pass at p is = All-head (IsGoodPass h) p
        (without_at at seat.passes ++ others) (one_first at p is).each

    -- ---- after each entry

    pub shared_same : after.passes ≡ seat.passes → SharePasses h (all_passes (slice_set seats actor after))
    shared_same is = back_again seats actor seat after there h seat.passes is mine_first

    pub shared_asked : after.passes ≡ seat.passes
        → SharePasses (h ++ Asked ∷ []) (all_passes (slice_set seats actor after))
    shared_asked is =
        back_again seats actor seat after there (h ++ Asked ∷ []) seat.passes is (passes_asked h (seat.passes ++ others) mine_first)

    pub shared_closed : (id : ℕ) → is_loading h id ≡ false → after.passes ≡ seat.passes
        → SharePasses (h ++ Closed id ∷ []) (all_passes (slice_set seats actor after))
    shared_closed id sealed is =
        back_again seats actor seat after there (h ++ Closed id ∷ []) seat.passes is
        (passes_closed h id (seat.passes ++ others) mine_first sealed)

    pub shared_opened : (id : ℕ) (info : TraceInfo) → IsUntold h id
        → after.passes ≡ seat.passes ++ fresh_pass id info ∷ []
        → SharePasses (h ++ Opened id info ∷ []) (all_passes (slice_set seats actor after))
    shared_opened id info untold is =
        back_again seats actor seat after there (h ++ Opened id info ∷ []) (seat.passes ++ fresh_pass id info ∷ []) is
        (shares_permuted (h ++ Opened id info ∷ []) (fresh_pass id info ∷ (seat.passes ++ others))
        ((seat.passes ++ fresh_pass id info ∷ []) ++ others)
        (IsPermutation-sym ((seat.passes ++ fresh_pass id info ∷ []) ++ others)
        (fresh_pass id info ∷ (seat.passes ++ others))
        (IsPermutation-append_left others (seat.passes ++ fresh_pass id info ∷ []) (fresh_pass id info ∷ seat.passes)
        (IsPermutation-to_front seat.passes (fresh_pass id info))))
        (passes_opened h id info untold (seat.passes ++ others) mine_first))

    pub shared_published : (at next : ℕ) (p : PassView) (what : PublishedTree) → slice_get seat.passes at ≡ Some p
        → p.state ≡ Straight next → after.passes ≡ slice_set seat.passes at (pass_after p)
        → SharePasses (h ++ Published p.id next what ∷ []) (all_passes (slice_set seats actor after))
    shared_published at next p what there' straight is =
        let rest = without_at at seat.passes in
        back_again seats actor seat after there (h ++ Published p.id next what ∷ []) (slice_set seat.passes at (pass_after p)) is
        (shares_permuted (h ++ Published p.id next what ∷ []) (pass_after p ∷ (rest ++ others))
        (slice_set seat.passes at (pass_after p) ++ others)
        (IsPermutation-sym (slice_set seat.passes at (pass_after p) ++ others) (pass_after p ∷ (rest ++ others))
        (IsPermutation-append_left others (slice_set seat.passes at (pass_after p)) (pass_after p ∷ rest)
        (set_first seat.passes at p (pass_after p) there')))
        (passes_published h p next what (rest ++ others) (one_first at p there') straight))

    pub shared_sealed : (at : ℕ) (p : PassView) → slice_get seat.passes at ≡ Some p → p.from ≡ 0
        → p.to ≡ tracks_of h p.id → is_loading h p.id ≡ true
        → after.passes ≡ without_at at seat.passes
        → SharePasses (h ++ Sealed p.id ∷ []) (all_passes (slice_set seats actor after))
    shared_sealed at p there' from to loading is =
        back_again seats actor seat after there (h ++ Sealed p.id ∷ []) (without_at at seat.passes) is
        (passes_sealed h p (without_at at seat.passes ++ others) (one_first at p there') from to loading)

    pub shared_dropped : (at : ℕ) (p : PassView) → slice_get seat.passes at ≡ Some p → p.from ≡ 0
        → p.to ≡ tracks_of h p.id → is_loading h p.id ≡ true
        → after.passes ≡ without_at at seat.passes
        → SharePasses (h ++ Dropped p.id ∷ []) (all_passes (slice_set seats actor after))
    shared_dropped at p there' from to loading is =
        back_again seats actor seat after there (h ++ Dropped p.id ∷ []) (without_at at seat.passes) is
        (passes_dropped h p (without_at at seat.passes ++ others) (one_first at p there') from to loading)

-- ---- the world

module _ (past : Past) (w : World) (actor : ℕ) (seat after : SeatView) (good : IsGood past w)
    (acts : IsActive w actor seat) (r : RegistryValue) (e : HallEvent) (a : StepAnswer) (call : RoomCall)
    (entries : List Entry) (asks : call_of seat e ≡ Some call)
    (answered : AnswersInRegistry call a w.state.registry r) (changed : Changes past seat e a entries after)
  where
    goes : GoesOn past seat entries after
    goes = seat_goes_on past seat e a entries after
        (sees_at past w.seats actor seat good.seats acts.there acts.active) acts.active
        (answers_are_news (key_in w.state.shards) past w.state.registry r seat e a call good.history.stands asks
        answered)
        changed

    -- the world is good, if its nodes, its history and its passes are
    pub registry_goes_on : (es : List Entry) → entries ≡ es
        → HoldsNodes w.state.shards (slice_set w.seats actor after) r
        → KeepsHistory w.state.shards r (with_entries past es)
        → SharePasses (past.entries ++ es) (all_passes (slice_set w.seats actor after))
        → IsGood (with_entries past entries) (with_changes w REGISTRY_ROOM (InRegistry r) actor after)
    registry_goes_on es made nodes history passes =
        good_registry past w actor after r nodes good (with_entries past entries)
        (subst (λ xs. KeepsHistory w.state.shards r (with_entries past xs)) (sym made) history)
        (users_go_on past w.state.registry r w.seats actor seat after e a call entries
        good.history.stands.sound acts.there asks answered changed good.users)
        (seats_go_on past w.seats actor seat after entries good.seats goes)
        (places_go_on past w.seats actor seat after entries acts.there good.places goes)
        (subst (λ xs. SharePasses (past.entries ++ xs) (all_passes (slice_set w.seats actor after))) (sym made) passes)

    -- with one entry
    pub entry_goes_on : (entry : Entry) → entries ≡ entry ∷ []
        → HoldsNodes w.state.shards (slice_set w.seats actor after) r
        → OneMore (key_in w.state.shards) past entry r
        → SharePasses (past.entries ++ entry ∷ []) (all_passes (slice_set w.seats actor after))
        → IsGood (with_entries past entries) (with_changes w REGISTRY_ROOM (InRegistry r) actor after)
    entry_goes_on entry made nodes more passes =
        registry_goes_on (entry ∷ []) made nodes
        (record { legal = legal_more past.entries entry good.history.legal more.may; stands = more.stands }) passes

    -- with none
    pub same_goes_on : entries ≡ [] → HoldsNodes w.state.shards (slice_set w.seats actor after) r
        → StandsFor (AreTrees (key_in w.state.shards)) (start_of past) r past.entries
        → after.passes ≡ seat.passes
        → IsGood (with_entries past entries) (with_changes w REGISTRY_ROOM (InRegistry r) actor after)
    same_goes_on none nodes stands same =
        registry_goes_on [] none nodes
        (subst (KeepsHistory w.state.shards r) (sym (no_entries past))
        (record { legal = good.history.legal; stands = stands }))
        (subst (λ p. SharePasses p.entries (all_passes (slice_set w.seats actor after))) (sym (no_entries past))
        (shared_same past.entries w.seats actor seat after acts.there good.passes same))
