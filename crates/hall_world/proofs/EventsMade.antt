-- What becomes of a seat that makes an event: there is such, whatever its room answers.
use Rattle.std.proofs.Common.{◌≡◌, ◌%◌, ◌<◌, ◌∙◌, ℕ, Contains, List, [], ◌∷◌, ◌++◌, Some, ap, arith}
use Rattle.std.proofs.Common.{refl, slice_get, slice_set, subst, sym}
use Rattle.std.proofs.lemmas.Option.{none-some, same_Some}
use Rattle.std.specs.Arc.{arc_value}
use Rattle.std.specs.Option.{option_and_then, option_map}
use Rattle.hall_history.specs.History.{Asked, Closed, Dropped, Entry, Opened, Published, Sealed}
use Rattle.hall_history.specs.declared.asks.AskIds.{AskIds}
use Rattle.hall_history.specs.declared.seat.PassView.{PassView}
use Rattle.hall_history.specs.declared.seat.PinView.{PinView}
use Rattle.hall_world.specs.Calls.{Abandoning, Admitting, Answers, AnswersInRegistry, AnswersInStore, Asking, Closing, Dropping}
use Rattle.hall_world.specs.Calls.{GivingBack, InRegistry, InStore, Interning, ListingTraces, RoomCall, RoomValue}
use Rattle.hall_world.specs.Calls.{Publishing, Sealing, call_of, next_track, publication, room_asked, room_at}
use Rattle.hall_world.specs.Good.{IsGood}
use Rattle.hall_world.specs.Past.{Past, next_place, start_of, up_to}
use Rattle.hall_world.specs.OneTree.{IsStakedTree}
use Rattle.hall_world.specs.Passes.{fresh_pass, pass_after}
use Rattle.hall_world.specs.Seats.{AreFreed, AreFreedStakes, AreRootStakes, Changes, MayMake, anything, entered}
use Rattle.hall_world.specs.Seats.{MayPublish, Restaked, without_at}
use Rattle.hall_world.specs.World.{IsActive, all_stakes}
use Rattle.hall_world.specs.declared.events.HallEvent.{HallEvent}
use Rattle.hall_world.specs.declared.events.HallEvent.TheVariants as event
use Rattle.hall_world.specs.declared.events.StepAnswer.{StepAnswer}
use Rattle.hall_world.specs.declared.events.StepAnswer.TheVariants as answer
use Rattle.hall_world.specs.declared.world.SeatView.{SeatView}
use Rattle.hall_world.specs.declared.world.World.{World}
use Rattle.hall_world.proofs.EventsInRooms.{asks_registry, room_low}
use Rattle.hall_world.proofs.KeptStores.{has_one}
use Rattle.hall_world.proofs.NodesKept.{seat_held}
use Rattle.hall_world.proofs.PinsGivenBack.{freed_stakes}
use Rattle.hall_world.proofs.RootStakes.{root_stakes}
use Rattle.hall_world.proofs.StakesTaken.{taken_out}
use Rattle.hall_world.proofs.WorldsChanged.{the_registry, the_store_room}
use Rattle.node_key.proofs.StakeLaws.{times-append, times-cons, times-one}
use Rattle.node_key.specs.Rooms.{room}
use Rattle.node_key.specs.Stakes.{Exchanges, HasStakes, stake}
use Rattle.node_key.specs.Tree.{Tree}
use Rattle.node_key.specs.Trees.{tree}
use Rattle.node_key.specs.declared.key.NodeKey.{NodeKey}
use Rattle.node_key.specs.declared.limits.TheConstants.{STORE_ROOMS}
use Rattle.node_key.specs.declared.stake.Stake.{Stake}
use Rattle.registry_core.proofs.KeptTraces.{open_kept}
use Rattle.registry_core.specs.Closing.{ClosesIn}
use Rattle.registry_core.specs.Registry.{RegistryValue, kept_trace}
use Rattle.registry_core.specs.Trace.{Trace, roots_in}
use Rattle.registry_core.specs.declared.answers.RegAsk.{RegAsk}
use Rattle.registry_core.specs.declared.answers.RegAsk.TheVariants as ask
use Rattle.registry_core.specs.declared.answers.RegClose.{RegClose}
use Rattle.registry_core.specs.declared.answers.RegClose.TheVariants as close
use Rattle.registry_core.specs.declared.answers.RegEnd.{RegEnd}
use Rattle.registry_core.specs.declared.answers.RegEnd.TheVariants as end
use Rattle.registry_core.specs.declared.answers.RegUnpin.{RegUnpin}
use Rattle.shard_core.specs.Interning.{Drops}
use Rattle.shard_core.specs.Room.{Room}
use Rattle.shard_core.specs.declared.answers.Dropped.{Dropped as DroppedNode}
use Rattle.shard_core.specs.declared.answers.Dropped.TheVariants as dropped
use Rattle.shard_core.specs.declared.answers.Interned.{Interned}
use Rattle.shard_core.specs.declared.answers.Interned.TheVariants.{Known, New}
use Rattle.store_laws.proofs.StepsAnswered.{dropped_removed}
use Rattle.store_laws.specs.Store.{key_in}

-- what becomes of the seat by an event, with the entries that are made
abbrev pub ThereIs : Past → SeatView → HallEvent → StepAnswer → Type 0
ThereIs past seat e a = (entries : List Entry) × (after : SeatView) × Changes past seat e a entries after

-- stakes are added to others
added : (old more : List Stake) → Exchanges old (more ++ old) [] more
added old more x = omega (arith, times-append x more old)

-- one is added in the place of those that are left out
replaced : (old left taken : List Stake) (x : Stake) → Exchanges old left taken [] → Exchanges old (x ∷ left) taken (x ∷ [])
replaced old left taken x swap z = omega (arith, swap z, times-cons z x left, times-one z x)

module _ (past : Past) (w : World) (actor : ℕ) (seat : SeatView) (good : IsGood past w) (acts : IsActive w actor seat)
  where
    abbrev old : RegistryValue
    old = w.state.registry

    -- ---- in the store

    made_interned : (key : NodeKey) (i : Interned) (t : Tree) (kids : List Stake)
        → IsStakedTree seat.stakes key t kids
        → ThereIs past seat (event.Intern key) (answer.Interned i)
    made_interned key (Known n) t kids staked = (
      [],
      record seat { stakes = stake n t ∷ seat.stakes },
      (
        refl,
        t,
        kids,
        staked,
        record { stakes = stake n t ∷ seat.stakes; exchanged = added seat.stakes (stake n t ∷ []); now = refl },
      ),
    )
    made_interned key (New n) t kids staked =
        let (left, taken) = taken_out seat.stakes kids staked.has in (
          [],
          record seat { stakes = stake n t ∷ left },
          (
            refl,
            t,
            kids,
            staked,
            record { stakes = stake n t ∷ left; exchanged = replaced seat.stakes left kids (stake n t) taken; now = refl },
          ),
        )

    -- what comes free where a stake is given back
    freed_kids : (d : DroppedNode) (x : Stake) (before now : Room) → Contains seat.stakes x
        → slice_get w.state.shards (x.number % STORE_ROOMS) ≡ Some before → Drops before x.number d now
        → (kids : List Stake) × AreFreed x.tree d kids
    freed_kids dropped.Kept x before now among at drops = ([], refl)
    freed_kids (dropped.Removed key) x before now among at drops =
        let (kids, over, rest) = dropped_removed w.state.shards (all_stakes w.seats ++ good.nodes.roots) x key before now
        good.nodes.store at
        (λ z. omega (
          arith,
          has_one (all_stakes w.seats ++ good.nodes.roots) [] x
              (seat_held w.state.shards w.seats old actor seat seat good.nodes acts.there x among) z,
          times-append z (all_stakes w.seats ++ good.nodes.roots) [],
        )) drops in
        (kids, over)

    made_dropped : (n : ℕ) (d : DroppedNode) (x : Stake) (before now : Room) → Contains seat.stakes x → x.number ≡ n
        → slice_get w.state.shards (n % STORE_ROOMS) ≡ Some before → Drops before n d now
        → ThereIs past seat (event.Drop n) (answer.Dropped d)
    made_dropped n d x before now among is at drops =
        let (kids, freed) = freed_kids d x before now among
        (subst (λ m. slice_get w.state.shards (m % STORE_ROOMS) ≡ Some before) (sym is) at)
        (subst (λ m. Drops before m d now) (sym is) drops) in
        let has : HasStakes seat.stakes (x ∷ []) =
        λ z. omega (arith, has_one seat.stakes [] x among z, times-append z seat.stakes []) in
        let (left, taken) = taken_out seat.stakes (x ∷ []) has in (
          [],
          record seat { stakes = kids ++ left },
          (
            refl,
            x,
            among,
            is,
            kids,
            freed,
            record {
              stakes = kids ++ left;
              exchanged = λ z. omega (arith, taken z, times-append z kids left);
              now = refl;
            },
          ),
        )

    -- ---- on the registry

    -- one entry, and nothing else
    enters : (e : HallEvent) (a : StepAnswer) (entry : Entry) (s : SeatView)
        → (Changes past seat e a (entry ∷ []) (entered (next_place past) s)) → ThereIs past seat e a
    enters e a entry s changed = (entry ∷ [], entered (next_place past) s, changed)

    -- a seat that stakes are added to
    more : SeatView → List Stake → SeatView
    more s stakes = record s { stakes = stakes ++ s.stakes }

    restaked : (s : SeatView) (stakes : List Stake) → Restaked s [] stakes (record s { stakes = stakes ++ s.stakes })
    restaked s stakes = record { stakes = stakes ++ s.stakes; exchanged = added s.stakes stakes; now = refl }

    -- stakes on the roots of a kept trace
    roots_of : (id : ℕ) (t : Trace) (roots : List ℕ) → kept_trace old.traces id ≡ Some t → roots ≡ roots_in t.tracks
        → (stakes : List Stake) × AreRootStakes past.entries id roots stakes
    roots_of id t roots kept are =
        let stand = root_stakes (key_in w.state.shards) (start_of past) old past.entries id t good.history.stands kept in
        (stand.stakes, subst (λ rs. AreRootStakes past.entries id rs stand.stakes) (sym are) stand.on_roots)

    made_ended : (r : RegistryValue) (at : ℕ) (ended : RegEnd) (call : RoomCall) (p : PassView)
        → slice_get seat.passes at ≡ Some p → call_of seat (event.Abandon at) ≡ Some call
        → AnswersInRegistry call (answer.Ended ended) old r → ThereIs past seat (event.Abandon at) (answer.Ended ended)
    made_ended r at (end.Ended place roots) call p there asks answered =
        let is : Abandoning p.id ≡ call = same_Some _ call
        (sym (ap (λ o. option_map (λ (p : PassView). Abandoning p.id) o) there) ∙ asks) in
        let (t, kept, unused, at_place, are, becomes) =
        subst (λ c. AnswersInRegistry c (answer.Ended (end.Ended place roots)) old r) (sym is) answered in
        let (freed, on_roots) = roots_of p.id t roots kept are in
        let s = entered (next_place past) (record seat { passes = without_at at seat.passes }) in (
          Dropped p.id ∷ [],
          record s { stakes = freed ++ s.stakes },
          (p, there, (refl, freed, on_roots, restaked s freed)),
        )
    made_ended r at (end.Kept place) call p there asks answered = (
      Dropped p.id ∷ [],
      entered (next_place past) (record seat { passes = without_at at seat.passes }),
      (p, there, (refl, refl)),
    )

    made_closed : (r : RegistryValue) (id : ℕ) (closed : RegClose) → ClosesIn old id closed r
        → ThereIs past seat (event.Close id) (answer.Closed closed)
    made_closed r id (close.Ended place roots) (fits, t, sealed, unused, at, are, becomes) =
        let kept = (open_kept old.traces id t good.history.stands.sound.rising sealed.is_open).0 in
        let (freed, on_roots) = roots_of id t roots kept are in
        let s = entered (next_place past) seat in (
          Closed id ∷ [],
          record s { stakes = freed ++ s.stakes },
          (refl, freed, on_roots, restaked s freed),
        )
    made_closed r id (close.Kept place) closes = (Closed id ∷ [], entered (next_place past) seat, (refl, refl))
    made_closed r id (close.Loading place) closes = (Asked ∷ [], entered (next_place past) seat, (refl, refl))
    made_closed r id (close.Unknown next place) closes = (Asked ∷ [], entered (next_place past) seat, (refl, refl))
    made_closed r id (close.Spent p) closes = ([], seat, (refl, refl))

    made_published : (at start root place : ℕ) → MayPublish (up_to past seat.seen) seat at start root
        → ThereIs past seat (event.Publish at start root) (answer.Placed place)
    made_published at start root place may =
        let p = may.pass in
        let t = tree may.stream in
        let has : HasStakes seat.stakes (stake root t ∷ []) =
        λ z. omega (arith, has_one seat.stakes [] (stake root t) may.staked z, times-append z seat.stakes []) in
        let (left, taken) = taken_out seat.stakes (stake root t ∷ []) has in
        let s = entered (next_place past) (record seat { passes = slice_set seat.passes at (pass_after p) }) in (
          Published p.id may.next (record { start = start; tree = t }) ∷ [],
          record s { stakes = left },
          record {
            pass = p;
            there = may.there;
            track = may.next;
            straight = may.straight;
            tree = t;
            has = may.staked;
            made = refl;
            restaked = record { stakes = left; exchanged = taken; now = refl };
          },
        )

    made_unpinned : (r : RegistryValue) (at : ℕ) (freed : RegUnpin) (call : RoomCall) (p : PinView)
        → slice_get seat.pins at ≡ Some p → call_of seat (event.Unpin at) ≡ Some call
        → AnswersInRegistry call (answer.Unpinned freed) old r
        → ThereIs past seat (event.Unpin at) (answer.Unpinned freed)
    made_unpinned r at freed call p there asks answered =
        let giving : GivingBack p.ids ≡ call = same_Some _ call
        (sym (ap (λ o. option_map (λ (p : PinView). GivingBack p.ids) o) there) ∙ asks) in
        let (is, becomes) = subst (λ c. AnswersInRegistry c (answer.Unpinned freed) old r) (sym giving) answered in
        let (stakes, are) = freed_stakes (key_in w.state.shards) (start_of past) old past.entries good.history.stands p.ids in
        let s = record seat { pins = without_at at seat.pins } in (
          [],
          record s { stakes = stakes ++ s.stakes },
          (
            refl,
            p,
            there,
            stakes,
            subst (λ f. AreFreedStakes past.entries p.ids f stakes) (sym is) are,
            restaked s stakes,
          ),
        )

    made_asked : (ids : AskIds) (asked : RegAsk) → ThereIs past seat (event.Ask ids) (answer.Asked asked)
    made_asked ids (ask.Pinned place) = (
      Asked ∷ [],
      entered (next_place past) (record seat { pins = seat.pins ++ record { ids = ids; place = place } ∷ [] }),
      (refl, refl),
    )
    made_asked ids (ask.Unknown id next place) = (Asked ∷ [], entered (next_place past) seat, (refl, refl))
    made_asked ids (ask.Spent p) = ([], seat, (refl, refl))

    -- ---- all events

    on_registry : (r : RegistryValue) (e : HallEvent) (a : StepAnswer) (call : RoomCall)
        → MayMake anything (up_to past seat.seen) seat e → call_of seat e ≡ Some call
        → AnswersInRegistry call a old r → ThereIs past seat e a
    on_registry r (event.Read of) a call may asks answered = ([], seat, (refl, refl))
    on_registry r (event.Admit info) (answer.Opened o) call may asks answered = (
      Opened o.id (arc_value info) ∷ [],
      entered (next_place past) (record seat { passes = seat.passes ++ fresh_pass o.id (arc_value info) ∷ [] }),
      (refl, refl),
    )
    on_registry r (event.Admit info) (answer.Full place) call may asks answered =
        (Asked ∷ [], entered (next_place past) seat, (refl, refl))
    on_registry r (event.Admit info) (answer.Spent p) call may asks answered = ([], seat, (refl, refl))
    on_registry r (event.Publish at start root) (answer.Placed place) call may asks answered =
        made_published at start root place may
    on_registry r (event.Seal at) (answer.Placed place) call (p, whole, state) asks answered = (
      Sealed p.id ∷ [],
      entered (next_place past) (record seat { passes = without_at at seat.passes }),
      (p, whole.there, (refl, refl)),
    )
    on_registry r (event.Abandon at) (answer.Ended ended) call (p, whole) asks answered =
        made_ended r at ended call p whole.there asks answered
    on_registry r (event.Ask ids) (answer.Asked asked) call may asks answered = made_asked ids asked
    on_registry r (event.Unpin at) (answer.Unpinned freed) call (p, there) asks answered =
        made_unpinned r at freed call p there asks answered
    on_registry r (event.Close id) (answer.Closed closed) call may asks answered =
        made_closed r id closed (subst (λ c. AnswersInRegistry c (answer.Closed closed) old r)
        (sym (same_Some (Closing id) call asks)) answered)
    on_registry r event.List (answer.Listed listing) call may asks answered =
        (Asked ∷ [], entered (next_place past) seat, (refl, refl))
    on_registry r event.List (answer.Spent p) call may asks answered = ([], seat, (refl, refl))
    on_registry r (event.Intern key) a call may asks answered =
        absurd (subst (λ c. AnswersInRegistry c a old r) (sym (same_Some (Interning key) call asks)) answered)
    on_registry r (event.Drop n) a call may asks answered =
        absurd (subst (λ c. AnswersInRegistry c a old r) (sym (same_Some (Dropping n) call asks)) answered)
    on_registry r (event.Split part) a call may asks answered = absurd (none-some call asks)
    on_registry r (event.Join joined) a call may asks answered = absurd (none-some call asks)
    on_registry r (event.Admit info) a call may asks answered =
        absurd (subst (λ c. AnswersInRegistry c a old r) (sym (same_Some (Admitting (arc_value info)) call asks))
        answered)
    on_registry r (event.Publish at start root) a call may asks answered =
        absurd (subst (λ c. AnswersInRegistry c a old r) (sym (same_Some
        (Publishing may.pass.id may.next start root) call
        (sym (ap (λ o. option_and_then (publication start root) o) may.there
        ∙ ap (λ s. option_map (λ track. Publishing may.pass.id track start root) (next_track s)) may.straight)
        ∙ asks))) answered)
    on_registry r (event.Seal at) a call (p, whole, state) asks answered =
        absurd (subst (λ c. AnswersInRegistry c a old r) (sym (same_Some (Sealing p.id) call
        (sym (ap (λ o. option_map (λ (q : PassView). Sealing q.id) o) whole.there) ∙ asks))) answered)
    on_registry r (event.Abandon at) a call (p, whole) asks answered =
        absurd (subst (λ c. AnswersInRegistry c a old r) (sym (same_Some (Abandoning p.id) call
        (sym (ap (λ o. option_map (λ (q : PassView). Abandoning q.id) o) whole.there) ∙ asks))) answered)
    on_registry r (event.Ask ids) a call may asks answered =
        absurd (subst (λ c. AnswersInRegistry c a old r) (sym (same_Some (Asking ids) call asks)) answered)
    on_registry r (event.Unpin at) a call (p, there) asks answered =
        absurd (subst (λ c. AnswersInRegistry c a old r) (sym (same_Some (GivingBack p.ids) call
        (sym (ap (λ o. option_map (λ (q : PinView). GivingBack q.ids) o) there) ∙ asks))) answered)
    on_registry r (event.Close id) a call may asks answered =
        absurd (subst (λ c. AnswersInRegistry c a old r) (sym (same_Some (Closing id) call asks)) answered)
    on_registry r event.List a call may asks answered =
        absurd (subst (λ c. AnswersInRegistry c a old r) (sym (same_Some ListingTraces call asks)) answered)

    in_store : (k : ℕ) (x y : RoomValue) (call : RoomCall) (a : StepAnswer) (e : HallEvent) → k < STORE_ROOMS
        → room_at w.state k ≡ Some x → Answers call a x y
        → ((before now : Room) → slice_get w.state.shards k ≡ Some before → Answers call a (InStore before) (InStore now)
        → ThereIs past seat e a)
        → ThereIs past seat e a
    in_store k x y call a e low at answered each =
        let (before, there, is) = the_store_room w.state k x low at in
        by y before there (subst (λ v. Answers call a v y) (sym is) answered)
      where
        by : (y : RoomValue) (before : Room) → slice_get w.state.shards k ≡ Some before → Answers call a (InStore before) y
            → ThereIs past seat e a
        by (InStore now) before there told = each before now there told
        by (InRegistry r) before there told = absurd told

    interns : (key : NodeKey) (a : StepAnswer) (t : Tree) (kids : List Stake) (before now : Room)
        → IsStakedTree seat.stakes key t kids → AnswersInStore (Interning key) a before now
        → ThereIs past seat (event.Intern key) a
    interns key (answer.Interned i) t kids before now staked answered = made_interned key i t kids staked
    interns key (answer.Spent v) t kids before now staked answered = ([], seat, (refl, refl))
    interns key a t kids before now staked answered = absurd answered

    drops_one : (n : ℕ) (a : StepAnswer) (x : Stake) (before now : Room) → Contains seat.stakes x → x.number ≡ n
        → slice_get w.state.shards (n % STORE_ROOMS) ≡ Some before → AnswersInStore (Dropping n) a before now
        → ThereIs past seat (event.Drop n) a
    drops_one n (answer.Dropped d) x before now among is at answered = made_dropped n d x before now among is at answered
    drops_one n a x before now among is at answered = absurd answered

    pub event_made : (e : HallEvent) (a : StepAnswer) (call : RoomCall) (x y : RoomValue)
        → MayMake anything (up_to past seat.seen) seat e → call_of seat e ≡ Some call
        → room_at w.state (room_asked call) ≡ Some x → Answers call a x y → ThereIs past seat e a
    event_made (event.Intern key) a call x y (t, kids, staked) asks at answered =
        let is = same_Some (Interning key) call asks in
        in_store (room key) x y (Interning key) a (event.Intern key) (room_low key)
        (subst (λ c. room_at w.state (room_asked c) ≡ Some x) (sym is) at)
        (subst (λ c. Answers c a x y) (sym is) answered)
        (λ before now there told. interns key a t kids before now staked told)
    event_made (event.Drop n) a call x y (s, among, number) asks at answered =
        let is = same_Some (Dropping n) call asks in
        in_store (n % STORE_ROOMS) x y (Dropping n) a (event.Drop n) (omega arith)
        (subst (λ c. room_at w.state (room_asked c) ≡ Some x) (sym is) at)
        (subst (λ c. Answers c a x y) (sym is) answered)
        (λ before now there told. drops_one n a s before now among number there told)
    event_made (event.Read of) a call x y may asks at answered = ([], seat, (refl, refl))
    event_made e a call x y may asks at answered =
        let room_is = asks_registry seat e call asks refl in
        let is = the_registry w.state x (subst (λ k. room_at w.state k ≡ Some x) room_is at) in
        by e y may asks (subst (λ v. Answers call a v y) (sym is) answered)
      where
        by : (f : HallEvent) (v : RoomValue) → MayMake anything (up_to past seat.seen) seat f → call_of seat f ≡ Some call
            → Answers call a (InRegistry w.state.registry) v → ThereIs past seat f a
        by f (InRegistry r) may asks told = on_registry r f a call may asks told
        by f (InStore r) may asks told = absurd told
