-- A pass over the events of a stream under way, with the items that are built.
use Rattle.std.proofs.Common.{◌≡◌, ℕ, ◌+◌, ◌≤◌, List, [], ◌∷◌, ◌++◌, map, length, drop, Option, Ok}
use Rattle.std.proofs.Common.{Err, refl, sym, ap, subst, arith, ◌∙◌, reverse}
use Rattle.std.proofs.lemmas.List.{drop_all, length-map, length-reverse, nil_from_length}
use Rattle.hall_history.specs.Seat.{ExchangesStakes, Seat}
use Rattle.node_key.specs.Stakes.{HasStakes, stake}
use Rattle.node_key.specs.Tree.{nodes}
use Rattle.node_key.specs.Trees.{tree}
use Rattle.trace_base.specs.Outside.{Told}
use Rattle.trace_base.specs.Stream.{IsLegal}
use Rattle.trace_base.specs.declared.stream.Event.{Event}
use Rattle.trace_base.specs.declared.stream.TrackStream.{TrackStream}
use Rattle.trace_base.proofs.Telling.{told_as, told_same, told_then}
use Rattle.call_tree.specs.Passing.{closed_item}
use Rattle.call_tree.proofs.Passing.{Passing, Passing-end, Passing-may_come, Passing-start, Passing-step}
use Rattle.hall_trait.specs.declared.answers.HallFault.{HallFault}
use Rattle.builders.specs.Built.{items_in, stakes_held}
use Rattle.builders.specs.Builds.{BuildsItem, WorkOfNodes, WorkOfTree, nodes_in}
use Rattle.builders.specs.Calls.{BuildsTree, HoldsCall, HoldsCalls, PassesOn, StoredCall, WorkOfEvent}
use Rattle.builders.specs.Calls.{calls_stakes, nodes_open, open_call, passed}
use Rattle.builders.specs.declared.built.BuiltItem.{BuiltItem}
use Rattle.builders.specs.declared.built.OpenCall.{OpenCall}
use Rattle.builders.proofs.Bags.{exchanges-none, exchanges-then, has-given}
use Rattle.builders.proofs.CountingNodes.{part_of_tree, passed_to}

-- The stakes that were there, and those on the items of all open calls, whose nodes were interned.
pub record BuildingTrack (s : TrackStream) (old now : Seat) (was work : Option ℕ) (around : List OpenCall)
    (innermost : OpenCall) (i : ℕ) : Type 0 where
  pub calls : List StoredCall
  pub call : StoredCall
  pub around_are : around ≡ map open_call calls
  pub are : innermost ≡ open_call call
  pub passing : Passing s (reverse (map passed calls)) (passed call) (drop i s.events)
  pub exchanged : ExchangesStakes old now [] (calls_stakes calls ++ stakes_held call.stored)
  pub counted : Told was work (λ was now. now ≡ was + nodes_open (map passed calls) (passed call))

pub BuildingTrack-start : (s : TrackStream) (old : Seat) (work : Option ℕ) (around : List OpenCall)
    (items : List BuiltItem) → IsLegal s → around ≡ [] → items ≡ []
    → BuildingTrack s old old work work around (record { func = 0; start = s.start; items = items }) 0
BuildingTrack-start s old work around items legal e none =
    let call : StoredCall = record { func = 0; start = s.start; stored = [] } in
    let here : BuildingTrack s old old work work [] (open_call call) 0 = record {
      calls = [];
      call = call;
      around_are = refl;
      are = refl;
      passing = Passing-start s (passed call) legal refl;
      exchanged = exchanges-none old old [] refl;
      counted = told_same (λ was now. now ≡ was + nodes_open [] (passed call)) work work (λ n. omega arith)
          refl;
    } in
    subst (λ (os : List OpenCall). BuildingTrack s old old work work os
    (record { func = 0; start = s.start; items = items }) 0) (sym e)
    (subst (λ (bs : List BuiltItem). BuildingTrack s old old work work []
    (record { func = 0; start = s.start; items = bs }) 0) (sym none) here)

-- the next event may come
pub BuildingTrack-next : (s : TrackStream) (old now : Seat) (was work : Option ℕ) (around : List OpenCall)
    (innermost : OpenCall) (i : ℕ) (event : Event) → IsLegal s
    → (b : BuildingTrack s old now was work around innermost i) → drop i s.events ≡ event ∷ drop (i + 1)
    s.events
    → HoldsCalls now around innermost event b.calls b.call
BuildingTrack-next s old now was work around innermost i event legal b e = record {
  around_are = b.around_are;
  are = b.are;
  may = Passing-may_come s (map passed b.calls) (passed b.call) event (drop (i + 1) s.events) legal
      (subst (λ (es : List Event). Passing s (reverse (map passed b.calls)) (passed b.call) es) e b.passing);
  stakes = has-given old now [] (calls_stakes b.calls ++ stakes_held b.call.stored) (λ x. omega arith)
      b.exchanged;
}

pub BuildingTrack-step : (s : TrackStream) (old now new : Seat) (was work work' : Option ℕ)
    (around around' : List OpenCall) (innermost innermost' : OpenCall) (i : ℕ) (event : Event)
    → (b : BuildingTrack s old now was work around innermost i) → drop i s.events ≡ event ∷ drop (i + 1)
    s.events
    → PassesOn now new b.calls b.call event around' (Ok innermost')
    → WorkOfEvent work work' (map passed b.calls) (passed b.call) event (Ok innermost')
    → BuildingTrack s old new was work' around' innermost' (i + 1)
BuildingTrack-step s old now new was work work' around around' innermost innermost' i event b e p paid =
    record {
      calls = p.0;
      call = p.1;
      around_are = p.2;
      are = p.3;
      passing = Passing-step s (map passed b.calls) (map passed p.0) (passed b.call) (passed p.1) event
          (drop (i + 1) s.events)
          (subst (λ (es : List Event). Passing s (reverse (map passed b.calls)) (passed b.call) es) e
          b.passing)
          p.4;
      exchanged = exchanges-then old now new [] (calls_stakes b.calls ++ stakes_held b.call.stored)
          (calls_stakes p.0 ++ stakes_held p.1.stored) b.exchanged p.5;
      counted = told_then (λ was now. now ≡ was + nodes_open (map passed b.calls) (passed b.call))
          (λ was now. now + nodes_open (map passed b.calls) (passed b.call)
          ≡ was + nodes_open (map passed p.0) (passed p.1))
          (λ was now. now ≡ was + nodes_open (map passed p.0) (passed p.1)) was work work'
          (λ x y z q r. omega (arith, q, r)) b.counted (paid (map passed p.0) (passed p.1) p.4);
    }

-- ---- the end

-- no call is open then
all-closed : (s : TrackStream) (calls : List StoredCall) (call : StoredCall)
    → Passing s (reverse (map passed calls)) (passed call) [] → calls ≡ []
all-closed s calls call p =
    nil_from_length calls
    (omega (arith, p.fine.0, length-reverse (map passed calls), length-map calls passed))

record Ended (s : TrackStream) (old now : Seat) (was work : Option ℕ) (innermost : OpenCall)
    (call : StoredCall) : Type 0 where
  pub are : innermost ≡ open_call call
  pub passing : Passing s [] (passed call) []
  pub exchanged : ExchangesStakes old now [] (stakes_held call.stored)
  pub counted : Told was work (λ was now. now ≡ was + nodes_in (items_in call.stored))

ended : (s : TrackStream) (old now : Seat) (was work : Option ℕ) (around : List OpenCall)
    (innermost : OpenCall)
    (i : ℕ) → (b : BuildingTrack s old now was work around innermost i) → length s.events ≤ i
    → Ended s old now was work innermost b.call
ended s old now was work around innermost i b none =
    let nothing : drop i s.events ≡ [] = drop_all i s.events none in
    let passing = subst (λ (es : List Event). Passing s (reverse (map passed b.calls)) (passed b.call) es)
    nothing
    b.passing in
    let closed = all-closed s b.calls b.call passing in record {
      are = b.are;
      passing = subst (λ (cs : List StoredCall). Passing s (reverse (map passed cs)) (passed b.call) [])
          closed
          passing;
      exchanged = subst (λ (cs : List StoredCall). ExchangesStakes old now []
          (calls_stakes cs ++ stakes_held b.call.stored)) closed b.exchanged;
      counted = told_as (λ was now. now ≡ was + nodes_open (map passed b.calls) (passed b.call))
          (λ was now. now ≡ was + nodes_in (items_in b.call.stored)) was work
          (λ x y p. omega (
            arith,
            p,
            ap (λ (cs : List StoredCall). nodes_open (map passed cs) (passed b.call))
                closed,
          )) b.counted;
    }

pub BuildingTrack-close : (s : TrackStream) (old now : Seat) (was work : Option ℕ) (around : List OpenCall)
    (innermost : OpenCall) (i : ℕ) → IsLegal s → (b : BuildingTrack s old now was work around innermost i)
    → length s.events ≤ i → HoldsCall now innermost s.end b.call
BuildingTrack-close s old now was work around innermost i legal b none =
    let e = ended s old now was work around innermost i b none in record {
      are = e.are;
      can = (Passing-end s [] (passed b.call) legal e.passing).0;
      stakes = has-given old now [] (stakes_held b.call.stored) (λ x. omega arith) e.exchanged;
    }

-- the root stands for the tree of the stream
pub BuildingTrack-root : (s : TrackStream) (old now new : Seat) (was work : Option ℕ) (around : List OpenCall)
    (innermost : OpenCall) (i : ℕ) (root : BuiltItem) → IsLegal s
    → (b : BuildingTrack s old now was work around innermost i) → length s.events ≤ i
    → BuildsItem now new (stakes_held b.call.stored) (closed_item (passed b.call) s.end) [] (Ok root)
    → BuildsTree old new (tree s) (Ok root.number)
BuildingTrack-root s old now new was work around innermost i root legal b none built =
    let e = ended s old now was work around innermost i b none in
    let same = (Passing-end s [] (passed b.call) legal e.passing).1 in
    let number : built.0 ≡ root.number = sym (ap (λ (x : BuiltItem). x.number) built.1) in
    exchanges-then old now new [] (stakes_held b.call.stored) (stake root.number (tree s) ∷ []) e.exchanged
    (subst (λ (n : ℕ). ExchangesStakes now new (stakes_held b.call.stored) (stake n (tree s) ∷ [])) number
    (ap-tree same built.2))
  where
    ap-tree : (closed_item (passed b.call) s.end).tree ≡ tree s
        → ExchangesStakes now new (stakes_held b.call.stored)
        (stake built.0 (closed_item (passed b.call) s.end).tree ∷ [])
        → ExchangesStakes now new (stakes_held b.call.stored) (stake built.0 (tree s) ∷ [])
    ap-tree e h = subst (λ t. ExchangesStakes now new (stakes_held b.call.stored) (stake built.0 t ∷ [])) e h

pub BuildingTrack-refused : (s : TrackStream) (old now new : Seat) (was work : Option ℕ)
    (around : List OpenCall) (innermost : OpenCall) (i : ℕ) (fault : HallFault)
    → (b : BuildingTrack s old now was work around innermost i) → length s.events ≤ i
    → BuildsItem now new (stakes_held b.call.stored) (closed_item (passed b.call) s.end) [] (Err fault)
    → BuildsTree old new (tree s) (Err fault)
BuildingTrack-refused s old now new was work around innermost i fault b none gone =
    exchanges-then old now new [] (stakes_held b.call.stored) []
    (ended s old now was work around innermost i b none).exchanged gone

-- where an event isn't passed, the stakes on the items of the calls that are left are there
pub BuildingTrack-left : (s : TrackStream) (old now new : Seat) (was work : Option ℕ)
    (around around' : List OpenCall)
    (slice : List OpenCall) (innermost : OpenCall) (i : ℕ) (event : Event) (fault : HallFault)
    → (b : BuildingTrack s old now was work around innermost i)
    → PassesOn now new b.calls b.call event around' (Err fault) → slice ≡ around'
    → (calls : List StoredCall) × (slice ≡ map open_call calls) × HasStakes new.stakes (calls_stakes calls)
    × ExchangesStakes old new [] (calls_stakes calls)
BuildingTrack-left s old now new was work around around' slice innermost i event fault b p e =
    let whole = exchanges-then old now new [] (calls_stakes b.calls ++ stakes_held b.call.stored)
    (calls_stakes p.0)
    b.exchanged p.2 in
    (p.0, e ∙ p.1, has-given old new [] (calls_stakes p.0) (λ x. omega arith) whole, whole)

-- ---- the nodes that were interned

pub BuildingTrack-root-work : (s : TrackStream) (old now : Seat) (was work work' : Option ℕ)
    (around : List OpenCall) (innermost : OpenCall) (i : ℕ) (root : BuiltItem) → IsLegal s
    → (b : BuildingTrack s old now was work around innermost i) → length s.events ≤ i
    → WorkOfNodes work work' (nodes_in (items_in b.call.stored))
    (nodes (closed_item (passed b.call) s.end).tree) (Ok root)
    → WorkOfTree was work' (tree s) (Ok root.number)
BuildingTrack-root-work s old now was work work' around innermost i root legal b none =
    let e = ended s old now was work around innermost i b none in
    told_then (λ was now. now ≡ was + nodes_in (items_in b.call.stored))
    (λ was now. now + nodes_in (items_in b.call.stored)
    ≡ was + nodes (closed_item (passed b.call) s.end).tree) (λ was now. now ≡ was + nodes (tree s)) was work
    work' (λ x y z p q. omega (
      arith,
      p,
      q,
      ap nodes (Passing-end s [] (passed b.call) legal e.passing).1,
    )) e.counted

pub BuildingTrack-refused-work : (s : TrackStream) (old now : Seat) (was work work' : Option ℕ)
    (around : List OpenCall) (innermost : OpenCall) (i : ℕ) (fault : HallFault) → IsLegal s
    → (b : BuildingTrack s old now was work around innermost i) → length s.events ≤ i
    → WorkOfNodes {X = BuiltItem} work work' (nodes_in (items_in b.call.stored))
    (nodes (closed_item (passed b.call) s.end).tree) (Err fault)
    → WorkOfTree was work' (tree s) (Err fault)
BuildingTrack-refused-work s old now was work work' around innermost i fault legal b none =
    let e = ended s old now was work around innermost i b none in
    told_then (λ was now. now ≡ was + nodes_in (items_in b.call.stored))
    (λ was now. now + nodes_in (items_in b.call.stored)
    ≤ was + nodes (closed_item (passed b.call) s.end).tree) (λ was now. now ≤ was + nodes (tree s)) was work
    work' (λ x y z p q. omega (
      arith,
      p,
      q,
      ap nodes (Passing-end s [] (passed b.call) legal e.passing).1,
    )) e.counted

-- where an event isn't passed, what was interned is part of the tree
pub BuildingTrack-left-work : (s : TrackStream) (old now : Seat) (was work work' last : Option ℕ)
    (around : List OpenCall) (innermost : OpenCall) (i : ℕ) (event : Event) (fault : HallFault) → IsLegal s
    → (b : BuildingTrack s old now was work around innermost i) → drop i s.events ≡ event ∷ drop (i + 1)
    s.events
    → WorkOfEvent work work' (map passed b.calls) (passed b.call) event (Err fault) → last ≡ work'
    → WorkOfTree was last (tree s) (Err fault)
BuildingTrack-left-work s old now was work work' last around innermost i event fault legal b e paid same =
    let passing = subst (λ (es : List Event). Passing s (reverse (map passed b.calls)) (passed b.call) es) e
    b.passing in
    let next = passed_to (map passed b.calls) (passed b.call) event
    (Passing-may_come s (map passed b.calls) (passed b.call) event (drop (i + 1) s.events) legal passing) in
    let part = part_of_tree s next.0 next.1 (drop (i + 1) s.events) legal
    (Passing-step s (map passed b.calls) next.0 (passed b.call) next.1 event (drop (i + 1) s.events) passing
    next.2) in
    subst (λ (w : Option ℕ). Told was w (λ was now. now ≤ was + nodes (tree s))) (sym same)
    (told_then (λ was now. now ≡ was + nodes_open (map passed b.calls) (passed b.call))
    (λ was now. now + nodes_open (map passed b.calls) (passed b.call) ≤ was + nodes_open next.0 next.1)
    (λ was now. now ≤ was + nodes (tree s)) was work work' (λ x y z p q. omega (arith, p, q, part)) b.counted
    (paid next.0 next.1 next.2))
