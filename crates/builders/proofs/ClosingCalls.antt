-- Open calls that are closed, that get an item more, or whose stakes are given back.
use Rattle.std.proofs.Common.{◌≡◌, ℕ, ◌+◌, ◌<◌, ◌≤◌, List, [], ◌∷◌, ◌++◌, map, length, drop, Option}
use Rattle.std.proofs.Common.{Ok, All, sym, ap, subst, arith, ◌∙◌, get_or}
use Rattle.std.proofs.lemmas.List.{map-append}
use Rattle.list_lemmas.proofs.Maps.{map_next}
use Rattle.node_key.specs.Bound.{bound}
use Rattle.node_key.specs.Items.{FitBetween, node}
use Rattle.hall_history.specs.Seat.{ExchangesStakes, Seat}
use Rattle.node_key.specs.Stakes.{HasStakes, stake}
use Rattle.node_key.specs.declared.stake.Stake.{Stake}
use Rattle.node_key.specs.Tree.{height, nodes}
use Rattle.node_key.specs.declared.item.Item.{Item}
use Rattle.node_key.specs.declared.limits.TheConstants.{HEIGHT_BOUND}
use Rattle.trace_base.specs.declared.limits.TheConstants.{MAX_TIME}
use Rattle.trace_base.specs.Outside.{Told}
use Rattle.trace_base.proofs.Telling.{told_as, told_then}
use Rattle.builders.specs.Builds.{AddsWork}
use Rattle.call_tree.specs.Passing.{closed_item}
use Rattle.call_tree.proofs.Fits.{FitBetween-bound, FitBetween-lower, FitBetween-upper}
use Rattle.call_tree.proofs.Fits.{low_bound}
use Rattle.builders.specs.Built.{StoredItem, items_in, stake_on, stakes_held}
use Rattle.builders.specs.Builds.{BuildsItem, BuildsItems, Holds, HoldsBetween, MayBeBound, WorkOfNodes}
use Rattle.builders.specs.Builds.{nodes_in}
use Rattle.builders.specs.Calls.{HoldsCall, HoldsWith, StoredCall, calls_stakes, open_call, passed}
use Rattle.builders.specs.declared.built.BuiltItem.{BuiltItem}
use Rattle.builders.specs.declared.built.OpenCall.{OpenCall}
use Rattle.builders.proofs.Bags.{exchanges-among, exchanges-then, has-among, has-given}
use Rattle.builders.proofs.CountingNodes.{nodes-node}

-- ---- a call that is closed

pub call-bound : (seat : Seat) (innermost : OpenCall) (stop : ℕ) (call : StoredCall)
    → HoldsCall seat innermost stop call → MayBeBound seat innermost.items call.stored
call-bound seat innermost stop call h = record {
  are = ap (λ (c : OpenCall). c.items) h.are;
  stakes = h.stakes;
  placed = FitBetween-lower 0 call.start MAX_TIME (items_in call.stored) (omega arith)
      (FitBetween-upper call.start stop MAX_TIME (items_in call.stored) h.can.in_time h.can.placed);
  low = h.can.low;
}

-- its bounded items may be put into its node
pub held-bounded : (old now : Seat) (innermost : OpenCall) (stop : ℕ) (call : StoredCall)
    (bounded slice : List BuiltItem) → HoldsCall old innermost stop call → slice ≡ bounded
    → (b : BuildsItems old now (stakes_held call.stored) (bound (items_in call.stored)) [] (Ok bounded))
    → HoldsBetween now innermost.start stop slice b.0
held-bounded old now innermost stop call bounded slice h e b = record {
  are = e ∙ b.1;
  stakes = has-given old now (stakes_held call.stored) (stakes_held b.0) h.stakes b.3;
  placed = subst (λ (n : ℕ). FitBetween n stop (items_in b.0)) (sym (ap (λ (c : OpenCall). c.start) h.are))
      (subst (λ (is : List Item). FitBetween call.start stop is) (sym b.2)
      (FitBetween-bound call.start stop (items_in call.stored) h.can.placed));
  low = subst (λ (is : List Item). All (λ (i : Item). height i.tree < HEIGHT_BOUND) is) (sym b.2)
      (low_bound (items_in call.stored) h.can.low (omega (arith, h.can.few)));
}

pub call-closed : (old now new : Seat) (innermost : OpenCall) (stop : ℕ) (call : StoredCall)
    (bounded : List BuiltItem) (item : BuiltItem) → HoldsCall old innermost stop call
    → (b : BuildsItems old now (stakes_held call.stored) (bound (items_in call.stored)) [] (Ok bounded))
    → BuildsItem now new (stakes_held b.0)
    (record { at = innermost.start; tree = node innermost.func innermost.start stop (items_in b.0) })
    (stakes_held b.0) (Ok item)
    → BuildsItem old new (stakes_held call.stored) (closed_item (passed call) stop) [] (Ok item)
call-closed old now new innermost stop call bounded item h b done =
    let node_over : OpenCall → List Item → Item = λ c is. record
    { at = c.start; tree = node c.func c.start stop is } in
    let same : node_over innermost (items_in b.0) ≡ closed_item (passed call) stop =
    ap (λ (c : OpenCall). node_over c (items_in b.0)) h.are ∙ ap
    (λ (is : List Item). node_over (open_call call) is) b.2
    in
    let here = subst (λ (i : Item). BuildsItem now new (stakes_held b.0) i (stakes_held b.0) (Ok item)) same
    done in (
      here.0,
      here.1,
      exchanges-then old now new (stakes_held call.stored) (stakes_held b.0)
          (stake here.0 (closed_item (passed call) stop).tree ∷ []) b.3 here.2,
    )

-- where its node isn't interned, the stakes on its bounded items are there, and are given back
pub bounded-held : (old now after : Seat) (innermost : OpenCall) (stop : ℕ) (call : StoredCall)
    (bounded slice : List BuiltItem) → HoldsCall old innermost stop call → slice ≡ bounded
    → (b : BuildsItems old now (stakes_held call.stored) (bound (items_in call.stored)) [] (Ok bounded))
    → ExchangesStakes now after (stakes_held b.0) (stakes_held b.0)
    → Holds after slice b.0
bounded-held old now after innermost stop call bounded slice h e b kept = record {
  are = e ∙ b.1;
  stakes = has-given now after (stakes_held b.0) (stakes_held b.0)
      (has-given old now (stakes_held call.stored) (stakes_held b.0) h.stakes b.3) kept;
}

-- the nodes that the closed call has more than its items
closed-nodes : (call : StoredCall) (stop : ℕ)
    → nodes (closed_item (passed call) stop).tree ≡ nodes_in (bound (items_in call.stored)) + 1
closed-nodes call stop = nodes-node call.func call.start stop (bound (items_in call.stored))

pub closed-work : (was work work' : Option ℕ) (call : StoredCall) (stop : ℕ) (item : BuiltItem)
    → Told was work (λ was now. now + nodes_in (items_in call.stored)
    ≡ was + nodes_in (bound (items_in call.stored))) → AddsWork work work' 1
    → WorkOfNodes was work' (nodes_in (items_in call.stored)) (nodes (closed_item (passed call) stop).tree)
    (Ok item)
closed-work was work work' call stop item =
    told_then (λ was now. now + nodes_in (items_in call.stored)
    ≡ was + nodes_in (bound (items_in call.stored))) (λ was now. now ≡ was + 1)
    (λ was now. now + nodes_in (items_in call.stored) ≡ was + nodes (closed_item (passed call) stop).tree) was
    work work' (λ x y z p q. omega (arith, p, q, closed-nodes call stop))

-- where a group of its items is refused
pub unbound-work : (was work : Option ℕ) (call : StoredCall) (stop : ℕ)
    → Told was work (λ was now. now + nodes_in (items_in call.stored)
    ≤ was + nodes_in (bound (items_in call.stored)))
    → Told was work (λ was now. now + nodes_in (items_in call.stored)
    ≤ was + nodes (closed_item (passed call) stop).tree)
unbound-work was work call stop =
    told_as (λ was now. now + nodes_in (items_in call.stored) ≤ was + nodes_in (bound (items_in call.stored)))
    (λ was now. now + nodes_in (items_in call.stored) ≤ was + nodes (closed_item (passed call) stop).tree) was
    work (λ x y p. omega (arith, p, closed-nodes call stop))

-- and where its node is
pub unclosed-work : (was work work' : Option ℕ) (call : StoredCall) (stop : ℕ)
    → Told was work (λ was now. now + nodes_in (items_in call.stored)
    ≡ was + nodes_in (bound (items_in call.stored))) → work' ≡ work
    → Told was work' (λ was now. now + nodes_in (items_in call.stored)
    ≤ was + nodes (closed_item (passed call) stop).tree)
unclosed-work was work work' call stop told same =
    subst (λ (w : Option ℕ). Told was w (λ was now. now + nodes_in (items_in call.stored)
    ≤ was + nodes (closed_item (passed call) stop).tree)) (sym same)
    (told_as (λ was now. now + nodes_in (items_in call.stored)
    ≡ was + nodes_in (bound (items_in call.stored)))
    (λ was now. now + nodes_in (items_in call.stored) ≤ was + nodes (closed_item (passed call) stop).tree) was
    work (λ x y p. omega (arith, p, closed-nodes call stop)) told)

-- ---- a call with an item more

with-parts : (call : StoredCall) (one : StoredItem)
    → stakes_held (call.stored ++ one ∷ []) ≡ stakes_held call.stored ++ stake_on one ∷ []
with-parts call one = map-append stake_on call.stored (one ∷ [])

-- where there is no memory for it, the stakes on the others are there
pub others-held : (seat : Seat) (innermost : OpenCall) (item : BuiltItem) (call : StoredCall)
    (one : StoredItem)
    (slice : List BuiltItem) → HoldsWith seat innermost item call one → slice ≡ innermost.items
    → Holds seat slice call.stored
others-held seat innermost item call one slice h e = record {
  are = e ∙ ap (λ (c : OpenCall). c.items) h.are;
  stakes = has-among seat.stakes [] (stakes_held call.stored) (stake_on one ∷ [])
      (subst (λ (xs : List Stake). HasStakes seat.stakes xs) (with-parts call one) h.stakes);
}

-- and then that on the item itself
pub item-held : (old now : Seat) (innermost : OpenCall) (item : BuiltItem) (call : StoredCall)
    (one : StoredItem)
    → HoldsWith old innermost item call one → ExchangesStakes old now (stakes_held call.stored) []
    → HasStakes now.stakes (stake item.number one.item.tree ∷ [])
    × ExchangesStakes old now (stakes_held (call.stored ++ one ∷ [])) (stake item.number one.item.tree ∷ [])
item-held old now innermost item call one h gone =
    let number : item.number ≡ one.number = ap (λ (b : BuiltItem). b.number) h.is in
    let here : ExchangesStakes old now (stakes_held (call.stored ++ one ∷ []))
    (stake item.number one.item.tree ∷ []) =
    subst (λ (xs : List Stake). ExchangesStakes old now xs (stake item.number one.item.tree ∷ []))
    (sym (with-parts call one))
    (subst (λ (n : ℕ). ExchangesStakes old now (stakes_held call.stored ++ stake_on one ∷ [])
    (stake n one.item.tree ∷ [])) (sym number)
    (exchanges-among old now [] (stakes_held call.stored) [] (stake_on one ∷ []) gone)) in (
      has-given old now (stakes_held (call.stored ++ one ∷ [])) (stake item.number one.item.tree ∷ [])
          h.stakes here,
      here,
    )

-- ---- calls whose stakes are given back

abbrev pub CallsReleasing : Seat → Seat → List OpenCall → ℕ → Type 0
CallsReleasing old now calls i = (stored : List StoredCall) → calls ≡ map open_call stored
    → HasStakes old.stakes (calls_stakes stored)
    → ExchangesStakes old now (calls_stakes stored) (calls_stakes (drop i stored))

pub CallsReleasing-next : (old now : Seat) (calls : List OpenCall) (i : ℕ) (d : OpenCall)
    (slice : List BuiltItem)
    → CallsReleasing old now calls i → i < length calls → slice ≡ (get_or calls i d).items
    → (stored : List StoredCall) → calls ≡ map open_call stored → HasStakes old.stakes (calls_stakes stored)
    → (items : List StoredItem) × Holds now slice items
    × ((new : Seat) → ExchangesStakes now new (stakes_held items) []
    → ExchangesStakes old new (calls_stakes stored) (calls_stakes (drop (i + 1) stored)))
CallsReleasing-next old now calls i d slice r within is stored e h =
    let here = map_next open_call stored i d (subst (λ (cs : List OpenCall). i < length cs) e within) in
    let rest = calls_stakes (drop (i + 1) stored) in
    let so_far = subst (λ (cs : List StoredCall). ExchangesStakes old now (calls_stakes stored)
    (calls_stakes cs))
    here.1 (r stored e h) in (
      here.0.stored,
      record {
        are = is ∙ ap (λ (cs : List OpenCall). (get_or cs i d).items) e ∙ ap (λ (c : OpenCall). c.items)
            here.2;
        stakes = has-among now.stakes [] (stakes_held here.0.stored) rest
            (has-given old now (calls_stakes stored) (stakes_held here.0.stored ++ rest) h so_far);
      },
      λ new gone. exchanges-then old now new (calls_stakes stored) (stakes_held here.0.stored ++ rest) rest
          so_far (exchanges-among now new [] (stakes_held here.0.stored) [] rest gone),
    )
