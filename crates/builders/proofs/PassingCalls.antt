-- Open calls whose items are built, over one event more.
use Rattle.std.proofs.Common.{◌≡◌, ℕ, List, [], ◌∷◌, ◌++◌, map, Ok, Err}
use Rattle.std.proofs.Common.{Result, refl, sym, ap, subst, ◌∙◌, append-nil, append_assoc}
use Rattle.std.proofs.lemmas.Grind.{flat_map-append}
use Rattle.std.proofs.lemmas.List.{map-append}
use Rattle.list_lemmas.proofs.Maps.{map_last}
use Rattle.hall_history.specs.Seat.{ExchangesStakes, Seat}
use Rattle.node_key.specs.declared.stake.Stake.{Stake}
use Rattle.node_key.specs.declared.item.Item.{Item}
use Rattle.trace_base.specs.declared.stream.Event.{Event}
use Rattle.trace_base.specs.declared.stream.Event.TheVariants.{Enter, Leave}
use Rattle.call_tree.specs.Passing.{closed_item}
use Rattle.call_tree.specs.declared.pass.Open.{Open}
use Rattle.hall_trait.specs.declared.answers.HallFault.{HallFault}
use Rattle.builders.specs.Built.{StoredItem, items_in, stake_on, stakes_held}
use Rattle.builders.specs.Builds.{BuildsItem, Holds}
use Rattle.builders.specs.Calls.{AddsItem, HoldsCall, HoldsCalls, HoldsWith, PassesOn, StoredCall}
use Rattle.builders.specs.Calls.{calls_stakes, open_call, passed, with_stored}
use Rattle.builders.specs.declared.built.BuiltItem.{BuiltItem}
use Rattle.builders.specs.declared.built.OpenCall.{OpenCall}
use Rattle.builders.proofs.Bags.{exchanges-last, exchanges-none, exchanges-then, has-given, has-last}

-- the stakes of one call more
calls_stakes-more : (calls : List StoredCall) (call : StoredCall)
    → calls_stakes (calls ++ call ∷ []) ≡ calls_stakes calls ++ stakes_held call.stored
calls_stakes-more calls call =
    flat_map-append (λ (c : StoredCall). stakes_held c.stored) calls (call ∷ [])
    ∙ ap (λ (xs : List Stake). calls_stakes calls ++ xs) (append-nil (stakes_held call.stored))

-- ---- an Enter

pub entered-passes : (old : Seat) (around around' : List OpenCall) (innermost : OpenCall) (f t : ℕ)
    (items : List BuiltItem) (calls : List StoredCall) (call : StoredCall)
    → HoldsCalls old around innermost (Enter f t) calls call
    → around' ≡ around ++ innermost ∷ [] → items ≡ []
    → PassesOn old old calls call (Enter f t) around' (Ok (record { func = f; start = t; items = items }))
entered-passes old around around' innermost f t items calls call h e none =
    let fresh : StoredCall = record { func = f; start = t; stored = [] } in (
      calls ++ call ∷ [],
      fresh,
      e ∙ ap (λ (cs : List OpenCall). cs ++ innermost ∷ []) h.around_are
          ∙ ap (λ (c : OpenCall). map open_call calls ++ c ∷ []) h.are ∙ sym
          (map-append open_call calls (call ∷ [])),
      ap (λ (bs : List BuiltItem). let c : OpenCall = record { func = f; start = t; items = bs } in c) none,
      (map-append passed calls (call ∷ []), refl),
      subst (λ (xs : List Stake). ExchangesStakes old old (calls_stakes calls ++ stakes_held call.stored) xs)
          (sym (append-nil (calls_stakes (calls ++ call ∷ [])) ∙ calls_stakes-more calls call))
          (exchanges-none old old (calls_stakes calls ++ stakes_held call.stored) refl),
    )

-- where there is no memory for it, the stakes of the innermost call are there
pub innermost-held : (old : Seat) (around : List OpenCall) (innermost : OpenCall) (event : Event)
    (slice : List BuiltItem) (calls : List StoredCall) (call : StoredCall)
    → HoldsCalls old around innermost event calls call → slice ≡ innermost.items → Holds old slice call.stored
innermost-held old around innermost event slice calls call h e = record {
  are = e ∙ ap (λ (c : OpenCall). c.items) h.are;
  stakes = has-last old.stakes (calls_stakes calls) (stakes_held call.stored) h.stakes;
}

-- and where they are given back, those of the calls round it are left
pub innermost-gone : (old new : Seat) (around around' : List OpenCall) (innermost : OpenCall) (event : Event)
    (e : HallFault) (calls : List StoredCall) (call : StoredCall)
    → HoldsCalls old around innermost event calls call → around' ≡ around
    → ExchangesStakes old new (stakes_held call.stored) []
    → PassesOn old new calls call event around' (Err e)
innermost-gone old new around around' innermost event e calls call h same gone = (
  calls,
  same ∙ h.around_are,
  subst (λ (xs : List Stake). ExchangesStakes old new (calls_stakes calls ++ stakes_held call.stored) xs)
      (append-nil (calls_stakes calls))
      (exchanges-last old new (calls_stakes calls) (stakes_held call.stored) [] gone),
)

-- ---- a Leave

pub leave-closes : (old : Seat) (around : List OpenCall) (innermost : OpenCall) (u : ℕ)
    (calls : List StoredCall)
    (call : StoredCall) → HoldsCalls old around innermost (Leave u) calls call → HoldsCall old innermost u
    call
leave-closes old around innermost u calls call h = record {
  are = h.are;
  can = h.may.1;
  stakes = has-last old.stakes (calls_stakes calls) (stakes_held call.stored) h.stakes;
}

-- what is there when the innermost call was closed, and the call round it was taken
pub record Left (old now : Seat) (around' : List OpenCall) (outer : OpenCall) (item : BuiltItem) (u : ℕ)
    (calls : List StoredCall) (call : StoredCall) : Type 0 where
  pub front : List StoredCall
  pub last : StoredCall
  pub one : StoredItem
  pub is_item : one.item ≡ closed_item (passed call) u
  pub split : calls ≡ front ++ last ∷ []
  pub front_are : around' ≡ map open_call front
  pub held : HoldsWith now outer item last one
  pub exchanged : ExchangesStakes old now (calls_stakes calls ++ stakes_held call.stored)
      (calls_stakes front ++ stakes_held (last.stored ++ one ∷ []))

pub left-by : (old now : Seat) (around around' : List OpenCall) (innermost outer : OpenCall)
    (item : BuiltItem)
    (u : ℕ) (calls : List StoredCall) (call : StoredCall) → HoldsCalls old around innermost (Leave u) calls
    call
    → around ≡ around' ++ outer ∷ []
    → BuildsItem old now (stakes_held call.stored) (closed_item (passed call) u) [] (Ok item)
    → Left old now around' outer item u calls call
left-by old now around around' innermost outer item u calls call h e b =
    let last = map_last open_call calls around' outer (sym h.around_are ∙ e) in
    let one : StoredItem = record { item = closed_item (passed call) u; number = b.0 } in
    let given : calls_stakes calls ++ stake_on one ∷ []
    ≡ calls_stakes last.0 ++ stakes_held (last.1.stored ++ one ∷ []) =
    ap (λ (cs : List StoredCall). calls_stakes cs ++ stake_on one ∷ []) last.2
    ∙ ap (λ (xs : List Stake). xs ++ stake_on one ∷ []) (calls_stakes-more last.0 last.1)
    ∙ append_assoc (calls_stakes last.0) (stakes_held last.1.stored) (stake_on one ∷ [])
    ∙ ap (λ (xs : List Stake). calls_stakes last.0 ++ xs) (sym (map-append stake_on last.1.stored (one ∷ [])))
    in
    let whole = subst (λ (xs : List Stake). ExchangesStakes old now
    (calls_stakes calls ++ stakes_held call.stored) xs)
    given (exchanges-last old now (calls_stakes calls) (stakes_held call.stored) (stake_on one ∷ []) b.2) in
    record {
      front = last.0;
      last = last.1;
      one = one;
      is_item = refl;
      split = last.2;
      front_are = last.3;
      held = record {
        are = last.4;
        is = b.1;
        stakes = has-last now.stakes (calls_stakes last.0) (stakes_held (last.1.stored ++ one ∷ []))
            (has-given old now (calls_stakes calls ++ stakes_held call.stored)
            (calls_stakes last.0 ++ stakes_held (last.1.stored ++ one ∷ [])) h.stakes whole);
      };
      exchanged = whole;
    }

-- the event is passed
pub left-passes : (old now new : Seat) (around' : List OpenCall) (outer : OpenCall) (item : BuiltItem) (u : ℕ)
    (calls : List StoredCall) (call : StoredCall) (answer : Result OpenCall HallFault)
    → (l : Left old now around' outer item u calls call) → AddsItem now new l.last l.one answer
    → PassesOn old new calls call (Leave u) around' answer
left-passes old now new around' outer item u calls call (Ok c) l adds = (
  l.front,
  with_stored l.last l.one,
  l.front_are,
  adds.0,
  (
    passed l.last,
    ap (map passed) l.split ∙ map-append passed l.front (l.last ∷ []),
    ap (λ (is : List Item). let o : Open = record { func = l.last.func; start = l.last.start; items = is } in
        o) (map-append (λ (s : StoredItem). s.item) l.last.stored (l.one ∷ [])
        ∙ ap (λ (i : Item). items_in l.last.stored ++ i ∷ []) l.is_item),
  ),
  exchanges-then old now new (calls_stakes calls ++ stakes_held call.stored)
      (calls_stakes l.front ++ stakes_held (l.last.stored ++ l.one ∷ []))
      (calls_stakes l.front ++ stakes_held (l.last.stored ++ l.one ∷ [])) l.exchanged
      (exchanges-none now new (calls_stakes l.front ++ stakes_held (l.last.stored ++ l.one ∷ [])) adds.1),
)
left-passes old now new around' outer item u calls call (Err e) l adds = (
  l.front,
  l.front_are,
  exchanges-then old now new (calls_stakes calls ++ stakes_held call.stored)
      (calls_stakes l.front ++ stakes_held (l.last.stored ++ l.one ∷ [])) (calls_stakes l.front) l.exchanged
      (subst (λ (xs : List Stake). ExchangesStakes now new
      (calls_stakes l.front ++ stakes_held (l.last.stored ++ l.one ∷ [])) xs)
      (append-nil (calls_stakes l.front))
      (exchanges-last now new (calls_stakes l.front) (stakes_held (l.last.stored ++ l.one ∷ [])) [] adds)),
)
