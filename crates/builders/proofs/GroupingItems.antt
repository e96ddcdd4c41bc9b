-- Items under way to their groups, in one list: the groups at its front, and the items that are left behind.
use Rattle.std.proofs.Common.{◌≡◌, ℕ, ◌+◌, ◌-◌, ◌<◌, ◌≤◌, min, List, [], ◌∷◌, ◌++◌, map, length, take, drop}
use Rattle.std.proofs.Common.{Option, refl, sym, ap, subst, arith, set, ◌∙◌, append-nil, append_assoc}
use Rattle.std.proofs.Common.{take-append-drop, Ok, Err}
use Rattle.std.proofs.lemmas.List.{length-set}
use Rattle.std.proofs.lemmas.List.{drop-drop, drop-map, drop-set-lt, length-drop, length-map}
use Rattle.std.proofs.lemmas.List.{length-take, map-append, take-map, take_more_set, nil_from_length}
use Rattle.list_lemmas.proofs.Fronts.{drop_within, take_within}
use Rattle.node_key.specs.Bound.{group, grouped}
use Rattle.hall_history.specs.Seat.{ExchangesStakes, Seat}
use Rattle.node_key.specs.Stakes.{HasStakes, stake}
use Rattle.node_key.specs.declared.stake.Stake.{Stake}
use Rattle.node_key.specs.declared.item.Item.{Item}
use Rattle.trace_base.specs.Outside.{Told}
use Rattle.trace_base.specs.declared.limits.TheConstants.{MAX_TIME}
use Rattle.trace_base.proofs.Telling.{told_as, told_same, told_then}
use Rattle.node_key.specs.Tree.{nodes}
use Rattle.call_tree.proofs.Chunks.{grouped-none, grouped-some}
use Rattle.call_tree.proofs.Grouping.{Grouping, Grouping-more, Grouping-next}
use Rattle.builders.specs.Built.{StoredItem, built, items_in, stake_on, stakes_held}
use Rattle.builders.specs.Builds.{BuildsItem, BuildsItems, Holds, HoldsBetween, WorkOfNodes}
use Rattle.builders.specs.Builds.{nodes_in}
use Rattle.hall_trait.specs.declared.answers.HallFault.{HallFault}
use Rattle.builders.proofs.CountingNodes.{grows-grouped, nodes_in-append, nodes_in-cons, nodes_in-cut}
use Rattle.builders.proofs.CountingNodes.{nodes_in-push}
use Rattle.builders.specs.declared.built.BuiltItem.{BuiltItem}
use Rattle.builders.proofs.Bags.{exchanges-among, exchanges-none, exchanges-then, has-among, has-given}

-- the groups, which are built, and the items that are left
pub record Split (old now : Seat) (was work : Option ℕ) (stored : List StoredItem) (list : List BuiltItem)
    (groups from : ℕ) : Type 0 where
  pub done : List StoredItem
  pub left : List StoredItem
  pub front : take groups list ≡ map built done
  pub back : drop from list ≡ map built left
  pub grouping : Grouping (items_in stored) (items_in done) (items_in left)
  pub exchanged : ExchangesStakes old now (stakes_held stored) (stakes_held done ++ stakes_held left)
  pub counted : Told was work (λ was now. now + nodes_in (items_in stored)
      ≡ was + (nodes_in (items_in done) + nodes_in (items_in left)))

-- so it is for all items that the seat may hold, and there is room for one group more
pub record GroupingItems (old now : Seat) (was_work work : Option ℕ) (items list : List BuiltItem)
    (number groups from : ℕ) : Type 0 where
  pub number_is : number ≡ length items
  pub size : length list ≡ number
  pub front : groups ≤ from
  pub back : from ≤ number
  pub parts : (stored : List StoredItem) → HoldsBetween old 0 MAX_TIME items stored
      → Split old now was_work work stored list groups from

-- ---- the start

Split-start : (old : Seat) (work : Option ℕ) (items : List BuiltItem) (stored : List StoredItem)
    → HoldsBetween old 0 MAX_TIME items stored → Split old old work work stored items 0 0
Split-start old work items stored h = record {
  done = [];
  left = stored;
  front = refl;
  back = h.are;
  grouping = record { whole = refl; placed = h.placed; low = h.low };
  exchanged = exchanges-none old old (stakes_held stored) refl;
  counted = told_same (λ was now. now + nodes_in (items_in stored)
      ≡ was + (nodes_in (items_in []) + nodes_in (items_in stored))) work work (λ n. omega arith) refl;
}

pub GroupingItems-start : (old : Seat) (work : Option ℕ) (items list : List BuiltItem) (number : ℕ)
    → list ≡ items → number ≡ length items → GroupingItems old old work work items list number 0 0
GroupingItems-start old work items list number e n = record {
  number_is = n;
  size = ap length e ∙ sym n;
  front = omega arith;
  back = omega arith;
  parts = λ stored h. subst (λ (bs : List BuiltItem). Split old old work work stored bs 0 0) (sym e)
      (Split-start old work items stored h);
}

-- ---- the next chunk

pub chunk_is : (list : List BuiltItem) (number from until : ℕ) → length list ≡ number
    → until ≡ from + min 8 (number - from) → from ≤ number
    → take (until - from) (drop from list) ≡ take 8 (drop from list)
chunk_is list number from until n e h =
    ap (λ (m : ℕ). take m (drop from list))
    (let m : until - from ≡ min 8 (length (drop from list)) = omega (arith, e, n, h, length-drop from list) in
    m)
    ∙ take_within 8 (drop from list)

rest_is : (list : List BuiltItem) (number from until : ℕ) → length list ≡ number
    → until ≡ from + min 8 (number - from) → from ≤ number
    → drop until list ≡ drop 8 (drop from list)
rest_is list number from until n e h =
    ap (λ (m : ℕ). drop m list) (let m : until ≡ from + min 8 (length (drop from list)) =
    omega (arith, e, n, h, length-drop from list) in m)
    ∙ sym (drop-drop (min 8 (length (drop from list))) from list)
    ∙ drop_within 8 (drop from list)

-- the stakes on the chunk and on the items behind it
stakes_cut : (left : List StoredItem) → stakes_held left ≡ stakes_held (take 8 left) ++ stakes_held
    (drop 8 left)
stakes_cut left =
    ap (λ (ss : List StoredItem). stakes_held ss) (sym (take-append-drop 8 left))
    ∙ map-append stake_on (take 8 left) (drop 8 left)

-- their nodes
nodes_cut : (left : List StoredItem)
    → nodes_in (items_in left) ≡ nodes_in (items_in (take 8 left)) + nodes_in (items_in (drop 8 left))
nodes_cut left =
    omega (
      arith,
      nodes_in-cut (items_in left),
      ap nodes_in (take-map (λ (x : StoredItem). x.item) 8 left),
      ap nodes_in (drop-map (λ (x : StoredItem). x.item) 8 left),
    )

nodes_pushed : (done : List StoredItem) (one : StoredItem)
    → nodes_in (items_in (done ++ one ∷ [])) ≡ nodes_in (items_in done) + nodes one.item.tree
nodes_pushed done one =
    ap nodes_in (map-append (λ (x : StoredItem). x.item) done (one ∷ []))
    ∙ nodes_in-push (items_in done) one.item

-- what is held of the chunk
pub Split-chunk : (old now : Seat) (was work : Option ℕ) (items list chunk : List BuiltItem)
    (stored : List StoredItem) (groups from : ℕ) → HoldsBetween old 0 MAX_TIME items stored
    → (s : Split old now was work stored list groups from) → chunk ≡ take 8 (drop from list)
    → HoldsBetween now 0 MAX_TIME chunk (take 8 s.left)
Split-chunk old now was work items list chunk stored groups from h s e =
    let is_chunk = Grouping-next (items_in stored) (items_in s.done) (items_in s.left)
    (items_in (take 8 s.left))
    s.grouping (sym (take-map (λ (x : StoredItem). x.item) 8 s.left)) in
    let has = has-given old now (stakes_held stored) (stakes_held s.done ++ stakes_held s.left) h.stakes
    s.exchanged in record {
      are = e ∙ ap (λ (bs : List BuiltItem). take 8 bs) s.back ∙ take-map built 8 s.left;
      stakes = has-among now.stakes (stakes_held s.done) (stakes_held (take 8 s.left))
          (stakes_held (drop 8 s.left))
          (subst (λ (xs : List Stake). HasStakes now.stakes (stakes_held s.done ++ xs)) (stakes_cut s.left)
          has);
      placed = is_chunk.placed;
      low = is_chunk.low;
    }

-- one group more
Split-more : (old now new : Seat) (was work work' : Option ℕ) (list chunk : List BuiltItem)
    (stored : List StoredItem) (number groups from until : ℕ) (b : BuiltItem)
    → (s : Split old now was work stored list groups from) → length list ≡ number → groups ≤ from
    → from < number
    → until ≡ from + min 8 (number - from)
    → (n : ℕ) × (b ≡ built (record { item = group (items_in (take 8 s.left)); number = n }))
    × ExchangesStakes now new (stakes_held (take 8 s.left))
    (stake n (group (items_in (take 8 s.left))).tree ∷ [])
    → WorkOfNodes {X = BuiltItem} work work' (nodes_in (items_in (take 8 s.left)))
    (nodes (group (items_in (take 8 s.left))).tree) (Ok b)
    → Split old new was work' stored (set list groups b) (groups + 1) until
Split-more old now new was work work' list chunk stored number groups from until b s size far some e g paid =
    let one : StoredItem = record { item = group (items_in (take 8 s.left)); number = g.0 } in
    let left : length s.left ≡ number - from = omega (
      arith,
      size,
      length-drop from list,
      ap length s.back,
      length-map s.left built,
    ) in
    record {
      done = s.done ++ one ∷ [];
      left = drop 8 s.left;
      front = take_more_set list groups b (omega arith)
          ∙ ap (λ (bs : List BuiltItem). bs ++ b ∷ []) s.front
          ∙ ap (λ (x : BuiltItem). map built s.done ++ x ∷ []) g.1
          ∙ sym (map-append built s.done (one ∷ []));
      back = drop-set-lt until list groups b (omega arith)
          ∙ rest_is list number from until size e (omega arith)
          ∙ ap (λ (bs : List BuiltItem). drop 8 bs) s.back ∙ drop-map built 8 s.left;
      grouping = Grouping-more (items_in stored) (items_in s.done) (items_in (s.done ++ one ∷ []))
          (items_in s.left) (items_in (drop 8 s.left)) (items_in (take 8 s.left)) s.grouping
          (sym (take-map (λ (x : StoredItem). x.item) 8 s.left))
          (omega (arith, left, length-map (take 8 s.left) (λ (x : StoredItem). x.item), length-take 8 s.left))
          (sym (drop-map (λ (x : StoredItem). x.item) 8 s.left))
          (map-append (λ (x : StoredItem). x.item) s.done (one ∷ []));
      exchanged = exchanges-then old now new (stakes_held stored) (stakes_held s.done ++ stakes_held s.left)
          (stakes_held (s.done ++ one ∷ []) ++ stakes_held (drop 8 s.left)) s.exchanged
          (subst (λ (xs : List Stake). ExchangesStakes now new (stakes_held s.done ++ stakes_held s.left) xs)
          (sym (append_assoc (stakes_held s.done) (stake_on one ∷ []) (stakes_held (drop 8 s.left)))
          ∙ ap (λ (xs : List Stake). xs ++ stakes_held (drop 8 s.left))
          (sym (map-append stake_on s.done (one ∷ []))))
          (subst (λ (xs : List Stake). ExchangesStakes now new (stakes_held s.done ++ xs)
          (stakes_held s.done ++ (stake_on one ∷ [] ++ stakes_held (drop 8 s.left))))
          (sym (stakes_cut s.left))
          (exchanges-among now new (stakes_held s.done) (stakes_held (take 8 s.left)) (stake_on one ∷ [])
          (stakes_held (drop 8 s.left)) g.2)));
      counted = told_then (λ was now. now + nodes_in (items_in stored)
          ≡ was + (nodes_in (items_in s.done) + nodes_in (items_in s.left)))
          (λ was now. now + nodes_in (items_in (take 8 s.left)) ≡ was + nodes one.item.tree)
          (λ was now. now + nodes_in (items_in stored)
          ≡ was + (nodes_in (items_in (s.done ++ one ∷ [])) + nodes_in (items_in (drop 8 s.left)))) was work
          work' (λ x y z p q. omega (arith, p, q, nodes_cut s.left, nodes_pushed s.done one)) s.counted paid;
    }

pub GroupingItems-more : (old now new : Seat) (was work work' : Option ℕ)
    (items list list' chunk : List BuiltItem) (number groups from until : ℕ) (b : BuiltItem)
    → GroupingItems old now was work items list number groups from → from < number
    → until ≡ from + min 8 (number - from) → chunk ≡ take 8 (drop from list) → list' ≡ set list groups b
    → ((stored : List StoredItem) → HoldsBetween now 0 MAX_TIME chunk stored
    → BuildsItem now new (stakes_held stored) (group (items_in stored)) (stakes_held stored) (Ok b))
    → ((stored : List StoredItem) → HoldsBetween now 0 MAX_TIME chunk stored
    → WorkOfNodes {X = BuiltItem} work work' (nodes_in (items_in stored))
    (nodes (group (items_in stored)).tree) (Ok b))
    → GroupingItems old new was work' items list' number (groups + 1) until
GroupingItems-more old now new was work work' items list list' chunk number groups from until b g some e is
    is' built
    paid =
    let here : GroupingItems old new was work' items (set list groups b) number (groups + 1) until = record {
      number_is = g.number_is;
      size = length-set list groups b ∙ g.size;
      front = omega (arith, g.front, e, some);
      back = omega (arith, e, some);
      parts = λ stored h. let s = g.parts stored h in
          let held = Split-chunk old now was work items list chunk stored groups from h s is in
          Split-more old now new was work work' list chunk stored number groups from until b s g.size g.front
          some e (built (take 8 s.left) held) (paid (take 8 s.left) held);
    } in
    subst (λ (l : List BuiltItem). GroupingItems old new was work' items l number (groups + 1) until)
    (sym is') here

-- ---- the end

pub GroupingItems-end : (old now : Seat) (was work : Option ℕ) (items list answer : List BuiltItem)
    (number groups from : ℕ) → GroupingItems old now was work items list number groups from → number ≤ from
    → answer ≡ take groups list → (stored : List StoredItem) → HoldsBetween old 0 MAX_TIME items stored
    → BuildsItems old now (stakes_held stored) (grouped (items_in stored)) [] (Ok answer)
GroupingItems-end old now was work items list answer number groups from g none is stored h =
    let s = g.parts stored h in
    let nothing : s.left ≡ [] = nil_from_length s.left (omega (
      arith,
      none,
      g.size,
      length-drop from list,
      ap length s.back,
      length-map s.left built,
    )) in
    let items_left : items_in s.left ≡ [] = ap items_in nothing in (
      s.done,
      is ∙ s.front,
      sym (append-nil (items_in s.done))
          ∙ ap (λ (is : List Item). items_in s.done ++ is) (sym (grouped-none (items_in s.left) items_left))
          ∙ s.grouping.whole,
      subst (λ (xs : List Stake). ExchangesStakes old now (stakes_held stored) xs)
          (append-nil (stakes_held s.done))
          (subst (λ (ss : List StoredItem). ExchangesStakes old now (stakes_held stored)
          (stakes_held s.done ++ stakes_held ss)) nothing s.exchanged),
    )

-- the nodes of the groups so far and of what is left are at most those of all groups
grouped-nodes : (all done left : List Item) → done ++ grouped left ≡ grouped all
    → nodes_in (grouped all) ≡ nodes_in done + nodes_in (grouped left)
grouped-nodes all done left whole = ap nodes_in (sym whole) ∙ nodes_in-append done (grouped left)

pub GroupingItems-work : (old now : Seat) (was work : Option ℕ) (items list answer : List BuiltItem)
    (number groups from : ℕ) → GroupingItems old now was work items list number groups from → number ≤ from
    → (stored : List StoredItem) → HoldsBetween old 0 MAX_TIME items stored
    → WorkOfNodes was work (nodes_in (items_in stored)) (nodes_in (grouped (items_in stored))) (Ok answer)
GroupingItems-work old now was work items list answer number groups from g none stored h =
    let s = g.parts stored h in
    let nothing : s.left ≡ [] = nil_from_length s.left (omega (
      arith,
      none,
      g.size,
      length-drop from list,
      ap length s.back,
      length-map s.left built,
    )) in
    let left : items_in s.left ≡ [] = ap items_in nothing in
    told_as (λ was now. now + nodes_in (items_in stored)
    ≡ was + (nodes_in (items_in s.done) + nodes_in (items_in s.left)))
    (λ was now. now + nodes_in (items_in stored) ≡ was + nodes_in (grouped (items_in stored))) was work
    (λ x y p. omega (
      arith,
      p,
      ap nodes_in left,
      ap nodes_in (grouped-none (items_in s.left) left),
      grouped-nodes (items_in stored) (items_in s.done) (items_in s.left) s.grouping.whole,
    )) s.counted

pub refused-work : (old now : Seat) (was work work' : Option ℕ) (items list chunk : List BuiltItem)
    (number groups from : ℕ) (e : HallFault)
    → GroupingItems old now was work items list number groups from → from < number
    → chunk ≡ take 8 (drop from list)
    → ((stored : List StoredItem) → HoldsBetween now 0 MAX_TIME chunk stored
    → WorkOfNodes {X = BuiltItem} work work' (nodes_in (items_in stored))
    (nodes (group (items_in stored)).tree) (Err e))
    → (stored : List StoredItem) → HoldsBetween old 0 MAX_TIME items stored
    → Told was work'
    (λ was now. now + nodes_in (items_in stored) ≤ was + nodes_in (grouped (items_in stored)))
refused-work old now was work work' items list chunk number groups from e g some is idle stored h =
    let s = g.parts stored h in
    let part = take 8 s.left in
    let left = items_in s.left in
    let here = idle part (Split-chunk old now was work items list chunk stored groups from h s is) in
    let there : 0 < length left = omega (
      arith,
      some,
      g.size,
      length-drop from list,
      ap length s.back,
      length-map s.left built,
      length-map s.left (λ (x : StoredItem). x.item),
    ) in
    let first : nodes (group (items_in part)).tree ≡ nodes (group (take 8 left)).tree =
    ap (λ (is : List Item). nodes (group is).tree) (sym (take-map (λ (x : StoredItem). x.item) 8 s.left)) in
    told_then (λ was now. now + nodes_in (items_in stored)
    ≡ was + (nodes_in (items_in s.done) + nodes_in left))
    (λ was now. now + nodes_in (items_in part) ≤ was + nodes (group (items_in part)).tree)
    (λ was now. now + nodes_in (items_in stored) ≤ was + nodes_in (grouped (items_in stored))) was work work'
    (λ x y z p q. omega (
      arith,
      p,
      q,
      first,
      nodes_cut s.left,
      ap nodes_in (drop-map (λ (x : StoredItem). x.item) 8 s.left),
      grows-grouped (drop 8 left),
      ap nodes_in (grouped-some left there),
      nodes_in-cons (group (take 8 left)) (grouped (drop 8 left)),
      grouped-nodes (items_in stored) (items_in s.done) left s.grouping.whole,
    )) s.counted here

-- ---- a fault: the stakes on the groups are given back, and those on the items that are left

pub refused-front : (old now after : Seat) (was work : Option ℕ) (items list chunk : List BuiltItem)
    (number groups from : ℕ) → GroupingItems old now was work items list number groups from
    → chunk ≡ take 8 (drop from list)
    → ((stored : List StoredItem) → HoldsBetween now 0 MAX_TIME chunk stored
    → ExchangesStakes now after (stakes_held stored) (stakes_held stored))
    → (stored : List StoredItem) → HoldsBetween old 0 MAX_TIME items stored
    → (done : List StoredItem) × (left : List StoredItem) × (take groups list ≡ map built done)
    × (drop from list ≡ map built left)
    × ExchangesStakes old after (stakes_held stored) (stakes_held done ++ stakes_held left)
    × HasStakes after.stakes (stakes_held done ++ stakes_held left)
refused-front old now after was work items list chunk number groups from g is same stored h =
    let s = g.parts stored h in
    let part = take 8 s.left in
    let here = same part (Split-chunk old now was work items list chunk stored groups from h s is) in
    let among : ExchangesStakes now after (stakes_held s.done ++ stakes_held s.left)
    (stakes_held s.done ++ stakes_held s.left) =
    subst (λ (xs : List Stake). ExchangesStakes now after (stakes_held s.done ++ xs)
    (stakes_held s.done ++ xs)) (sym (stakes_cut s.left))
    (exchanges-among now after (stakes_held s.done) (stakes_held part) (stakes_held part)
    (stakes_held (drop 8 s.left)) here) in
    let whole = exchanges-then old now after (stakes_held stored) (stakes_held s.done ++ stakes_held s.left)
    (stakes_held s.done ++ stakes_held s.left) s.exchanged among in (
      s.done,
      s.left,
      s.front,
      s.back,
      whole,
      has-given old after (stakes_held stored) (stakes_held s.done ++ stakes_held s.left) h.stakes whole,
    )

-- the stakes on the groups are there
pub refused-groups : (after : Seat) (groups : List BuiltItem) (done left : List StoredItem)
    → groups ≡ map built done → HasStakes after.stakes (stakes_held done ++ stakes_held left)
    → Holds after groups done
refused-groups after groups done left e h = record {
  are = e;
  stakes = has-among after.stakes [] (stakes_held done) (stakes_held left) h;
}

-- and then those on the items that are left
pub refused-left : (old after after' : Seat) (taken : List Stake) (items : List BuiltItem)
    (done left : List StoredItem) → items ≡ map built left
    → ExchangesStakes old after taken (stakes_held done ++ stakes_held left)
    → HasStakes after.stakes (stakes_held done ++ stakes_held left)
    → ExchangesStakes after after' (stakes_held done) []
    → Holds after' items left × ExchangesStakes old after' taken (stakes_held left)
refused-left old after after' taken items done left e so_far h gone =
    let among = exchanges-among after after' [] (stakes_held done) [] (stakes_held left) gone in (
      record {
        are = e;
        stakes = has-given after after' (stakes_held done ++ stakes_held left) (stakes_held left) h among;
      },
      exchanges-then old after after' taken (stakes_held done ++ stakes_held left) (stakes_held left) so_far
          among,
    )
