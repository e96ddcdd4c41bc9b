-- The nodes and the seats of the examples: what stands, what is well placed and what is counted.
use Rattle.std.proofs.Common.{◌≡◌, ℕ, ◌+◌, ◌≤◌, [], ◌∷◌, Option, Some, fold, max, get_or, slice_get}
use Rattle.std.proofs.Common.{refl, sym, ap, ◌∙◌, arith, lit<}
use Rattle.std.proofs.lemmas.Option.{same_Some}
use Rattle.std.specs.FinMap.{find}
use Rattle.std.specs.Option.{option_map, option_map_or}
use Rattle.std.specs.Ordering.{nat_cmp}
use Rattle.list_lemmas.proofs.All.{Each, Each-at}
use Rattle.node_key.specs.Examples.{half, half_key, leaf_of_three, tenth, tenth_key, track_key}
use Rattle.node_key.specs.Examples.{track_of_half}
use Rattle.node_key.specs.Keys.{IsKeyOf}
use Rattle.node_key.specs.Rooms.{room}
use Rattle.node_key.specs.Stands.{KeyAt, Stands}
use Rattle.node_key.specs.declared.key.NodeKey.{NodeKey}
use Rattle.shard_core.specs.Room.{Stored}
use Rattle.store_laws.specs.Store.{IsCanonic, IsKidBelow, IsWellPlaced, Store, key_in, kids_in, node_in}
use Rattle.hall_core.specs.Examples.{four_nodes, counted_node, other, rooms_with}
use Rattle.hall_core.specs.Allowed.{IsActive}
use Rattle.hall_core.specs.declared.world.SeatView.{SeatView}
use Rattle.hall_core.specs.declared.world.World.{World}
use Rattle.hall_core.proofs.SampleRooms.{Fits, IsCanonic-rooms_with}
use Rattle.hall_core.proofs.SampleRooms.{Nodes, node_in-rooms_with}

-- ---- keys of the trees

-- of f
pub tenth_keyed : IsKeyOf tenth [] tenth_key
tenth_keyed = record { func = refl; dur = refl; height = refl; len = refl; numbers = refl; kids = refl }

-- of main
pub half_keyed : IsKeyOf half (0 ∷ 0 ∷ []) half_key
half_keyed = record { func = refl; dur = refl; height = refl; len = refl; numbers = refl; kids = refl }

-- ---- numbers that stand for the trees

-- a number of f
pub tenth_stands : (at : KeyAt) (n : ℕ) → at n ≡ Some tenth_key → Stands at n tenth
tenth_stands at n f = (tenth_key, [], f, tenth_keyed, refl)

-- a number of the other call
pub other_stands : (at : KeyAt) (n : ℕ) → at n ≡ Some leaf_of_three → Stands at n other
other_stands at n is = (
  leaf_of_three,
  [],
  is,
  record { func = refl; dur = refl; height = refl; len = refl; numbers = refl; kids = refl },
  refl,
)

-- the number of main
pub half_stands : (at : KeyAt) → at 12 ≡ Some half_key → at 0 ≡ Some tenth_key → Stands at 12 half
half_stands at main f =
    let call = tenth_stands at 0 f in (half_key, 0 ∷ 0 ∷ [], main, half_keyed, (call, (call, refl)))

-- the number of the track
pub track_stands : (at : KeyAt) → at 4 ≡ Some track_key → at 12 ≡ Some half_key → at 0 ≡ Some tenth_key
    → Stands at 4 track_of_half
track_stands at track main f = (
  track_key,
  12 ∷ [],
  track,
  record { func = refl; dur = refl; height = refl; len = refl; numbers = refl; kids = refl },
  (half_stands at main f, refl),
)

-- the key of a number in rooms of these nodes
pub key_in-rooms_with : (nodes : Nodes) (n : ℕ)
    → key_in (rooms_with nodes) n ≡ option_map (λ s. s.key) (find nat_cmp n nodes)
key_in-rooms_with nodes n = ap (option_map (λ (s : Stored). s.key)) (node_in-rooms_with nodes n)

-- ---- keys that are well placed

-- f's key is, wherever
pub tenth_placed : (rooms : Store) → IsWellPlaced rooms tenth_key
tenth_placed rooms = record { len = refl; kids = λ k has. absurd (omega (arith, has.1)); height = refl }

-- and that of the other call
pub other_placed : (rooms : Store) → IsWellPlaced rooms leaf_of_three
other_placed rooms = record { len = refl; kids = λ k has. absurd (omega (arith, has.1)); height = refl }

-- main's key, where f has number 0
pub half_placed : (rooms : Store) (c : ℕ) → node_in rooms 0 ≡ Some (record { key = tenth_key; count = c })
    → IsWellPlaced rooms half_key
half_placed rooms c f = record {
  len = refl;
  kids = λ k has.
      let below : IsKidBelow rooms 1 (record { gap = 100000000; span = 100000000; node = 0 }) = record {
        stored = record { key = tenth_key; count = c };
        there = f;
        span = refl;
        lower = lit< tt;
      } in
      Each-at (IsKidBelow rooms 1) (kids_in half_key) k (below, (below, tt)) has;
  height = ap (λ (o : Option Stored). fold max 0 ((option_map_or (λ (s : Stored). s.key.height) o 0 + 1)
      ∷ (option_map_or (λ (s : Stored). s.key.height) o 0 + 1) ∷ [])) (sym f);
}

-- the track's key, where main has number 12
pub track_placed : (rooms : Store) (c : ℕ) → node_in rooms 12 ≡ Some (record { key = half_key; count = c })
    → IsWellPlaced rooms track_key
track_placed rooms c main = record {
  len = refl;
  kids = λ k has.
      let below : IsKidBelow rooms 2 (record { gap = 0; span = 500000000; node = 12 }) = record {
        stored = record { key = half_key; count = c };
        there = main;
        span = refl;
        lower = lit< tt;
      } in
      Each-at (IsKidBelow rooms 2) (kids_in track_key) k (below, tt) has;
  height = ap
      (λ (o : Option Stored). fold max 0 ((option_map_or (λ (s : Stored). s.key.height) o 0 + 1) ∷ []))
      (sym main);
}

-- ---- the rooms of four nodes

-- the number that each key has, by its function
abbrev number_told : NodeKey → ℕ
number_told key = get_or (4 ∷ 12 ∷ 0 ∷ 3 ∷ []) key.func 16

-- each node may stand under its number
four_fit : (of_f of_other : ℕ) → 1 ≤ of_f → of_f ≤ 2 → 1 ≤ of_other → of_other ≤ 2
    → Each (Fits number_told) (four_nodes of_f of_other)
unfolding room
four_fit of_f of_other f_least f_most other_least other_most = (
  record { index = lit< tt; key = refl; least = f_least; most = omega arith; number = refl },
  (
    record { index = lit< tt; key = refl; least = other_least; most = omega arith; number = refl },
    (
      record { index = lit< tt; key = refl; least = omega arith; most = omega arith; number = refl },
      (record { index = lit< tt; key = refl; least = omega arith; most = omega arith; number = refl }, tt),
    ),
  ),
)

-- they are canonic, whatever the counts
pub four_canonic : (of_f of_other : ℕ) → 1 ≤ of_f → of_f ≤ 2 → 1 ≤ of_other → of_other ≤ 2
    → IsCanonic (rooms_with (four_nodes of_f of_other))
four_canonic of_f of_other f_least f_most other_least other_most =
    let nodes = four_nodes of_f of_other in
    let rooms = rooms_with nodes in
    IsCanonic-rooms_with number_told nodes (four_fit of_f of_other f_least f_most other_least other_most) (
      tenth_placed rooms,
      (
        other_placed rooms,
        (
          track_placed rooms 2 (node_in-rooms_with nodes 12),
          (half_placed rooms of_f (node_in-rooms_with nodes 0), tt),
        ),
      ),
    )

-- the rooms of f alone are canonic
pub f_canonic : IsCanonic (rooms_with (counted_node 0 tenth_key 3 ∷ []))
unfolding room
f_canonic =
    let nodes = counted_node 0 tenth_key 3 ∷ [] in
    IsCanonic-rooms_with number_told nodes
    (record { index = lit< tt; key = refl; least = omega arith; most = omega arith; number = refl }, tt)
    (tenth_placed (rooms_with nodes), tt)

-- ---- seats

-- a seat that is there is the one of its index
pub seat_is : (w : World) (i : ℕ) (seen seat : SeatView) → slice_get w.seats i ≡ Some seen → IsActive w i seat
    → seen ≡ seat
seat_is w i seen seat there active = same_Some seen seat (sym there ∙ active.there)
