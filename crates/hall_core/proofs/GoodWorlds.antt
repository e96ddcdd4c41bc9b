-- What holds of each seat of a good world, and of what it has.
use Rattle.std.proofs.Common.{◌≡◌, ◌≤◌, ℕ, zero, suc, List, [], ◌∷◌, Contains, Some, refl}
use Rattle.std.proofs.Common.{slice_get, subst, sym}
use Rattle.std.proofs.lemmas.Bool.{false≢true}
use Rattle.std.proofs.lemmas.List.Elements.{All-cons, All-nil, Contains-append_left}
use Rattle.std.proofs.lemmas.List.Elements.{Contains-append_right}
use Rattle.std.proofs.lemmas.Option.{none-some, same_Some}
use Rattle.list_lemmas.proofs.All.{All-at}
use Rattle.node_key.specs.Stands.{Stands}
use Rattle.node_key.specs.declared.limits.TheConstants.{MAX_NUMBERS}
use Rattle.node_key.specs.declared.stake.Stake.{Stake}
use Rattle.store_laws.specs.Store.{key_in}
use Rattle.store_laws.proofs.CanonicTrees.{one_tree}
use Rattle.store_laws.proofs.StepsFromNothing.{nothing}
use Rattle.hall_core.specs.OneTree.{OneTreeEach}
use Rattle.hall_core.specs.World.{HasSeenNothing, IsGood, all_stakes, empty_seat, new_world}
use Rattle.hall_core.specs.declared.world.SeatView.{SeatView}
use Rattle.hall_core.specs.declared.world.World.{World}

-- a stake of a seat is one of those of all seats
pub held-at : (seats : List SeatView) (i : ℕ) (seat : SeatView) → slice_get seats i ≡ Some seat → (x : Stake)
    → Contains seat.stakes x → Contains (all_stakes seats) x
held-at [] i seat at x there = absurd (none-some seat at)
held-at (s ∷ seats) zero seat at x there =
    Contains-append_left s.stakes (all_stakes seats) x
    (subst (λ (y : SeatView). Contains y.stakes x) (sym (same_Some s seat at)) there)
held-at (s ∷ seats) (suc i) seat at x there =
    Contains-append_right s.stakes (all_stakes seats) x (held-at seats i seat at x there)

-- so is a stake of a seat of a world
pub held-of-seat : (w : World) (i : ℕ) (seat : SeatView) → slice_get w.seats i ≡ Some seat → (x : Stake)
    → Contains seat.stakes x → Contains (all_stakes w.seats) x
held-of-seat w = held-at w.seats

-- each stake of a seat is on a node that stands for its tree
pub good-stands : (w : World) (i : ℕ) (seat : SeatView) → IsGood w → slice_get w.seats i ≡ Some seat
    → (x : Stake) → Contains seat.stakes x → Stands (key_in w.state.shards) x.number x.tree
good-stands w i seat good at x there = good.store.counted.stands x (held-of-seat w i seat at x there)

-- the number of a stake of a seat tells its tree
pub good-one : (w : World) (i : ℕ) (seat : SeatView) → IsGood w → slice_get w.seats i ≡ Some seat
    → OneTreeEach seat.stakes
good-one w i seat good at x y at_x at_y number =
    let tree = one_tree (key_in w.state.shards) y.number x.tree y.tree
    (subst (λ (n : ℕ). Stands (key_in w.state.shards) n x.tree) number (good-stands w i seat good at x at_x))
    (good-stands w i seat good at y at_y) in
    λ i. record { number = number i; tree = tree i }

-- no seat of a good world has made or seen an entry
pub good-seat : (w : World) (i : ℕ) (seat : SeatView) → IsGood w → slice_get w.seats i ≡ Some seat
    → HasSeenNothing seat
good-seat w i seat good at = All-at HasSeenNothing w.seats i seat good.seats at

-- a seat that has stakes, and nothing else
pub seen_nothing : (stakes : List Stake) → HasSeenNothing (record (empty_seat 0) { stakes = stakes })
seen_nothing stakes = record {
  no_pins = refl;
  no_passes = refl;
  seen = refl;
  no_places = refl;
  no_stakes = λ ended. absurd (false≢true ended);
}

-- a new hall is good
pub new-good : (first : ℕ) → first ≤ MAX_NUMBERS → IsGood (new_world first)
new-good first most = record {
  store = nothing first most;
  memos = refl;
  registry = refl;
  seats = All-cons HasSeenNothing (empty_seat 0) [] (seen_nothing []) (All-nil HasSeenNothing);
}
