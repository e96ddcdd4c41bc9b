-- What a seat's event does in the store and in its stakes, as a step of the world.
use Rattle.std.proofs.Common.{◌≡◌, ℕ, List, ap, ◌∙◌, get_or, slice_set, subst}
use Rattle.list_lemmas.proofs.Positions.{read_is, set_same}
use Rattle.node_key.specs.declared.key.NodeKey.{NodeKey}
use Rattle.node_key.specs.declared.stake.Stake.{Stake}
use Rattle.store_laws.specs.Store.{Store}
use Rattle.hall_core.specs.Allowed.{IsActive}
use Rattle.hall_core.specs.Answering.{AnswersDrop, AnswersIntern, NothingChanges}
use Rattle.hall_core.specs.Steps.{IsStep, with_store}
use Rattle.hall_core.specs.declared.events.HallEvent.TheVariants as event
use Rattle.hall_core.specs.declared.events.StepAnswer.{StepAnswer}
use Rattle.hall_core.specs.declared.events.StepAnswer.TheVariants as answer
use Rattle.hall_core.specs.declared.world.SeatView.{SeatView}
use Rattle.hall_core.specs.declared.world.World.{World}

-- the rooms and stakes that were there before make no other world
pub same-store : (w : World) (actor : ℕ) (seat : SeatView) (rooms : Store) (stakes : List Stake)
    → IsActive w actor seat → NothingChanges w.state.shards seat.stakes rooms stakes
    → with_store w actor seat rooms stakes ≡ w
same-store w actor seat rooms stakes acts (same_rooms, same_stakes) =
    (λ i. with_store w actor seat (same_rooms i) (same_stakes i))
    ∙ (λ i. record w { seats = set_same w.seats actor seat acts.there i })

-- the seat that was lent acts
pub lent-acts : (w : World) (actor : ℕ) (seat lent : SeatView) (kept : List SeatView) → IsActive w actor seat
    → kept ≡ w.seats → lent ≡ get_or kept actor lent → IsActive w actor lent
lent-acts w actor seat lent kept acts same is =
    subst (IsActive w actor) (read_is w.seats kept actor seat lent acts.there same is) acts

-- the rooms and the stakes that were lent, put back
pub put-back : (w : World) (actor : ℕ) (lent : SeatView) (rooms : Store) (stakes : List Stake)
    (kept seats : List SeatView) → kept ≡ w.seats
    → seats ≡ slice_set kept actor (record lent { stakes = stakes })
    → record w { state = record w.state { shards = rooms }; seats = seats }
    ≡ with_store w actor lent rooms stakes
put-back w actor lent rooms stakes kept seats same written =
    ap (λ (xs : List SeatView). record w { state = record w.state { shards = rooms }; seats = xs })
    (written ∙ ap (λ (xs : List SeatView). slice_set xs actor (record lent { stakes = stakes })) same)

-- a key is answered
pub key-step : (w new : World) (actor : ℕ) (seat : SeatView) (key : NodeKey) (a : StepAnswer) (rooms : Store)
    (stakes : List Stake) → IsActive w actor seat
    → AnswersIntern key a w.state.shards seat.stakes rooms stakes
    → new ≡ with_store w actor seat rooms stakes → IsStep w actor (event.Intern key) a new
key-step w new actor seat key (answer.Interned i) rooms stakes acts does is = record {
  seat = seat;
  acts = acts;
  rooms = rooms;
  stakes = stakes;
  changed = does;
  now = is;
}
key-step w new actor seat key (answer.Spent v) rooms stakes acts (spent, same) is =
    (spent, is ∙ same-store w actor seat rooms stakes acts same)
key-step w new actor seat key answer.Memory rooms stakes acts same is =
    is ∙ same-store w actor seat rooms stakes acts same
key-step w new actor seat key (answer.Node k) rooms stakes acts does is = absurd does
key-step w new actor seat key (answer.Dropped d) rooms stakes acts does is = absurd does
key-step w new actor seat key answer.Split rooms stakes acts does is = absurd does
key-step w new actor seat key answer.Joined rooms stakes acts does is = absurd does

-- a stake that is given back is answered
pub drop-step : (w new : World) (actor : ℕ) (seat : SeatView) (n : ℕ) (a : StepAnswer) (rooms : Store)
    (stakes : List Stake) → IsActive w actor seat
    → AnswersDrop n a w.state.shards seat.stakes rooms stakes
    → new ≡ with_store w actor seat rooms stakes → IsStep w actor (event.Drop n) a new
drop-step w new actor seat n (answer.Dropped d) rooms stakes acts does is = record {
  seat = seat;
  acts = acts;
  rooms = rooms;
  stakes = stakes;
  changed = does;
  now = is;
}
drop-step w new actor seat n answer.Memory rooms stakes acts same is =
    is ∙ same-store w actor seat rooms stakes acts same
drop-step w new actor seat n (answer.Interned i) rooms stakes acts does is = absurd does
drop-step w new actor seat n (answer.Node k) rooms stakes acts does is = absurd does
drop-step w new actor seat n answer.Split rooms stakes acts does is = absurd does
drop-step w new actor seat n answer.Joined rooms stakes acts does is = absurd does
drop-step w new actor seat n (answer.Spent v) rooms stakes acts does is = absurd does
