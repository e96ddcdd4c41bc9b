-- What calls on nodes answer, as the seat of a plain hall before and after tells them.
use Rattle.std.proofs.Common.{◌≡◌, ℕ, List, [], ◌∷◌, length, Ok, Some}
use Rattle.std.proofs.Common.{refl, sym, ap, ◌∙◌, subst}
use Rattle.std.specs.Prelude.{is_some, IsSome}
use Rattle.std.specs.List.{AllZip, range_with_len}
use Rattle.hall_trait.specs.Nodes.{InternTells, OfItsRoom, ReadsNode, StakesNode}
use Rattle.node_key.specs.Branches.{branches}
use Rattle.hall_history.specs.History.{Entry}
use Rattle.node_key.specs.Keys.{IsKeyOf}
use Rattle.hall_history.specs.Seat.{ExchangesStakes, Seat}
use Rattle.hall_history.specs.declared.seat.PinView.{PinView}
use Rattle.node_key.specs.Stakes.{Exchanges, stake}
use Rattle.node_key.specs.declared.stake.Stake.{Stake}
use Rattle.node_key.specs.Stands.{KeyAt, KidsStand, Stands}
use Rattle.node_key.specs.Tree.{Kids, Tree, kid, no_kids}
use Rattle.node_key.specs.declared.key.NodeKey.{NodeKey}
use Rattle.node_key.specs.declared.tree.Branch.{Branch}
use Rattle.shard_core.specs.declared.answers.Interned.{Interned}
use Rattle.shard_core.specs.declared.answers.Interned.TheVariants.{Known, New}
use Rattle.shard_core.specs.Interning.{Interns}
use Rattle.shard_core.specs.Room.{Room}
use Rattle.store_laws.specs.Store.{Store}
use Rattle.node_store.specs.Answering.{AnswersKey, answered_number}
use Rattle.node_store.specs.Kept.{NodesKept}
use Rattle.std.proofs.lemmas.Option.{same_Some}
use Rattle.plain_hall.specs.Loading.{passes_of}
use Rattle.plain_hall.specs.PlainSeat.{plain_seat}

-- some stakes are exchanged, and the history is the same
pub exchanged : (old new taken given : List Stake) (seen now : List Entry) (pins : List PinView) → now ≡ seen
    → Exchanges old new taken given
    → ExchangesStakes (plain_seat old seen pins) (plain_seat new now pins) taken given
exchanged old new taken given seen now pins same swap = record {
  stakes = swap;
  entries = record { seen = same; places = ap (λ (es : List Entry). range_with_len 1 (length es)) same };
  pins = refl;
  passes = ap passes_of same;
}

pub interned : (old new : Seat) (t : Tree) (kids : List Stake) (answer : Interned)
    → ExchangesStakes old new kids (stake (answered_number answer) t ∷ []) → StakesNode old new t kids (Ok answer)
interned old new t kids (Known n) swap = swap
interned old new t kids (New n) swap = swap

pub stands_some : (key_at : KeyAt) (n : ℕ) (t : Tree) → Stands key_at n t → IsSome (key_at n)
stands_some key_at n t stands = ap is_some stands.2

-- the key's room answers
pub interns_there : (old new : NodesKept) (key : NodeKey) (answer : Interned)
    → AnswersKey old key (Ok answer) new
    → OfItsRoom old.rooms key (λ r. (after : Room) × Interns r key (Ok answer) after)
interns_there old new key answer answers = (answers.before, answers.there, (answers.after, answers.interns))

-- whether the key was known is told of its room
pub tells_number : (rooms : Store) (key : NodeKey) (answer : Interned)
    → OfItsRoom rooms key (λ r. (after : Room) × Interns r key (Ok answer) after)
    → InternTells (Some rooms) key (Ok answer)
tells_number rooms key (Known n) (r, there, (after, interns)) = (r, there, (interns.0, interns.1))
tells_number rooms key (New n) (r, there, (after, interns)) = (r, there, (interns.0, interns.2))
