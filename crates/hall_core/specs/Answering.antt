-- What comes of an event in the store's rooms and in the stakes of the seat that makes it, by its answer.
use Rattle.std.specs.Prelude.{◌≡◌, ◌⊎◌, ◌<◌, ◌≤◌, ℕ, List, [], Some}
use Rattle.node_key.specs.Stakes.{IsOverStakes}
use Rattle.node_key.specs.declared.stake.Stake.{Stake}
use Rattle.node_key.specs.declared.key.NodeKey.{NodeKey}
use Rattle.shard_core.specs.Room.{Stored}
use Rattle.store_laws.specs.Store.{Store, node_in}
use Rattle.hall_core.specs.Steps.{DropsIn, InternsIn, Spends}
use Rattle.hall_core.specs.declared.events.StepAnswer.{StepAnswer}
use Rattle.hall_core.specs.declared.events.StepAnswer.TheVariants.{Dropped, Interned, Memory, Spent}

-- neither changes
abbrev pub NothingChanges : Store → List Stake → Store → List Stake → Type 0
NothingChanges rooms mine rooms' mine' = (rooms' ≡ rooms) × (mine' ≡ mine)

-- what a key is answered
abbrev pub AnswersIntern : NodeKey → StepAnswer → Store → List Stake → Store → List Stake → Type 0
AnswersIntern key (Interned i) rooms mine rooms' mine' = InternsIn key i rooms mine rooms' mine'
AnswersIntern key (Spent v) rooms mine rooms' mine' =
    Spends rooms key v × NothingChanges rooms mine rooms' mine'
AnswersIntern key Memory rooms mine rooms' mine' = NothingChanges rooms mine rooms' mine'
AnswersIntern _ _ _ _ _ _ = ⊥

-- what a stake that is given back is answered
abbrev pub AnswersDrop : ℕ → StepAnswer → Store → List Stake → Store → List Stake → Type 0
AnswersDrop n (Dropped d) rooms mine rooms' mine' = DropsIn n d rooms mine rooms' mine'
AnswersDrop n Memory rooms mine rooms' mine' = NothingChanges rooms mine rooms' mine'
AnswersDrop _ _ _ _ _ _ = ⊥

-- the stakes that come free where a stake is given back: those on the kids of its node, if that has the
-- count 1
abbrev pub WouldFree : Store → Stake → List Stake → Type 0
WouldFree rooms x kids = (s : Stored) × (node_in rooms x.number ≡ Some s)
    × (((1 < s.count) × (kids ≡ [])) ⊎ ((s.count ≤ 1) × IsOverStakes x.tree kids s.key))
