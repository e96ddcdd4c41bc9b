use Rattle.std.proofs.Common.{◌≡◌, List, [], ◌∷◌, Vec, Global, Result, Some, slice_get, slice_set, ap}
use Rattle.std.proofs.Common.{subst, sym, ◌∙◌}
use Rattle.node_key.specs.Rooms.{room}
use Rattle.node_key.specs.Stakes.{Exchanges}
use Rattle.node_key.specs.Tree.{Tree}
use Rattle.node_key.specs.declared.stake.Stake.{Stake as Staked}
use Rattle.shard_core.specs.Interning.{Interns}
use Rattle.shard_core.specs.Room.{Room}
use Rattle.shard_core.specs.declared.answers.Interned.{Interned}
use Rattle.shard_core.specs.declared.answers.ShardFault.{ShardFault}
use Rattle.store_laws.specs.Store.{Store}
use Rattle.hall_core.specs.Answering.{AnswersIntern}
use Rattle.hall_core.specs.OneTree.{IsStakedTree}
use Rattle.hall_core.specs.Steps.{number_told, handed_over}
use Rattle.hall_core.specs.declared.events.StepAnswer.{StepAnswer}
use Rattle.hall_core.proofs.KeysEntered.{Enters, entered, interns-in, refuses}
use Rattle.hall_core.proofs.nodes.intern_in.Goals as goal
use Rattle.hall_core.proofs.nodes.intern_in.Goals.{in-Ok-reserve, in-Err}
use Rattle.hall_core.proofs.nodes.intern_in.Goals.{in-Ok-answer, in-Err-answer}

pub returns : goal.returns
returns c =
    let rooms = c.args.rooms.now in
    let mine = c.args.stakes.now in
    let after = c.match-reserve.rooms in
    let key = c.args.key in
    let kept = c.reserve.ensures.items ∙ c.into_vec-list.ensures ∙ c.replace.ensures.value in
    let enters : Enters rooms key c.match-reserve.answer after = elim c.match-reserve.branch [
      | in-Ok-reserve w ↦ entered rooms after key c.match-reserve.answer c.requires.canonic
          (subst
          (λ (q : Store). (before : Room) → slice_get rooms (room key) ≡ Some before
          → (r : Room) × Interns before key c.match-reserve.answer r × (q ≡ slice_set rooms (room key) r))
          (sym w.rooms-is)
          (subst
          (λ (a : Result Interned ShardFault). (before : Room) → slice_get rooms (room key) ≡ Some before
          → (r : Room) × Interns before key a r
          × (w.enter-answer.new.rooms ≡ slice_set rooms (room key) r))
          (sym w.answer-is) w.enter-answer.ensures))
      | in-Err w ↦ subst (λ (a : Result Interned ShardFault). Enters rooms key a after) (sym w.answer-is)
          w.rooms-is
    ] in
    let items = c.match-answer.list.items in
    subst (λ (xs : List Staked). AnswersIntern key c.match-answer.answer rooms mine after xs)
    (sym c.from_vec.ensures) (elim c.match-answer.branch [
      | in-Ok-answer w ↦ (
          let (t, kids, staked) = c.requires.staked in
          let i = w.in-Ok-answer.interned in
          let tree = c.in-Ok.tree in
          let same = c.in-Ok.ensures t kids
          (subst (λ (xs : List Staked). IsStakedTree xs key t kids) (sym c.as_slice.ensures) staked) in
          let own = subst (λ (u : Tree). IsStakedTree mine key u kids) (sym same) staked in
          let given = record { number = number_told i; tree = tree } ∷ [] in
          let swap = subst
          (λ (xs : List Staked). Exchanges xs w.add_interned.new.stakes.items (handed_over i kids) given) kept
          (w.add_interned.ensures kids
          (subst (λ (xs : List Staked). IsStakedTree xs key tree kids) (sym kept) own)) in
          subst (λ (a : StepAnswer). AnswersIntern key a rooms mine after items) (sym w.answer-is)
          (interns-in rooms after key i mine items kids tree
          (subst (λ (a : Result Interned ShardFault). Enters rooms key a after) w.in-Ok-answer.is enters) own
          (subst (λ (v : Vec Staked Global). Exchanges mine v.items (handed_over i kids) given)
          (sym w.list-is) swap)))
      | in-Err-answer w ↦ refuses rooms after key w.in-Err-answer.fault c.match-answer.answer mine items
          (subst (λ (a : Result Interned ShardFault). Enters rooms key a after) w.in-Err-answer.is enters)
          (ap (λ (v : Vec Staked Global). v.items) w.list-is ∙ kept)
          (λ v is. w.answer-is ∙ w.refused-answer.ensures.spent v is)
          (λ is. w.answer-is ∙ w.refused-answer.ensures.memory is)
    ])
