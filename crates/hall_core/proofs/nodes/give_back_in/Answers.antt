use Rattle.std.proofs.Common.{◌≡◌, ◌%◌, ℕ, List, [], ◌∷◌, Vec, Global, Contains, Some, slice_get, slice_set}
use Rattle.std.proofs.Common.{IsSome, ap, refl, subst, sym, ◌∙◌}
use Rattle.node_key.specs.Stakes.{Exchanges}
use Rattle.node_key.specs.Stands.{Stands}
use Rattle.node_key.specs.declared.limits.TheConstants.{STORE_ROOMS}
use Rattle.node_key.specs.declared.stake.Stake.{Stake as Staked}
use Rattle.shard_core.specs.Interning.{Drops}
use Rattle.shard_core.specs.Room.{Room}
use Rattle.store_laws.specs.Store.{Store, key_in}
use Rattle.hall_core.specs.Answering.{AnswersDrop, WouldFree}
use Rattle.hall_core.specs.declared.events.StepAnswer.{StepAnswer}
use Rattle.hall_core.proofs.StakesGivenBack.{drops-in, node-of}
use Rattle.hall_core.proofs.nodes.give_back_in.Goals as goal
use Rattle.hall_core.proofs.nodes.give_back_in.Goals.{in-Ok-reserve, in-Err}

pub freed-requires-clause-store : goal.freed-requires-clause-store
freed-requires-clause-store c x has =
    subst (λ (rooms : Store). Stands (key_in rooms) x.number x.tree) (sym c.as_slice.ensures)
    (c.requires.store x (subst (λ (xs : List Staked). Contains xs x) c.as_slice-2.ensures has))

pub lower-requires : goal.lower-requires
lower-requires c =
    let (x, has, on) = c.requires.there in
    let node = node-of c.args.rooms.now c.args.n x.tree
    (subst (λ (m : ℕ). Stands (key_in c.args.rooms.now) m x.tree) on (c.requires.store x has)) in
    subst IsSome (sym node.there) refl

pub returns : goal.returns
returns c =
    let rooms = c.args.rooms.now in
    let mine = c.args.stakes.now in
    let after = c.match-reserve.rooms in
    let kept = c.reserve.ensures.items ∙ c.into_vec-list.ensures ∙ c.replace.ensures.value in
    elim c.match-reserve.branch [
      | in-Ok-reserve w ↦ (
          let (x, has, on) = c.requires.there in
          let free = subst (λ (q : Store). WouldFree q x c.in-Ok.kids.items) c.as_slice.ensures
          (c.in-Ok.ensures x (subst (λ (xs : List Staked). Contains xs x) (sym c.as_slice-2.ensures) has)
          on) in
          let list = c.from_vec.ensures ∙ ap (λ (v : Vec Staked Global). v.items) w.list-is in
          let swap = subst
          (λ (xs : List Staked). Exchanges xs w.exchange.new.stakes.items (x ∷ []) c.in-Ok.kids.items) kept
          (w.exchange.ensures x (subst (λ (xs : List Staked). Contains xs x) (sym kept) has) on) in
          subst (λ (a : StepAnswer). AnswersDrop c.args.n a rooms mine after c.from_vec.result)
          (sym w.answer-is)
          (drops-in c.args.n w.lower.result rooms after mine c.from_vec.result c.in-Ok.kids.items x
          c.requires.canonic has on free
          (subst
          (λ (q : Store). (before : Room) → slice_get rooms (c.args.n % STORE_ROOMS) ≡ Some before
          → (r : Room) × Drops before c.args.n w.lower.result r
          × (q ≡ slice_set rooms (c.args.n % STORE_ROOMS) r)) (sym w.rooms-is) w.lower.ensures)
          (subst (λ (xs : List Staked). Exchanges mine xs (x ∷ []) c.in-Ok.kids.items) (sym list) swap)))
      | in-Err w ↦ subst
          (λ (a : StepAnswer). AnswersDrop c.args.n a rooms mine after c.from_vec.result) (sym w.answer-is)
          (w.rooms-is, c.from_vec.ensures ∙ ap (λ (v : Vec Staked Global). v.items) w.list-is ∙ kept)
    ]
