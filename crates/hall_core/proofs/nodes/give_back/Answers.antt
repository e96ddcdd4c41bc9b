use Rattle.std.proofs.Common.{◌≡◌, Contains, subst, ◌∙◌}
use Rattle.list_lemmas.proofs.Positions.{read_is}
use Rattle.node_key.specs.declared.stake.Stake.{Stake as Staked}
use Rattle.hall_core.specs.declared.world.SeatView.{SeatView}
use Rattle.hall_core.specs.declared.world.World.{World}
use Rattle.hall_core.proofs.GoodWorlds.{good-one, good-stands}
use Rattle.hall_core.proofs.StoreSteps.{drop-step, lent-acts, put-back}
use Rattle.hall_core.proofs.nodes.give_back.Goals as goal

pub give_back_in-answer-requires-clause-one : goal.give_back_in-answer-requires-clause-one
give_back_in-answer-requires-clause-one c =
    let (seat, acts, may) = c.requires.allowed in
    let acting = lent-acts c.args.w.now c.args.actor seat c.index_mut.result.now c.into_vec-seats.result.items
    acts (c.into_vec-seats.ensures ∙ c.replace.ensures.value) c.index_mut.ensures.value in
    good-one c.args.w.now c.args.actor c.index_mut.result.now c.requires.good acting.there

pub give_back_in-answer-requires-clause-store : goal.give_back_in-answer-requires-clause-store
give_back_in-answer-requires-clause-store c =
    let (seat, acts, may) = c.requires.allowed in
    let acting = lent-acts c.args.w.now c.args.actor seat c.index_mut.result.now c.into_vec-seats.result.items
    acts (c.into_vec-seats.ensures ∙ c.replace.ensures.value) c.index_mut.ensures.value in
    good-stands c.args.w.now c.args.actor c.index_mut.result.now c.requires.good acting.there

pub give_back_in-answer-requires-clause-there : goal.give_back_in-answer-requires-clause-there
give_back_in-answer-requires-clause-there c =
    let (seat, acts, may) = c.requires.allowed in
    subst (λ (s : SeatView). (x : Staked) × Contains s.stakes x × (x.number ≡ c.args.n))
    (read_is c.args.w.now.seats c.into_vec-seats.result.items c.args.actor seat c.index_mut.result.now
    acts.there (c.into_vec-seats.ensures ∙ c.replace.ensures.value) c.index_mut.ensures.value)
    may

pub returns : goal.returns
returns c =
    let w : World = c.args.w.now in
    let lent : SeatView = c.index_mut.result.now in
    let (seat, acts, may) = c.requires.allowed in
    let rooms = c.give_back_in-answer.new.rooms in
    let stakes = c.give_back_in-answer.new.stakes in
    let kept = c.into_vec-seats.ensures ∙ c.replace.ensures.value in
    let acting = lent-acts w c.args.actor seat lent c.into_vec-seats.result.items acts kept
    c.index_mut.ensures.value in
    drop-step w _ c.args.actor lent c.args.n c.give_back_in-answer.result rooms stakes acting
    c.give_back_in-answer.ensures
    (put-back w c.args.actor lent rooms stakes c.into_vec-seats.result.items c.from_vec.result kept
    c.from_vec.ensures)
