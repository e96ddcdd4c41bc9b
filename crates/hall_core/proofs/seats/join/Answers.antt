use Rattle.std.proofs.Common.{◌≡◌, ◌<◌, ◌∙◌, sym, ap, set, subst}
use Rattle.hall_core.proofs.SeatsJoined.{other-ended, other-within, with_end}
use Rattle.hall_core.proofs.seats.join.Goals as goal
use Rattle.hall_core.proofs.seats.join.Goals.{then-move_stakes, else-move_stakes}

pub index_mut-requires : goal.index_mut-requires
index_mut-requires c =
    subst (λ n. c.args.other < n) (sym c.move_stakes.new.seats.ok.0)
    (other-within c.args.w.now c.args.actor c.args.other c.requires.allowed c.into_vec-seats.result.items
    c.move_stakes.new.seats.items (c.into_vec-seats.ensures ∙ c.replace.ensures.value)
    (λ a b at at'. c.move_stakes.ensures.moved a b at at' c.if-move_stakes.true))

pub returns : goal.returns
returns c = elim c.if-move_stakes.branch [
  | then-move_stakes w ↦
      let now : c.from_vec.result
      ≡ set c.move_stakes.new.seats.items c.args.other (with_end w.index_mut.result.now) =
      c.from_vec.ensures ∙ ap (λ v. v.items) w.seats-is in
      rw (w.answer-is, now)
      (other-ended c.args.w.now c.args.actor c.args.other c.requires.allowed c.into_vec-seats.result.items
      c.move_stakes.new.seats.items (c.into_vec-seats.ensures ∙ c.replace.ensures.value)
      (λ a b at at'. c.move_stakes.ensures.moved a b at at' w.if-move_stakes.true) c.requires.good
      w.index_mut.result.now w.index_mut.ensures.value)
  | else-move_stakes w ↦
      rw w.answer-is
      (ap (λ xs. record c.args.w.now { seats = xs }) (c.from_vec.ensures ∙ ap (λ v. v.items) w.seats-is
      ∙ c.move_stakes.ensures.same w.if-move_stakes.false ∙ c.into_vec-seats.ensures
      ∙ c.replace.ensures.value))
]
