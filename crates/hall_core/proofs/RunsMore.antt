-- Events that are done, with one more.
use Rattle.std.proofs.Common.{◌≡◌, ◌≢◌, ℕ, ◌+◌, List, [], ◌∷◌, ◌++◌, Some, refl, sym, ap, ◌∙◌, subst}
use Rattle.std.proofs.Common.{take, slice_get}
use Rattle.std.proofs.lemmas.List.{take_more}
use Rattle.std.proofs.lemmas.Option.{get_or_from_slice_get, slice_get_within}
use Rattle.hall_core.specs.Allowed.{Allows}
use Rattle.hall_core.specs.Runs.{AreDone}
use Rattle.hall_core.specs.Steps.{IsStep}
use Rattle.hall_core.specs.World.{IsGood}
use Rattle.hall_core.specs.declared.events.HallEvent.{HallEvent}
use Rattle.hall_core.specs.declared.events.StepAnswer.{StepAnswer}
use Rattle.hall_core.specs.declared.events.StepAnswer.TheVariants as answer
use Rattle.hall_core.specs.declared.world.World.{World}

-- after the events of a front one more is done
pub done-more : (front : List (ℕ × HallEvent)) (answers : List StepAnswer) (old mid new : World) (actor : ℕ)
    (e : HallEvent) (a : StepAnswer) → AreDone old front answers mid → Allows mid actor e → a ≢ answer.Memory
    → IsStep mid actor e a new → AreDone old (front ++ (actor, e) ∷ []) (answers ++ a ∷ []) new
done-more [] [] old mid new actor e a done may found is = (
  subst (λ (w : World). Allows w actor e) done may,
  found,
  new,
  subst (λ (w : World). IsStep w actor e a new) done is,
  refl,
)
done-more ((actor', e') ∷ front) (b ∷ answers) old mid new actor e a done may found is =
    (done.0, done.1, done.2, done.3, done-more front answers done.2 mid new actor e a done.4 may found is)
done-more [] (b ∷ answers) old mid new actor e a done may found is = absurd done
done-more ((actor', e') ∷ front) [] old mid new actor e a done may found is = absurd done

-- where the first i events are done, the next one more
pub taken-more : (list : List (ℕ × HallEvent)) (i : ℕ) (answers : List StepAnswer) (old mid new : World)
    (actor : ℕ) (e : HallEvent) (a : StepAnswer) → slice_get list i ≡ Some (actor, e)
    → AreDone old (take i list) answers mid → Allows mid actor e → a ≢ answer.Memory
    → IsStep mid actor e a new
    → AreDone old (take (i + 1) list) (answers ++ a ∷ []) new
taken-more list i answers old mid new actor e a at done may found is =
    subst (λ front. AreDone old front (answers ++ a ∷ []) new)
    (sym (take_more list i (actor, e) (slice_get_within list i (actor, e) at)
    ∙ ap (λ x. take i list ++ x ∷ []) (get_or_from_slice_get list i (actor, e) (actor, e) at)))
    (done-more (take i list) answers old mid new actor e a done may found is)

-- the first i events of a list are done, in a world that is still good
pub record RunsSoFar (old : World) (list : List (ℕ × HallEvent)) (i : ℕ) (answers : List StepAnswer)
    (now : World) : Type 0 where
  pub done : AreDone old (take i list) answers now
  pub good : IsGood now

-- one more
pub runs-more : (list : List (ℕ × HallEvent)) (i : ℕ) (answers : List StepAnswer) (old mid new : World)
    (actor : ℕ) (e : HallEvent) (a : StepAnswer) → RunsSoFar old list i answers mid
    → slice_get list i ≡ Some (actor, e) → Allows mid actor e → a ≢ answer.Memory → IsStep mid actor e a new
    → IsGood new → RunsSoFar old list (i + 1) (answers ++ a ∷ []) new
runs-more list i answers old mid new actor e a so_far at may found is good = record {
  done = taken-more list i answers old mid new actor e a at so_far.done may found is;
  good = good;
}
