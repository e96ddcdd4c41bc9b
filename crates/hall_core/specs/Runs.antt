-- Events that are made one after the other, each by its seat.
use Rattle.std.specs.Prelude.{◌≡◌, ◌≢◌, ◌<◌, ℕ, List, [], ◌∷◌, Some, Result, Ok, Err, length, slice_get, take}
use Rattle.hall_core.specs.Allowed.{Allows}
use Rattle.hall_core.specs.Steps.{IsStep}
use Rattle.hall_core.specs.declared.events.HallEvent.{HallEvent}
use Rattle.hall_core.specs.declared.events.RunFault.{RunFault}
use Rattle.hall_core.specs.declared.events.RunFault.TheVariants as fault
use Rattle.hall_core.specs.declared.events.StepAnswer.{StepAnswer}
use Rattle.hall_core.specs.declared.events.StepAnswer.TheVariants as answer
use Rattle.hall_core.specs.declared.world.World.{World}

-- Each event is allowed where it is made, and has its answer, which isn't that no memory was found.
abbrev pub AreDone : World → List (ℕ × HallEvent) → List StepAnswer → World → Type 0
AreDone old [] [] new = new ≡ old
AreDone old ((actor, e) ∷ more) (a ∷ answers) new = Allows old actor e × (a ≢ answer.Memory)
    × (next : World) × IsStep old actor e a next × AreDone next more answers new
AreDone _ _ _ _ = ⊥

-- so many of the events are done, and no more
abbrev pub AreDoneTo : ℕ → World → List (ℕ × HallEvent) → World → Type 0
AreDoneTo i old list new = (i < length list) × (answers : List StepAnswer)
    × AreDone old (take i list) answers new

-- What a run answers. All events are done; or those before the first that its seat may not make; or those
-- before one for which no memory was found.
abbrev pub RunsIn : World → List (ℕ × HallEvent) → Result (List StepAnswer) RunFault → World → Type 0
RunsIn old list (Ok answers) new = AreDone old list answers new
RunsIn old list (Err (fault.NotAllowed i)) new = AreDoneTo i old list new × (actor : ℕ) × (e : HallEvent)
    × (slice_get list i ≡ Some (actor, e)) × (¬ Allows new actor e)
RunsIn old list (Err (fault.Memory i)) new = AreDoneTo i old list new
