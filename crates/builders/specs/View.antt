-- What a builder makes of all that a hall tells beside the seat. What it does as work is told apart.
use Rattle.std.specs.Prelude.{Result, Ok, Err}
use Rattle.hall_trait.specs.View.{GoesOn, HallView, with_account, with_used_up}
use Rattle.hall_trait.specs.declared.answers.HallFault.{HallFault}
use Rattle.hall_trait.specs.declared.answers.HallFault.TheVariants as fault

-- all but the seat and the work goes on
abbrev pub GoesOnWorking : HallView → HallView → Type 0
GoesOnWorking from to = GoesOn (with_account (λ a. record a { work = to.account.work }) from) to

-- And a number that is used up is told as such. It isn't told that too many traces are open.
abbrev pub GoesOnBuilding : {X : Type 0} → Result X HallFault → HallView → HallView → Type 0
GoesOnBuilding (Ok x) from to = GoesOnWorking from to
GoesOnBuilding (Err (fault.Spent v)) from to = GoesOnWorking (with_account (with_used_up v) from) to
GoesOnBuilding (Err fault.Memory) from to = GoesOnWorking from to
GoesOnBuilding (Err (fault.Full place)) from to = ⊥
