-- What a walk over nodes does to a hall.
use Rattle.std.specs.Prelude.{◌≡◌, ◌≤◌, ℕ, ◌+◌, Option, None, Some, Result, Ok, Err}
use Rattle.hall_trait.specs.View.{Account, HallView, NextsRise, with_missed}
use Rattle.node_key.specs.Tree.{Tree}
use Rattle.profile_walk.specs.Crossing.{crossings_below}
use Rattle.profile_walk.specs.Summed.{first}
use Rattle.profile_walk.specs.declared.place.Place.{Place}
use Rattle.trace_base.specs.Outside.{Told}
use Rattle.trace_base.specs.declared.memory.Memory.{Memory}

-- nodes are read, and profiles of whole nodes are looked up and filled in; all else, the seat too, stays or
-- goes on
pub record OnlyWalks (from to : HallView) : Type 0 where
  pub seat : to.seat ≡ from.seat
  pub alone : to.alone ≡ from.alone
  pub rooms : NextsRise from.rooms to.rooms
  pub used_up : to.account.used_up ≡ from.account.used_up
  pub work : to.account.work ≡ from.account.work
  pub weight : to.account.weight ≡ from.account.weight

-- where the hall tells how many nodes were read and how many looks found nothing, so many nodes were read
-- beside those that weren't found, at most
abbrev pub ReadsBeside : Account → Account → ℕ → Type 0
ReadsBeside from to n = Told from.reads to.reads (λ (was now : ℕ).
    Told from.missed to.missed (λ (missed misses : ℕ). now + missed ≤ was + misses + n))

-- where the hall tells them, so many more profiles were filled in than looks found nothing
abbrev pub FillsBeside : Account → Account → ℕ → Type 0
FillsBeside from to n = Told from.fills to.fills (λ (was now : ℕ).
    Told from.missed to.missed (λ (missed misses : ℕ). now + missed ≡ was + misses + n))

-- what the calls came to after a look: one that found nothing counts
abbrev pub after_look : {X : Type 0} → Result (Option X) Memory → Account → Account
after_look (Ok (Some x)) a = a
after_look (Ok None) a = with_missed a
after_look (Err e) a = a

-- where the hall tells them, so many nodes were read beside those that weren't found, at most, as the second
-- count is greater than the first
abbrev pub ReadsBetween : Account → Account → ℕ → ℕ → Type 0
ReadsBetween from to c d = Told from.reads to.reads (λ (was now : ℕ).
    Told from.missed to.missed (λ (missed misses : ℕ). now + missed + c ≤ was + misses + d))

-- Where the walk over a node has come to, so many nodes were read as lie across an end of the interval, of
-- the
-- kids passed on Ok, and of all kids else, and below them; and so many more, at most.
abbrev pub ReadsAcross : Account → Account → (a b at : ℕ) → Tree → Place → Result Place Memory → ℕ → Type 0
ReadsAcross from to a b at t place (Ok next) n =
    ReadsBetween from to (crossings_below a b at (first place.index t.kids))
    (crossings_below a b at (first next.index t.kids) + n)
ReadsAcross from to a b at t place (Err e) n =
    ReadsBetween from to (crossings_below a b at (first place.index t.kids)) (crossings_below a b at t.kids +
    n)
