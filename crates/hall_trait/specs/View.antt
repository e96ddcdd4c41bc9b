-- The view of a hall: what it tells to one of its seats. What a hall doesn't tell is none in its view.
use Rattle.std.specs.Prelude.{◌≡◌, ℕ, ◌+◌, ◌≤◌, Bool, List, [], ◌∷◌, ◌++◌, Option, None}
use Rattle.std.specs.List.{AllZip}
use Rattle.std.specs.Option.{option_map}
use Rattle.trace_base.specs.Outside.{Told}
use Rattle.hall_history.specs.Seat.{Seat}
use Rattle.shard_core.specs.Room.{Room}
use Rattle.whole_profiles.specs.declared.entry.Entry.{Entry}
use Rattle.whole_profiles.specs.declared.memo_kind.MemoKind.{MemoKind}

-- What the calls of this seat came to: the numbers that it was told as used up, in order; how many nodes it
-- interned and entries it made or has promised; how often a look found nothing; how many nodes it read; how
-- many profiles it filled in; and what the seat weighs.
pub record Account : Type 0 where
  pub used_up : Option (List ℕ)
  pub work : Option ℕ
  pub missed : Option ℕ
  pub reads : Option ℕ
  pub fills : Option ℕ
  pub weight : Option ℕ

-- nothing is told of the calls
abbrev pub no_account : Account
no_account = record {
  used_up = None;
  work = None;
  missed = None;
  reads = None;
  fills = None;
  weight = None;
}

-- the profiles that are kept, by number and kind
abbrev pub KeptProfiles : Type 0
KeptProfiles = ℕ → MemoKind → Option Entry

-- The seat; whether no other seat acts in this hall, so that what the seat has seen is the whole history;
-- what its calls came to; the rooms of the store; and the profiles that the memo keeps.
pub record HallView : Type 0 where
  pub seat : Seat
  pub alone : Bool
  pub account : Account
  pub rooms : Option (List Room)
  pub memo : Option KeptProfiles

-- ---- from one moment to the next

-- where the hall tells the rooms of its store, none of them goes back with its numbers
abbrev pub NextsRise : Option (List Room) → Option (List Room) → Type 0
NextsRise old new = Told old new (AllZip (λ was now. was.next ≤ now.next))

-- All but the seat goes on: it is as it was, and the rooms of the store give further numbers.
pub record GoesOn (from to : HallView) : Type 0 where
  pub alone : to.alone ≡ from.alone
  pub account : to.account ≡ from.account
  pub rooms : NextsRise from.rooms to.rooms
  pub memo : to.memo ≡ from.memo

-- the seat stays, too
pub record KeepsSeat (from to : HallView) : Type 0 where
  pub seat : to.seat ≡ from.seat
  pub rest : GoesOn from to

-- ---- what calls make of a view

-- the view with another account
abbrev pub with_account : (Account → Account) → HallView → HallView
with_account f v = record v { account = f v.account }

-- the view with these profiles kept
abbrev pub with_memo : Option KeptProfiles → HallView → HallView
with_memo kept v = record v { memo = kept }

-- one more number was told as used up
abbrev pub with_used_up : ℕ → Account → Account
with_used_up p a = record a { used_up = option_map (λ (was : List ℕ). was ++ p ∷ []) a.used_up }

-- so much more was done
abbrev pub with_work : ℕ → Account → Account
with_work n a = record a { work = option_map (λ was. was + n) a.work }

-- one more look found nothing
abbrev pub with_missed : Account → Account
with_missed a = record a { missed = option_map (λ was. was + 1) a.missed }

-- one more node was read
abbrev pub with_read : Account → Account
with_read a = record a { reads = option_map (λ was. was + 1) a.reads }

-- one more profile was filled in
abbrev pub with_fill : Account → Account
with_fill a = record a { fills = option_map (λ was. was + 1) a.fills }
