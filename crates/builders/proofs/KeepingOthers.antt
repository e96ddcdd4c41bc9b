-- Exchanges of stakes, one after the other, and what is reached by the stakes that aren't taken.
use Rattle.std.proofs.Common.{Contains, List, [], ◌++◌, Result, Ok, Err, sym, subst, arith}
use Rattle.trace_base.specs.declared.stream.Event.{Event}
use Rattle.node_key.specs.Stakes.{HasStakes}
use Rattle.node_key.specs.declared.stake.Stake.{Stake}
use Rattle.store_laws.proofs.SumsOfStakes.{there_from_times, times_from_there}
use Rattle.hall_history.specs.Seat.{ExchangesStakes, Seat}
use Rattle.hall_history.specs.declared.seat.PinView.{PinView}
use Rattle.hall_trait.specs.Reach.{FromPin, FromStake, HasSource, KeepsReach, Reaching, Source}
use Rattle.hall_trait.specs.declared.answers.HallFault.{HallFault}
use Rattle.builders.specs.Beside.{HasBeside, KeepsOthers}
use Rattle.builders.specs.Built.{stakes_held}
use Rattle.builders.specs.Calls.{PassesOn, StoredCall, calls_stakes}
use Rattle.builders.specs.declared.built.OpenCall.{OpenCall}
use Rattle.builders.proofs.Bags.{has-last}

-- ---- stakes and pins beside those that are taken

-- behind an exchange they stand beside what was given
beside_then : (old new : Seat) (xs ys : List Stake) (by_what : Source) → ExchangesStakes old new xs ys
    → HasBeside old xs by_what → HasBeside new ys by_what
beside_then old new xs ys (FromStake x) e h = omega (arith, e.stakes x, h)
beside_then old new xs ys (FromPin p) e h =
    subst (λ (ps : List PinView). Contains ps p) (sym e.pins) h

-- and beside fewer
beside_few : (seat : Seat) (xs ys : List Stake) (by_what : Source) → HasStakes xs ys
    → HasBeside seat xs by_what → HasBeside seat ys by_what
beside_few seat xs ys (FromStake x) few h = omega (arith, few x, h)
beside_few seat xs ys (FromPin p) few h = h

beside_there : (seat : Seat) (xs : List Stake) (by_what : Source) → HasBeside seat xs by_what
    → HasSource seat by_what
beside_there seat xs (FromStake x) h = there_from_times x seat.stakes (omega (arith, h))
beside_there seat xs (FromPin p) h = h

beside_none : (seat : Seat) (by_what : Source) → HasSource seat by_what → HasBeside seat [] by_what
beside_none seat (FromStake x) h = omega (arith, times_from_there x seat.stakes h)
beside_none seat (FromPin p) h = h

-- what is there behind a release was there before
there_before : (old new : Seat) (xs : List Stake) (by_what : Source) → ExchangesStakes old new xs []
    → HasSource new by_what → HasSource old by_what
there_before old new xs (FromStake x) e h =
    there_from_times x old.stakes (omega (arith, e.stakes x, times_from_there x new.stakes h))
there_before old new xs (FromPin p) e h = subst (λ (ps : List PinView). Contains ps p) e.pins h

-- ---- what is reached by them

pub others_then : (old mid : Seat) (xs ys : List Stake) (a b c : Reaching) → ExchangesStakes old mid xs ys
    → KeepsOthers old xs a b → KeepsOthers mid ys b c → KeepsOthers old xs a c
others_then old mid xs ys a b c e first second by_what n t h r =
    second by_what n t (beside_then old mid xs ys by_what e h) (first by_what n t h r)

-- the later moment keeps what all stakes and pins reach that are there then
pub others_more : (old new : Seat) (xs ys : List Stake) (a b c : Reaching) → ExchangesStakes old new xs ys
    → KeepsOthers old xs a b → KeepsReach new b c → KeepsOthers old xs a c
others_more old new xs ys a b c e first second by_what n t h r =
    second by_what n t (beside_there new ys by_what (beside_then old new xs ys by_what e h))
    (first by_what n t h r)

pub others_few : (seat : Seat) (xs ys : List Stake) (a b : Reaching) → HasStakes xs ys
    → KeepsOthers seat ys a b → KeepsOthers seat xs a b
others_few seat xs ys a b few keeps by_what n t h r =
    keeps by_what n t (beside_few seat xs ys by_what few h) r

-- some of the stakes at the end
pub others_last : (seat : Seat) (before xs : List Stake) (a b : Reaching) → KeepsOthers seat xs a b
    → KeepsOthers seat (before ++ xs) a b
others_last seat before xs a b keeps =
    others_few seat (before ++ xs) xs a b (has-last (before ++ xs) before xs (λ x. omega arith)) keeps

-- stakes are given back
pub reach_released : (mid new : Seat) (xs : List Stake) (a b c : Reaching) → ExchangesStakes mid new xs []
    → KeepsReach mid a b → KeepsReach new b c → KeepsReach new a c
reach_released mid new xs a b c e first second by_what n t h r =
    second by_what n t h (first by_what n t (there_before mid new xs by_what e h) r)

-- ---- the stakes that the seat had at first stand beside all that is built

pub reach_beside : (old now : Seat) (ys : List Stake) (a b c : Reaching) → ExchangesStakes old now [] ys
    → KeepsReach old a b → KeepsOthers now ys b c → KeepsReach old a c
reach_beside old now ys a b c e first second by_what n t h r =
    second by_what n t (beside_then old now [] ys by_what e (beside_none old by_what h))
    (first by_what n t h r)

pub reach_at_end : (old new : Seat) (ys : List Stake) (a b c : Reaching) → ExchangesStakes old new [] ys
    → KeepsReach old a b → KeepsReach new b c → KeepsReach old a c
reach_at_end old new ys a b c e first second by_what n t h r =
    second by_what n t
    (beside_there new ys by_what (beside_then old new [] ys by_what e (beside_none old by_what h)))
    (first by_what n t h r)

-- ---- open calls that an event is passed to

pub others_passed : (old new : Seat) (calls : List StoredCall) (call : StoredCall) (event : Event)
    (around : List OpenCall) (answer : Result OpenCall HallFault) (a b c : Reaching)
    → PassesOn old new calls call event around answer
    → KeepsOthers old (calls_stakes calls ++ stakes_held call.stored) a b → KeepsReach new b c
    → KeepsOthers old (calls_stakes calls ++ stakes_held call.stored) a c
others_passed old new calls call event around (Ok now) a b c p first second =
    others_more old new (calls_stakes calls ++ stakes_held call.stored)
    (calls_stakes p.0 ++ stakes_held p.1.stored) a b c p.5 first second
others_passed old new calls call event around (Err e) a b c p first second =
    others_more old new (calls_stakes calls ++ stakes_held call.stored) (calls_stakes p.0) a b c p.2 first
    second
