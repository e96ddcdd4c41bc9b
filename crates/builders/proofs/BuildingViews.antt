-- What a hall tells beside the seat goes on while trees are built.
use Rattle.std.proofs.Common.{◌≡◌, ℕ, ◌+◌, List, Option, None, Some, Result, Ok, Err, option_map, refl}
use Rattle.std.proofs.Common.{sym, ap, subst, ◌∙◌}
use Rattle.shard_core.specs.declared.answers.Interned.{Interned}
use Rattle.node_key.specs.Tree.{Tree}
use Rattle.node_key.specs.declared.stake.Stake.{Stake}
use Rattle.hall_trait.specs.Nodes.{StakesNode, after_intern}
use Rattle.hall_trait.specs.View.{Account, GoesOn, HallView, with_account, with_used_up, with_work}
use Rattle.hall_trait.specs.declared.answers.HallFault.{HallFault}
use Rattle.hall_trait.specs.declared.answers.HallFault.TheVariants as fault
use Rattle.hall_trait.proofs.Views.{goes_on_same, nexts_then}
use Rattle.builders.specs.Builds.{AddsWork}
use Rattle.builders.specs.View.{GoesOnBuilding, GoesOnWorking}

-- an account with the work of a later one
working : Account → Account → Account
working a b = record a { work = b.work }

-- nothing happens
pub working_same : (v : HallView) → GoesOnWorking v v
working_same v = goes_on_same v

-- no work is done
pub working_none : (a b : HallView) → GoesOn a b → GoesOnWorking a b
working_none a b p = record {
  alone = p.alone;
  account = p.account ∙ ap (λ (w : Option ℕ). let x : Account = record a.account { work = w } in x)
      (sym (ap (λ (x : Account). x.work) p.account));
  rooms = p.rooms;
  memo = p.memo;
}

-- two moments in a row
pub working_then : (a b c : HallView) → GoesOnWorking a b → GoesOnWorking b c → GoesOnWorking a c
working_then a b c p q = record {
  alone = q.alone ∙ p.alone;
  account = q.account
      ∙ ap (λ (x : Account). let y : Account = record x { work = c.account.work } in y) p.account;
  rooms = nexts_then a.rooms b.rooms c.rooms p.rooms q.rooms;
  memo = q.memo ∙ p.memo;
}

used_up_then : (a b c : HallView) (v : ℕ) → GoesOnWorking a b
    → GoesOnWorking (with_account (with_used_up v) b) c → GoesOnWorking (with_account (with_used_up v) a) c
used_up_then a b c v p q = record {
  alone = q.alone ∙ p.alone;
  account = q.account
      ∙ ap (λ (x : Account). let y : Account = record (with_used_up v x) { work = c.account.work } in y)
      p.account;
  rooms = nexts_then a.rooms b.rooms c.rooms p.rooms q.rooms;
  memo = q.memo ∙ p.memo;
}

-- what goes on before a builder's answer
pub building_then : {X : Type 0} (a b c : HallView) (answer : Result X HallFault) → GoesOnWorking a b
    → GoesOnBuilding answer b c → GoesOnBuilding answer a c
building_then a b c (Ok x) p q = working_then a b c p q
building_then a b c (Err (fault.Spent v)) p q = used_up_then a b c v p q
building_then a b c (Err fault.Memory) p q = working_then a b c p q
building_then a b c (Err (fault.Full place)) p q = q

-- stakes are given back behind a fault
pub refused_then : (a b c : HallView) (e : HallFault) → GoesOnBuilding {X = ℕ} (Err e) a b → GoesOn b c
    → GoesOnBuilding {X = ℕ} (Err e) a c
refused_then a b c (fault.Spent v) p q =
    working_then (with_account (with_used_up v) a) b c p (working_none b c q)
refused_then a b c fault.Memory p q = working_then a b c p (working_none b c q)
refused_then a b c (fault.Full place) p q = p

-- ---- a node is interned

pub interned_goes_on : (a b : HallView) (interned : Interned)
    → GoesOn (with_account (after_intern (Ok interned)) a) b → GoesOnWorking a b
interned_goes_on a b interned p = working_none (with_account (with_work 1) a) b p

pub refused_goes_on : (a b : HallView) (t : Tree) (kids : List Stake) (e : HallFault)
    → StakesNode a.seat b.seat t kids (Err e) → GoesOn (with_account (after_intern (Err e)) a) b
    → GoesOnBuilding {X = ℕ} (Err e) a b
refused_goes_on a b t kids (fault.Spent v) answer p = working_none (with_account (with_used_up v) a) b p
refused_goes_on a b t kids fault.Memory answer p = working_none a b p
refused_goes_on a b t kids (fault.Full place) answer p = answer

one_more : (o : Option ℕ) → AddsWork o (option_map (λ was. was + 1) o) 1
one_more None = tt
one_more (Some n) = refl

-- it counts as one where the hall counts
pub interned_work : (a b : HallView) (interned : Interned)
    → GoesOn (with_account (after_intern (Ok interned)) a) b → AddsWork a.account.work b.account.work 1
interned_work a b interned p =
    subst (λ (o : Option ℕ). AddsWork a.account.work o 1) (sym (ap (λ (x : Account). x.work) p.account))
    (one_more a.account.work)

pub refused_work : (a b : HallView) (e : HallFault) → GoesOn (with_account (after_intern (Err e)) a) b
    → b.account.work ≡ a.account.work
refused_work a b (fault.Spent v) p = ap (λ (x : Account). x.work) p.account
refused_work a b fault.Memory p = ap (λ (x : Account). x.work) p.account
refused_work a b (fault.Full place) p = ap (λ (x : Account). x.work) p.account
