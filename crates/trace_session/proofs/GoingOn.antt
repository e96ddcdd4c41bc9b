-- What a hall tells beside the seat goes on while requests are served.
use Rattle.std.proofs.Common.{◌≡◌, ℕ, List, [], ◌∷◌, ◌++◌, Option, None, Some, Ok, Err, option_map}
use Rattle.std.proofs.Common.{option_to_list, refl, sym, ap, ◌∙◌, append_assoc, append-nil}
use Rattle.hall_trait.specs.declared.answers.HallFault.{HallFault}
use Rattle.hall_trait.specs.declared.answers.HallFault.TheVariants as fault
use Rattle.hall_trait.specs.View.{Account, GoesOn, HallView, KeepsSeat, with_account, with_used_up}
use Rattle.hall_trait.specs.View.{with_work}
use Rattle.hall_trait.proofs.Views.{nexts_same, nexts_then}
use Rattle.profile_walk.specs.Walks.{OnlyWalks}
use Rattle.builders.specs.View.{GoesOnBuilding}
use Rattle.trace_session.specs.Load.{refusal_of}
use Rattle.trace_session.specs.Served.{spent_number}
use Rattle.trace_session.specs.Serving.{GoesOnServing, with_numbers}

-- no number, and numbers behind others
numbers_none : (o : Option (List ℕ)) → o ≡ option_map (λ (was : List ℕ). was ++ []) o
numbers_none None = refl
numbers_none (Some l) = ap (λ (is : List ℕ). Some is) (sym (append-nil l))

numbers_then : (o : Option (List ℕ)) (ns ms : List ℕ)
    → option_map (λ (was : List ℕ). was ++ ms) (option_map (λ (was : List ℕ). was ++ ns) o)
    ≡ option_map (λ (was : List ℕ). was ++ (ns ++ ms)) o
numbers_then None ns ms = refl
numbers_then (Some l) ns ms = ap (λ (is : List ℕ). Some is) (append_assoc l ns ms)

-- the account with these numbers, and with what was done by a later one
abbrev told_by : Account → Account → Option (List ℕ) → Account
told_by a later o = record a {
  used_up = o;
  work = later.work;
  missed = later.missed;
  reads = later.reads;
  fills = later.fills;
}

-- nothing happens
pub serving_same : (v : HallView) → GoesOnServing [] v v
serving_same v = record {
  alone = refl;
  account = ap (λ (o : Option (List ℕ)). told_by v.account v.account o) (numbers_none v.account.used_up);
  rooms = nexts_same v.rooms;
  memo = refl;
}

-- two moments in a row
pub serving_then : (a b c : HallView) (ns ms : List ℕ) → GoesOnServing ns a b → GoesOnServing ms b c
    → GoesOnServing (ns ++ ms) a c
serving_then a b c ns ms p q = record {
  alone = q.alone ∙ p.alone;
  account = q.account
      ∙ ap (λ (x : Account). told_by x c.account (with_numbers ms x).used_up) p.account
      ∙ ap (λ (o : Option (List ℕ)). told_by a.account c.account o) (numbers_then a.account.used_up ns ms);
  rooms = nexts_then a.rooms b.rooms c.rooms p.rooms q.rooms;
  memo = refl;
}

-- an account that differs in the numbers, the work and the reads
serving_by : (a b : HallView) (ns : List ℕ) (x : Account) → GoesOn (with_account (λ y. x) a) b
    → told_by x b.account x.used_up ≡ told_by a.account b.account (with_numbers ns a.account).used_up
    → GoesOnServing ns a b
serving_by a b ns x p is = record {
  alone = p.alone;
  account = ap (λ (y : Account). told_by y b.account y.used_up) p.account ∙ is;
  rooms = p.rooms;
  memo = refl;
}

-- the account stays
pub serving_on : (a b : HallView) → GoesOn a b → GoesOnServing [] a b
serving_on a b p = serving_by a b [] a.account p
    (ap (λ (o : Option (List ℕ)). told_by a.account b.account o) (numbers_none a.account.used_up))

-- work was done
pub serving_worked : (a b : HallView) (n : ℕ) → GoesOn (with_account (with_work n) a) b → GoesOnServing [] a b
serving_worked a b n p = serving_by a b [] (with_work n a.account) p
    (ap (λ (o : Option (List ℕ)). told_by a.account b.account o) (numbers_none a.account.used_up))

-- a number was told as used up
pub serving_told : (a b : HallView) (n : ℕ) → GoesOn (with_account (with_used_up n) a) b
    → GoesOnServing (n ∷ []) a b
serving_told a b n p = serving_by a b (n ∷ []) (with_used_up n a.account) p refl

-- nodes were read, and profiles looked up and filled in
pub serving_walked : (a b : HallView) → OnlyWalks a b → GoesOnServing [] a b
serving_walked a b p = record {
  alone = p.alone;
  account = λ i. record {
    used_up = (p.used_up ∙ numbers_none a.account.used_up) i;
    work = b.account.work;
    missed = b.account.missed;
    reads = b.account.reads;
    fills = b.account.fills;
    weight = p.weight i;
  };
  rooms = p.rooms;
  memo = refl;
}

-- a tree was built, or it wasn't
pub serving_built : {X : Type 0} (a b : HallView) (x : X) → GoesOnBuilding (Ok x) a b → GoesOnServing [] a b
serving_built a b x p = serving_by a b [] (record a.account { work = b.account.work }) p
    (ap (λ (o : Option (List ℕ)). told_by a.account b.account o) (numbers_none a.account.used_up))

pub serving_refused : (a b : HallView) (e : HallFault) → GoesOnBuilding {X = ℕ} (Err e) a b
    → GoesOnServing (option_to_list (spent_number (refusal_of e))) a b
serving_refused a b fault.Memory p = serving_by a b [] (record a.account { work = b.account.work }) p
    (ap (λ (o : Option (List ℕ)). told_by a.account b.account o) (numbers_none a.account.used_up))
serving_refused a b (fault.Spent n) p =
    serving_by a b (n ∷ []) (record (with_used_up n a.account) { work = b.account.work }) p refl
serving_refused a b (fault.Full place) p = absurd p

-- whether the seat is alone is the same behind it
pub refused_alone : (a b : HallView) (e : HallFault) → GoesOnBuilding {X = ℕ} (Err e) a b → b.alone ≡ a.alone
refused_alone a b fault.Memory p = p.alone
refused_alone a b (fault.Spent n) p = p.alone
refused_alone a b (fault.Full place) p = absurd p

-- the seat is kept, and a walk follows
pub kept_walks : (a b c : HallView) → KeepsSeat a b → OnlyWalks b c → OnlyWalks a c
kept_walks a b c p q = record {
  seat = q.seat ∙ p.seat;
  alone = q.alone ∙ p.rest.alone;
  rooms = nexts_then a.rooms b.rooms c.rooms p.rest.rooms q.rooms;
  used_up = q.used_up ∙ ap (λ (x : Account). x.used_up) p.rest.account;
  work = q.work ∙ ap (λ (x : Account). x.work) p.rest.account;
  weight = q.weight ∙ ap (λ (x : Account). x.weight) p.rest.account;
}

-- the seat is kept, as by a walk over no node
pub kept_as_walk : (a b : HallView) → KeepsSeat a b → OnlyWalks a b
kept_as_walk a b p = record {
  seat = p.seat;
  alone = p.rest.alone;
  rooms = p.rest.rooms;
  used_up = ap (λ (x : Account). x.used_up) p.rest.account;
  work = ap (λ (x : Account). x.work) p.rest.account;
  weight = ap (λ (x : Account). x.weight) p.rest.account;
}
