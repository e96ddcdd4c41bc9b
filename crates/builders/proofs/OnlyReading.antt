-- Reading nodes one after the other: the seat stays, and what is reached stays reached.
use Rattle.std.proofs.Common.{◌≡◌, ℕ, Option, sym, ap, subst, ◌∙◌}
use Rattle.hall_history.specs.Seat.{Seat}
use Rattle.hall_trait.specs.Reach.{HasSource, KeepsReach, Reaching, Source}
use Rattle.hall_trait.specs.View.{Account, HallView, KeepsSeat, with_account, with_read}
use Rattle.hall_trait.proofs.Views.{keeps_seat_same, nexts_then}
use Rattle.builders.specs.Reads.{OnlyReads}

-- nothing happens
pub reads_same : (v : HallView) → OnlyReads v v
reads_same v = keeps_seat_same v

-- nothing is read
pub reads_none : (a b : HallView) → KeepsSeat a b → OnlyReads a b
reads_none a b p = record {
  seat = p.seat;
  rest = record {
    alone = p.rest.alone;
    account = p.rest.account ∙ ap (λ (r : Option ℕ). let x : Account = record a.account { reads = r } in x)
        (sym (ap (λ (x : Account). x.reads) p.rest.account));
    rooms = p.rest.rooms;
    memo = p.rest.memo;
  };
}

-- one node is read
pub reads_one : (a b : HallView) → KeepsSeat (with_account with_read a) b → OnlyReads a b
reads_one a b p = reads_none (with_account with_read a) b p

-- two moments in a row
pub reads_then : (a b c : HallView) → OnlyReads a b → OnlyReads b c → OnlyReads a c
reads_then a b c p q = record {
  seat = q.seat ∙ p.seat;
  rest = record {
    alone = q.rest.alone ∙ p.rest.alone;
    account = q.rest.account
        ∙ ap (λ (x : Account). let y : Account = record x { reads = c.account.reads } in y) p.rest.account;
    rooms = nexts_then a.rooms b.rooms c.rooms p.rest.rooms q.rest.rooms;
    memo = q.rest.memo ∙ p.rest.memo;
  };
}

-- a stake or a pin of a seat that stays
pub source_kept : (old new : Seat) (by_what : Source) → new ≡ old → HasSource old by_what
    → HasSource new by_what
source_kept old new by_what same has = subst (λ (s : Seat). HasSource s by_what) (sym same) has

-- two moments in a row, of which the later one keeps the seat
pub reach_then : (mid new : Seat) (a b c : Reaching) → new ≡ mid → KeepsReach mid a b → KeepsReach new b c
    → KeepsReach new a c
reach_then mid new a b c same first second by_what n t has r =
    second by_what n t has (first by_what n t (source_kept new mid by_what (sym same) has) r)
