-- All that a plain hall tells beside its seat goes on.
use Rattle.std.proofs.Common.{◌≡◌, true, Option, None, Some, Ok, refl, sym, subst}
use Rattle.hall_history.specs.Seat.{Seat}
use Rattle.hall_trait.proofs.Views.{Later, later_same}
use Rattle.hall_trait.specs.Memo.{after_look}
use Rattle.hall_trait.specs.View.{GoesOn, HallView, KeepsSeat, no_account, with_account, with_memo}
use Rattle.memo_rooms.specs.Rooms.{Kept}
use Rattle.store_laws.specs.Store.{Store}
use Rattle.whole_profiles.specs.declared.entry.Entry.{Entry}

-- what a plain hall tells
abbrev pub plain_view : Seat → Store → Kept → HallView
plain_view seat rooms kept = record {
  seat = seat;
  alone = true;
  account = no_account;
  rooms = Some rooms;
  memo = Some kept;
}

-- what its calls come to is told nowhere, so nothing is added to it
pub goes_on_alike : (s t : Seat) (rooms after : Store) (kept : Kept) → Later rooms after
    → GoesOn (plain_view s rooms kept) (plain_view t after kept)
goes_on_alike s t rooms after kept later = record { alone = refl; account = refl; rooms = later; memo = refl }

-- nothing that is told changes
pub keeps_alike : (s : Seat) (rooms : Store) (kept : Kept)
    → KeepsSeat (plain_view s rooms kept) (plain_view s rooms kept)
keeps_alike s rooms kept = record { seat = refl; rest = goes_on_alike s s rooms rooms kept (later_same rooms) }

-- ... but how the memo finds it
pub keeps_kept : (s : Seat) (rooms : Store) (old new : Kept) → new ≡ old
    → KeepsSeat (plain_view s rooms old) (plain_view s rooms new)
keeps_kept s rooms old new same =
    subst (λ (k : Kept). KeepsSeat (plain_view s rooms old) (plain_view s rooms k)) (sym same)
    (keeps_alike s rooms old)

-- whether a look found something is told nowhere
pub looks_alike : (found : Option Entry) (s : Seat) (rooms : Store) (old new : Kept) → new ≡ old
    → KeepsSeat (with_account (after_look (Ok found)) (plain_view s rooms old)) (plain_view s rooms new)
looks_alike None s rooms old new same = keeps_kept s rooms old new same
looks_alike (Some e) s rooms old new same = keeps_kept s rooms old new same

-- the memo keeps what it is said to keep
pub fills_alike : (s : Seat) (rooms : Store) (old new : Kept)
    → KeepsSeat (with_memo (Some new) (plain_view s rooms old)) (plain_view s rooms new)
fills_alike s rooms old new = record {
  seat = refl;
  rest = record { alone = refl; account = refl; rooms = later_same rooms; memo = refl };
}
