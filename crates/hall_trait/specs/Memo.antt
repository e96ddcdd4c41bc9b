-- What a hall answers of the profiles that its memo keeps. Want of memory may come at each look.
use Rattle.std.specs.Prelude.{◌≡◌, ◌⊎◌, ℕ, Option, None, Some, Result, Ok, Err, IsSome}
use Rattle.trace_base.specs.Outside.{Told}
use Rattle.hall_trait.specs.View.{Account, KeptProfiles, with_missed}
use Rattle.hall_trait.specs.declared.answers.HallFault.{HallFault}
use Rattle.hall_trait.specs.declared.answers.HallFault.TheVariants as fault
use Rattle.node_key.specs.Tree.{Tree}
use Rattle.whole_profiles.specs.Whole.{whole_profile}
use Rattle.whole_profiles.specs.declared.entry.Entry.{Entry}
use Rattle.whole_profiles.specs.declared.memo_kind.MemoKind.{MemoKind}

-- What a look for this kind of profile answers of a node of this tree: its whole profile, or that none is
-- kept. It isn't told that a number is used up, or that too many traces are open.
abbrev pub TellsProfile : MemoKind → Tree → Result (Option Entry) HallFault → Type 0
TellsProfile kind t (Ok (Some e)) = e ≡ whole_profile kind t
TellsProfile kind t (Ok None) = Unit {0}
TellsProfile kind t (Err fault.Memory) = Unit {0}
TellsProfile kind t (Err (fault.Spent v)) = ⊥
TellsProfile kind t (Err (fault.Full place)) = ⊥

-- Where the kept profiles are told, a look finds the one under this number and kind; memory is wanted only
-- where there is one.
abbrev pub LooksIn : Option KeptProfiles → ℕ → MemoKind → Result (Option Entry) HallFault → Type 0
LooksIn None n kind result = Unit {0}
LooksIn (Some kept) n kind (Ok found) = kept n kind ≡ found
LooksIn (Some kept) n kind (Err e) = IsSome (kept n kind)

-- The profile is kept under this number and kind, and each other one is kept as it was or not any more.
pub record KeepsProfile (was now : KeptProfiles) (n : ℕ) (kind : MemoKind) (e : Entry) : Type 0 where
  pub there : now n kind ≡ Some e
  pub others : (m : ℕ) (other : MemoKind) → (m ≡ n → other ≡ kind → ⊥)
      → (now m other ≡ was m other) ⊎ (now m other ≡ None)

-- where the kept profiles are told, this one is kept from then on, or nothing changes
abbrev pub FillsIn : Option KeptProfiles → Option KeptProfiles → ℕ → MemoKind → Entry → Type 0
FillsIn old new n kind e = Told old new (λ was now. KeepsProfile was now n kind e ⊎ (now ≡ was))

-- what the calls came to after a look: one that found nothing counts
abbrev pub after_look : Result (Option Entry) HallFault → Account → Account
after_look (Ok (Some e)) a = a
after_look (Ok None) a = with_missed a
after_look (Err e) a = a
