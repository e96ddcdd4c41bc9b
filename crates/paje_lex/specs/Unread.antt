-- What a call tells that may find no memory.
use Rattle.std.specs.Prelude.{◌≡◌, Option, Some, None, Ok, Err, Result}
use Rattle.paje_lex.specs.declared.unread.Unread.{Unread}
use Rattle.paje_lex.specs.declared.unread.Unread.TheVariants.{Memory, Refused}

-- the result is this, unless memory ran out
abbrev pub UnlessMemory : {T F : Type 0} → Result T (Unread F) → Result T F → Type 0
UnlessMemory (Ok given) wanted = wanted ≡ Ok given
UnlessMemory (Err (Refused fault)) wanted = wanted ≡ Err fault
UnlessMemory (Err Memory) wanted = Unit {0}

-- the reason that was told; none where memory ran out
abbrev pub reason_told : {F : Type 0} → Unread F → Option F
reason_told (Refused fault) = Some fault
reason_told Memory = None

-- it is refused for this reason, unless memory ran out
abbrev pub IsRefusedFor : {F : Type 0} → Option F → Unread F → Type 0
IsRefusedFor reason (Refused fault) = reason ≡ Some fault
IsRefusedFor reason Memory = Unit {0}
