-- What is told where a line isn't read.
use Rattle.std.specs.Prelude.{ℕ}
use Rattle.paje_lex.specs.declared.unread.Unread.{Unread}
use Rattle.paje_lex.specs.declared.unread.Unread.TheVariants as unread
use Rattle.paje_reader.specs.declared.line_fault.LineFault.{LineFault}
use Rattle.paje_reader.specs.declared.line_fault.LineFault.TheVariants.{Memory, Refused}
use Rattle.paje_reader.specs.declared.read_fault.ReadFault.{ReadFault}
use Rattle.paje_reader.specs.declared.read_fault.ReadFault.TheVariants as faults
use Rattle.paje_reader.specs.declared.why.Why.{Why}

-- where a part of it isn't, whose reasons are these of the line
abbrev pub fault_of : {F : Type 0} → (F → Why) → Unread F → LineFault
fault_of why (unread.Refused fault) = Refused (why fault)
fault_of why unread.Memory = Memory

abbrev pub fault_at : ℕ → LineFault → ReadFault
fault_at line (Refused why) = faults.Refused (record { line = line; why = why })
fault_at line Memory = faults.Memory
