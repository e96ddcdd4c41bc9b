-- The word of each reason, and the reason of a line for what one of its parts is refused for.
use Rattle.std.specs.Prelude.{ℕ, List, codes}
use Rattle.paje_lex.specs.declared.date_fault.DateFault.{DateFault}
use Rattle.paje_lex.specs.declared.date_fault.DateFault.TheVariants as dates
use Rattle.paje_lex.specs.declared.lex_fault.LexFault.{LexFault}
use Rattle.paje_lex.specs.declared.lex_fault.LexFault.TheVariants as lexing
use Rattle.paje_defs.specs.declared.def_fault.DefFault.{DefFault}
use Rattle.paje_defs.specs.declared.def_fault.DefFault.TheVariants as definitions
use Rattle.paje_defs.specs.declared.event_fault.EventFault.{EventFault}
use Rattle.paje_defs.specs.declared.event_fault.EventFault.TheVariants as events
use Rattle.paje_lines.specs.declared.model_fault.ModelFault.{ModelFault}
use Rattle.paje_lines.specs.declared.model_fault.ModelFault.TheVariants as entities
use Rattle.paje_reader.specs.declared.why.Why.{Why}
use Rattle.paje_reader.specs.declared.why.Why.TheVariants as why

abbrev pub word_of : Why → List ℕ
word_of why.LongLine = codes "LongLine"
word_of (why.NotText at) = codes "NotText"
word_of (why.OpenQuote at) = codes "OpenQuote"
word_of why.Shape = codes "Shape"
word_of why.Nested = codes "Nested"
word_of why.UnknownName = codes "UnknownName"
word_of (why.DoubleNumber line) = codes "DoubleNumber"
word_of why.UnknownType = codes "UnknownType"
word_of (why.MissingField role) = codes "MissingField"
word_of why.Unended = codes "Unended"
word_of why.NoNumber = codes "NoNumber"
word_of why.UnknownNumber = codes "UnknownNumber"
word_of why.TooFew = codes "TooFew"
word_of why.DateShape = codes "DateShape"
word_of why.DateNegative = codes "DateNegative"
word_of why.DateBig = codes "DateBig"
word_of (why.UnknownEntity role) = codes "UnknownEntity"
word_of (why.WrongKind role) = codes "WrongKind"
word_of (why.DoubleAlias line) = codes "DoubleAlias"
word_of (why.AfterDestroy line) = codes "AfterDestroy"
word_of (why.TimeBack time) = codes "TimeBack"
word_of why.EmptyPop = codes "EmptyPop"
word_of why.Deep = codes "Deep"
word_of (why.TooMany what) = codes "TooMany"

-- ---- of a line by itself, a definition line, a date, the fields of an event line, and an event line behind
-- others

abbrev pub why_of_lexing : LexFault → Why
why_of_lexing (lexing.NotText at) = why.NotText at
why_of_lexing (lexing.OpenQuote at) = why.OpenQuote at

abbrev pub why_of_definition : DefFault → Why
why_of_definition definitions.Shape = why.Shape
why_of_definition definitions.Nested = why.Nested
why_of_definition definitions.UnknownName = why.UnknownName
why_of_definition (definitions.DoubleNumber line) = why.DoubleNumber line
why_of_definition definitions.UnknownType = why.UnknownType
why_of_definition (definitions.MissingField role) = why.MissingField role

abbrev pub why_of_date : DateFault → Why
why_of_date dates.Shape = why.DateShape
why_of_date dates.Negative = why.DateNegative
why_of_date dates.Big = why.DateBig

abbrev pub why_of_event : EventFault → Why
why_of_event events.NoNumber = why.NoNumber
why_of_event events.UnknownNumber = why.UnknownNumber
why_of_event events.TooFew = why.TooFew
why_of_event (events.Date fault) = why_of_date fault

abbrev pub why_of_entity : ModelFault → Why
why_of_entity (entities.UnknownEntity role) = why.UnknownEntity role
why_of_entity (entities.WrongKind role) = why.WrongKind role
why_of_entity (entities.DoubleAlias line) = why.DoubleAlias line
why_of_entity (entities.AfterDestroy line) = why.AfterDestroy line
why_of_entity (entities.TimeBack time) = why.TimeBack time
why_of_entity entities.EmptyPop = why.EmptyPop
why_of_entity entities.Deep = why.Deep
why_of_entity (entities.TooMany what) = why.TooMany what
