-- Lines and texts, for the examples.
use Rattle.std.specs.Prelude.{ℕ, List, ◌++◌, codes, Option, Some}
use Rattle.paje_reader.specs.declared.read_fault.ReadRefusal.{ReadRefusal}
use Rattle.paje_reader.specs.declared.why.Why.{Why}
use Rattle.paje_reader.specs.TextLines.{Reading, reading, text_line}

-- what a line is by itself, whatever its number
abbrev pub read_alone : List ℕ → Reading
read_alone bytes = reading (text_line (1, bytes))

abbrev pub refused_on : ℕ → Why → Option ReadRefusal
refused_on line why = Some (record { line = line; why = why })

-- ---- whole texts

-- the definitions of six events, on 33 lines, a type of containers and one of states
abbrev pub head_text : List ℕ
head_text =
    codes "%EventDef PajeDefineContainerType 0\n% Alias string\n% Type string\n% Name string\n%EndEventDef\n"
    ++ codes "%EventDef PajeDefineStateType 1\n% Alias string\n% Type string\n% Name string\n%EndEventDef\n"
    ++ codes "%EventDef PajeCreateContainer 2\n% Time date\n% Alias string\n% Type string\n"
    ++ codes "% Container string\n% Name string\n%EndEventDef\n"
    ++ codes "%EventDef PajeDestroyContainer 3\n% Time date\n% Type string\n% Name string\n%EndEventDef\n"
    ++ codes "%EventDef PajePushState 4\n% Time date\n% Type string\n% Container string\n% Value string\n"
    ++ codes "%EndEventDef\n"
    ++ codes "%EventDef PajePopState 5\n% Time date\n% Type string\n% Container string\n%EndEventDef\n"
    ++ codes "0 P 0 Process\n1 S P State\n"

-- main calls f twice
abbrev pub two_calls_text : List ℕ
two_calls_text = head_text ++ codes "2 0 p0 P 0 \"rank 0\"\n4 0 S p0 main\n4 0.1 S p0 f\n5 0.2 S p0\n"
    ++ codes "4 0.3 S p0 f\n5 0.4 S p0\n5 0.5 S p0\n3 0.5 P p0\n"

-- a call is left where none is open
abbrev pub empty_pop_text : List ℕ
empty_pop_text = head_text ++ codes "2 0 p0 P 0 \"rank 0\"\n5 0 S p0\n"

-- two containers of one alias, behind a call of a function whose name has a blank
abbrev pub double_alias_text : List ℕ
double_alias_text = head_text ++ codes "2 0 p0 P 0 \"rank 0\"\n4 0 S p0 \"my func\"\n2 0 p0 P 0 x\n"

-- eight definitions, with tabs, skipped lines and carriage returns, among them two of PushState, the second
-- with one more field, and one of DestroyContainer without a name; then two types and a container
abbrev pub spaced_head : List ℕ
spaced_head =
    codes "# a trace\r\n%EventDef\tPajeDefineContainerType\t0\r\n%\tAlias\tstring\r\n% Type string\r\n"
    ++ codes "% Name string\r\n%EndEventDef\r\n\n\t%EventDef  PajeDefineStateType 1\n% Alias string\n"
    ++ codes "%\tType string\n# \"\n% Name string\n%EndEventDef\n%EventDef PajeCreateContainer 2\n"
    ++ codes "% Time date\n% Alias string\n% Type string\n% Container string\n% Name string\n%EndEventDef\n"
    ++ codes "%EventDef PajePushState 3\n% Time date\n% Type string\n% Container string\n% Value string\n"
    ++ codes "%EndEventDef\n%EventDef PajePushState 4\n% Time date\n% Line int\n% Type string\n"
    ++ codes "% Container string\n% Value string\n%EndEventDef\n%EventDef PajeSetState 5\n% Time date\n"
    ++ codes "% Type string\n% Container string\n% Value string\n%EndEventDef\n%EventDef PajeResetState 6\n"
    ++ codes "% Time date\n% Type string\n% Container string\n%EndEventDef\n"
    ++ codes "%EventDef PajeDestroyContainer 7\n% Time date\n% Type string\n% Container string\n"
    ++ codes "%EndEventDef \t\r\n0 P 0 Process\r\n"
    ++ codes "1\tS\tP\tState\n2 0 p0 P 0 \"rank 0\"\r\n"

-- main, then f, and no call from half a second on
abbrev pub set_states_text : List ℕ
set_states_text = spaced_head ++ codes "5 0\tS p0 main\r\n\t5 0.2 S p0\tf\n  # 5 0.3 S p0 g\n6 0.5 S p0\n"
    ++ codes "7 1 P p0"

-- f, then g under the other definition of PushState
abbrev pub two_pushes_text : List ℕ
two_pushes_text = spaced_head ++ codes "3 0 S p0 f 7\r\n4 0.1 17 S p0 g\r\n6 0.5 S p0\n7 1 P p0\n"

-- four ends of two messages, the second of which is received before it is sent, and a start without an end
abbrev pub messages_text : List ℕ
messages_text = head_text
    ++ codes "%EventDef PajeDefineLinkType 6\n% Alias string\n% Type string\n% SourceContainerType string\n"
    ++ codes "% DestContainerType string\n% Name string\n%EndEventDef\n%EventDef PajeStartLink 7\n"
    ++ codes "% Time date\n% Type string\n% Container string\n% Value string\n% SourceContainer string\n"
    ++ codes "% Key string\n% Size int\n%EndEventDef\n%EventDef PajeEndLink 8\n% Time date\n% Type string\n"
    ++ codes "% Container string\n% Value string\n% DestContainer string\n% Key string\n%EndEventDef\n"
    ++ codes "6 K P P P Msg\n2 0 p0 P 0 a\n2 0 p1 P 0 b\n7 1 K 0 x p0 k1 100\n7 2 K 0 x p0 k1 50\n"
    ++ codes "8 1.5 K 0 x p1 k1\n7 3 K 0 x p1 k2 7\n8 2.5 K 0 x p0 k2\n"
