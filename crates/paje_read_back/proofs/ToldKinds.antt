-- What each kind of event line of a canonical text tells.
use Rattle.std.proofs.Common.{◌≡◌, ℕ, ◌≤◌, ◌<◌, ◌^◌, List, [], ◌∷◌, ◌++◌, cond, Bool, true, false, codes}
use Rattle.std.proofs.Common.{Some, Ok, refl, ◌∙◌, ap}
use Rattle.std.specs.Fmt.{decimal}
use Rattle.trace_base.specs.Stream.{time_of}
use Rattle.trace_base.specs.declared.limits.TheConstants.{MAX_TIME}
use Rattle.trace_base.specs.declared.messages.LinkEvent.{LinkEvent}
use Rattle.trace_base.specs.declared.names.Container.{Container}
use Rattle.trace_base.specs.declared.names.Track.{Track}
use Rattle.trace_base.specs.declared.stream.Event.{Event}
use Rattle.trace_base.specs.declared.stream.Event.TheVariants.{Enter, Leave}
use Rattle.paje_defs.specs.declared.definition.Definition.{Definition}
use Rattle.paje_defs.specs.declared.role.Role.{Role}
use Rattle.paje_defs.specs.declared.role.Role.TheVariants as roles
use Rattle.paje_defs.specs.Events.{message_size, role_text, size_in, timed, told_event}
use Rattle.paje_lines.specs.Examples.{Unnumbered, container_texts, declared_texts, leave_texts}
use Rattle.paje_lines.specs.Examples.{link_type_texts, state_texts}
use Rattle.paje_reader.specs.LineReasons.{event_line_of}
use Rattle.paje_print.specs.CanonicalText.{create_line, destroy_line, link_line, link_type_line, link_words}
use Rattle.paje_print.specs.CanonicalText.{process_type_line, reset_line, state_line, state_type_line}
use Rattle.paje_print.specs.CanonicalText.{text_of_function}
use Rattle.paje_print.specs.WrittenNumbers.{container_alias, link_type_alias, state_type_alias}
use Rattle.paje_print.specs.WrittenWords.{WrittenLine, bare}
use Rattle.paje_print.specs.Canonical.{HasCanonicalSize, size_limit}
use Rattle.paje_read_back.specs.ToldLines.{Texts, create_told, destroy_told, destroyed_texts, end_texts}
use Rattle.paje_read_back.specs.ToldLines.{end_told, link_told, link_type_told, process_type_told}
use Rattle.paje_read_back.specs.ToldLines.{reset_told, start_texts, start_told, state_told, state_type_told}
use Rattle.paje_read_back.specs.ToldLines.{with_time}
use Rattle.paje_read_back.proofs.DefinedLines.{container_type_definition, create_definition}
use Rattle.paje_read_back.proofs.DefinedLines.{destroy_definition, end_definition, entries}
use Rattle.paje_read_back.proofs.DefinedLines.{link_type_definition, pop_definition, push_definition}
use Rattle.paje_read_back.proofs.DefinedLines.{reset_definition, start_definition, state_type_definition}
use Rattle.paje_read_back.proofs.NumbersWritten.{date-written, size-written}
use Rattle.paje_read_back.proofs.WordBytes.{words_of}

-- the words of this line tell this, at each number
abbrev pub Tells : WrittenLine → Unnumbered → Type 0
Tells line told = (number : ℕ) → event_line_of number (words_of line) (told_event entries (words_of line))
    ≡ Some (told number)

told-at : (words : List (List ℕ)) (d : Definition) (time size : ℕ) (texts : Texts)
    → told_event entries words ≡ timed d (Ok time) → message_size d.event (size_in d words) ≡ size
    → ((role : Role) → role_text d words role ≡ texts role) → (number : ℕ)
    → event_line_of number words (told_event entries words)
    ≡ Some (record { number = number; event = d.event; time = time; size = size; text = texts })
told-at words d time size texts is sized same number =
    ap (event_line_of number words) is
    ∙ (λ i. Some (record {
      number = number;
      event = d.event;
      time = time;
      size = sized i;
      text = λ role. same role i;
    }))

-- ---- containers

create-texts : (p : ℕ × Container) (role : Role) → role_text create_definition (words_of (create_line p)) role
    ≡ with_time p.1.start (container_texts (Some (container_alias p.0)) (codes "P") (codes "0") p.1.name) role
create-texts p roles.Time = refl
create-texts p _ = refl

pub create-tells : (p : ℕ × Container) → p.1.start ≤ MAX_TIME → Tells (create_line p) (create_told p)
create-tells p fits = told-at (words_of (create_line p)) create_definition p.1.start 0 _
    (ap (timed create_definition) (date-written p.1.start fits)) refl (create-texts p)

destroy-texts : (p : ℕ × Container) (role : Role)
    → role_text destroy_definition (words_of (destroy_line p)) role
    ≡ with_time p.1.end (destroyed_texts (codes "P") (container_alias p.0)) role
destroy-texts p roles.Time = refl
destroy-texts p _ = refl

pub destroy-tells : (p : ℕ × Container) → p.1.end ≤ MAX_TIME → Tells (destroy_line p) (destroy_told p)
destroy-tells p fits = told-at (words_of (destroy_line p)) destroy_definition p.1.end 0 _
    (ap (timed destroy_definition) (date-written p.1.end fits)) refl (destroy-texts p)

-- ---- types

process_type-texts : (role : Role) → role_text container_type_definition (words_of process_type_line) role
    ≡ declared_texts (Some (codes "P")) (codes "0") (codes "P") role
process_type-texts roles.Time = refl
process_type-texts _ = refl

pub process_type-tells : Tells process_type_line process_type_told
process_type-tells = told-at (words_of process_type_line) container_type_definition 0 0 _ refl refl
    process_type-texts

state_type-texts : (p : ℕ × List ℕ) (role : Role)
    → role_text state_type_definition (words_of (state_type_line p)) role
    ≡ declared_texts (Some (state_type_alias p.0)) (codes "P") p.1 role
state_type-texts p roles.Time = refl
state_type-texts p _ = refl

pub state_type-tells : (p : ℕ × List ℕ) → Tells (state_type_line p) (state_type_told p)
state_type-tells p = told-at (words_of (state_type_line p)) state_type_definition 0 0 _ refl refl
    (state_type-texts p)

link_type-texts : (p : ℕ × List ℕ) (role : Role)
    → role_text link_type_definition (words_of (link_type_line p)) role
    ≡ link_type_texts (link_type_alias p.0) (codes "P") (codes "P") (codes "P") p.1 role
link_type-texts p roles.Time = refl
link_type-texts p _ = refl

pub link_type-tells : (p : ℕ × List ℕ) → Tells (link_type_line p) (link_type_told p)
link_type-tells p = told-at (words_of (link_type_line p)) link_type_definition 0 0 _ refl refl
    (link_type-texts p)

-- ---- tracks

leave-texts-of : (time : ℕ) (track : Track) (role : Role)
    → role_text reset_definition (words_of (reset_line track time)) role
    ≡ with_time time (leave_texts (state_type_alias track.kind) (container_alias track.container)) role
leave-texts-of time track roles.Time = refl
leave-texts-of time track _ = refl

pub reset-tells : (track : Track) (start : ℕ) → start ≤ MAX_TIME
    → Tells (reset_line track start) (reset_told track start)
reset-tells track start fits = told-at (words_of (reset_line track start)) reset_definition start 0 _
    (ap (timed reset_definition) (date-written start fits)) refl (leave-texts-of start track)

push-texts : (functions : List (List ℕ)) (track : Track) (f time : ℕ) (role : Role)
    → role_text push_definition (words_of (state_line functions track (Enter f time))) role
    ≡ with_time time (state_texts (state_type_alias track.kind) (container_alias track.container)
    (text_of_function functions f)) role
push-texts functions track f time roles.Time = refl
push-texts functions track f time _ = refl

pop-texts : (functions : List (List ℕ)) (track : Track) (time : ℕ) (role : Role)
    → role_text pop_definition (words_of (state_line functions track (Leave time))) role
    ≡ with_time time (leave_texts (state_type_alias track.kind) (container_alias track.container)) role
pop-texts functions track time roles.Time = refl
pop-texts functions track time _ = refl

pub state-tells : (functions : List (List ℕ)) (track : Track) (event : Event) → time_of event ≤ MAX_TIME
    → Tells (state_line functions track event) (state_told functions track event)
state-tells functions track (Enter f time) fits =
    told-at (words_of (state_line functions track (Enter f time))) push_definition time 0 _
    (ap (timed push_definition) (date-written time fits)) refl (push-texts functions track f time)
state-tells functions track (Leave time) fits =
    told-at (words_of (state_line functions track (Leave time))) pop_definition time 0 _
    (ap (timed pop_definition) (date-written time fits)) refl (pop-texts functions track time)

-- ---- link events

abbrev start_line : LinkEvent → WrittenLine
start_line l = bare (codes "8") ∷ link_words l ++ bare (decimal l.size) ∷ []

abbrev end_line : LinkEvent → WrittenLine
end_line l = bare (codes "9") ∷ link_words l

start-texts-of : (l : LinkEvent) (role : Role) → role_text start_definition (words_of (start_line l)) role
    ≡ with_time l.time (start_texts l) role
start-texts-of l roles.Time = refl
start-texts-of l _ = refl

start-tells : (l : LinkEvent) → l.time ≤ MAX_TIME → l.size < 2 ^ 63 → Tells (start_line l) (start_told l)
start-tells l fits small = told-at (words_of (start_line l)) start_definition l.time l.size _
    (ap (timed start_definition) (date-written l.time fits)) (size-written l.size small) (start-texts-of l)

end-texts-of : (l : LinkEvent) (role : Role) → role_text end_definition (words_of (end_line l)) role
    ≡ with_time l.time (end_texts l) role
end-texts-of l roles.Time = refl
end-texts-of l _ = refl

end-tells : (l : LinkEvent) → l.time ≤ MAX_TIME → Tells (end_line l) (end_told l)
end-tells l fits = told-at (words_of (end_line l)) end_definition l.time 0 _
    (ap (timed end_definition) (date-written l.time fits)) refl (end-texts-of l)

pub link-tells : (l : LinkEvent) → l.time ≤ MAX_TIME → HasCanonicalSize l → Tells (link_line l) (link_told l)
link-tells l fits small number = by l.starts small
  where
    by : (starts : Bool) → l.size < size_limit starts
        → event_line_of number (words_of (cond starts (start_line l) (end_line l)))
        (told_event entries (words_of (cond starts (start_line l) (end_line l))))
        ≡ Some (cond starts (start_told l) (end_told l) number)
    by true small = start-tells l fits small number
    by false small = end-tells l fits number
