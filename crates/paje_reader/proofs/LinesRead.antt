-- What a reader has read, behind one more line.
use Rattle.std.proofs.Common.{◌≡◌, ℕ, inl, inr, List, [], ◌∷◌, ◌++◌, Option, Some, None}
use Rattle.std.proofs.Common.{Result}
use Rattle.std.proofs.Common.{length, nat_lt, Ok, Err, is_some, cond, true, false, refl, sym}
use Rattle.std.proofs.Common.{◌∙◌, ap, subst}
use Rattle.std.specs.Option.{option_and_then, option_map, option_map_or, option_to_list}
use Rattle.std.specs.Result.{IsErrAnd}
use Rattle.std.specs.Str.Lines.{strip_carriage_return}
use Rattle.list_lemmas.proofs.Options.{cons_option-list}
use Rattle.trace_base.specs.declared.limits.TheConstants.{MAX_TRACE_LINE}
use Rattle.paje_lex.specs.LineKinds.{is_skipped_line}
use Rattle.paje_lex.specs.LineReading.{lexed}
use Rattle.std.proofs.lemmas.List.{append-nil}
use Rattle.std.proofs.lemmas.List.Elements.{filter_map-append}
use Rattle.paje_defs.specs.declared.def_fault.DefFault.{DefFault}
use Rattle.paje_defs.specs.declared.event_fault.EventFault.{EventFault}
use Rattle.paje_defs.specs.declared.fields.Fields.{Fields}
use Rattle.paje_defs.specs.Events.{AreFields, Event, Tells, told_event}
use Rattle.paje_lex.specs.declared.unread.Unread.{Unread}
use Rattle.paje_lex.specs.declared.unread.Unread.TheVariants as unreads
use Rattle.paje_lex.specs.Unread.{IsRefusedFor}
use Rattle.paje_defs.specs.Lines.{Definitions, begun_in, complete_in, definition_reason, definition_reason_at}
use Rattle.paje_defs.specs.Lines.{definitions_of_lines}
use Rattle.paje_defs.specs.Refusals.{Placed, first_of, refusal, when}
use Rattle.paje_defs.specs.Table.{StopsAt, TakesNext, definitions_of, numbered_line}
use Rattle.paje_defs.proofs.PlacedMore.{told-more}
use Rattle.paje_defs.proofs.RefusedMore.{none_refused, refusal-next}
use Rattle.paje_defs.proofs.FirstOf.{first_one}
use Rattle.paje_lines.specs.declared.effect.Effect.{Effect}
use Rattle.paje_lines.specs.declared.model_fault.ModelFault.{ModelFault}
use Rattle.paje_lines.specs.EventLine.{line_of}
use Rattle.paje_lines.specs.Reasons.{event_reason}
use Rattle.paje_model.specs.declared.entities.Entities.{Entities}
use Rattle.paje_model.specs.StandsFor.{Applies, StandsFor}
use Rattle.paje_reader.specs.declared.line_fault.LineFault.{LineFault}
use Rattle.paje_reader.specs.declared.line_fault.LineFault.TheVariants.{Refused}
use Rattle.paje_reader.specs.declared.reader.Reader.{Reader}
use Rattle.paje_reader.specs.declared.why.Why.{Why}
use Rattle.paje_reader.specs.declared.why.Why.TheVariants as why
use Rattle.paje_reader.specs.LineFaults.{fault_of}
use Rattle.paje_reader.specs.LineReasons.{definition_line, definition_lines, event_line}
use Rattle.paje_reader.specs.LineReasons.{event_line_at, event_line_behind, event_line_of, event_lines}
use Rattle.paje_reader.specs.LineReasons.{line_why}
use Rattle.paje_reader.specs.LineReasons.{told_behind, told_why, why_behind}
use Rattle.paje_reader.specs.Why.{why_of_definition, why_of_entity, why_of_event}
use Rattle.paje_reader.specs.Reader.{HasRead, TakesLine}
use Rattle.paje_reader.specs.TextLines.{Reading, TextLine, defines, reading, reading_of_bytes}
use Rattle.paje_reader.specs.TextLines.{reading_of_tokens, refused, skipped, tells}

ext : {A B : Type 0} {f g : A → B} → ((x : A) → f x ≡ g x) → f ≡ g
ext h = λ i x. h x i

abbrev pub behind : List TextLine → TextLine → Placed TextLine
behind before line = record { before = before; line = line }

-- ---- one more line, by what it is by itself

definitions-by : (before : List TextLine) (line : TextLine) (r : Reading) → reading line ≡ r
    → definition_lines (before ++ line ∷ []) ≡ definition_lines before
    ++ option_to_list (definition_line line.number r)
definitions-by before line r is =
    filter_map-append (λ line. definition_line line.number (reading line)) before (line ∷ [])
    ∙ (ap (λ lines. definition_lines before ++ lines)
    (cons_option-list (definition_line line.number (reading line)))
    ∙ ap (λ r. definition_lines before ++ option_to_list (definition_line line.number r)) is)

events-by : (before : List TextLine) (line : TextLine) (r : Reading) → reading line ≡ r
    → event_lines (before ++ line ∷ []) ≡ event_lines before
    ++ option_to_list (event_line_behind before line.number r)
events-by before line r is =
    told-more event_line_at before line
    ∙ ap (λ r. event_lines before ++ option_to_list (event_line_behind before line.number r)) is

why-by : (before : List TextLine) (line : TextLine) (r : Reading) → reading line ≡ r
    → line_why (behind before line) ≡ why_behind before line.number r
why-by before line r is = ap (why_behind before line.number) is

-- a call that is refused for the reason of the line
pub from_why : {U : Type 0} (p : Placed TextLine) (new : Reader) (r : Result U LineFault) (w : Why)
    → IsErrAnd r (λ e. e ≡ Refused w) → line_why p ≡ Some w → TakesLine p new r
from_why p new (Ok u) w gives is = absurd gives
from_why p new (Err e) w gives is = inr (w, gives, is)

-- a call that gives what a part of the line gave, whose reason is that of the line
pub from_unread : {U F : Type 0} (p : Placed TextLine) (new : Reader) (r : Result U LineFault) (why : F → Why)
    (unread : Unread F) (reason : Option F) → IsErrAnd r (λ e. e ≡ fault_of why unread)
    → IsRefusedFor reason unread → line_why p ≡ option_map why reason → TakesLine p new r
from_unread p new (Ok u) why unread reason gives told is = absurd gives
from_unread p new (Err e) why (unreads.Refused fault) reason gives told is =
    inr (why fault, gives, is ∙ ap (option_map why) told)
from_unread p new (Err e) why unreads.Memory reason gives told is = inl gives

-- ---- lines that are skipped

pub skips : (before : List TextLine) (line : TextLine) (r : Reader) → HasRead before r
    → reading line ≡ skipped → (line_why (behind before line) ≡ None) × HasRead (before ++ line ∷ []) r
skips before line r read is =
    let none = why-by before line skipped is in (
      none,
      record {
        definitions = read.definitions ∙ ap definitions_of_lines
            (sym (definitions-by before line skipped is ∙ append-nil (definition_lines before)));
        undisturbed = read.undisturbed;
        entities = subst (λ lines. StandsFor lines r.entities)
            (sym (events-by before line skipped is ∙ append-nil (event_lines before))) read.entities;
        unrefused = refusal-next line_why before line None read.unrefused none;
      },
    )

pub reads_skipped : (n : ℕ) (bytes line : List ℕ) → nat_lt MAX_TRACE_LINE (length bytes) ≡ false
    → line ≡ strip_carriage_return bytes → is_skipped_line line ≡ true
    → reading (record { number = n; bytes = bytes }) ≡ skipped
reads_skipped n bytes line short at is =
    ap (λ b. cond b (refused why.LongLine) (reading_of_bytes (strip_carriage_return bytes))) short
    ∙ ap (λ b. cond b skipped (reading_of_tokens (strip_carriage_return bytes)
    (lexed (strip_carriage_return bytes)))) (ap is_skipped_line (sym at) ∙ is)

-- ---- definition lines

undefined : (before : List TextLine) (r : Reader) → HasRead before r
    → refusal definition_reason_at (definition_lines before) ≡ None
undefined before r read = sym (ap (λ d. d.fault) read.definitions) ∙ read.undisturbed

-- the reason against the definition line, by those before it
abbrev pub reason_behind : List TextLine → List (List ℕ) → Option DefFault
reason_behind before words = definition_reason (complete_in (definition_lines before))
    (begun_in (definition_lines before)) words

reason_next : (before : List TextLine) (r : Reader) (n : ℕ) (words : List (List ℕ)) (why : Option DefFault)
    → HasRead before r
    → refusal definition_reason_at (definition_lines before ++ numbered_line n words ∷ []) ≡ why
    → reason_behind before words ≡ why
reason_next before r n words why read is =
    sym (refusal-next definition_reason_at (definition_lines before) (numbered_line n words) _
    (undefined before r read) refl) ∙ is

-- it is taken
pub defined : (U : Type 0) (before : List TextLine) (line : TextLine) (old new : Reader) (n : ℕ)
    (words : List (List ℕ)) (u : U) → HasRead before old → line.number ≡ n → reading line ≡ defines words
    → TakesNext {U = U} (definition_lines before) (numbered_line n words) (definitions_of new.definitions)
    (Ok u)
    → new.entities ≡ old.entities
    → (line_why (behind before line) ≡ None) × HasRead (before ++ line ∷ []) new
defined U before line old new n words u read at is takes same =
    let none : line_why (behind before line) ≡ None = why-by before line (defines words) is
    ∙ ap (option_map why_of_definition)
    (reason_next before old n words None read (sym (ap (λ d. d.fault) takes.0) ∙ takes.1)) in (
      none,
      record {
        definitions = takes.0 ∙ ap definitions_of_lines (sym (definitions-by before line (defines words) is
            ∙ ap (λ n. definition_lines before ++ numbered_line n words ∷ []) at));
        undisturbed = takes.1;
        entities = subst (λ lines. StandsFor lines new.entities)
            (sym (events-by before line (defines words) is ∙ append-nil (event_lines before)))
            (subst (StandsFor (event_lines before)) (sym same) read.entities);
        unrefused = refusal-next line_why before line None read.unrefused none;
      },
    )

-- it is refused, or memory ran out
undefined_for : (before : List TextLine) (old : Reader) (new : Definitions) (n : ℕ) (words : List (List ℕ))
    (unread : Unread DefFault) → HasRead before old
    → StopsAt (definition_lines before) (numbered_line n words) new unread
    → IsRefusedFor (reason_behind before words) unread
undefined_for before old new n words (unreads.Refused fault) read stops =
    reason_next before old n words (Some fault) read (sym (ap (λ d. d.fault) stops.0) ∙ stops.1)
undefined_for before old new n words unreads.Memory read stops = tt

pub undefined_line : {U : Type 0} (before : List TextLine) (line : TextLine) (old : Reader)
    (new : Definitions) (after : Reader) (r : Result U LineFault) (n : ℕ) (words : List (List ℕ)) (unread : Unread DefFault)
    → HasRead before old → reading line ≡ defines words
    → StopsAt (definition_lines before) (numbered_line n words) new unread
    → IsErrAnd r (λ e. e ≡ fault_of why_of_definition unread) → TakesLine (behind before line) after r
undefined_line before line old new after r n words unread read is stops gives =
    from_unread (behind before line) after r why_of_definition unread (reason_behind before words) gives
    (undefined_for before old new n words unread read stops) (why-by before line (defines words) is)

-- ---- event lines

-- what is known of the definitions, where no line of them is refused
pub facts : (before : List TextLine) (r : Reader) → HasRead before r → definitions_of r.definitions
    ≡ record {
      complete = complete_in (definition_lines before);
      begun = begun_in (definition_lines before);
      fault = None;
    }
facts before r read =
    let lines = definition_lines before in
    read.definitions ∙ ap (λ first. record {
      complete = complete_in (option_map_or (λ p. p.before) first lines);
      begun = begun_in (option_map_or (λ p. p.before) first lines);
      fault = option_and_then definition_reason_at first;
    }) (none_refused definition_reason_at lines (undefined before r read))

-- inside a definition
pub inside : (before : List TextLine) (line : TextLine) (r : Reader) (words : List (List ℕ)) → HasRead before
    r
    → reading line ≡ tells words → is_some (definitions_of r.definitions).begun ≡ true
    → line_why (behind before line) ≡ Some why.Unended
inside before line r words read is opened =
    why-by before line (tells words) is
    ∙ ap (λ b. first_of (when b why.Unended
    ∷ told_why before line.number words (told_behind before words) ∷ []))
    (sym (ap (λ d. is_some d.begun) (facts before r read)) ∙ opened)

-- behind all definitions
outside : (before : List TextLine) (line : TextLine) (r : Reader) (words : List (List ℕ))
    (event : Result Event EventFault) → HasRead before r → reading line ≡ tells words
    → is_some (definitions_of r.definitions).begun ≡ false
    → told_event (definitions_of r.definitions).complete words ≡ event
    → line_why (behind before line) ≡ told_why before line.number words event
outside before line r words event read is closed told_so =
    why-by before line (tells words) is
    ∙ (ap (λ b. first_of (when b why.Unended
    ∷ told_why before line.number words (told_behind before words) ∷ []))
    (sym (ap (λ d. is_some d.begun) (facts before r read)) ∙ closed)
    ∙ (first_one (told_why before line.number words (told_behind before words))
    ∙ ap (told_why before line.number words)
    (sym (ap (λ d. told_event d.complete words) (facts before r read)) ∙ told_so)))

-- no event
pub untold : (before : List TextLine) (line : TextLine) (r : Reader) (words : List (List ℕ))
    (fault : EventFault)
    → HasRead before r → reading line ≡ tells words → is_some (definitions_of r.definitions).begun ≡ false
    → told_event (definitions_of r.definitions).complete words ≡ Err fault
    → line_why (behind before line) ≡ Some (why_of_event fault)
untold before line r words fault read is closed told_so =
    outside before line r words (Err fault) read is closed told_so

-- the line that the fields tell
pub fields_line : (n : ℕ) (words : List (List ℕ)) (event : Event) (fields : Fields) → fields.time ≡ event.time
    → AreFields words event.definition fields → line_of n fields ≡ event_line n words event
fields_line n words event fields time are =
    ap (λ e. record (line_of n fields) { event = e }) are.kind
    ∙ (ap (λ t. record (line_of n fields) { event = event.definition.event; time = t }) time
    ∙ (ap (λ s. record (line_of n fields) { event = event.definition.event; time = event.time; size = s })
    are.size
    ∙ ap (λ t. record (event_line n words event) { text = t }) (ext are.texts)))

-- it is told as this event
told_event_line : (before : List TextLine) (line : TextLine) (r : Reader) (words : List (List ℕ)) (n : ℕ)
    (fields : Fields) (event : Event) → HasRead before r → line.number ≡ n → reading line ≡ tells words
    → is_some (definitions_of r.definitions).begun ≡ false
    → told_event (definitions_of r.definitions).complete words ≡ Ok event → fields.time ≡ event.time
    → AreFields words event.definition fields
    → line_why (behind before line)
    ≡ option_map why_of_entity (event_reason (event_lines before) (line_of n fields))
told_event_line before line r words n fields event read at is closed told_so time are =
    outside before line r words (Ok event) read is closed told_so
    ∙ ap (λ l. option_map why_of_entity (event_reason (event_lines before) l))
    (ap (λ n. event_line n words event) at ∙ sym (fields_line n words event fields time are))

-- it has its effect
pub taken_event : (U : Type 0) (before : List TextLine) (line : TextLine) (old new : Reader)
    (words : List (List ℕ)) (n : ℕ) (fields : Fields) (done : Effect) (entities : Entities)
    → HasRead before old → line.number ≡ n → reading line ≡ tells words
    → is_some (definitions_of old.definitions).begun ≡ false
    → Tells words (Ok fields) (told_event (definitions_of old.definitions).complete words)
    → Applies (event_lines before) (line_of n fields) new.entities (Ok done)
    → new.definitions ≡ old.definitions
    → (line_why (behind before line) ≡ None) × HasRead (before ++ line ∷ []) new
taken_event U before line old new words n fields done entities read at is closed (event, told_so, time, are)
    (reason, effect, stands) same =
    let none : line_why (behind before line) ≡ None =
    told_event_line before line old words n fields event read at is closed told_so time are
    ∙ ap (option_map why_of_entity) reason in
    let line_is : event_line line.number words event ≡ line_of n fields =
    ap (λ n. event_line n words event) at ∙ sym (fields_line n words event fields time are) in
    let told_here : told_behind before words ≡ Ok event =
    sym (ap (λ d. told_event d.complete words) (facts before old read)) ∙ told_so in (
      none,
      record {
        definitions = ap definitions_of same ∙ (read.definitions ∙ ap definitions_of_lines
            (sym (definitions-by before line (tells words) is ∙ append-nil (definition_lines before))));
        undisturbed = ap (λ d. (definitions_of d).fault) same ∙ read.undisturbed;
        entities = subst (λ lines. StandsFor lines new.entities)
            (sym (events-by before line (tells words) is
            ∙ (ap (λ e. event_lines before ++ option_to_list (event_line_of line.number words e)) told_here
            ∙ ap (λ l. event_lines before ++ l ∷ []) line_is))) stands;
        unrefused = refusal-next line_why before line None read.unrefused none;
      },
    )

-- it is refused, or memory ran out
pub refused_event : {U : Type 0} (before : List TextLine) (line : TextLine) (r : Reader) (after : Reader)
    (result : Result U LineFault) (words : List (List ℕ)) (n : ℕ) (fields : Fields)
    (unread : Unread ModelFault) (new : Entities)
    → HasRead before r → line.number ≡ n → reading line ≡ tells words
    → is_some (definitions_of r.definitions).begun ≡ false
    → Tells words (Ok fields) (told_event (definitions_of r.definitions).complete words)
    → Applies (event_lines before) (line_of n fields) new (Err unread)
    → IsErrAnd result (λ e. e ≡ fault_of why_of_entity unread) → TakesLine (behind before line) after result
refused_event before line r after result words n fields unread new read at is closed
    (event, told_so, time, are) applies gives =
    from_unread (behind before line) after result why_of_entity unread
    (event_reason (event_lines before) (line_of n fields)) gives applies.0
    (told_event_line before line r words n fields event read at is closed told_so time are)
