-- Which texts an event line has under the definitions.
use Rattle.std.proofs.Common.{◌≡◌, ℕ, ◌+◌, ◌<◌, List, [], ◌∷◌, length, slice_get, nat_lt, cond}
use Rattle.std.proofs.Common.{Bool, true, false, Option, Some, None, is_some, is_none, IfSome, Result}
use Rattle.std.proofs.Common.{Ok, Err, refl, sym, ◌∙◌, ap, subst, arith}
use Rattle.std.specs.List.{AllByRecursion, find}
use Rattle.std.specs.Option.{IsSome, option_and_then}
use Rattle.std.specs.Result.{is_ok, result_unwrap_or, IfOk}
use Rattle.std.proofs.lemmas.Bool.{true≢false, ltb-true}
use Rattle.std.proofs.lemmas.Option.{slice_get-get_or}
use Rattle.list_lemmas.proofs.Options.{or_both}
use Rattle.list_lemmas.proofs.Places.{position-within}
use Rattle.paje_lex.specs.declared.date_fault.DateFault.{DateFault}
use Rattle.paje_defs.specs.declared.role.Role.{Role}
use Rattle.paje_defs.specs.declared.role.Role.TheVariants as roles
use Rattle.paje_defs.specs.declared.field_name.FieldName.{FieldName}
use Rattle.paje_defs.specs.declared.event_name.EventName.{EventName}
use Rattle.paje_defs.specs.declared.field.Field.{Field}
use Rattle.paje_defs.specs.declared.definition.Definition.{Definition}
use Rattle.paje_defs.specs.declared.event_fault.EventFault.{EventFault}
use Rattle.paje_defs.specs.declared.event_fault.EventFault.TheVariants as faults
use Rattle.paje_defs.specs.declared.fields.Fields.{Fields}
use Rattle.paje_defs.specs.declared.texts.Texts.{Texts}
use Rattle.paje_defs.specs.Definition.{IsWhole, is_named, place_of, place_of_name}
use Rattle.paje_defs.specs.Numbers.{event_number_of}
use Rattle.paje_defs.specs.Role.{first_name, needed, second_name}
use Rattle.paje_defs.specs.Lines.{definition_of}
use Rattle.paje_defs.specs.Events.{Event, RolesStand, Tells, event_numbered, told_event, event_under}
use Rattle.paje_defs.specs.Events.{role_text}
use Rattle.paje_defs.specs.Events.{time_of_text, timed}
use Rattle.paje_defs.specs.Texts.{HasNeeded, text_at, text_by_role}

-- ---- where a field stands

second_within : (fields : List Field) (name : Option FieldName)
    → IfSome (option_and_then (place_of_name fields) name) (λ at. at < length fields)
second_within fields None = tt
second_within fields (Some name) = position-within (is_named name) fields

pub place_within : (event : EventName) (fields : List Field) (role : Role)
    → IfSome (place_of event fields role) (λ at. at < length fields)
place_within event fields role =
    or_both (λ (at : ℕ). at < (length fields)) (place_of_name fields (first_name role)) (option_and_then
    (place_of_name fields) (second_name event role)) (position-within (is_named (first_name role)) fields)
    (second_within fields (second_name event role))

-- ---- the definition of an event line

-- the definition is one of the entries, and the line has a word for each of its fields
record IsFound (entries : List (ℕ × Definition)) (words : List (List ℕ)) (d : Definition) : Type 0 where
  number : ℕ
  found : definition_of entries number ≡ Some d
  enough : length d.fields < length words

abbrev pub definition_or : Definition → Result Event EventFault → Definition
definition_or d (Ok e) = e.definition
definition_or d (Err f) = d

timed_by : (d : Definition) (time : Result ℕ DateFault) (e : Event) → timed d time ≡ Ok e → d ≡ e.definition
timed_by d (Ok time) e is = ap (definition_or d) is
timed_by d (Err f) e is = absurd (true≢false (sym (ap is_ok is)))

under_by : (entries : List (ℕ × Definition)) (words : List (List ℕ)) (number : ℕ) (d : Definition) (e : Event)
    (b : Bool) → definition_of entries number ≡ Some d
    → nat_lt (length d.fields) (length words) ≡ b
    → cond b (timed d (time_of_text (role_text d words roles.Time))) (Err faults.TooFew) ≡ Ok e
    → IsFound entries words e.definition
under_by entries words number d e true found test is =
    subst (IsFound entries words) (timed_by d (time_of_text (role_text d words roles.Time)) e is)
    (record { number = number; found = found; enough = ltb-true (length d.fields) (length words) test })
under_by entries words number d e false found test is = absurd (true≢false (sym (ap is_ok is)))

numbered_by : (entries : List (ℕ × Definition)) (words : List (List ℕ)) (number : ℕ) (o : Option Definition)
    (e : Event) → definition_of entries number ≡ o
    → event_under words o ≡ Ok e → IsFound entries words e.definition
numbered_by entries words number None e found is = absurd (true≢false (sym (ap is_ok is)))
numbered_by entries words number (Some d) e found is = under_by entries words number d e
    (nat_lt (length d.fields) (length words)) found refl is

found_by : (entries : List (ℕ × Definition)) (words : List (List ℕ)) (number : Option ℕ) (e : Event)
    → event_numbered entries words number ≡ Ok e → IsFound entries words e.definition
found_by entries words None e is = absurd (true≢false (sym (ap is_ok is)))
found_by entries words (Some number) e is = numbered_by entries words number (definition_of entries number) e
    refl is

event_found : (entries : List (ℕ × Definition)) (words : List (List ℕ)) (e : Event)
    → told_event entries words ≡ Ok e → IsFound entries words e.definition
event_found entries words e is = found_by entries words (option_and_then event_number_of (slice_get words 0))
    e is

-- ---- the texts of its roles

text_stands : (words : List (List ℕ)) (len : ℕ) (place : Option ℕ) → len < length words
    → IfSome place (λ at. at < len) → is_some (text_at words place) ≡ is_some place
text_stands words len None enough within = refl
text_stands words len (Some at) enough within = ap is_some (slice_get-get_or words (at + 1) [] (omega arith))

ok_is : (a b : Event) (r : Result Event EventFault) → r ≡ Ok a → r ≡ Ok b → a ≡ b
ok_is a b r one other = ap (λ r. result_unwrap_or r a) (sym one ∙ other)

pub roles_stand : (entries : List (ℕ × Definition)) (words : List (List ℕ)) (r : Result Fields EventFault)
    → Tells words r (told_event entries words)
    → (e : Event) → told_event entries words ≡ Ok e → IfOk r (RolesStand e.definition)
roles_stand entries words (Err f) tells e is = tt
roles_stand entries words (Ok f) (told, wanted, time, are) e is = λ role.
    let same : told ≡ e = ok_is told e (told_event entries words) wanted is in
    let found = event_found entries words e is in
    ap is_some (are.texts role)
    ∙ (ap (λ t. is_some (role_text t.definition words role)) same
    ∙ text_stands words (length e.definition.fields) (place_of e.definition.event e.definition.fields role)
    found.enough
    (place_within e.definition.event e.definition.fields role))

-- ---- the roles that the event needs

none_missing : (event : EventName) (fields : List Field) (t : Texts) (asked : List Role)
    → ((role : Role) → is_some (text_by_role t role) ≡ is_some (place_of event fields role))
    → is_some (find (λ role. is_none (place_of event fields role)) asked) ≡ false
    → AllByRecursion (λ role. IsSome (text_by_role t role)) asked
none_missing event fields t [] stand none = tt
none_missing event fields t (role ∷ asked) stand none = by_place (place_of event fields role) (stand role)
    none (none_missing event fields t asked stand)
  where
    by_place : (place : Option ℕ) → is_some (text_by_role t role) ≡ is_some place
        → is_some (cond (is_none place) (Some role)
        (find (λ role. is_none (place_of event fields role)) asked)) ≡ false
        → (is_some (find (λ role. is_none (place_of event fields role)) asked) ≡ false
        → AllByRecursion (λ role. IsSome (text_by_role t role)) asked)
        → AllByRecursion (λ role. IsSome (text_by_role t role)) (role ∷ asked)
    by_place None stands e later = absurd (true≢false e)
    by_place (Some at) stands e later = (stands, later e)

pub has_needed : (d : Definition) (words : List (List ℕ)) (t : Texts)
    → ((role : Role) → text_by_role t role ≡ role_text d words role) → length d.fields < length words
    → IsWhole d
    → HasNeeded d.event t
has_needed d words t texts enough whole =
    none_missing d.event d.fields t (needed d.event)
    (λ role. ap is_some (texts role) ∙ text_stands words (length d.fields) (place_of d.event d.fields role)
    enough (place_within d.event d.fields role)) whole
