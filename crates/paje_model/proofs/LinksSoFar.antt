-- The link events of the lines so far, after one more.
use Rattle.std.proofs.Common.{◌≡◌, ℕ, ◌+◌, Bool, true, false, cond, List, [], ◌∷◌, ◌++◌, length, Option, Some}
use Rattle.std.proofs.Common.{None}
use Rattle.std.proofs.Common.{is_some, is_none, not, option_to_list, option_and_then, refl, sym, ap, ap₂, ◌∙◌}
use Rattle.std.proofs.Common.{true≢false}
use Rattle.std.proofs.Common.{length-append}
use Rattle.std.specs.Option.{option_map, option_zip}
use Rattle.list_lemmas.proofs.Options.{length-list_of_zip}
use Rattle.trace_base.specs.declared.messages.LinkEvent.{LinkEvent}
use Rattle.paje_defs.specs.declared.event_name.EventName.{EventName}
use Rattle.paje_defs.specs.declared.event_name.EventName.TheVariants as events
use Rattle.paje_defs.specs.declared.role.Role.{Role}
use Rattle.paje_defs.specs.declared.role.Role.TheVariants as roles
use Rattle.paje_defs.specs.Refusals.{when}
use Rattle.paje_lines.specs.declared.model_fault.ModelFault.TheVariants.{UnknownEntity, WrongKind}
use Rattle.paje_lines.specs.declared.what.What.TheVariants as what
use Rattle.paje_lines.specs.EventLine.{EventLine, defines_value, end_role, is_link_event, is_state_type}
use Rattle.paje_lines.specs.EventLine.{text_of}
use Rattle.paje_lines.specs.Types.{DeclaredType, link_kind_named, link_number, sort_of, type_named}
use Rattle.paje_lines.specs.Containers.{container_named}
use Rattle.paje_lines.specs.Reasons.{container_reason, event_reason_at, event_refusal, full, link_reason}
use Rattle.paje_lines.specs.Reasons.{links_in, reason_of, sort_reason, type_reason}
use Rattle.paje_lines.specs.Text.{link_at, links_of}
use Rattle.paje_model.specs.declared.known.Known.{Known}
use Rattle.paje_model.specs.Known.{IsKnown}
use Rattle.paje_model.specs.LinkTold.{link_told}
use Rattle.paje_defs.proofs.PlacedMore.{told-more}
use Rattle.paje_defs.proofs.RefusedMore.{Keeps, unrefused}
use Rattle.paje_lines.proofs.LinkEvents.{links_in-more}
use Rattle.paje_lines.proofs.NoReason.{each_none, linked}
use Rattle.paje_model.proofs.KeptFacts.{AreValues-kept}
use Rattle.paje_model.proofs.KeptKnown.{IsApart, known-next}
use Rattle.paje_model.proofs.TypesSoFar.{types_kept}

-- ---- each such line that isn't refused tells one

number_some : (role : Role) (o : Option DeclaredType)
    → sort_reason (λ sort. is_some (link_number sort)) role (option_map (λ t. t.sort) o) ≡ None
    → is_some (option_and_then (λ t. link_number t.sort) o) ≡ true
number_some role None e = absurd (true≢false (ap is_some e))
number_some role (Some t) e = by (is_some (link_number t.sort)) e
  where
    by : (b : Bool) → when (not b) (WrongKind role) ≡ None → b ≡ true
    by true e = refl
    by false e = absurd (true≢false (ap is_some e))

container_some : (role : Role) (o : Option ℕ) → when (is_none o) (UnknownEntity role) ≡ None
    → is_some o ≡ true
container_some role None e = absurd (true≢false (ap is_some e))
container_some role (Some c) e = refl

abbrev told_at : EventLine → ℕ × ℕ → LinkEvent
told_at line both = link_told line both.0 both.1

one_more : Keeps event_reason_at (λ lines. length (links_of lines) ≡ links_in lines)
one_more before line none is holds =
    ap length (told-more link_at before line)
    ∙ (length-append (links_of before) (option_to_list (link_at (record { before = before; line = line })))
    ∙ (ap₂ ◌+◌ holds (by (is_link_event line.event) refl) ∙ sym (links_in-more before line)))
  where
    kind : Option ℕ
    kind = link_kind_named before (text_of line roles.Kind)

    container : Option ℕ
    container = container_named before (text_of line (end_role line.event))

    by : (b : Bool) → is_link_event line.event ≡ b
        → length (option_to_list (cond b (option_map (told_at line) (option_zip kind container)) None))
        ≡ cond b 1 0
    by false e = refl
    by true e =
        let reasons = each_none (type_reason (λ sort. is_some (link_number sort)) before line roles.Kind
        ∷ container_reason before line (end_role line.event) ∷ full what.LinkEvents (links_in before) ∷ [])
        (linked line.event before line is e) in
        length-list_of_zip (told_at line) kind container
        (number_some roles.Kind (type_named before (text_of line roles.Kind)) reasons.0)
        (container_some (end_role line.event) container reasons.1.0)

pub links-counted : (lines : List EventLine) → event_refusal lines ≡ None
    → length (links_of lines) ≡ links_in lines
links-counted lines none = unrefused event_reason_at (λ lines. length (links_of lines) ≡ links_in lines)
    one_more refl lines none

-- ---- what is known after it

record IsLinked (lines : List EventLine) (line : EventLine) (event : EventName) : Type 0 where
  pub apart : IsApart event
  pub sort : sort_of lines event ≡ None
  pub state_types : is_state_type event ≡ false
  pub values : defines_value event ≡ false
  pub reason : reason_of event lines line ≡ link_reason (links_in lines) lines line

is_linked : (lines : List EventLine) (line : EventLine) (event : EventName) → is_link_event event ≡ true
    → IsLinked lines line event
is_linked lines line events.StartLink is = record {
  apart = record {
    states = refl;
    creates_none = refl;
    destroys_none = refl;
  };
  sort = refl;
  state_types = refl;
  values = refl;
  reason = refl;
}
is_linked lines line events.EndLink is = record {
  apart = record {
    states = refl;
    creates_none = refl;
    destroys_none = refl;
  };
  sort = refl;
  state_types = refl;
  values = refl;
  reason = refl;
}
is_linked lines line _ is = absurd (true≢false (sym is))

-- what a line of this link type and container tells
pub record TellsLink (lines : List EventLine) (line : EventLine) (kind container : ℕ) : Type 0 where
  pub event : is_link_event line.event ≡ true
  pub kind_named : link_kind_named lines (text_of line roles.Kind) ≡ Some kind
  pub container_named : container_named lines (text_of line (end_role line.event)) ≡ Some container
  pub reason : link_reason (links_in lines) lines line ≡ None

links_told : (lines : List EventLine) (line : EventLine) (kind container : ℕ)
    → TellsLink lines line kind container
    → links_of (lines ++ line ∷ []) ≡ links_of lines ++ link_told line kind container ∷ []
links_told lines line kind container tells =
    told-more link_at lines line ∙ (ap₂ (λ k c. links_of lines ++ option_to_list
    (cond (is_link_event line.event) (option_map (told_at line) (option_zip k c)) None))
    tells.kind_named tells.container_named
    ∙ ap (λ b. links_of lines ++ option_to_list (cond b (Some (link_told line kind container)) None))
    tells.event)

pub known-linked : (lines : List EventLine) (line : EventLine) (kind container : ℕ) (k : Known)
    (links : List LinkEvent) → IsKnown lines k → TellsLink lines line kind container
    → links ≡ k.links ++ link_told line kind container ∷ []
    → IsKnown (lines ++ line ∷ []) (record k { links = links })
known-linked lines line kind container k links known tells is =
    let facts : IsLinked lines line line.event = is_linked lines line line.event tells.event in
    known-next lines line k (record k { links = links }) known (facts.reason ∙ tells.reason) facts.apart
    (record {
      types = types_kept lines line k.types known.types facts.sort;
      values = AreValues-kept lines line k.values known.values facts.values facts.state_types;
      links = is ∙ (ap (λ ls. ls ++ link_told line kind container ∷ []) known.links
          ∙ sym (links_told lines line kind container tells));
    }) (record { containers = refl; functions = refl; tracks = refl; states = refl })
