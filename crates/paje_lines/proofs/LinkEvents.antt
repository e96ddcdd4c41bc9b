-- The link events of the lines of a trace are within the limit, and their containers exist.
use Rattle.std.proofs.Common.{◌≡◌, ℕ, ◌+◌, ◌<◌, ◌≤◌, List, [], ◌∷◌, ◌++◌, Bool, true, false, cond, filter}
use Rattle.std.proofs.Common.{Option, Some, None, is_some, length, refl, sym, ◌∙◌, ap, subst, arith}
use Rattle.std.specs.List.{AllByRecursion}
use Rattle.std.specs.Option.{option_map, option_to_list, option_zip}
use Rattle.std.proofs.lemmas.List.{length-append}
use Rattle.std.proofs.lemmas.List.Elements.{filter-append}
use Rattle.list_lemmas.proofs.Each.{all_append, all_mapped}
use Rattle.list_lemmas.proofs.Fronts.{each_front}
use Rattle.list_lemmas.proofs.Options.{length-list_of_cond}
use Rattle.trace_base.specs.declared.limits.TheConstants.{MAX_LINK_EVENTS}
use Rattle.trace_base.specs.declared.messages.LinkEvent.{LinkEvent}
use Rattle.paje_defs.specs.declared.role.Role.TheVariants as roles
use Rattle.paje_defs.proofs.PlacedMore.{told-more}
use Rattle.paje_defs.proofs.RefusedMore.{Keeps, unrefused}
use Rattle.paje_lines.specs.declared.what.What.TheVariants as what
use Rattle.paje_lines.specs.EventLine.{EventLine, text_of, is_link_event, end_role, starts_link}
use Rattle.paje_lines.specs.Types.{link_kind_named, link_number}
use Rattle.paje_lines.specs.Containers.{containers_in, container_named}
use Rattle.paje_lines.specs.Reasons.{event_reason_at, event_refusal, links_in, type_reason, container_reason}
use Rattle.paje_lines.specs.Reasons.{full}
use Rattle.paje_lines.specs.Text.{link_at, links_of}
use Rattle.paje_lines.proofs.NoReason.{each_none, room, linked}
use Rattle.paje_lines.proofs.Containers.{named_exists, containers_kept}

-- ---- how many there are

one_counted : (b : Bool) (line : EventLine) → length (cond b (line ∷ []) []) ≡ cond b 1 0
one_counted true line = refl
one_counted false line = refl

pub links_in-more : (lines : List EventLine) (line : EventLine)
    → links_in (lines ++ line ∷ []) ≡ links_in lines + cond (is_link_event line.event) 1 0
links_in-more lines line =
    ap length (filter-append (λ l. is_link_event l.event) lines (line ∷ []))
    ∙ (length-append (filter (λ l. is_link_event l.event) lines) (filter (λ l. is_link_event l.event) (line ∷
    []))
    ∙ ap (λ n. links_in lines + n) (one_counted (is_link_event line.event) line))

abbrev AreWithin : List EventLine → Type 0
AreWithin lines = links_in lines ≤ MAX_LINK_EVENTS

links_more : Keeps event_reason_at AreWithin
links_more before line none is holds =
    subst (λ n. n ≤ MAX_LINK_EVENTS) (sym (links_in-more before line)) (by (is_link_event line.event) refl)
  where
    by : (b : Bool) → is_link_event line.event ≡ b → links_in before + cond b 1 0 ≤ MAX_LINK_EVENTS
    by false e = omega (arith, holds)
    by true e =
        let below = room what.LinkEvents (links_in before)
        (each_none (type_reason (λ sort. is_some (link_number sort)) before line roles.Kind
        ∷ container_reason before line (end_role line.event)
        ∷ full what.LinkEvents (links_in before) ∷ []) (linked line.event before line is e)).1.1.0 in
        omega (arith, below)

abbrev link_told : EventLine → ℕ × ℕ → LinkEvent
link_told line both = record {
  starts = starts_link line.event;
  kind = both.0;
  key = text_of line roles.Key;
  container = both.1;
  time = line.time;
  size = cond (starts_link line.event) line.size 0;
}

some_links : (lines : List EventLine) → length (links_of lines) ≤ links_in lines
some_links lines = each_front (λ lines. length (links_of lines) ≤ links_in lines)
    (λ before line holds. let one = length-list_of_cond (is_link_event line.event) (link_told line)
    (option_zip (link_kind_named before (text_of line roles.Kind))
    (container_named before (text_of line (end_role line.event)))) in
    let all = links_in-more before line in
    let told = ap length (told-more link_at before line) ∙ length-append (links_of before)
    (option_to_list (link_at (record { before = before; line = line }))) in
    omega (arith, one, all, told, holds)) (omega arith) lines

pub links_within : (lines : List EventLine) → event_refusal lines ≡ None
    → length (links_of lines) ≤ MAX_LINK_EVENTS
links_within lines none =
    let some = some_links lines in
    let all = unrefused event_reason_at AreWithin links_more (omega arith) lines none in
    omega (arith, some, all)

-- ---- their containers exist

abbrev AreBelow : List EventLine → List LinkEvent → Type 0
AreBelow lines links = AllByRecursion (λ l. l.container < length (containers_in lines)) links

below_more : (lines : List EventLine) (line : EventLine) (links : List LinkEvent) → AreBelow lines links
    → AreBelow (lines ++ line ∷ []) links
below_more lines line links are =
    let containers = containers_kept lines line in
    all_mapped (λ l. l.container < length (containers_in lines))
    (λ l. l.container < length (containers_in (lines ++ line ∷ [])))
    (λ l is. omega (arith, containers, is)) links are

told_below : (lines : List EventLine) (line : EventLine) → AreBelow lines
    (option_to_list (link_at (record { before = lines; line = line })))
told_below lines line = by (is_link_event line.event) (link_kind_named lines (text_of line roles.Kind))
    (container_named lines (text_of line (end_role line.event))) refl
  where
    by : (b : Bool) (kind container : Option ℕ)
        → container_named lines (text_of line (end_role line.event)) ≡ container
        → AreBelow lines (option_to_list (cond b (option_map (link_told line)
        (option_zip kind container)) None))
    by false kind container is = tt
    by true None container is = tt
    by true (Some kind) None is = tt
    by true (Some kind) (Some container) is =
        (named_exists lines (text_of line (end_role line.event)) container is, tt)

pub links_exist : (lines : List EventLine) → AllByRecursion
    (λ l. l.container < length (containers_in lines)) (links_of lines)
links_exist lines = each_front (λ lines. AreBelow lines (links_of lines))
    (λ before line are. subst (AreBelow (before ++ line ∷ [])) (sym (told-more link_at before line))
    (below_more before line (links_of before ++ option_to_list (link_at (record {
      before = before;
      line = line;
    })))
    (all_append (λ l. l.container < length (containers_in before)) (links_of before)
    (option_to_list (link_at (record { before = before; line = line }))) are (told_below before line))))
    tt lines
