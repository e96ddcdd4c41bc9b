-- The link events of a canonical text: none is refused, and they are told as they are.
use Rattle.std.proofs.Common.{◌≡◌, ℕ, ◌+◌, ◌<◌, List, [], ◌∷◌, ◌++◌, length, Bool, true, false}
use Rattle.std.proofs.Common.{cond, is_some, Some, None, refl, sym, ◌∙◌, ap, ap₂, arith}
use Rattle.std.specs.List.{All, AllByRecursion}
use Rattle.std.specs.Option.{option_map, option_to_list, option_zip}
use Rattle.std.proofs.lemmas.List.{length_push}
use Rattle.std.proofs.lemmas.List.Elements.{All-from_recursion, recursion_from_All}
use Rattle.list_lemmas.proofs.Each.{all_append, item_has}
use Rattle.list_lemmas.proofs.Options.{cond_unless}
use Rattle.list_lemmas.proofs.Positions.{item_within}
use Rattle.trace_base.specs.declared.limits.TheConstants.{MAX_LINK_EVENTS}
use Rattle.trace_base.specs.declared.messages.LinkEvent.{LinkEvent}
use Rattle.trace_base.specs.declared.text.TraceText.{TraceText}
use Rattle.paje_defs.specs.declared.role.Role.TheVariants as roles
use Rattle.paje_defs.specs.Refusals.{placed_behind}
use Rattle.paje_defs.proofs.PlacedMore.{told-more}
use Rattle.paje_lines.specs.declared.type_sort.TypeSort.TheVariants as sorts
use Rattle.paje_lines.specs.declared.what.What.TheVariants as what
use Rattle.paje_lines.specs.Containers.{container_named}
use Rattle.paje_lines.specs.EventLine.{EventLine, is_link_event}
use Rattle.paje_lines.specs.Examples.{from}
use Rattle.paje_lines.specs.Reasons.{container_reason, event_reason, full, links_in, type_reason}
use Rattle.paje_lines.specs.Reasons.{event_reason_at}
use Rattle.paje_lines.specs.Text.{link_at, links_of}
use Rattle.paje_lines.specs.Types.{link_kind_named, link_number, type_named}
use Rattle.paje_print.specs.Canonical.{HasCanonicalSize, IsCanonical, LinksExisting, size_limit}
use Rattle.paje_print.specs.WrittenNumbers.{container_alias, link_type_alias}
use Rattle.paje_lines.proofs.LinkEvents.{links_in-more}
use Rattle.paje_read_back.specs.ToldLines.{declarations_told, end_told, link_told, links_told, start_told}
use Rattle.paje_read_back.proofs.DeclaredContainers.{of-container}
use Rattle.paje_read_back.proofs.DeclaredLines.{NoneIs, Step, none-picked, none-told}
use Rattle.paje_read_back.proofs.DeclaredLines.{walk}
use Rattle.paje_read_back.proofs.DeclaredTypes.{link-sort, of-sort}
use Rattle.paje_read_back.proofs.DeclaredUnrefused.{Declares, Unrefused, declarations-each, declared}
use Rattle.paje_read_back.proofs.LineKinds.{IsLinkLine, IsStateLine, link_event, link_facts}
use Rattle.paje_read_back.proofs.LineKinds.{states-declare_nothing, states-no_links}
use Rattle.paje_read_back.proofs.NamesFound.{container-at, declares-kept, link_kind-at}
use Rattle.paje_read_back.proofs.NoReasons.{all_none, not-full}

-- ---- what the line of a link event finds

-- its link type and its container
record FindsLink (before : List EventLine) (l : LinkEvent) : Type 0 where
  kind : link_kind_named before (link_type_alias l.kind) ≡ Some l.kind
  sort : option_map (λ t. t.sort) (type_named before (link_type_alias l.kind)) ≡ Some (sorts.Link l.kind)
  container : container_named before (container_alias l.container) ≡ Some l.container

finds-link : (t : TraceText) (before : List EventLine) (l : LinkEvent) → IsCanonical t → Declares t before
    → LinksExisting t.names l → FindsLink before l
finds-link t before l is are (container, kind) =
    let types = is.limits.types in
    record {
      kind = link_kind-at t before l.kind is are kind;
      sort = link-sort before (length t.names.kinds) (length t.names.link_kinds) l.kind are.types kind
          (omega (arith, types));
      container = container-at t before l.container is are container;
    }

-- ---- none is refused

link_unrefused : (before : List EventLine) (l : LinkEvent) (n : ℕ) → FindsLink before l
    → links_in before < MAX_LINK_EVENTS → (b : Bool)
    → event_reason before (cond b (start_told l) (end_told l) n) ≡ None
link_unrefused before l n finds room true =
    all_none (type_reason (λ sort. is_some (link_number sort)) before (start_told l n) roles.Kind
    ∷ container_reason before (start_told l n) roles.From ∷ full what.LinkEvents (links_in before) ∷ []) (
      of-sort (λ sort. is_some (link_number sort)) before (start_told l n) roles.Kind (sorts.Link l.kind)
          finds.sort refl,
      (
        of-container before (start_told l n) roles.From l.container finds.container,
        (not-full what.LinkEvents (links_in before) room, tt),
      ),
    )
link_unrefused before l n finds room false =
    all_none (type_reason (λ sort. is_some (link_number sort)) before (end_told l n) roles.Kind
    ∷ container_reason before (end_told l n) roles.To ∷ full what.LinkEvents (links_in before) ∷ []) (
      of-sort (λ sort. is_some (link_number sort)) before (end_told l n) roles.Kind (sorts.Link l.kind)
          finds.sort refl,
      (
        of-container before (end_told l n) roles.To l.container finds.container,
        (not-full what.LinkEvents (links_in before) room, tt),
      ),
    )

-- ---- each is told as it is

abbrev link_as : LinkEvent → Bool → ℕ → ℕ → ℕ → LinkEvent
link_as l starts size kind container = record {
  starts = starts;
  kind = kind;
  key = l.key;
  container = container;
  time = l.time;
  size = size;
}

link_is : (before : List EventLine) (l : LinkEvent) (n : ℕ) → FindsLink before l → (b : Bool)
    → l.starts ≡ b → l.size < size_limit b
    → link_at (record { before = before; line = cond b (start_told l) (end_told l) n }) ≡ Some l
link_is before l n finds true starts size =
    ap₂ (λ kind container. option_map (λ (both : ℕ × ℕ). link_as l true l.size both.0 both.1)
    (option_zip kind container)) finds.kind finds.container
    ∙ ap (λ b. Some (link_as l b l.size l.kind l.container)) (sym starts)
link_is before l n finds false starts size =
    let none : 0 ≡ l.size = omega (arith, size) in
    ap₂ (λ kind container. option_map (λ (both : ℕ × ℕ). link_as l false 0 both.0 both.1)
    (option_zip kind container)) finds.kind finds.container
    ∙ ap₂ (λ b size. Some (link_as l b size l.kind l.container)) (sym starts) none

-- ---- one more

-- behind these lines and these link events
record LinksAre (t : TraceText) (done : List LinkEvent) (before : List EventLine) : Type 0 where
  declares : Declares t before
  count : links_in before ≡ length done
  links : links_of before ≡ done

links_step : (t : TraceText) → IsCanonical t → Step link_told (LinksAre t) Unrefused t.links
links_step t is done l left n before at are =
    let existing = item_has (LinksExisting t.names) done left l t.links at
    (recursion_from_All (LinksExisting t.names) t.links is.linked) in
    let size = item_has HasCanonicalSize done left l t.links at
    (recursion_from_All HasCanonicalSize t.links is.sizes) in
    let within = item_within done left l t.links at in
    let limit = is.limits.links in
    let count = are.count in
    let finds = finds-link t before l is are.declares existing in
    let event : IsLinkLine (link_told l n) = link_event l n l.starts in (
      link_unrefused before l n finds (omega (arith, within, limit, count)) l.starts,
      record {
        declares = declares-kept t before (link_told l n ∷ [])
            ((link_facts (link_told l n).event event).0, tt) are.declares;
        count = links_in-more before (link_told l n) ∙ (ap (λ b. links_in before + cond b 1 0) event
            ∙ (ap (λ n. n + 1) are.count ∙ sym (length_push done l)));
        links = told-more link_at before (link_told l n)
            ∙ (ap (λ o. links_of before ++ option_to_list o) (link_is before l n finds l.starts refl size)
            ∙ ap (λ ls. ls ++ l ∷ []) are.links);
      },
    )

-- behind the declarations and the state events
links-first : (t : TraceText) → IsCanonical t → (states : List EventLine) → AllByRecursion IsStateLine states
    → LinksAre t [] (declarations_told t ++ states)
links-first t is states are =
    let none : NoneIs (λ l. is_link_event l.event) (declarations_told t ++ states) =
    all_append (λ l. is_link_event l.event ≡ false) (declarations_told t) states
    (declarations-each t (λ l. is_link_event l.event ≡ false) (λ n. refl) (λ k n. refl) (λ k n. refl)
    (λ c n. refl)) (states-no_links states are) in
    record {
      declares = declares-kept t (declarations_told t) states (states-declare_nothing states are)
          (declared t is).declares;
      count = ap length (none-picked (λ l. is_link_event l.event) (declarations_told t ++ states) none);
      links = none-told link_at (λ l. is_link_event l.event)
          (λ before line never. cond_unless (is_link_event line.event) _ never) []
          (declarations_told t ++ states) none;
    }

links-walked : (t : TraceText) → IsCanonical t → (states : List EventLine) → AllByRecursion IsStateLine states
    → (n : ℕ) → AllByRecursion Unrefused (placed_behind (declarations_told t ++ states)
    (from n (links_told t)))
    × LinksAre t t.links (declarations_told t ++ states ++ from n (links_told t))
links-walked t is states are n = walk link_told (LinksAre t) Unrefused t.links (links_step t is) n
    (declarations_told t ++ states) (links-first t is states are)

-- no link event is refused behind the state events
pub links-unrefused : (t : TraceText) → IsCanonical t → (states : List EventLine) → All IsStateLine states
    → (n : ℕ) → All (λ p. event_reason_at p ≡ None) (placed_behind (declarations_told t ++ states)
    (from n (links_told t)))
links-unrefused t is states are n = All-from_recursion Unrefused
    (placed_behind (declarations_told t ++ states) (from n (links_told t)))
    (links-walked t is states (recursion_from_All IsStateLine states are) n).0

-- behind them the link events are those of the trace
pub links-behind : (t : TraceText) → IsCanonical t → (states : List EventLine)
    → AllByRecursion IsStateLine states → (n : ℕ)
    → links_of (declarations_told t ++ states ++ from n (links_told t)) ≡ t.links
links-behind t is states are n = (links-walked t is states are n).1.links
