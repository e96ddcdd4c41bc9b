-- Behind the declarations of a canonical text each of its names is found.
use Rattle.std.proofs.Common.{◌≡◌, ℕ, ◌+◌, ◌<◌, ◌||◌, List, [], ◌∷◌, ◌++◌, map, drop, length}
use Rattle.std.proofs.Common.{slice_get, true, false, Option, Some, None, refl, sym}
use Rattle.std.proofs.Common.{◌∙◌, ap, arith}
use Rattle.std.specs.List.{All, AllByRecursion, enumerate_from}
use Rattle.std.specs.Option.{option_map, option_map_or}
use Rattle.std.proofs.lemmas.Bool.{not-true, or_parts, or_from, true≢false}
use Rattle.std.proofs.lemmas.List.{length-drop}
use Rattle.std.proofs.lemmas.List.Elements.{recursion_from_All}
use Rattle.std.proofs.lemmas.List.FromFn.{length-enumerate_from}
use Rattle.std.proofs.lemmas.Option.{none-some, same_Some, slice_get-map, slice_get_within}
use Rattle.list_lemmas.proofs.Each.{all_append, all_mapped}
use Rattle.list_lemmas.proofs.Maps.{enumerate-values}
use Rattle.list_lemmas.proofs.Options.{cond_unless}
use Rattle.trace_base.specs.declared.names.Container.{Container}
use Rattle.trace_base.specs.declared.text.TraceText.{TraceText}
use Rattle.paje_defs.specs.declared.event_name.EventName.{EventName}
use Rattle.paje_defs.specs.declared.event_name.EventName.TheVariants as events
use Rattle.paje_lines.specs.Containers.{DeclaredContainer, container_named, container_start, containers_in}
use Rattle.paje_lines.specs.EventLine.{EventLine, creates, defines_value, is_link_type, is_plain_type}
use Rattle.paje_lines.specs.EventLine.{is_state_type}
use Rattle.paje_lines.specs.Types.{kind_named, link_kind_named}
use Rattle.paje_lines.specs.Values.{value_at, values_in}
use Rattle.paje_print.specs.Canonical.{IsCanonical, root_until}
use Rattle.paje_print.specs.CanonicalText.{placed_containers}
use Rattle.paje_print.specs.WrittenNumbers.{container_alias, link_type_alias, state_type_alias}
use Rattle.paje_read_back.specs.ToldLines.{declarations_told}
use Rattle.paje_read_back.proofs.DeclaredContainers.{container-found, containers-kept}
use Rattle.paje_read_back.proofs.DeclaredLines.{NoneIs, none-told}
use Rattle.paje_read_back.proofs.DeclaredTypes.{declares_type, kind-found, link_kind-found, types-kept}
use Rattle.paje_read_back.proofs.DeclaredUnrefused.{Declares, declarations-each, declared}
use Rattle.paje_read_back.proofs.FindsNames.{DeclaresNothing, FindsNames, declares_nothing}

-- ---- lines that declare nothing

parts_of : (event : EventName) → declares_nothing event ≡ true
    → (is_plain_type event ≡ false) × (is_link_type event ≡ false) × (defines_value event ≡ false)
    × (creates event ≡ false)
parts_of event nothing =
    let all = not-true (is_plain_type event || (is_link_type event || (defines_value event
    || creates event))) nothing in
    let first = or_parts (is_plain_type event) (is_link_type event || (defines_value event
    || creates event)) all in
    let second = or_parts (is_link_type event) (defines_value event || creates event) first.1 in
    let third = or_parts (defines_value event) (creates event) second.1 in
    (first.0, second.0, third.0, third.1)

pub no-link_type : (event : EventName) → declares_nothing event ≡ true → is_link_type event ≡ false
no-link_type event nothing = (parts_of event nothing).1

pub no-state_type : (event : EventName) → declares_nothing event ≡ true → is_state_type event ≡ false
no-state_type events.DefineStateType nothing = absurd (true≢false (sym nothing))
no-state_type _ nothing = refl

no-type : (lines : List EventLine) → AllByRecursion DeclaresNothing lines → NoneIs declares_type lines
no-type lines nothing = all_mapped DeclaresNothing (λ l. declares_type l ≡ false) (λ l is.
    or_from (is_plain_type l.event) (is_link_type l.event) (parts_of l.event is).0 (parts_of l.event is).1)
    lines nothing

no-value : (lines : List EventLine) → AllByRecursion DeclaresNothing lines
    → NoneIs (λ l. defines_value l.event) lines
no-value lines nothing = all_mapped DeclaresNothing (λ l. defines_value l.event ≡ false)
    (λ l is. (parts_of l.event is).2) lines nothing

pub no-container : (lines : List EventLine) → AllByRecursion DeclaresNothing lines
    → NoneIs (λ l. creates l.event) lines
no-container lines nothing = all_mapped DeclaresNothing (λ l. creates l.event ≡ false)
    (λ l is. (parts_of l.event is).3) lines nothing

pub declares-kept : (t : TraceText) (before rest : List EventLine) → AllByRecursion DeclaresNothing rest
    → Declares t before → Declares t (before ++ rest)
declares-kept t before rest nothing are = record {
  types = types-kept before rest (length t.names.kinds) (length t.names.link_kinds) (no-type rest nothing)
      are.types;
  containers = containers-kept before rest (placed_containers t) (no-container rest nothing) are.containers;
}

-- ---- no line of the text defines a value

declarations-no_value : (t : TraceText) → NoneIs (λ l. defines_value l.event) (declarations_told t)
declarations-no_value t = declarations-each t (λ l. defines_value l.event ≡ false) (λ n. refl) (λ k n. refl)
    (λ k n. refl) (λ c n. refl)

none_valued : (lines : List EventLine) → NoneIs (λ l. defines_value l.event) lines → values_in lines ≡ []
none_valued lines none = none-told value_at (λ l. defines_value l.event)
    (λ before line never. cond_unless (defines_value line.event) _ never) [] lines none

-- ---- the containers

pub count-placed : (t : TraceText) → IsCanonical t
    → length (placed_containers t) + 1 ≡ length t.names.containers
count-placed t is =
    let count = length-enumerate_from 1 (drop 1 t.names.containers) in
    let rest = length-drop 1 t.names.containers in
    let some = slice_get_within t.names.containers 0 (root_until t.names.end) is.root in
    omega (arith, count, rest, some)

-- the root, and those behind it
whole_by : {X : Type 0} (f : Container → X) (cs : List Container) (root : Container)
    → slice_get cs 0 ≡ Some root → f root ∷ map (λ (p : ℕ × Container). f p.1) (enumerate_from 1 (drop 1 cs))
    ≡ map f cs
whole_by f [] root is = absurd (none-some root is)
whole_by f (c ∷ cs) root is = ap (λ c. f c ∷ map (λ (p : ℕ × Container). f p.1) (enumerate_from 1 cs))
    (sym (same_Some c root is)) ∙ ap (λ xs. f c ∷ xs) (enumerate-values f 1 cs)

pub starts-are : (t : TraceText) (before : List EventLine) → IsCanonical t → Declares t before
    → map (λ c. c.start) (containers_in before) ≡ map (λ c. c.start) t.names.containers
starts-are t before is are = are.containers.starts
    ∙ whole_by (λ c. c.start) t.names.containers (root_until t.names.end) is.root

pub names-are : (t : TraceText) (before : List EventLine) → IsCanonical t → Declares t before
    → map (λ c. c.entity.name) (containers_in before) ≡ map (λ c. c.name) t.names.containers
names-are t before is are = sym (map-map (λ c. c.entity) (λ e. e.name) (containers_in before))
    ∙ (are.containers.names ∙ whole_by (λ c. c.name) t.names.containers (root_until t.names.end) is.root)
  where
    map-map : {X Y Z : Type 0} (f : X → Y) (g : Y → Z) (xs : List X) → map g (map f xs)
        ≡ map (λ x. g (f x)) xs
    map-map f g [] = refl
    map-map f g (x ∷ xs) = ap (λ ys. g (f x) ∷ ys) (map-map f g xs)

pub start-found : (t : TraceText) (before : List EventLine) → IsCanonical t → Declares t before → (i : ℕ)
    (c : Container) → slice_get t.names.containers i ≡ Some c → container_start before i ≡ c.start
start-found t before is are i c at =
    by (slice_get (containers_in before) i) (sym (slice_get-map (λ c. c.start) (containers_in before) i)
    ∙ (ap (λ ss. slice_get ss i) (starts-are t before is are)
    ∙ (slice_get-map (λ c. c.start) t.names.containers i ∙ ap (option_map (λ c. c.start)) at)))
  where
    by : (o : Option DeclaredContainer) → option_map (λ c. c.start) o ≡ Some c.start
        → option_map_or (λ c. c.start) o 0
        ≡ c.start
    by None e = absurd (none-some c.start e)
    by (Some d) e = same_Some d.start c.start e

-- ---- what the texts find

kind-at : (t : TraceText) (before : List EventLine) (k : ℕ) → IsCanonical t → Declares t before
    → k < length t.names.kinds → kind_named before (state_type_alias k) ≡ Some k
kind-at t before k is are within =
    let types = is.limits.types in
    kind-found before (length t.names.kinds) (length t.names.link_kinds) k are.types within
    (omega (arith, types))

pub link_kind-at : (t : TraceText) (before : List EventLine) (k : ℕ) → IsCanonical t → Declares t before
    → k < length t.names.link_kinds → link_kind_named before (link_type_alias k) ≡ Some k
link_kind-at t before k is are within =
    let types = is.limits.types in
    link_kind-found before (length t.names.kinds) (length t.names.link_kinds) k are.types within
    (omega (arith, types))

pub container-at : (t : TraceText) (before : List EventLine) (i : ℕ) → IsCanonical t → Declares t before
    → i < length t.names.containers → container_named before (container_alias i) ≡ Some i
container-at t before i is are within =
    let containers = is.limits.containers in
    let count = count-placed t is in
    container-found before (placed_containers t) i are.containers (omega (arith, within, count))
    (omega (arith, containers, count))

finds-declared : (t : TraceText) (before : List EventLine) → IsCanonical t → Declares t before
    → NoneIs (λ l. defines_value l.event) before → FindsNames t before
finds-declared t before is are none = record {
  kinds = λ k within. kind-at t before k is are within;
  link_kinds = λ k within. link_kind-at t before k is are within;
  containers = λ i within. container-at t before i is are within;
  starts = start-found t before is are;
  no_values = none_valued before none;
}

pub finds-names : (t : TraceText) → IsCanonical t → (rest : List EventLine) → All DeclaresNothing rest
    → FindsNames t (declarations_told t ++ rest)
finds-names t is rest nothing =
    let each = recursion_from_All DeclaresNothing rest nothing in
    finds-declared t (declarations_told t ++ rest) is
    (declares-kept t (declarations_told t) rest each (declared t is).declares)
    (all_append (λ l. defines_value l.event ≡ false) (declarations_told t) rest (declarations-no_value t)
    (no-value rest each))
