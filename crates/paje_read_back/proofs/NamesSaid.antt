-- The names that a canonical text says are those of the trace: its types and its containers.
use Rattle.std.proofs.Common.{◌≡◌, ℕ, ◌+◌, List, [], ◌∷◌, ◌++◌, filter, length, map, slice_get, Bool}
use Rattle.std.proofs.Common.{true, false, cond, Option, Some, None, refl, sym, ◌∙◌, ap, ap₂}
use Rattle.std.specs.List.{enumerate_from}
use Rattle.std.specs.Option.{option_map}
use Rattle.std.proofs.lemmas.List.{append-nil, map-append}
use Rattle.std.proofs.lemmas.List.Elements.{filter-append}
use Rattle.std.proofs.lemmas.Option.{none-some, same_Some, slice_get-map}
use Rattle.list_lemmas.proofs.Maps.{enumerate-same}
use Rattle.list_lemmas.proofs.Positions.{lists_same}
use Rattle.trace_base.specs.declared.names.Container.{Container}
use Rattle.trace_base.specs.declared.text.TraceText.{TraceText}
use Rattle.paje_defs.specs.declared.role.Role.TheVariants as roles
use Rattle.paje_lines.specs.Containers.{DeclaredContainer, container_end, containers_in}
use Rattle.paje_lines.specs.EventLine.{EventLine, is_link_type, is_state_type, text_of}
use Rattle.paje_lines.specs.Examples.{Unnumbered, from}
use Rattle.paje_lines.specs.Text.{container_of, containers_of}
use Rattle.paje_lines.specs.Types.{kinds_in, link_kinds_in}
use Rattle.paje_print.specs.Canonical.{IsCanonical}
use Rattle.paje_print.specs.CanonicalText.{placed_containers}
use Rattle.paje_lines.proofs.Containers.{containers-get}
use Rattle.paje_read_back.specs.ToldLines.{create_told, declarations_told, first_told, link_type_told}
use Rattle.paje_read_back.specs.ToldLines.{process_type_told}
use Rattle.paje_read_back.specs.ToldLines.{state_type_told, told_lines}
use Rattle.paje_read_back.proofs.DeclaredLines.{none-picked}
use Rattle.paje_read_back.proofs.DeclaredParts.{only-declared}
use Rattle.paje_read_back.proofs.DeclaredUnrefused.{Declares, container_lines, declarations-parts, kind_lines}
use Rattle.paje_read_back.proofs.DeclaredUnrefused.{kinds_told, link_kind_lines, link_kinds_told}
use Rattle.paje_read_back.proofs.DeclaredUnrefused.{process_line}
use Rattle.paje_read_back.proofs.EndsSaid.{all-ended, ends-as-told}
use Rattle.paje_read_back.proofs.NamesFound.{names-are, no-link_type, no-state_type, starts-are}
use Rattle.paje_read_back.proofs.NumberedLines.{any_told}

-- ---- what the lines that pass a test tell

abbrev picked : (EventLine → Bool) → List EventLine → List (List ℕ)
picked p lines = map (λ line. text_of line roles.Name) (filter p lines)

picked-append : (p : EventLine → Bool) (lines more : List EventLine)
    → picked p (lines ++ more) ≡ picked p lines ++ picked p more
picked-append p lines more = ap (map (λ line. text_of line roles.Name)) (filter-append p lines more)
    ∙ map-append (λ line. text_of line roles.Name) (filter p lines) (filter p more)

picked-none : {A : Type 0} (p : EventLine → Bool) (told : A → Unnumbered)
    → ((a : A) (n : ℕ) → p (told a n) ≡ false) → (n : ℕ) (xs : List A) → picked p (from n (map told xs)) ≡ []
picked-none p told never n xs = ap (map (λ line. text_of line roles.Name))
    (none-picked p (from n (map told xs)) (any_told (λ l. p l ≡ false) told never n xs))

picked-all : (p : EventLine → Bool) (told : ℕ × List ℕ → Unnumbered)
    → ((k : ℕ × List ℕ) (n : ℕ) → p (told k n) ≡ true)
    → ((k : ℕ × List ℕ) (n : ℕ) → text_of (told k n) roles.Name ≡ k.1)
    → (n : ℕ) (ks : List (ℕ × List ℕ)) → picked p (from n (map told ks)) ≡ map (λ k. k.1) ks
picked-all p told passes names n [] = refl
picked-all p told passes names n (k ∷ ks) =
    ap (λ b. map (λ line. text_of line roles.Name) (cond b (told k n ∷ filter p (from (n + 1) (map told ks)))
    (filter p (from (n + 1) (map told ks))))) (passes k n)
    ∙ ap₂ (λ x xs. x ∷ xs) (names k n) (picked-all p told passes names (n + 1) ks)

-- those of the declarations
picked-declared : (t : TraceText) (p : EventLine → Bool) (kinds link_kinds : List (List ℕ))
    → ((n : ℕ) → p (process_type_told n) ≡ false)
    → picked p (kind_lines t) ≡ kinds → picked p (link_kind_lines t) ≡ link_kinds
    → ((c : ℕ × Container) (n : ℕ) → p (create_told c n) ≡ false)
    → picked p (declarations_told t) ≡ kinds ++ link_kinds
picked-declared t p kinds link_kinds process are links never =
    ap (picked p) (declarations-parts t)
    ∙ (picked-append p (process_line t) (kind_lines t ++ link_kind_lines t ++ container_lines t)
    ∙ (ap (λ b. map (λ line. text_of line roles.Name) (cond b (process_line t) [])
    ++ picked p (kind_lines t ++ link_kind_lines t ++ container_lines t)) (process first_told)
    ∙ (picked-append p (kind_lines t ++ link_kind_lines t) (container_lines t)
    ∙ (ap₂ (λ xs ys. xs ++ ys) (picked-append p (kind_lines t) (link_kind_lines t))
    (picked-none p create_told never (first_told + 1 + length (kinds_told t ++ link_kinds_told t))
    (placed_containers t))
    ∙ (append-nil (picked p (kind_lines t) ++ picked p (link_kind_lines t))
    ∙ ap₂ (λ xs ys. xs ++ ys) are links)))))

-- ---- the types

pub kinds-said : (t : TraceText) → IsCanonical t → kinds_in (told_lines t) ≡ t.names.kinds
kinds-said t is =
    ap (map (λ line. text_of line roles.Name)) (only-declared t (λ l. is_state_type l.event)
    (λ l nothing. no-state_type l.event nothing))
    ∙ (picked-declared t (λ l. is_state_type l.event) t.names.kinds [] (λ n. refl)
    (picked-all (λ l. is_state_type l.event) state_type_told (λ k n. refl) (λ k n. refl) (first_told + 1)
    (enumerate_from 0 t.names.kinds) ∙ enumerate-same t.names.kinds)
    (picked-none (λ l. is_state_type l.event) link_type_told (λ k n. refl)
    (first_told + 1 + length (kinds_told t)) (enumerate_from 0 t.names.link_kinds)) (λ c n. refl)
    ∙ append-nil t.names.kinds)

pub link-kinds-said : (t : TraceText) → IsCanonical t → link_kinds_in (told_lines t) ≡ t.names.link_kinds
link-kinds-said t is =
    ap (map (λ line. text_of line roles.Name)) (only-declared t (λ l. is_link_type l.event)
    (λ l nothing. no-link_type l.event nothing))
    ∙ picked-declared t (λ l. is_link_type l.event) [] t.names.link_kinds (λ n. refl)
    (picked-none (λ l. is_link_type l.event) state_type_told (λ k n. refl) (first_told + 1)
    (enumerate_from 0 t.names.kinds))
    (picked-all (λ l. is_link_type l.event) link_type_told (λ k n. refl) (λ k n. refl)
    (first_told + 1 + length (kinds_told t)) (enumerate_from 0 t.names.link_kinds)
    ∙ enumerate-same t.names.link_kinds) (λ c n. refl)

-- ---- the containers

abbrev named_from : List ℕ → ℕ → ℕ → Container
named_from name start end = record { name = name; start = start; end = end }

container-said : (lines : List EventLine) (k : ℕ) (declared : Option DeclaredContainer) (c : Option Container)
    → option_map (λ d. d.entity.name) declared ≡ option_map (λ c. c.name) c
    → option_map (λ d. d.start) declared ≡ option_map (λ c. c.start) c
    → ((d : Container) → c ≡ Some d → container_end lines k ≡ d.end)
    → option_map (λ d. container_of lines (k, d)) declared ≡ c
container-said lines k None None names starts ends = refl
container-said lines k None (Some c) names starts ends = absurd (none-some c.name names)
container-said lines k (Some d) None names starts ends = absurd (none-some d.start (sym starts))
container-said lines k (Some d) (Some c) names starts ends =
    ap (λ name. Some (named_from name d.start (container_end lines k)))
    (same_Some d.entity.name c.name names)
    ∙ ap₂ (λ start end. Some (named_from c.name start end)) (same_Some d.start c.start starts)
    (ends c refl)

pub containers-said : (t : TraceText) → IsCanonical t → containers_of (told_lines t) ≡ t.names.containers
containers-said t is = lists_same (containers_of (told_lines t)) t.names.containers (λ k.
    containers-get (told_lines t) k ∙ container-said (told_lines t) k
    (slice_get (containers_in (told_lines t)) k) (slice_get t.names.containers k)
    (sym (slice_get-map (λ d. d.entity.name) (containers_in (told_lines t)) k)
    ∙ (ap (λ ns. slice_get ns k) (names-are t (told_lines t) is declares)
    ∙ slice_get-map (λ c. c.name) t.names.containers k))
    (sym (slice_get-map (λ d. d.start) (containers_in (told_lines t)) k)
    ∙ (ap (λ ns. slice_get ns k) (starts-are t (told_lines t) is declares)
    ∙ slice_get-map (λ c. c.start) t.names.containers k))
    (λ c at. ends-as-told t is k c at))
  where
    declares : Declares t (told_lines t)
    declares = (all-ended t is).declares
