-- What the declarations of a canonical text declare, and that none of them is refused.
use Rattle.std.proofs.Common.{◌≡◌, ℕ, ◌+◌, ◌≤◌, List, [], ◌∷◌, ◌++◌, map, drop, length}
use Rattle.std.proofs.Common.{None, false, refl, sym, ◌∙◌, ap, subst, arith}
use Rattle.std.specs.List.{AllByRecursion, enumerate_from}
use Rattle.std.proofs.lemmas.List.{append_assoc, length_push, length-drop}
use Rattle.std.proofs.lemmas.List.FromFn.{length-enumerate_from}
use Rattle.std.proofs.lemmas.Option.{slice_get_within}
use Rattle.list_lemmas.proofs.Each.{all_append}
use Rattle.list_lemmas.proofs.Maps.{enumerate-item}
use Rattle.trace_base.specs.declared.limits.TheConstants.{MAX_CONTAINERS, MAX_TYPES}
use Rattle.trace_base.specs.declared.names.Container.{Container}
use Rattle.trace_base.specs.declared.text.TraceText.{TraceText}
use Rattle.paje_defs.specs.Refusals.{Placed, placed, placed_behind}
use Rattle.paje_lines.specs.EventLine.{EventLine, creates}
use Rattle.paje_lines.specs.Examples.{Unnumbered, from}
use Rattle.paje_lines.specs.Reasons.{event_reason_at}
use Rattle.paje_print.specs.Canonical.{IsCanonical}
use Rattle.paje_print.specs.CanonicalText.{placed_containers}
use Rattle.paje_read_back.specs.ToldLines.{containers_told, create_told, declarations_told, first_told}
use Rattle.paje_read_back.specs.ToldLines.{link_type_told, process_type_told, state_type_told}
use Rattle.paje_read_back.proofs.DeclaredContainers.{ContainersAre, container-created, containers-kept}
use Rattle.paje_read_back.proofs.DeclaredContainers.{create-unrefused, none-created}
use Rattle.paje_read_back.proofs.DeclaredLines.{NoneIs, Step, walk}
use Rattle.paje_read_back.proofs.DeclaredTypes.{TypesAre, link-typed, link_type-unrefused, process-typed}
use Rattle.paje_read_back.proofs.DeclaredTypes.{state-typed, state_type-unrefused, types-kept}
use Rattle.paje_read_back.proofs.NumberedLines.{any_told, from-append, placed-append}

-- ---- lines that aren't refused, one list behind another

abbrev pub Unrefused : Placed EventLine → Type 0
Unrefused p = event_reason_at p ≡ None

pub unrefused-joined : (before lines more : List EventLine)
    → AllByRecursion Unrefused (placed_behind before lines)
    → AllByRecursion Unrefused (placed_behind (before ++ lines) more)
    → AllByRecursion Unrefused (placed_behind before (lines ++ more))
unrefused-joined before lines more first second = subst (AllByRecursion Unrefused)
    (sym (placed-append before lines more)) (all_append Unrefused (placed_behind before lines)
    (placed_behind (before ++ lines) more) first second)

-- ---- the declarations

abbrev pub kinds_told : TraceText → List Unnumbered
kinds_told t = map state_type_told (enumerate_from 0 t.names.kinds)

abbrev pub link_kinds_told : TraceText → List Unnumbered
link_kinds_told t = map link_type_told (enumerate_from 0 t.names.link_kinds)

abbrev pub process_line : TraceText → List EventLine
process_line t = process_type_told first_told ∷ []

abbrev pub kind_lines : TraceText → List EventLine
kind_lines t = from (first_told + 1) (kinds_told t)

abbrev pub link_kind_lines : TraceText → List EventLine
link_kind_lines t = from (first_told + 1 + length (kinds_told t)) (link_kinds_told t)

abbrev pub container_lines : TraceText → List EventLine
container_lines t = from (first_told + 1 + length (kinds_told t ++ link_kinds_told t)) (containers_told t)

pub declarations-parts : (t : TraceText) → declarations_told t
    ≡ process_line t ++ ((kind_lines t ++ link_kind_lines t) ++ container_lines t)
declarations-parts t = ap (λ ls. process_type_told first_told ∷ ls)
    (from-append (first_told + 1) (kinds_told t ++ link_kinds_told t) (containers_told t)
    ∙ ap (λ ls. ls ++ container_lines t) (from-append (first_told + 1) (kinds_told t) (link_kinds_told t)))

-- what holds of each of them
pub declarations-each : (t : TraceText) (P : EventLine → Type 0) → ((n : ℕ) → P (process_type_told n))
    → ((k : ℕ × List ℕ) (n : ℕ) → P (state_type_told k n)) → ((k : ℕ × List ℕ) (n : ℕ)
    → P (link_type_told k n)) → ((c : ℕ × Container) (n : ℕ) → P (create_told c n))
    → AllByRecursion P (declarations_told t)
declarations-each t P process kinds link_kinds containers =
    subst (AllByRecursion P) (sym (declarations-parts t))
    (all_append P (process_line t) (kind_lines t ++ link_kind_lines t ++ container_lines t)
    (process first_told, tt)
    (all_append P (kind_lines t ++ link_kind_lines t) (container_lines t)
    (all_append P (kind_lines t) (link_kind_lines t)
    (any_told P state_type_told kinds (first_told + 1) (enumerate_from 0 t.names.kinds))
    (any_told P link_type_told link_kinds (first_told + 1 + length (kinds_told t))
    (enumerate_from 0 t.names.link_kinds)))
    (any_told P create_told containers (first_told + 1 + length (kinds_told t ++ link_kinds_told t))
    (placed_containers t))))

-- ---- each of them

kinds-step : (kinds : List (List ℕ)) → 1 + length kinds ≤ MAX_TYPES
    → Step state_type_told (λ done before. TypesAre before (length done) 0) Unrefused (enumerate_from 0 kinds)
kinds-step kinds limit done p left n before is are =
    let item = enumerate-item done left p 0 kinds is in
    let at = item.0 in
    let within = slice_get_within kinds (length done) p.1 item.1 in
    let types : TypesAre before p.0 0 = subst (λ i. TypesAre before i 0) (omega (arith, at)) are in (
      state_type-unrefused before p.0 n p.1 types (omega (arith, at, within, limit)),
      subst (λ i. TypesAre (before ++ state_type_told p n ∷ []) i 0)
          (omega (arith, at, length_push done p)) (state-typed before p.0 n p.1 types),
    )

link_kinds-step : (i : ℕ) (kinds : List (List ℕ)) → 1 + i + length kinds ≤ MAX_TYPES
    → Step link_type_told (λ done before. TypesAre before i (length done)) Unrefused (enumerate_from 0 kinds)
link_kinds-step i kinds limit done p left n before is are =
    let item = enumerate-item done left p 0 kinds is in
    let at = item.0 in
    let within = slice_get_within kinds (length done) p.1 item.1 in
    let types : TypesAre before i p.0 = subst (TypesAre before i) (omega (arith, at)) are in (
      link_type-unrefused before i p.0 n p.1 types (omega (arith, at, within, limit)),
      subst (TypesAre (before ++ link_type_told p n ∷ []) i)
          (omega (arith, at, length_push done p)) (link-typed before i p.0 n p.1 types),
    )

-- the types and the containers so far
abbrev Declare : ℕ → ℕ → List (ℕ × Container) → List EventLine → Type 0
Declare i j done before = TypesAre before i j × ContainersAre before done

containers-step : (i j : ℕ) (containers : List Container) → length containers + 1 ≤ MAX_CONTAINERS
    → Step create_told (Declare i j) Unrefused (enumerate_from 1 containers)
containers-step i j containers limit done p left n before is (types, are) =
    let item = enumerate-item done left p 1 containers is in
    let within = slice_get_within containers (length done) p.1 item.1 in (
      create-unrefused before i j done p n types are item.0 (omega (arith, within, limit)),
      (
        types-kept before (create_told p n ∷ []) i j (refl, tt) types,
        container-created before done p n are item.0,
      ),
    )

-- ---- all of them

-- what the declarations of the text declare
pub record Declares (t : TraceText) (lines : List EventLine) : Type 0 where
  pub types : TypesAre lines (length t.names.kinds) (length t.names.link_kinds)
  pub containers : ContainersAre lines (placed_containers t)

pub record Declared (t : TraceText) : Type 0 where
  pub each : AllByRecursion Unrefused (placed (declarations_told t))
  pub declares : Declares t (declarations_told t)

limits-hold : (t : TraceText) → IsCanonical t
    → (1 + length t.names.kinds + length t.names.link_kinds ≤ MAX_TYPES)
    × (length (drop 1 t.names.containers) + 1 ≤ MAX_CONTAINERS)
limits-hold t is =
    let types = is.limits.types in
    let containers = is.limits.containers in
    let some = slice_get_within t.names.containers 0 _ is.root in
    let rest = length-drop 1 t.names.containers in
    (types, omega (arith, containers, some, rest))

kinds-walked : (t : TraceText) → IsCanonical t
    → AllByRecursion Unrefused (placed_behind (process_line t) (kind_lines t))
    × TypesAre (process_line t ++ kind_lines t) (length t.names.kinds) 0
kinds-walked t is =
    let limits = limits-hold t is in
    let types = limits.0 in
    let all = walk state_type_told (λ done before. TypesAre before (length done) 0) Unrefused
    (enumerate_from 0 t.names.kinds) (kinds-step t.names.kinds (omega (arith, types)))
    (first_told + 1) (process_line t) (process-typed first_told) in (
      all.0,
      subst (λ i. TypesAre (process_line t ++ kind_lines t) i 0)
          (length-enumerate_from 0 t.names.kinds) all.1,
    )

link_kinds-walked : (t : TraceText) → IsCanonical t
    → AllByRecursion Unrefused (placed_behind (process_line t ++ kind_lines t) (link_kind_lines t))
    × TypesAre (process_line t ++ kind_lines t ++ link_kind_lines t) (length t.names.kinds)
    (length t.names.link_kinds)
link_kinds-walked t is =
    let all = walk link_type_told (λ done before. TypesAre before (length t.names.kinds) (length done))
    Unrefused (enumerate_from 0 t.names.link_kinds)
    (link_kinds-step (length t.names.kinds) t.names.link_kinds (limits-hold t is).0)
    (first_told + 1 + length (kinds_told t)) (process_line t ++ kind_lines t) (kinds-walked t is).1 in (
      all.0,
      subst (TypesAre (process_line t ++ kind_lines t ++ link_kind_lines t) (length t.names.kinds))
          (length-enumerate_from 0 t.names.link_kinds) all.1,
    )

no_containers : (t : TraceText) → NoneIs (λ l. creates l.event)
    (process_line t ++ kind_lines t ++ link_kind_lines t)
no_containers t = all_append (λ l. creates l.event ≡ false) (process_line t ++ kind_lines t)
    (link_kind_lines t)
    (all_append (λ l. creates l.event ≡ false) (process_line t) (kind_lines t) (refl, tt)
    (any_told (λ l. creates l.event ≡ false) state_type_told (λ p n. refl) (first_told + 1)
    (enumerate_from 0 t.names.kinds)))
    (any_told (λ l. creates l.event ≡ false) link_type_told (λ p n. refl)
    (first_told + 1 + length (kinds_told t)) (enumerate_from 0 t.names.link_kinds))

containers-walked : (t : TraceText) → IsCanonical t
    → AllByRecursion Unrefused (placed_behind (process_line t ++ kind_lines t ++ link_kind_lines t)
    (container_lines t))
    × Declare (length t.names.kinds) (length t.names.link_kinds) (placed_containers t)
    (process_line t ++ kind_lines t ++ link_kind_lines t ++ container_lines t)
containers-walked t is = walk create_told (Declare (length t.names.kinds) (length t.names.link_kinds))
    Unrefused (placed_containers t)
    (containers-step (length t.names.kinds) (length t.names.link_kinds) (drop 1 t.names.containers)
    (limits-hold t is).1)
    (first_told + 1 + length (kinds_told t ++ link_kinds_told t))
    (process_line t ++ kind_lines t ++ link_kind_lines t) (
      (link_kinds-walked t is).1,
      containers-kept []
          (process_line t ++ kind_lines t ++ link_kind_lines t) [] (no_containers t) none-created,
    )

lines-regrouped : (t : TraceText) → process_line t ++ kind_lines t ++ link_kind_lines t ++ container_lines t
    ≡ declarations_told t
lines-regrouped t =
    ap (λ ls. ls ++ container_lines t) (append_assoc (process_line t) (kind_lines t) (link_kind_lines t))
    ∙ (append_assoc (process_line t) (kind_lines t ++ link_kind_lines t) (container_lines t)
    ∙ sym (declarations-parts t))

pub declared : (t : TraceText) → IsCanonical t → Declared t
declared t is =
    let p = process_line t in
    let k = kind_lines t in
    let l = link_kind_lines t in
    let c = container_lines t in
    let containers = containers-walked t is in
    let first : AllByRecursion Unrefused (placed p) = (refl, tt) in
    let kinds : AllByRecursion Unrefused (placed (p ++ k)) = unrefused-joined [] p k first
    (kinds-walked t is).0 in
    let types : AllByRecursion Unrefused (placed (p ++ k ++ l)) = unrefused-joined [] (p ++ k) l kinds
    (link_kinds-walked t is).0 in
    record {
      each = subst (λ ls. AllByRecursion Unrefused (placed ls)) (lines-regrouped t)
          (unrefused-joined [] (p ++ k ++ l) c types containers.0);
      declares = subst (Declares t) (lines-regrouped t) (record {
        types = containers.1.0;
        containers = containers.1.1;
      });
    }
