-- The containers that the lines of a canonical text create, by the lines so far.
use Rattle.std.proofs.Common.{◌≡◌, ℕ, ◌+◌, ◌<◌, ◌≤◌, ◌^◌, List, [], ◌∷◌, ◌++◌, map, length, is_none}
use Rattle.std.proofs.Common.{Option, Some, None, refl, sym, ◌∙◌, ap, arith, codes}
use Rattle.std.specs.List.{position_from, range_with_len}
use Rattle.std.specs.Str.{bytes_eq}
use Rattle.std.proofs.lemmas.List.{length-map, map-append, length_push}
use Rattle.std.proofs.lemmas.List.FromFn.{map-range_with_len_more}
use Rattle.trace_base.specs.declared.limits.TheConstants.{MAX_CONTAINERS}
use Rattle.trace_base.specs.declared.names.Container.{Container}
use Rattle.paje_defs.specs.declared.role.Role.{Role}
use Rattle.paje_defs.specs.declared.role.Role.TheVariants as roles
use Rattle.paje_defs.specs.Refusals.{when}
use Rattle.paje_lines.specs.declared.type_sort.TypeSort.TheVariants as sorts
use Rattle.paje_lines.specs.declared.what.What.TheVariants as what
use Rattle.paje_lines.specs.declared.model_fault.ModelFault.{ModelFault}
use Rattle.paje_lines.specs.declared.model_fault.ModelFault.TheVariants.{UnknownEntity}
use Rattle.paje_lines.specs.EventLine.{EventLine, alias_of, creates, text_of}
use Rattle.paje_lines.specs.Found.{entity_place, root, rooted}
use Rattle.paje_lines.specs.Types.{is_container_type}
use Rattle.paje_lines.specs.Containers.{DeclaredContainer, container_entities, container_named}
use Rattle.paje_lines.specs.Containers.{containers_in, created_by}
use Rattle.paje_lines.specs.Reasons.{container_reason, event_reason, new_reason, type_reason}
use Rattle.paje_print.specs.WrittenNumbers.{container_alias}
use Rattle.paje_lines.proofs.Containers.{containers-more}
use Rattle.paje_read_back.specs.ToldLines.{create_told}
use Rattle.paje_read_back.proofs.DeclaredLines.{NoneIs, picked-same}
use Rattle.paje_read_back.proofs.DeclaredTypes.{TypesAre, of-sort, process-sort}
use Rattle.paje_read_back.proofs.NamesPlaces.{alias-new, container-rooted, containers-apart, found-by_alias}
use Rattle.paje_read_back.proofs.NamesPlaces.{range-finds, range-new}
use Rattle.paje_read_back.proofs.NoReasons.{all_none, none-new}

-- ---- the containers so far

-- the root and these, by their places
pub record ContainersAre (before : List EventLine) (done : List (ℕ × Container)) : Type 0 where
  pub aliases : map (λ e. e.alias) (container_entities before)
      ≡ map container_alias (range_with_len 0 (length done + 1))
  pub names : map (λ e. e.name) (container_entities before) ≡ codes "0" ∷ map (λ p. p.1.name) done
  pub starts : map (λ c. c.start) (containers_in before) ≡ 0 ∷ map (λ p. p.1.start) done

-- lines that create none
pub containers-same : (before more : List EventLine) → NoneIs (λ l. creates l.event) more
    → containers_in (before ++ more) ≡ containers_in before
containers-same before more none = ap (λ ls. record { entity = root; start = 0 } ∷ map created_by ls)
    (picked-same (λ l. creates l.event) before more none)

pub containers-kept : (before more : List EventLine) (done : List (ℕ × Container))
    → NoneIs (λ l. creates l.event) more → ContainersAre before done → ContainersAre (before ++ more) done
containers-kept before more done none are =
    let same = containers-same before more none in
    record {
      aliases = ap (λ cs. map (λ e. e.alias) (map (λ c. c.entity) cs)) same ∙ are.aliases;
      names = ap (λ cs. map (λ e. e.name) (map (λ c. c.entity) cs)) same ∙ are.names;
      starts = ap (map (λ c. c.start)) same ∙ are.starts;
    }

pub none-created : ContainersAre [] []
none-created = record { aliases = refl; names = refl; starts = refl }

-- ---- one more

pub container-created : (before : List EventLine) (done : List (ℕ × Container)) (p : ℕ × Container) (n : ℕ)
    → ContainersAre before done → p.0 ≡ 1 + length done
    → ContainersAre (before ++ create_told p n ∷ []) (done ++ p ∷ [])
container-created before done p n are at = record {
  aliases = ap (λ cs. map (λ e. e.alias) (map (λ c. c.entity) cs)) more
      ∙ (ap (map (λ e. e.alias)) (map-append (λ c. c.entity) (containers_in before) (new ∷ []))
      ∙ (map-append (λ e. e.alias) (container_entities before) (new.entity ∷ [])
      ∙ (ap (λ xs. xs ++ rooted (container_alias p.0) ∷ []) are.aliases
      ∙ (ap (λ x. map container_alias (range_with_len 0 (length done + 1)) ++ x ∷ []) (container-rooted p.0)
      ∙ (sym (map-range_with_len_more container_alias 0 (length done + 1) p.0 (omega (arith, at)))
      ∙ ap (λ n. map container_alias (range_with_len 0 (n + 1))) (sym (length_push done p)))))));
  names = ap (λ cs. map (λ e. e.name) (map (λ c. c.entity) cs)) more
      ∙ (ap (map (λ e. e.name)) (map-append (λ c. c.entity) (containers_in before) (new ∷ []))
      ∙ (map-append (λ e. e.name) (container_entities before) (new.entity ∷ [])
      ∙ (ap (λ xs. xs ++ p.1.name ∷ []) are.names
      ∙ ap (λ xs. codes "0" ∷ xs) (sym (map-append (λ (p : ℕ × Container). p.1.name) done (p ∷ []))))));
  starts = ap (map (λ c. c.start)) more
      ∙ (map-append (λ c. c.start) (containers_in before) (new ∷ [])
      ∙ (ap (λ xs. xs ++ p.1.start ∷ []) are.starts
      ∙ ap (λ xs. 0 ∷ xs) (sym (map-append (λ (p : ℕ × Container). p.1.start) done (p ∷ [])))));
}
  where
    new : DeclaredContainer
    new = created_by (create_told p n)

    more : containers_in (before ++ create_told p n ∷ []) ≡ containers_in before ++ new ∷ []
    more = containers-more before (create_told p n)

-- ---- what a text finds

pub container-found : (before : List EventLine) (done : List (ℕ × Container)) (k : ℕ)
    → ContainersAre before done → k < length done + 1 → length done + 1 ≤ 2 ^ 64
    → container_named before (container_alias k) ≡ Some k
container-found before done k are within below = ap (entity_place (container_entities before))
    (container-rooted k)
    ∙ found-by_alias (container_entities before) (map container_alias (range_with_len 0 (length done + 1)))
    (container_alias k) k are.aliases
    (range-finds (2 ^ 64) container_alias containers-apart 0 (length done + 1) k 0 k (omega arith)
    (omega (arith, within)) (omega (arith, below)) (omega arith))

-- ---- no line that creates a container is refused

pub of-container : (before : List EventLine) (line : EventLine) (role : Role) (container : ℕ)
    → container_named before (text_of line role) ≡ Some container → container_reason before line role ≡ None
of-container before line role container is = ap (λ o. when (is_none o) (UnknownEntity role)) is

pub create-unrefused : (before : List EventLine) (i j : ℕ) (done : List (ℕ × Container)) (p : ℕ × Container)
    (n : ℕ) → TypesAre before i j → ContainersAre before done → p.0 ≡ 1 + length done
    → length done + 1 < MAX_CONTAINERS → event_reason before (create_told p n) ≡ None
create-unrefused before i j done p n types are at below =
    all_none (type_reason is_container_type before line roles.Kind
    ∷ container_reason before line roles.Holder ∷ reason ∷ []) (
      of-sort is_container_type before line roles.Kind sorts.Container (process-sort before i j types) refl,
      (
        of-container before line roles.Holder 0 (container-found before done 0 are (omega arith)
            (omega (arith, below))),
        (
          none-new what.Containers (container_entities before) (rooted (alias_of line))
              (length (containers_in before)) (alias-new (container_entities before)
              (map container_alias (range_with_len 0 (length done + 1))) (rooted (alias_of line)) are.aliases
              new) room,
          tt,
        ),
      ),
    )
  where
    line : EventLine
    line = create_told p n

    reason : Option ModelFault
    reason = new_reason what.Containers (container_entities before) (rooted (alias_of line))
        (length (containers_in before))

    new : position_from (bytes_eq (rooted (container_alias p.0))) 0
        (map container_alias (range_with_len 0 (length done + 1))) ≡ None
    new = ap (λ text. position_from (bytes_eq text) 0 (map container_alias (range_with_len 0
        (length done + 1)))) (container-rooted p.0)
        ∙ range-new (2 ^ 64) container_alias containers-apart 0 (length done + 1) p.0 0 (omega (arith, at))
        (omega (arith, at, below))

    room : length (containers_in before) < MAX_CONTAINERS
    room =
        let listed : length (map (λ c. c.start) (containers_in before)) ≡ length (0 ∷ map (λ (p : ℕ ×
        Container). p.1.start) done) = ap length are.starts in
        let mapped = length-map (containers_in before) (λ c. c.start) in
        let items = length-map done (λ (p : ℕ × Container). p.1.start) in
        omega (arith, listed, mapped, items, below)
