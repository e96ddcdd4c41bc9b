-- The containers of a list of lines, and where each is destroyed, after one more line.
use Rattle.std.proofs.Common.{◌≡◌, ℕ, ◌≤◌, ◌==◌, true, false, cond, List, [], ◌∷◌, ◌++◌, length, slice_get}
use Rattle.std.proofs.Common.{Option, Some, None, IfSome, refl, ◌∙◌, ap, arith}
use Rattle.std.specs.Option.{option_map_or, option_or}
use Rattle.std.proofs.lemmas.Bool.{and_right, ne_eqb}
use Rattle.std.proofs.lemmas.Option.{IfSome_then}
use Rattle.list_lemmas.proofs.Fronts.{each_front}
use Rattle.list_lemmas.proofs.Options.{or_None}
use Rattle.list_lemmas.proofs.Positions.{slice_get-last}
use Rattle.paje_defs.specs.declared.role.Role.TheVariants as roles
use Rattle.paje_lines.specs.EventLine.{EventLine, creates, destroys, text_of}
use Rattle.paje_lines.specs.Containers.{container_named, container_start, containers_in, created_by}
use Rattle.paje_lines.specs.Containers.{destruction}
use Rattle.paje_lines.specs.Containers.{ends_container}
use Rattle.paje_lines.proofs.Containers.{containers-more, containers_kept, destruction-more}
use Rattle.paje_model.proofs.FoundPlaces.{container-within}

abbrev pub count : List EventLine → ℕ
count lines = length (containers_in lines)

-- ---- one more

pub containers-created : (lines : List EventLine) (line : EventLine) → creates line.event ≡ true
    → containers_in (lines ++ line ∷ []) ≡ containers_in lines ++ created_by line ∷ []
containers-created lines line is = containers-more lines line
    ∙ ap (λ b. containers_in lines ++ cond b (created_by line ∷ []) []) is

-- it begins when its line says
pub start-created : (lines : List EventLine) (line : EventLine) → creates line.event ≡ true
    → container_start (lines ++ line ∷ []) (count lines) ≡ line.time
start-created lines line is =
    ap (λ cs. option_map_or (λ c. c.start) (slice_get cs (count lines)) 0) (containers-created lines line is)
    ∙ ap (λ o. option_map_or (λ c. c.start) o 0) (slice_get-last (containers_in lines) (created_by line))

-- ---- where a container is destroyed

-- not on a line that destroys another
pub destruction-stays : (lines : List EventLine) (line : EventLine) (c : ℕ)
    → ends_container c (record { before = lines; line = line }) ≡ false
    → destruction (lines ++ line ∷ []) c ≡ destruction lines c
destruction-stays lines line c is = destruction-more lines line c
    ∙ (ap (λ b. option_or (destruction lines c) (cond b (Some line) None)) is ∙ or_None (destruction lines c))

-- but on this line, where it stood before
pub destruction-now : (lines : List EventLine) (line : EventLine) (c : ℕ)
    → ends_container c (record { before = lines; line = line }) ≡ true → destruction lines c ≡ None
    → destruction (lines ++ line ∷ []) c ≡ Some line
destruction-now lines line c is none = destruction-more lines line c
    ∙ (ap (λ b. option_or (destruction lines c) (cond b (Some line) None)) is
    ∙ ap (λ o. option_or o (Some line)) none)

-- a line destroys none but the one that it names
pub ends_other : (lines : List EventLine) (line : EventLine) (c : ℕ)
    → IfSome (container_named lines (text_of line roles.Name)) (λ d. d ≡ c → ⊥)
    → ends_container c (record { before = lines; line = line }) ≡ false
ends_other lines line c apart = and_right (destroys line.event) _
    (by (container_named lines (text_of line roles.Name)) apart)
  where
    by : (named : Option ℕ) → IfSome named (λ d. d ≡ c → ⊥) → option_map_or (λ d. d == c) named false ≡ false
    by None apart = refl
    by (Some d) apart = ne_eqb d c apart

-- what isn't there yet isn't destroyed
pub not_destroyed : (lines : List EventLine) (c : ℕ) → count lines ≤ c → destruction lines c ≡ None
not_destroyed lines = each_front (λ lines. (c : ℕ) → count lines ≤ c
    → destruction lines c ≡ None) (λ before line none c past.
    let there : count before ≤ c = omega (arith, containers_kept before line) in
    destruction-stays before line c (ends_other before line c
    (IfSome_then (container_named before (text_of line roles.Name))
    (container-within before (text_of line roles.Name)) (λ d within q. omega arith)))
    ∙ none c there) (λ c past. refl) lines
