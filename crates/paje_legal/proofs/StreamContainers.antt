-- What holds of each line, with those before it; containers that aren't there.
use Rattle.std.proofs.Common.{◌≡◌, ℕ, ◌≤◌, Bool, true, false, cond, List}
use Rattle.std.proofs.Common.{[], ◌∷◌, ◌++◌, length, map, find}
use Rattle.std.proofs.Common.{Some, None, refl, ap, arith}
use Rattle.std.specs.Prelude.{All}
use Rattle.std.specs.Option.{option_map}
use Rattle.std.proofs.lemmas.List.Elements.{All-weaker, All-push, All-nil, All-cons}
use Rattle.std.proofs.lemmas.List.Elements.{All-head, All-tail, All-same}
use Rattle.list_lemmas.proofs.Fronts.{each_front}
use Rattle.paje_defs.specs.Refusals.{Placed, placed, placed_behind}
use Rattle.paje_defs.specs.declared.role.Role.TheVariants as roles
use Rattle.paje_defs.proofs.PlacedMore.{placed-more}
use Rattle.paje_lines.specs.EventLine.{EventLine, text_of}
use Rattle.paje_lines.specs.Containers.{containers_in}
use Rattle.paje_lines.specs.Containers.{ends_container, destruction}
use Rattle.paje_lines.proofs.Containers.{containers_kept, named_exists, ends_named}

-- ---- each line of a list

lines-behind : {X : Type 0} (before lines : List X) → map (λ p. p.line) (placed_behind before lines) ≡ lines
lines-behind before [] = refl
lines-behind before (line ∷ lines) = ap (λ ls. line ∷ ls) (lines-behind (before ++ line ∷ []) lines)

pub lines-placed : {X : Type 0} (lines : List X) → map (λ p. p.line) (placed lines) ≡ lines
lines-placed lines = lines-behind [] lines

behind-holds : {X : Type 0} (P : X → Type 0) (before lines : List X) → All P lines
    → All (λ p. P p.line) (placed_behind before lines)
behind-holds P before [] all = All-nil (λ p. P p.line)
behind-holds P before (line ∷ lines) all =
    All-cons (λ p. P p.line) (record { before = before; line = line })
    (placed_behind (before ++ line ∷ []) lines) (All-head P line lines all)
    (behind-holds P (before ++ line ∷ []) lines (All-tail P line lines all))

pub All-placed : {X : Type 0} (P : X → Type 0) (lines : List X) → All P lines
    → All (λ p. P p.line) (placed lines)
All-placed P lines all = behind-holds P [] lines all

-- ---- the containers

-- those before each line are among those of all
fewer-before : (lines : List EventLine)
    → All (λ p. length (containers_in p.before) ≤ length (containers_in lines)) (placed lines)
fewer-before lines = each_front
    (λ lines. All (λ p. length (containers_in p.before) ≤ length (containers_in lines)) (placed lines))
    (λ lines line all. All-same
    (λ p. length (containers_in p.before) ≤ length (containers_in (lines ++ line ∷ [])))
    (placed (lines ++ line ∷ [])) (placed lines ++ record { before = lines; line = line } ∷ [])
    (placed-more lines line) (All-push
    (λ p. length (containers_in p.before) ≤ length (containers_in (lines ++ line ∷ []))) (placed lines)
    (record { before = lines; line = line }) (All-weaker
    (λ p. length (containers_in p.before) ≤ length (containers_in lines))
    (λ p. length (containers_in p.before) ≤ length (containers_in (lines ++ line ∷ [])))
    (λ p fewer. omega (arith, fewer, containers_kept lines line)) (placed lines) all)
    (containers_kept lines line)))
    (All-nil (λ p. length (containers_in p.before) ≤ length (containers_in []))) lines

-- ---- the end of a container

-- one that isn't there has no end
none-ends : (n c : ℕ) (ps : List (Placed EventLine)) → n ≤ c
    → All (λ p. length (containers_in p.before) ≤ n) ps → find (ends_container c) ps ≡ None
none-ends n c [] past all = refl
none-ends n c (p ∷ ps) past all =
    by (ends_container c p) refl (none-ends n c ps past (All-tail Fewer p ps all))
  where
    Fewer : Placed EventLine → Type 0
    Fewer p = length (containers_in p.before) ≤ n

    by : (b : Bool) → ends_container c p ≡ b → find (ends_container c) ps ≡ None
        → cond b (Some p) (find (ends_container c) ps) ≡ None
    by true is later = absurd (omega (
      arith,
      past,
      named_exists p.before (text_of p.line roles.Name) c (ends_named p.before p.line c is),
      All-head Fewer p ps all,
    ))
    by false is later = later

pub none-ended : (lines : List EventLine) (c : ℕ) → length (containers_in lines) ≤ c
    → destruction lines c ≡ None
none-ended lines c past = ap (option_map (λ p. p.line))
    (none-ends (length (containers_in lines)) c (placed lines) past (fewer-before lines))
