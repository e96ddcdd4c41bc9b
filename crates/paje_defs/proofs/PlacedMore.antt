-- Facts of a list of lines, after one more line.
use Rattle.std.proofs.Common.{◌≡◌, List, [], ◌∷◌, ◌++◌, filter_map, Bool}
use Rattle.std.proofs.Common.{Option, sym, ◌∙◌, ap, is_some}
use Rattle.std.specs.List.{find}
use Rattle.std.specs.Option.{option_or, option_to_list}
use Rattle.std.proofs.lemmas.List.{append-nil, append_assoc}
use Rattle.std.proofs.lemmas.List.Elements.{filter_map-append}
use Rattle.std.proofs.lemmas.List.Folds.{find-append}
use Rattle.list_lemmas.proofs.Options.{cons_option-list}
use Rattle.paje_defs.specs.Refusals.{Placed, first_refused, placed, placed_behind}

behind-more : {X : Type 0} (before lines : List X) (line : X)
    → placed_behind before (lines ++ line ∷ [])
    ≡ placed_behind before lines ++ record { before = before ++ lines; line = line } ∷ []
behind-more before [] line = ap (λ b. record { before = b; line = line } ∷ []) (sym (append-nil before))
behind-more before (l ∷ lines) line = ap (λ ps. record { before = before; line = l } ∷ ps)
    (behind-more (before ++ l ∷ []) lines line ∙ ap (λ b. placed_behind (before ++ l ∷ []) lines
    ++ record { before = b; line = line } ∷ []) (append_assoc before (l ∷ []) lines))

pub placed-more : {X : Type 0} (lines : List X) (line : X)
    → placed (lines ++ line ∷ []) ≡ placed lines ++ record { before = lines; line = line } ∷ []
placed-more lines line = behind-more [] lines line

-- what each line tells, by the lines before it
pub told-more : {X Y : Type 0} (f : Placed X → Option Y) (lines : List X) (line : X)
    → filter_map f (placed (lines ++ line ∷ [])) ≡ filter_map f (placed lines)
    ++ option_to_list (f (record { before = lines; line = line }))
told-more f lines line =
    ap (filter_map f) (placed-more lines line)
    ∙ (filter_map-append f (placed lines) (record { before = lines; line = line } ∷ [])
    ∙ ap (λ xs. filter_map f (placed lines) ++ xs) (cons_option-list (f (record {
      before = lines;
      line = line;
    }))))

-- the first line that passes, by the lines before it
pub found-more : {X : Type 0} (p : Placed X → Bool) (lines : List X) (line : X)
    → find p (placed (lines ++ line ∷ [])) ≡ option_or (find p (placed lines))
    (find p (record { before = lines; line = line } ∷ []))
found-more p lines line = ap (find p) (placed-more lines line)
    ∙ find-append p (placed lines) (record { before = lines; line = line } ∷ [])

pub refused-more : {X F : Type 0} (reason : Placed X → Option F) (lines : List X) (line : X)
    → first_refused reason (lines ++ line ∷ []) ≡ option_or (first_refused reason lines)
    (find (λ p. is_some (reason p)) (record { before = lines; line = line } ∷ []))
refused-more reason lines line = found-more (λ p. is_some (reason p)) lines line
