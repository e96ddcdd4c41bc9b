-- Lines in a row: their numbers, and what comes before each.
use Rattle.std.proofs.Common.{◌≡◌, ℕ, ◌+◌, List, [], ◌∷◌, ◌++◌, map, length, sym, ◌∙◌, ap}
use Rattle.std.proofs.Common.{arith}
use Rattle.std.specs.List.{AllByRecursion}
use Rattle.std.proofs.lemmas.List.{append-nil, append_assoc}
use Rattle.list_lemmas.proofs.Each.{all_made, any_made}
use Rattle.paje_defs.specs.Refusals.{Placed, placed_behind}
use Rattle.paje_lines.specs.EventLine.{EventLine}
use Rattle.paje_lines.specs.Examples.{Unnumbered, from}

-- ---- joined lists

pub from-append : (n : ℕ) (xs ys : List Unnumbered) → from n (xs ++ ys)
    ≡ from n xs ++ from (n + length xs) ys
from-append n [] ys = ap (λ m. from m ys) (omega arith)
from-append n (x ∷ xs) ys = ap (λ ls. x n ∷ ls) (from-append (n + 1) xs ys
    ∙ ap (λ m. from (n + 1) xs ++ from m ys) (omega arith))

pub placed-append : {X : Type 0} (before xs ys : List X) → placed_behind before (xs ++ ys)
    ≡ placed_behind before xs ++ placed_behind (before ++ xs) ys
placed-append before [] ys = ap (λ b. placed_behind b ys) (sym (append-nil before))
placed-append before (x ∷ xs) ys = ap (λ ps. record { before = before; line = x } ∷ ps)
    (placed-append (before ++ x ∷ []) xs ys
    ∙ ap (λ b. placed_behind (before ++ x ∷ []) xs ++ placed_behind b ys) (append_assoc before (x ∷ []) xs))

-- ---- what holds of each line

-- whatever the number of the line is
pub all_numbered : (P : EventLine → Type 0) (n : ℕ) (lines : List Unnumbered)
    → AllByRecursion (λ line. (number : ℕ) → P (line number)) lines → AllByRecursion P (from n lines)
all_numbered P n [] all = tt
all_numbered P n (line ∷ lines) all = (all.0 n, all_numbered P (n + 1) lines all.1)

-- of lines that are told from items
pub all_told : {A : Type 0} (P : A → Type 0) (Q : EventLine → Type 0) (told : A → Unnumbered)
    → ((a : A) (n : ℕ) → P a → Q (told a n)) → (n : ℕ) (xs : List A) → AllByRecursion P xs
    → AllByRecursion Q (from n (map told xs))
all_told P Q told tells n xs all = all_numbered Q n (map told xs)
    (all_made P (λ line. (number : ℕ) → Q (line number)) told (λ a is number. tells a number is) xs all)

pub any_told : {A : Type 0} (Q : EventLine → Type 0) (told : A → Unnumbered)
    → ((a : A) (n : ℕ) → Q (told a n)) → (n : ℕ) (xs : List A) → AllByRecursion Q (from n (map told xs))
any_told Q told tells n xs = all_numbered Q n (map told xs)
    (any_made (λ line. (number : ℕ) → Q (line number)) told tells xs)

pub all_untold : {A : Type 0} (P : A → Type 0) (Q : EventLine → Type 0) (told : A → Unnumbered)
    → ((a : A) (n : ℕ) → Q (told a n) → P a) → (n : ℕ) (xs : List A)
    → AllByRecursion Q (from n (map told xs)) → AllByRecursion P xs
all_untold P Q told tells n [] all = tt
all_untold P Q told tells n (x ∷ xs) all = (tells x n all.0, all_untold P Q told tells (n + 1) xs all.1)

-- whatever comes before it
pub all_placed : {X : Type 0} (P : Placed X → Type 0) (before lines : List X)
    → AllByRecursion (λ line. (before : List X) → P (record { before = before; line = line })) lines
    → AllByRecursion P (placed_behind before lines)
all_placed P before [] all = tt
all_placed P before (line ∷ lines) all = (all.0 before, all_placed P (before ++ line ∷ []) lines all.1)
