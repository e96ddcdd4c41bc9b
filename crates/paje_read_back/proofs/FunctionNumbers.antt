-- The calls of a canonical trace are of its functions.
use Rattle.std.proofs.Common.{ℕ, ◌≤◌, List}
use Rattle.std.proofs.Common.{length}
use Rattle.std.proofs.Common.{sym, subst, arith, nat_eq}
use Rattle.std.specs.List.{AllByRecursion}
use Rattle.std.proofs.lemmas.Bool.{eqb-true}
use Rattle.std.proofs.lemmas.List.Elements.{All-from_recursion, recursion_from_All}
use Rattle.list_lemmas.proofs.Ranges.{range_within}
use Rattle.trace_base.specs.declared.text.TraceText.{TraceText}
use Rattle.paje_lines.specs.Found.{distinct_by}
use Rattle.paje_legal.proofs.StreamLists.{All-from_distinct}
use Rattle.paje_print.specs.Canonical.{IsCanonical, functions_called}

-- the number of one of these functions, counted from 1
abbrev pub IsOneOf : List (List ℕ) → ℕ → Type 0
IsOneOf functions f = (1 ≤ f) × (f ≤ length functions)

-- each call is of one of the functions
pub called_known : (t : TraceText) → IsCanonical t
    → AllByRecursion (IsOneOf t.names.functions) (functions_called t)
called_known t canonical = recursion_from_All (IsOneOf t.names.functions) (functions_called t)
    (All-from_distinct nat_eq (λ x y e. eqb-true x y e) (IsOneOf t.names.functions) (functions_called t)
    (All-from_recursion (IsOneOf t.names.functions) (distinct_by nat_eq (functions_called t))
    (subst (AllByRecursion (IsOneOf t.names.functions)) (sym canonical.numbered)
    (range_within 1 (length t.names.functions) (length t.names.functions) (omega arith)))))
