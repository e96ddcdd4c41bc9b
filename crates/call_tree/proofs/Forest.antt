-- Lists of calls in one another: their events, and how many of these are Enters and Leaves.
use Rattle.std.proofs.Common.{◌≡◌, ℕ, ◌+◌, ◌≤◌, zero, suc, List, [], ◌∷◌, ◌++◌, take}
use Rattle.std.proofs.Common.{refl, sym, subst}
use Rattle.std.proofs.Common.{arith, append_assoc, append-nil, not}
use Rattle.std.proofs.Common.{cond}
use Rattle.std.specs.Prelude.{count_by}
use Rattle.std.proofs.lemmas.List.Sums.{sum_by-cons}
use Rattle.trace_base.specs.Stream.{is_enter}
use Rattle.trace_base.specs.declared.stream.Event.{Event}
use Rattle.trace_base.specs.declared.stream.Event.TheVariants.{Enter, Leave}
use Rattle.node_key.specs.Items.{node}
use Rattle.node_key.specs.declared.item.Item.{Item}
use Rattle.node_key.specs.Bound.{bound}

-- A call of a function from a start on, the calls in it, its end, and the calls behind it; or none.
pub data Forest : Type 0 where
  none : Forest
  call : (func start : ℕ) (inner : Forest) (stop : ℕ) (more : Forest) → Forest

-- the events of the calls
abbrev pub flat : Forest → List Event
flat none = []
flat (call f t A u B) = Enter f t ∷ flat A ++ Leave u ∷ flat B

-- the outermost calls as items
abbrev pub items_of : Forest → List Item
items_of none = []
items_of (call f t A u B) = record { at = t; tree = node f t u (bound (items_of A)) } ∷ items_of B

-- how many Enters
abbrev pub enters : List Event → ℕ
enters [] = 0
enters (Enter f t ∷ es) = enters es + 1
enters (Leave t ∷ es) = enters es

-- how many Leaves
abbrev pub leaves : List Event → ℕ
leaves [] = 0
leaves (Enter f t ∷ es) = leaves es
leaves (Leave t ∷ es) = leaves es + 1

pub enters-is : (es : List Event) → count_by is_enter es ≡ enters es
enters-is [] = refl
enters-is (Enter f t ∷ es) = omega (
  arith,
  sum_by-cons (λ (e : Event). cond (is_enter e) 1 0) (Enter f t) es,
  enters-is es,
)
enters-is (Leave t ∷ es) = omega (
  arith,
  sum_by-cons (λ (e : Event). cond (is_enter e) 1 0) (Leave t) es,
  enters-is es,
)

pub leaves-is : (es : List Event) → count_by (λ e. not (is_enter e)) es ≡ leaves es
leaves-is [] = refl
leaves-is (Enter f t ∷ es) =
    omega (arith, sum_by-cons (λ (e : Event). cond (not (is_enter e)) 1 0) (Enter f t) es, leaves-is es)
leaves-is (Leave t ∷ es) =
    omega (arith, sum_by-cons (λ (e : Event). cond (not (is_enter e)) 1 0) (Leave t) es, leaves-is es)

pub enters-append : (xs ys : List Event) → enters (xs ++ ys) ≡ enters xs + enters ys
enters-append [] ys = omega arith
enters-append (Enter f t ∷ xs) ys = omega (arith, enters-append xs ys)
enters-append (Leave t ∷ xs) ys = enters-append xs ys

pub leaves-append : (xs ys : List Event) → leaves (xs ++ ys) ≡ leaves xs + leaves ys
leaves-append [] ys = omega arith
leaves-append (Enter f t ∷ xs) ys = leaves-append xs ys
leaves-append (Leave t ∷ xs) ys = omega (arith, leaves-append xs ys)

-- each call has its Leave
pub leaves-flat : (F : Forest) → leaves (flat F) ≡ enters (flat F)
leaves-flat none = refl
leaves-flat (call f t A u B) =
    omega (
      arith,
      leaves-append (flat A) (Leave u ∷ flat B),
      enters-append (flat A) (Leave u ∷ flat B),
      leaves-flat A,
      leaves-flat B,
    )

-- with d calls open before, no front of the events has a Leave too many
abbrev pub NeverBelow : ℕ → List Event → Type 0
NeverBelow d es = (k : ℕ) → leaves (take k es) ≤ d + enters (take k es)

never_enter : (d f t : ℕ) (es : List Event) → NeverBelow (d + 1) es → NeverBelow d (Enter f t ∷ es)
never_enter d f t es h zero = omega arith
never_enter d f t es h (suc k) = omega (arith, h k)

never_leave : (d t : ℕ) (es : List Event) → NeverBelow d es → NeverBelow (d + 1) (Leave t ∷ es)
never_leave d t es h zero = omega arith
never_leave d t es h (suc k) = omega (arith, h k)

pub never_flat : (F : Forest) (d : ℕ) (es : List Event) → NeverBelow d es → NeverBelow d (flat F ++ es)
never_flat none d es h = h
never_flat (call f t A u B) d es h =
    subst (λ (l : List Event). NeverBelow d (Enter f t ∷ l))
    (sym (append_assoc (flat A) (Leave u ∷ flat B) es))
    (never_enter d f t (flat A ++ Leave u ∷ (flat B ++ es))
    (never_flat A (d + 1) (Leave u ∷ (flat B ++ es)) (never_leave d u (flat B ++ es) (never_flat B d es h))))

pub front_of_flat : (F : Forest) (k : ℕ) → leaves (take k (flat F)) ≤ enters (take k (flat F))
front_of_flat F k =
    let nothing : NeverBelow 0 [] = λ k. nil_front k in
    omega (
      arith,
      subst (λ (l : List Event). NeverBelow 0 l) (append-nil (flat F)) (never_flat F 0 [] nothing)
          k,
    )
  where
    nil_front : (k : ℕ) → leaves (take k []) ≤ 0 + enters (take k [])
    nil_front zero = omega arith
    nil_front (suc k) = omega arith
