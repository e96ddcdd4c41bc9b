-- What two orderings, or an ordering turned round, say.
use Rattle.std.proofs.Common.{ap, false, inl, inr, not, refl, sym, true, ◌&&◌, ◌∙◌, ◌≡◌, ◌⊎◌}
use Rattle.std.proofs.lemmas.Bool.{true≢false}
use Rattle.std.specs.Cmp.{IsTotalOrder}
use Rattle.std.specs.Ordering.{is_eq, is_lt, ordering_reverse, ordering_then}
use Rattle.std.specs.declared.cmp.Ordering.{Ordering}
use Rattle.std.specs.declared.cmp.Ordering.TheVariants.{Equal, Greater, Less}

pub ordering_cases : (o : Ordering) → (o ≡ Less) ⊎ ((o ≡ Equal) ⊎ (o ≡ Greater))
ordering_cases Less = inl refl
ordering_cases Equal = inr (inl refl)
ordering_cases Greater = inr (inr refl)

pub Equal-from_is_eq : (o : Ordering) → is_eq o ≡ true → o ≡ Equal
Equal-from_is_eq Less e = cc
Equal-from_is_eq Equal e = refl
Equal-from_is_eq Greater e = cc

pub Less-from_is_lt : (o : Ordering) → is_lt o ≡ true → o ≡ Less
Less-from_is_lt Less e = refl
Less-from_is_lt Equal e = cc
Less-from_is_lt Greater e = cc

pub then-to_Equal : (o : Ordering) → ordering_then o Equal ≡ o
then-to_Equal Less = refl
then-to_Equal Equal = refl
then-to_Equal Greater = refl

pub then-Equal : (r s : Ordering) → ordering_then r s ≡ Equal → (r ≡ Equal) × (s ≡ Equal)
then-Equal Less s h = cc
then-Equal Equal s h = (refl, h)
then-Equal Greater s h = cc

pub turned : {K : Type 0} (cmp : K → K → Ordering) → IsTotalOrder cmp → (j k : K) → cmp j k ≡ Less
    → cmp k j ≡ Greater
turned cmp o j k e = o.antisymm k j ∙ ap ordering_reverse e

pub turned_back : {K : Type 0} (cmp : K → K → Ordering) → IsTotalOrder cmp → (j k : K) → cmp j k ≡ Greater
    → cmp k j ≡ Less
turned_back cmp o j k e = o.antisymm k j ∙ ap ordering_reverse e

-- what the test of two ties says
pub ties-reverse : (o p : Ordering) → o ≡ ordering_reverse p → not (is_lt o) && not (is_lt p) ≡ is_eq p
ties-reverse o Less e = ap (λ q. not (is_lt q) && not (is_lt Less)) e
ties-reverse o Equal e = ap (λ q. not (is_lt q) && not (is_lt Equal)) e
ties-reverse o Greater e = ap (λ q. not (is_lt q) && not (is_lt Greater)) e

pub not_lt-reverse : (o p : Ordering) → o ≡ ordering_reverse p → p ≡ Less → is_lt o ≡ false
not_lt-reverse o p e h = ap is_lt (e ∙ ap ordering_reverse h)

pub not_below_itself : {K : Type 0} (cmp : K → K → Ordering) → IsTotalOrder cmp → (x : K) → cmp x x ≡ Less
    → (P : Type 0) → P
not_below_itself cmp o x e P = absurd (true≢false (sym (ap is_lt e) ∙ ap is_lt (o.antisymm x x)
    ∙ ap (λ r. is_lt (ordering_reverse r)) e))
