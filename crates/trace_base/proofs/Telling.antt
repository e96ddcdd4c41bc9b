-- What two calls did to an optional value, one after the other.
use Rattle.std.proofs.Common.{None, Option, Some, subst, sym, ◌≡◌}
use Rattle.trace_base.specs.Outside.{Told}

-- nothing happened
pub told_same : {X : Type 0} (R : X → X → Type 0) (a b : Option X) → ((x : X) → R x x) → b ≡ a → Told a b R
told_same {X} R a b f is = subst (λ (o : Option X). Told a o R) (sym is) (kept a)
  where
    kept : (o : Option X) → Told o o R
    kept (Some x) = f x
    kept None = tt

-- the same said in another way
pub told_as : {X : Type 0} (P R : X → X → Type 0) (a b : Option X) → ((x y : X) → P x y → R x y) → Told a b P
    → Told a b R
told_as P R (Some x) (Some y) f p = f x y p
told_as P R (Some x) None f p = absurd p
told_as P R None (Some y) f p = absurd p
told_as P R None None f p = tt

-- two calls in turn
pub told_then : {X : Type 0} (P Q R : X → X → Type 0) (a b c : Option X)
    → ((x y z : X) → P x y → Q y z → R x z) → Told a b P → Told b c Q → Told a c R
told_then P Q R (Some x) (Some y) (Some z) f p q = f x y z p q
told_then P Q R (Some x) (Some y) None f p q = absurd q
told_then P Q R (Some x) None c f p q = absurd p
told_then P Q R None (Some y) c f p q = absurd p
told_then P Q R None None (Some z) f p q = absurd q
told_then P Q R None None None f p q = tt
