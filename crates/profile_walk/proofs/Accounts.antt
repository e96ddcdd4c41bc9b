-- What a walk adds to the account of a hall.
use Rattle.std.proofs.Common.{◌≡◌, ℕ, ◌+◌, ◌≤◌, Option, Some, None, option_map, sym, subst, arith}
use Rattle.hall_trait.specs.View.{Account, with_fill, with_missed, with_read}
use Rattle.profile_walk.specs.Walks.{FillsBeside, ReadsBeside, ReadsBetween}
use Rattle.trace_base.specs.Outside.{Told}

-- ---- counts that may not be told

abbrev Reads : (was now missed misses : Option ℕ) → ℕ → Type 0
Reads was now missed misses n = Told was now (λ (r s : ℕ). Told missed misses (λ (m l : ℕ). s + m ≤ r + l +
    n))

abbrev Fills : (was now missed misses : Option ℕ) → ℕ → Type 0
Fills was now missed misses n = Told was now (λ (r s : ℕ). Told missed misses (λ (m l : ℕ). s + m ≡ r + l +
    n))

reads-same : (r m : Option ℕ) → Reads r r m m 0
reads-same None m = tt
reads-same (Some r) None = tt
reads-same (Some r) (Some m) = omega arith

reads-one : (r m : Option ℕ) → Reads r (option_map (λ was. was + 1) r) m m 1
reads-one None m = tt
reads-one (Some r) None = tt
reads-one (Some r) (Some m) = omega arith

reads-more : (r s m l : Option ℕ) (n k : ℕ) → n ≤ k → Reads r s m l n → Reads r s m l k
reads-more None None m l n k h p = tt
reads-more None (Some s) m l n k h p = absurd p
reads-more (Some r) None m l n k h p = absurd p
reads-more (Some r) (Some s) None None n k h p = tt
reads-more (Some r) (Some s) None (Some l) n k h p = absurd p
reads-more (Some r) (Some s) (Some m) None n k h p = absurd p
reads-more (Some r) (Some s) (Some m) (Some l) n k h p = omega (arith, p)

reads-then : (r s t m l k : Option ℕ) (n h : ℕ) → Reads r s m l n → Reads s t l k h → Reads r t m k (n + h)
reads-then None None None m l k n h p q = tt
reads-then None None (Some t) m l k n h p q = absurd q
reads-then None (Some s) t m l k n h p q = absurd p
reads-then (Some r) None t m l k n h p q = absurd p
reads-then (Some r) (Some s) None m l k n h p q = absurd q
reads-then (Some r) (Some s) (Some t) None None None n h p q = tt
reads-then (Some r) (Some s) (Some t) None None (Some k) n h p q = absurd q
reads-then (Some r) (Some s) (Some t) None (Some l) k n h p q = absurd p
reads-then (Some r) (Some s) (Some t) (Some m) None k n h p q = absurd p
reads-then (Some r) (Some s) (Some t) (Some m) (Some l) None n h p q = absurd q
reads-then (Some r) (Some s) (Some t) (Some m) (Some l) (Some k) n h p q = omega (arith, p, q)

abbrev Between : (was now missed misses : Option ℕ) → (c d : ℕ) → Type 0
Between was now missed misses c d =
    Told was now (λ (r s : ℕ). Told missed misses (λ (m l : ℕ). s + m + c ≤ r + l + d))

between-reads : (r s m l : Option ℕ) (n c d : ℕ) → n + c ≤ d → Reads r s m l n → Between r s m l c d
between-reads None None m l n c d h p = tt
between-reads None (Some s) m l n c d h p = absurd p
between-reads (Some r) None m l n c d h p = absurd p
between-reads (Some r) (Some s) None None n c d h p = tt
between-reads (Some r) (Some s) None (Some l) n c d h p = absurd p
between-reads (Some r) (Some s) (Some m) None n c d h p = absurd p
between-reads (Some r) (Some s) (Some m) (Some l) n c d h p = omega (arith, p)

between-missed : (r s m l : Option ℕ) (c d : ℕ) → Between r s (option_map (λ was. was + 1) m) l c (d + 1)
    → Between r s m l c (d + 0)
between-missed None None m l c d p = tt
between-missed None (Some s) m l c d p = absurd p
between-missed (Some r) None m l c d p = absurd p
between-missed (Some r) (Some s) None None c d p = tt
between-missed (Some r) (Some s) None (Some l) c d p = absurd p
between-missed (Some r) (Some s) (Some m) None c d p = absurd p
between-missed (Some r) (Some s) (Some m) (Some l) c d p = omega (arith, p)

between-then : (r s t m l k : Option ℕ) (c d : ℕ) → Reads r s m l c → Between s t l k c (d + 0) → Reads r t m
    k d
between-then None None None m l k c d p q = tt
between-then None None (Some t) m l k c d p q = absurd q
between-then None (Some s) t m l k c d p q = absurd p
between-then (Some r) None t m l k c d p q = absurd p
between-then (Some r) (Some s) None m l k c d p q = absurd q
between-then (Some r) (Some s) (Some t) None None None c d p q = tt
between-then (Some r) (Some s) (Some t) None None (Some k) c d p q = absurd q
between-then (Some r) (Some s) (Some t) None (Some l) k c d p q = absurd p
between-then (Some r) (Some s) (Some t) (Some m) None k c d p q = absurd p
between-then (Some r) (Some s) (Some t) (Some m) (Some l) None c d p q = absurd q
between-then (Some r) (Some s) (Some t) (Some m) (Some l) (Some k) c d p q = omega (arith, p, q)

fills-same : (r m : Option ℕ) → Fills r r m m 0
fills-same None m = tt
fills-same (Some r) None = tt
fills-same (Some r) (Some m) = omega arith

fills-one : (r m : Option ℕ) → Fills r (option_map (λ was. was + 1) r) m m 1
fills-one None m = tt
fills-one (Some r) None = tt
fills-one (Some r) (Some m) = omega arith

fills-missed : (r s m l : Option ℕ) (n : ℕ) → Fills r s (option_map (λ was. was + 1) m) l (n + 1)
    → Fills r s m l n
fills-missed None None m l n p = tt
fills-missed None (Some s) m l n p = absurd p
fills-missed (Some r) None m l n p = absurd p
fills-missed (Some r) (Some s) None None n p = tt
fills-missed (Some r) (Some s) None (Some l) n p = absurd p
fills-missed (Some r) (Some s) (Some m) None n p = absurd p
fills-missed (Some r) (Some s) (Some m) (Some l) n p = omega (arith, p)

fills-then : (r s t m l k : Option ℕ) (n h : ℕ) → Fills r s m l n → Fills s t l k h → Fills r t m k (n + h)
fills-then None None None m l k n h p q = tt
fills-then None None (Some t) m l k n h p q = absurd q
fills-then None (Some s) t m l k n h p q = absurd p
fills-then (Some r) None t m l k n h p q = absurd p
fills-then (Some r) (Some s) None m l k n h p q = absurd q
fills-then (Some r) (Some s) (Some t) None None None n h p q = tt
fills-then (Some r) (Some s) (Some t) None None (Some k) n h p q = absurd q
fills-then (Some r) (Some s) (Some t) None (Some l) k n h p q = absurd p
fills-then (Some r) (Some s) (Some t) (Some m) None k n h p q = absurd p
fills-then (Some r) (Some s) (Some t) (Some m) (Some l) None n h p q = absurd q
fills-then (Some r) (Some s) (Some t) (Some m) (Some l) (Some k) n h p q = omega (arith, p, q)

-- ---- accounts

-- nothing is read, or missed
pub read_none : (a b : Account) → b ≡ a → ReadsBeside a b 0
read_none a b e = subst (λ (x : Account). ReadsBeside a x 0) (sym e) (reads-same a.reads a.missed)

pub read_one : (a b : Account) → b ≡ with_read a → ReadsBeside a b 1
read_one a b e = subst (λ (x : Account). ReadsBeside a x 1) (sym e) (reads-one a.reads a.missed)

-- a profile is filled in
pub read_filled : (a b : Account) → b ≡ with_fill a → ReadsBeside a b 0
read_filled a b e = subst (λ (x : Account). ReadsBeside a x 0) (sym e) (reads-same a.reads a.missed)

pub read_more : (a b : Account) (n k : ℕ) → n ≤ k → ReadsBeside a b n → ReadsBeside a b k
read_more a b n k h p = reads-more a.reads b.reads a.missed b.missed n k h p

pub read_between : (a b : Account) (n c d : ℕ) → n + c ≤ d → ReadsBeside a b n → ReadsBetween a b c d
read_between a b n c d h p = between-reads a.reads b.reads a.missed b.missed n c d h p

-- a look that found nothing makes up for one
pub between_missed : (a b c : Account) (l r : ℕ) → b ≡ with_missed a → ReadsBetween b c l (r + 1)
    → ReadsBetween a c l (r + 0)
between_missed a b c l r e p = between-missed a.reads c.reads a.missed c.missed l r
    (subst (λ (x : Account). ReadsBetween x c l (r + 1)) e p)

pub between_then : (a b c : Account) (l r : ℕ) → ReadsBeside a b l → ReadsBetween b c l (r + 0)
    → ReadsBeside a c r
between_then a b c l r p q = between-then a.reads b.reads c.reads a.missed b.missed c.missed l r p q

pub read_then : (a b c : Account) (n h : ℕ) → ReadsBeside a b n → ReadsBeside b c h → ReadsBeside a c (n + h)
read_then a b c n h p q = reads-then a.reads b.reads c.reads a.missed b.missed c.missed n h p q

pub fill_none : (a b : Account) → b ≡ a → FillsBeside a b 0
fill_none a b e = subst (λ (x : Account). FillsBeside a x 0) (sym e) (fills-same a.fills a.missed)

pub fill_read : (a b : Account) → b ≡ with_read a → FillsBeside a b 0
fill_read a b e = subst (λ (x : Account). FillsBeside a x 0) (sym e) (fills-same a.fills a.missed)

pub fill_one : (a b : Account) → b ≡ with_fill a → FillsBeside a b 1
fill_one a b e = subst (λ (x : Account). FillsBeside a x 1) (sym e) (fills-one a.fills a.missed)

pub fill_missed : (a b c : Account) (n : ℕ) → b ≡ with_missed a → FillsBeside b c (n + 1) → FillsBeside a c n
fill_missed a b c n e p = fills-missed a.fills c.fills a.missed c.missed n
    (subst (λ (x : Account). FillsBeside x c (n + 1)) e p)

pub fill_then : (a b c : Account) (n h : ℕ) → FillsBeside a b n → FillsBeside b c h → FillsBeside a c (n + h)
fill_then a b c n h p q = fills-then a.fills b.fills c.fills a.missed b.missed c.missed n h p q
