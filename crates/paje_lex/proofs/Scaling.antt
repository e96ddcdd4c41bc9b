-- The number of digits, of which the first are kept, times and divided by powers of ten.
use Rattle.std.proofs.Common.{◌≡◌, ℕ, ◌+◌, ◌-◌, ◌*◌, ◌/◌, ◌^◌, ◌<◌, ◌≤◌, ◌⊎◌, inl, inr}
use Rattle.std.proofs.Common.{Result, Ok, Err, IfOk, IfErr, Bool, true, false, IsTrue}
use Rattle.std.proofs.Common.{◌↔◌, refl, sym, ◌∙◌, ap, arith, zero, suc}
use Rattle.std.proofs.lemmas.Nat.{pow-add, div-add-mod'}
use Rattle.std.proofs.Math.Nat.{mul-le-mul_right, mul-le-mul_left, lt-div-mul-add}
use Rattle.std.proofs.Math.Nat.{pow-le-pow_right}
use Rattle.std.proofs.lemmas.Bool.{le-ltb, lt-ltb, true≢false}
use Rattle.list_lemmas.proofs.Digits.{ten_pow_pos}
use Rattle.list_lemmas.proofs.Numbers.{quotient}
use Rattle.paje_lex.specs.declared.date_fault.DateFault.{DateFault}
use Rattle.paje_lex.specs.declared.date_fault.DateFault.TheVariants.{Big}
use Rattle.trace_base.specs.declared.limits.TheConstants.{MAX_TIME}
use Rattle.paje_lex.specs.DateGrammar.{whole_nanoseconds}

pub within : (above below q : ℕ) → q * below ≤ above → above < (q + 1) * below → above ≤ MAX_TIME * below
    → whole_nanoseconds above below ≡ Ok q
within above below q low high fits =
    rw (le-ltb (MAX_TIME * below) above fits) (ap Ok (quotient above below q low high))

-- a power of ten of at least 20 is above each head
pub head_below_pow : (head places : ℕ) → head < 2 ^ 64 → 20 ≤ places → head / 10 ^ places ≡ 0
head_below_pow head places below many =
    quotient head (10 ^ places) 0 (omega arith)
    (omega (arith, pow-le-pow_right {n = 10} (omega arith) {i = 20} {j = places} many))

pub raised_above : (head places : ℕ) → 0 < head → 20 ≤ places → 2 ^ 64 ≤ head * 10 ^ places
raised_above head places some many =
    omega (
      arith,
      pow-le-pow_right {n = 10} (omega arith) {i = 20} {j = places} many,
      mul-le-mul_right {m = 1}
          {n = head} (10 ^ places) (omega arith),
    )

-- the digits behind the head, and some of its own, are dropped
pub lowered_by : (n head low p q u : ℕ) → n ≡ head * q + low → low < q → head < 2 ^ 64 → 10 ≤ p → 0 < u
    → whole_nanoseconds (n * u) (p * (q * u)) ≡ Ok (head / p)
lowered_by n head low p q u e below small many some =
    let t : ℕ = head / p in
    let under : t * p ≤ head = omega (arith, div-add-mod' head p) in
    let over : head + 1 ≤ (t + 1) * p = omega (arith, lt-div-mul-add {a = head} {b = p} (omega arith)) in
    let less : n + 1 ≤ (head + 1) * q = omega arith in
    let m1 = mul-le-mul_right {m = t * p} {n = head} (q * u) under in
    let m2 = mul-le-mul_right {m = n + 1} {n = (head + 1) * q} u less in
    let m3 = mul-le-mul_right {m = head + 1} {n = (t + 1) * p} (q * u) over in
    let m4 = mul-le-mul_right {m = head + 1} {n = MAX_TIME * p} (q * u) (omega arith) in
    within (n * u) (p * (q * u)) t (regrouped n head low p q u t e m1)
    (regrouped_over n head p q u t some m2 m3) (regrouped_fits n head p q u m2 m4)
  where
    regrouped : (n head low p q u t : ℕ) → n ≡ head * q + low → t * p * (q * u) ≤ head * (q * u)
        → t * (p * (q * u)) ≤ n * u
    regrouped n head low p q u t e h = rw e (omega arith)

    regrouped_over : (n head p q u t : ℕ) → 0 < u → (n + 1) * u ≤ (head + 1) * q * u
        → (head + 1) * (q * u) ≤ (t + 1) * p * (q * u) → n * u < (t + 1) * (p * (q * u))
    regrouped_over n head p q u t some a b = omega arith

    regrouped_fits : (n head p q u : ℕ) → (n + 1) * u ≤ (head + 1) * q * u
        → (head + 1) * (q * u) ≤ MAX_TIME * p * (q * u) → n * u ≤ MAX_TIME * (p * (q * u))
    regrouped_fits n head p q u a b = omega arith

pub lowered_limit : (n head more low up down : ℕ) → n ≡ head * 10 ^ more + low → low < 10 ^ more
    → head < 2 ^ 64 → more + up < down → whole_nanoseconds (n * 10 ^ up) (10 ^ down) ≡ Ok
    (head / 10 ^ (down - (more + up)))
lowered_limit n head more low up down e below small far =
    let places : ℕ = down - (more + up) in
    let whole : down ≡ places + (more + up) = omega arith in
    let ten : 10 ≤ 10 ^ places = pow-le-pow_right {n = 10} (omega arith) {i = 1} {j = places} (omega arith) in
    let split : 10 ^ down ≡ 10 ^ places * (10 ^ more * 10 ^ up) = ap (λ k. 10 ^ k) whole ∙
    (pow-add 10 places (more + up) ∙ ap (λ x. 10 ^ places * x) (pow-add 10 more up)) in
    ap (whole_nanoseconds (n * 10 ^ up)) split ∙ lowered_by n head low (10 ^ places) (10 ^ more)
    (10 ^ up) e below
    small ten (ten_pow_pos up)

-- the number times a power of ten, by its head and what is behind
split : (n head low q u s d : ℕ) → n ≡ head * q + low → q * u ≡ s * d → n * u ≡ head * s * d + low * u
split n head low q u s d e turned =
    let m : head * (q * u) ≡ head * (s * d) = ap (λ x. head * x) turned in
    rw e (omega arith)

-- the head with zeros behind it is the time
pub raised_ok : (n head low q u s d : ℕ) → n ≡ head * q + low → low < q → q * u ≡ s * d → 0 < u → (s ≡ 1)
    ⊎ (low ≡ 0) → (head * s < MAX_TIME) ⊎ ((head * s ≡ MAX_TIME) × (low ≡ 0))
    → whole_nanoseconds (n * u) d ≡ Ok (head * s)
raised_ok n head low q u s d e below turned some exact limit =
    let parts : n * u ≡ head * s * d + low * u = split n head low q u s d e turned in
    let rest : low * u < d = behind low q u s d below turned some exact in
    within (n * u) d (head * s) (omega arith) (omega arith) (fits n u low d (head * s) parts rest limit)
  where
    behind : (low q u s d : ℕ) → low < q → q * u ≡ s * d → 0 < u → (s ≡ 1) ⊎ (low ≡ 0) → low * u < d
    behind low q u s d below turned some (inl one) =
        let m = mul-le-mul_right {m = low + 1} {n = q} u (omega arith) in
        let same : q * u ≡ d = turned ∙ (ap (λ x. x * d) one ∙ one_mul d) in
        omega arith
      where
        one_mul : (d : ℕ) → 1 * d ≡ d
        one_mul d = omega arith
    behind low q u s zero below turned some (inr none) =
        let m = mul-le-mul_right {m = 1} {n = q} u (omega arith) in
        absurd (omega arith)
    behind low q u s (suc d) below turned some (inr none) = rw none (omega arith)

    fits : (n u low d h : ℕ) → n * u ≡ h * d + low * u → low * u < d → (h < MAX_TIME)
        ⊎ ((h ≡ MAX_TIME) × (low ≡ 0)) → n * u ≤ MAX_TIME * d
    fits n u low d h parts rest (inl under) =
        let m = mul-le-mul_right {m = h + 1} {n = MAX_TIME} d (omega arith) in
        omega arith
    fits n u low d h parts rest (inr both) =
        let none : low * u ≡ 0 * u = ap (λ x. x * u) both.1 in
        let nothing : 0 * u ≡ 0 = omega arith in
        let all : h * d ≡ MAX_TIME * d = ap (λ x. x * d) both.0 in
        omega arith

pub raised_big : (n head low q u s d : ℕ) → n ≡ head * q + low → q * u ≡ s * d → 0 < u → 0 < d
    → (MAX_TIME < head * s) ⊎ ((head * s ≡ MAX_TIME) × (0 < low)) → whole_nanoseconds (n * u) d ≡ Err Big
raised_big n head low q u s d e turned some pos above =
    rw (lt-ltb (MAX_TIME * d) (n * u) (over n u low d (head * s) (split n head low q u s d e turned) some pos
    above)) refl
  where
    over : (n u low d h : ℕ) → n * u ≡ h * d + low * u → 0 < u → 0 < d → (MAX_TIME < h)
        ⊎ ((h ≡ MAX_TIME) × (0 < low)) → MAX_TIME * d < n * u
    over n u low d h parts some pos (inl above) =
        let m = mul-le-mul_right {m = MAX_TIME + 1} {n = h} d (omega arith) in
        omega arith
    over n u low d h parts some pos (inr both) =
        let m = mul-le-mul_right {m = 1} {n = low} u (omega arith) in
        let all : h * d ≡ MAX_TIME * d = ap (λ x. x * d) both.0 in
        omega arith

-- powers of ten on both sides of an equation of their exponents
pub turned_powers : (more up down : ℕ) → down ≤ more + up → 10 ^ more * 10 ^ up ≡ 10 ^ (more + up - down) * 10
    ^ down
turned_powers more up down fits =
    let whole : more + up ≡ more + up - down + down = omega arith in
    sym (pow-add 10 more up) ∙ (ap (λ k. 10 ^ k) whole ∙ pow-add 10 (more + up - down) down)

-- where something is behind the head, the head is full, and has no room for zeros
pub no_zeros : (head places low : ℕ) → (0 < low → 10 ^ 18 ≤ head) → head * 10 ^ places ≤ MAX_TIME
    → (10 ^ places ≡ 1) ⊎ (low ≡ 0)
no_zeros head places zero full limit = inr refl
no_zeros head zero (suc low) full limit = inl refl
no_zeros head (suc places) (suc low) full limit =
    let ten : 10 ≤ 10 ^ suc places = pow-le-pow_right {n = 10} (omega arith) {i = 1} {j = suc places}
    (omega arith) in
    let m = mul-le-mul_left head ten in
    absurd (omega (arith, full (omega arith)))

-- what is behind the head, by whether there is something
pub low_none : (tail : Bool) (low : ℕ) → (IsTrue tail ↔ (0 < low)) → tail ≡ false → low ≡ 0
low_none tail zero tells is = refl
low_none tail (suc low) tells is = absurd (true≢false (sym (tells.1 (omega arith)) ∙ is))

pub low_full : (head more low : ℕ) → low < 10 ^ more → (0 < more → 10 ^ 18 ≤ head) → 0 < low → 10 ^ 18 ≤ head
low_full head zero low below full some = absurd (omega arith)
low_full head (suc more) low below full some = full (omega arith)

-- the head with zeros behind it, unless that and what is behind are above the limit
pub scaled_up : (r : Result ℕ DateFault) (n head more low up down time : ℕ) (tail : Bool)
    → n ≡ head * 10 ^ more + low → low < 10 ^ more → (IsTrue tail ↔ (0 < low)) → (0 < more → 10 ^ 18 ≤ head)
    → down ≤ more + up → time ≡ head * 10 ^ (more + up - down)
    → IfOk r (λ t. (t ≡ time) × ((time < MAX_TIME) ⊎ ((time ≡ MAX_TIME) × (tail ≡ false))))
    → IfErr r (λ e. (e ≡ Big) × ((MAX_TIME < time) ⊎ ((time ≡ MAX_TIME) × (tail ≡ true))))
    → r ≡ whole_nanoseconds (n * 10 ^ up) (10 ^ down)
scaled_up (Ok t) n head more low up down time tail e below tells full near is ok err =
    ap Ok (ok.0 ∙ is) ∙ sym (raised_ok n head low (10 ^ more) (10 ^ up) (10 ^ (more + up - down)) (10 ^ down)
    e below (turned_powers more up down near) (ten_pow_pos up)
    (no_zeros head (more + up - down) low (low_full head more low below full)
    (most (head * 10 ^ (more + up - down)) time is ok.1))
    (limit (head * 10 ^ (more + up - down)) time is tells ok.1))
  where
    most : (h time : ℕ) → time ≡ h → (time < MAX_TIME) ⊎ ((time ≡ MAX_TIME) × (tail ≡ false)) → h ≤ MAX_TIME
    most h time is (inl a) = omega arith
    most h time is (inr b) = omega (arith, b.0)

    limit : (h time : ℕ) → time ≡ h → (IsTrue tail ↔ (0 < low)) → (time < MAX_TIME)
        ⊎ ((time ≡ MAX_TIME) × (tail ≡ false)) → (h < MAX_TIME) ⊎ ((h ≡ MAX_TIME) × (low ≡ 0))
    limit h time is tells (inl a) = inl (omega arith)
    limit h time is tells (inr b) = inr (sym is ∙ b.0, low_none tail low tells b.1)
scaled_up (Err f) n head more low up down time tail e below tells full near is ok err =
    ap Err err.0 ∙ sym (raised_big n head low (10 ^ more) (10 ^ up) (10 ^ (more + up - down)) (10 ^ down) e
    (turned_powers more up down near) (ten_pow_pos up) (ten_pow_pos down)
    (above (head * 10 ^ (more + up - down)) time is tells err.1))
  where
    above : (h time : ℕ) → time ≡ h → (IsTrue tail ↔ (0 < low)) → (MAX_TIME < time)
        ⊎ ((time ≡ MAX_TIME) × (tail ≡ true)) → (MAX_TIME < h) ⊎ ((h ≡ MAX_TIME) × (0 < low))
    above h time is tells (inl a) = inl (omega arith)
    above h time is tells (inr b) = inr (sym is ∙ b.0, tells.0 b.1)
