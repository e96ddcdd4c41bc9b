-- Digits, a point, and up to nine digits mean a time that is exact.
use Rattle.std.proofs.Common.{◌≡◌, ℕ, ◌+◌, ◌-◌, ◌*◌, ◌^◌, ◌<◌, ◌≤◌, List, [], ◌∷◌, ◌++◌, length, take, drop}
use Rattle.std.proofs.Common.{Some, None, Ok, inl, inr, refl, sym, ◌∙◌, ap, subst, arith, get_or, append-nil}
use Rattle.std.proofs.Common.{Option, MatchOption, IfSome, length-append, length-take, append_assoc, add-one}
use Rattle.std.proofs.Common.{true}
use Rattle.std.specs.List.{prefix_len}
use Rattle.std.specs.Char.{is_ascii_digit}
use Rattle.std.specs.Str.Parse.{digits_value}
use Rattle.std.proofs.Math.Nat.{mul-le-mul_right, mul-le-mul_left, pow-le-pow_right, eq-or-lt_of_le}
use Rattle.std.proofs.Math.Seq.{take-suc}
use Rattle.std.proofs.lemmas.Int.Digits.{digits_value_push}
use Rattle.std.proofs.lemmas.Nat.{pow-add}
use Rattle.std.proofs.lemmas.List.{take_all, take-append-drop}
use Rattle.std.proofs.lemmas.List.{drop_more}
use Rattle.list_lemmas.proofs.Digits.{ten_pow_pos, value_of_digit}
use Rattle.trace_base.specs.declared.limits.TheConstants.{MAX_TIME}
use Rattle.paje_lex.specs.DateGrammar.{Date, IsDate, AreDigits, date_text, whole_nanoseconds}
use Rattle.paje_lex.specs.DateReading.{date_of}
use Rattle.paje_lex.proofs.DateLaws.{date_only, digits_append, digits_front}
use Rattle.paje_lex.proofs.Scaling.{within}

-- a number of seconds with up to nine places is a whole number of nanoseconds
exact_time : (n places time : ℕ) → places ≤ 9 → time ≡ n * 10 ^ (9 - places) → time ≤ MAX_TIME
    → whole_nanoseconds (n * 10 ^ 9) (10 ^ places) ≡ Ok time
exact_time n places time few is fits =
    let nine : 9 ≡ 9 - places + places = omega arith in
    let all : 10 ^ 9 ≡ 10 ^ (9 - places) * 10 ^ places = ap (λ k. 10 ^ k) nine
    ∙ pow-add 10 (9 - places) places in
    let e : n * 10 ^ 9 ≡ time * 10 ^ places = whole n (10 ^ 9) (10 ^ (9 - places)) (10 ^ places) time all is in
    let some : 0 < 10 ^ places = ten_pow_pos places in
    let most = mul-le-mul_right {m = time} {n = MAX_TIME} (10 ^ places) fits in
    within (n * 10 ^ 9) (10 ^ places) time (omega (arith, e)) (above (n * 10 ^ 9) time (10 ^ places) e some)
    (under (n * 10 ^ 9) time (10 ^ places) e most)
  where
    whole : (n all front p time : ℕ) → all ≡ front * p → time ≡ n * front → n * all ≡ time * p
    whole n all front p time a b = rw (a, b) (omega arith)

    above : (m time p : ℕ) → m ≡ time * p → 0 < p → m < (time + 1) * p
    above m time p e some = omega arith

    under : (m time p : ℕ) → m ≡ time * p → time * p ≤ MAX_TIME * p → m ≤ MAX_TIME * p
    under m time p e most = omega arith

-- the date of digits, a point and digits
abbrev pointed : List ℕ → List ℕ → Date
pointed whole fraction = record { sign = []; whole = whole; fraction = Some fraction; exponent = None }

pointed_date : (whole fraction : List ℕ) (n time : ℕ) → AreDigits whole → AreDigits fraction
    → 0 < length whole → length fraction ≤ 9 → n ≡ digits_value 10 (whole ++ fraction)
    → time ≡ n * 10 ^ (9 - length fraction) → time ≤ MAX_TIME → date_of (whole ++ 46 ∷ fraction) ≡ Ok time
pointed_date whole fraction n time are more some few number is fits =
    let d : Date = pointed whole fraction in
    let valid : IsDate d = record {
      sign = inl refl;
      digits = digits_append whole fraction are more;
      some = simp length-append (omega arith);
      exponent = tt;
    } in
    let text : whole ++ 46 ∷ fraction ≡ date_text d = ap (λ x. whole ++ 46 ∷ x) (sym (append-nil fraction)) in
    let places : length fraction + 0 ≡ length fraction = omega arith in
    date_only (whole ++ 46 ∷ fraction) d valid text
    ∙ (ap (λ k. whole_nanoseconds (digits_value 10 (whole ++ fraction) * 10 ^ 9) (10 ^ k)) places
    ∙ (ap (λ m. whole_nanoseconds (m * 10 ^ 9) (10 ^ length fraction)) (sym number)
    ∙ exact_time n (length fraction) time few is fits))

-- a text is digits, a point and digits where its digits end at a point and begin again behind it
pub short_is : (text fraction : List ℕ) (count places n time : ℕ) → fraction ≡ drop (count + 1) text
    → count ≡ prefix_len is_ascii_digit text → 0 < count → count < length text → get_or text count 0 ≡ 46
    → places ≡ prefix_len is_ascii_digit fraction → length fraction ≤ places → places ≤ length fraction
    → places ≤ 9 → n ≡ digits_value 10 (take count text ++ take places fraction)
    → time ≡ n * 10 ^ (9 - places) → time ≤ MAX_TIME → date_of text ≡ Ok time
short_is text fraction count places n time cut front some short point behind all within few number is fits =
    let whole : List ℕ = take count text in
    let len : places ≡ length fraction = omega arith in
    let parts : text ≡ whole ++ 46 ∷ fraction = sym (take-append-drop count text)
    ∙ ap (λ x. whole ++ x) (drop_more text count 0 short
    ∙ (ap (λ b. b ∷ drop (count + 1) text) point ∙ ap (λ x. 46 ∷ x) (sym cut))) in
    let full : take places fraction ≡ fraction = take_all places fraction all in
    let Digits : List ℕ → Type 0 = λ x. AreDigits x in
    let are : AreDigits whole = subst Digits (ap (λ k. take k text) (sym front)) (digits_front text) in
    let more : AreDigits fraction = subst Digits (ap (λ k. take k fraction) (sym behind) ∙ full)
    (digits_front fraction) in
    ap date_of parts
    ∙ pointed_date whole fraction n time are more (simp length-take (omega arith)) (omega arith)
    (number ∙ ap (λ x. digits_value 10 (whole ++ x)) full)
    (is ∙ ap (λ k. n * 10 ^ (9 - k)) len) fits

-- a time that isn't too great is told
pub short_told : (r : Option ℕ) (text : List ℕ) (n : ℕ)
    → MatchOption r (MAX_TIME < n) (λ time. (time ≡ n) × (time ≤ MAX_TIME))
    → ((time : ℕ) → time ≡ n → time ≤ MAX_TIME → date_of text ≡ Ok time)
    → IfSome r (λ time. date_of text ≡ Ok time)
short_told None text n told all = tt
short_told (Some time) text n told all = all time told.0 told.1

-- ---- digits behind a number

pub digit_behind : (digits text : List ℕ) (at number digit : ℕ) → at < length text
    → is_ascii_digit (get_or text at 0) ≡ true → digit ≡ get_or text at 0 - 48
    → number ≡ digits_value 10 (digits ++ take at text)
    → 10 * number + digit ≡ digits_value 10 (digits ++ take (at + 1) text)
digit_behind digits text at number digit some is value before =
    let byte = get_or text at 0 in
    let longer : digits ++ take (at + 1) text ≡ (digits ++ take at text) ++ byte ∷ [] =
    ap (λ k. digits ++ take k text) (add-one at)
    ∙ (ap (λ x. digits ++ x) (take-suc text at 0 some) ∙ sym (append_assoc digits (take at text) (byte ∷ []))) in
    let pushed = digits_value_push 10 (digits ++ take at text) byte in
    let last = value_of_digit byte is in
    (omega arith) ∙ sym (ap (digits_value 10) longer)

pub digits_more : (text : List ℕ) (at : ℕ) → ((k : ℕ) → k < at → is_ascii_digit (get_or text k 0) ≡ true)
    → is_ascii_digit (get_or text at 0) ≡ true
    → (k : ℕ) → k < at + 1 → is_ascii_digit (get_or text k 0) ≡ true
digits_more text at front is k h = elim (eq-or-lt_of_le {n = k} {m = at} (omega arith)) [
  | inl same ↦ ap (λ n. is_ascii_digit (get_or text n 0)) same ∙ is
  | inr before ↦ front k before
]

-- a number with a digit behind it leaves room for one less
pub room_behind : (number digit len at : ℕ) → at < len → digit < 10 → (number + 1) * 10 ^ (len - at) ≤ 10 ^ 19
    → (10 * number + digit + 1) * 10 ^ (len - (at + 1)) ≤ 10 ^ 19
room_behind number digit len at some small room =
    let split : 10 ^ (len - at) ≡ 10 ^ (len - (at + 1)) * 10 = ap (λ k. 10 ^ k) (steps len at some)
    ∙ pow-add 10 (len - (at + 1)) 1 in
    let m = mul-le-mul_right {m = 10 * number + digit + 1} {n = 10 * number + 10} (10 ^ (len - (at + 1)))
    (omega arith) in
    less number (10 ^ (len - at)) (10 ^ (len - (at + 1))) _ split room m
  where
    steps : (len at : ℕ) → at < len → len - at ≡ len - (at + 1) + 1
    steps len at some = omega arith

    less : (number p q n : ℕ) → p ≡ q * 10 → (number + 1) * p ≤ 10 ^ 19 → n ≤ (10 * number + 10) * q
        → n ≤ 10 ^ 19
    less number p q n e room m = omega (arith, subst (λ x. (number + 1) * x ≤ 10 ^ 19) e room)

-- what has room is below 10 ^ 19
pub below_room : (number k : ℕ) → (number + 1) * 10 ^ k ≤ 10 ^ 19 → number < 10 ^ 19
below_room number k room = omega (
  arith,
  mul-le-mul_right {m = 1} {n = 10 ^ k} (number + 1) (ten_pow_pos k),
)

-- what has room for some digits has room for those behind a point among them
pub room_later : (number len count k : ℕ) → k ≡ len - (count + 1) → (number + 1) * 10 ^ (len - count) ≤ 10 ^ 19
    → (number + 1) * 10 ^ k ≤ 10 ^ 19
room_later number len count k e room =
    let m = mul-le-mul_left (number + 1) (pow-le-pow_right {n = 10} (omega arith) {i = k} {j = len - count}
    (omega arith)) in
    omega arith
