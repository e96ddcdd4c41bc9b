-- The parts that are read of a text are those that it is written from.
use Rattle.std.proofs.Common.{◌≡◌, ℕ, ◌+◌, ◌*◌, ◌/◌, ◌<◌, ◌≤◌, ◌&&◌, ◌||◌, ◌==◌, ◌⊎◌, inl, inr, List, []}
use Rattle.std.proofs.Common.{◌∷◌, ◌++◌, length, take, drop, Bool, true, false, cond, ltb, leb, Option, Some}
use Rattle.std.proofs.Common.{None, Result, Ok, Err, IfOk, sym, ◌∙◌, ap, refl, arith, subst}
use Rattle.std.specs.List.{prefix_len, list_all, take_while}
use Rattle.std.specs.Option.{option_map, unwrap_or}
use Rattle.std.specs.Char.{is_ascii_digit}
use Rattle.std.proofs.lemmas.Bool.{or_cases}
use Rattle.list_lemmas.proofs.Digits.{ten_pow_pos}
use Rattle.list_lemmas.proofs.Fronts.{take_cons}
use Rattle.list_lemmas.proofs.Numbers.{quotient_bounds}
use Rattle.trace_base.specs.declared.limits.TheConstants.{MAX_TIME}
use Rattle.std.specs.Str.Parse.{digits_value}
use Rattle.std.proofs.lemmas.List.{take_at, drop_at, take-append-drop}
use Rattle.std.proofs.lemmas.List.Folds.{length-prefix_len}
use Rattle.std.proofs.lemmas.Bool.{true≢false, and_parts, eqb-true, ltb-true, lt-ltb, leb-true, le-leb}
use Rattle.std.proofs.lemmas.Bool.Decides.{nat_tests}
use Rattle.paje_lex.specs.declared.date_fault.DateFault.{DateFault}
use Rattle.paje_lex.specs.declared.date_fault.DateFault.TheVariants.{Shape, Negative, Big}
use Rattle.paje_lex.specs.DateGrammar.{Date, Exponent, date_text, fraction_text, exponent_text, IsSign}
use Rattle.paje_lex.specs.DateGrammar.{AreDigits, date_digits, IsExponent, IfExponent, IsDate, is_minus}
use Rattle.paje_lex.specs.DateGrammar.{meaning, numerator, denominator}
use Rattle.paje_lex.specs.DateReading.{is_sign, sign_len, fraction_of, fraction_at, are_exponent_digits}
use Rattle.paje_lex.specs.DateReading.{is_exponent_letter, exponent_of, behind_digits, unsigned_of, body_of}
use Rattle.paje_lex.specs.DateReading.{digits_at, date_parts, parts_of, meaning_or_shape, date_of}

-- ---- what is read is a date, and is written as the text

digits_first : (b : ℕ) (bs : List ℕ) → AreDigits (take_while is_ascii_digit bs) → (x : Bool)
    → is_ascii_digit b ≡ x → AreDigits (take (cond x (1 + prefix_len is_ascii_digit bs) 0) (b ∷ bs))
digits_first b bs rest true e = rw (take_cons (prefix_len is_ascii_digit bs) b bs) (e, rest)
digits_first b bs rest false e = tt

pub digits_front : (bytes : List ℕ) → AreDigits (take_while is_ascii_digit bytes)
digits_front [] = tt
digits_front (b ∷ bs) = digits_first b bs (digits_front bs) (is_ascii_digit b) refl

pub digits_append : (a b : List ℕ) → AreDigits a → AreDigits b → AreDigits (a ++ b)
digits_append [] b x y = y
digits_append (c ∷ a) b (first, x) y = (first, digits_append a b x y)

fraction_digits : (bytes : List ℕ) → AreDigits (unwrap_or (fraction_of bytes) [])
fraction_digits [] = tt
fraction_digits (b ∷ bs) = go (b == 46)
  where
    go : (x : Bool) → AreDigits (unwrap_or (cond x (Some (take_while is_ascii_digit bs)) None) [])
    go true = digits_front bs
    go false = tt

pub digits_at_digits : (body : List ℕ) → AreDigits (digits_at body)
digits_at_digits body = digits_append (take_while is_ascii_digit body) (unwrap_or (fraction_at body) [])
    (digits_front body) (fraction_digits (drop (prefix_len is_ascii_digit body) body))

pub sign_is : (text : List ℕ) → IsSign (take (sign_len text) text)
sign_is [] = inl refl
sign_is (b ∷ bs) = go (b == 43) refl (b == 45) refl
  where
    go : (x : Bool) → (b == 43) ≡ x → (y : Bool) → (b == 45) ≡ y → IsSign (take (cond (x || y) 1 0) (b ∷ bs))
    go true e y f = inr (inl (ap (λ c. c ∷ []) (eqb-true b 43 e)))
    go false e true f = inr (inr (ap (λ c. c ∷ []) (eqb-true b 45 f)))
    go false e false f = inl refl

pub fraction_split : (bytes : List ℕ) → bytes ≡ fraction_text (fraction_of bytes)
    ++ drop (length (fraction_text (fraction_of bytes))) bytes
fraction_split [] = refl
fraction_split (b ∷ bs) = go (b == 46) refl
  where
    go : (x : Bool) → (b == 46) ≡ x → b ∷ bs ≡ fraction_text
        (cond x (Some (take_while is_ascii_digit bs)) None)
        ++ drop (length (fraction_text (cond x (Some (take_while is_ascii_digit bs)) None))) (b ∷ bs)
    go false e = refl
    go true e = ap (λ c. c ∷ bs) (eqb-true b 46 e) ∙ ap (λ x. 46 ∷ x)
        (sym (ap (λ n. take_while is_ascii_digit bs ++ drop n bs) (length-prefix_len is_ascii_digit bs) ∙
        take-append-drop (prefix_len is_ascii_digit bs) bs))

letter_is : (b : ℕ) → is_exponent_letter b ≡ true → (b ≡ 101) ⊎ (b ≡ 69)
letter_is b e = elim (or_cases (b == 101) (b == 69) e) [
  | inl f ↦ inl (eqb-true b 101 f)
  | inr f ↦ inr (eqb-true b 69 f)
]

all_digits : (bytes : List ℕ) → list_all is_ascii_digit bytes ≡ true → AreDigits bytes
all_digits [] e = tt
all_digits (b ∷ bs) e = let both = and_parts (is_ascii_digit b) (list_all is_ascii_digit bs) e
    in (both.0, all_digits bs both.1)

exponent_is : (b : ℕ) (bs : List ℕ) → is_exponent_letter b ≡ true
    → are_exponent_digits (drop (sign_len bs) bs) ≡ true
    → IsExponent (record { letter = b; sign = take (sign_len bs) bs; digits = drop (sign_len bs) bs })
exponent_is b bs letter digits =
    let ds = drop (sign_len bs) bs in
    let all = and_parts (list_all is_ascii_digit ds) (ltb 0 (length ds)
    && (leb (length ds) 4 && leb (digits_value 10 ds) 30)) digits in
    let some = and_parts (ltb 0 (length ds)) (leb (length ds) 4 && leb (digits_value 10 ds) 30) all.1 in
    let four = and_parts (leb (length ds) 4) (leb (digits_value 10 ds) 30) some.1 in
    record {
      letter = letter_is b letter;
      sign = sign_is bs;
      digits = all_digits ds all.0;
      some = ltb-true 0 (length ds) some.0;
      four = leb-true (length ds) 4 four.0;
      small = leb-true (digits_value 10 ds) 30 four.1;
    }

exponent_first : (b : ℕ) (bs : List ℕ) (e : Option Exponent) → (x : Bool) → is_exponent_letter b ≡ x
    → (y : Bool) → are_exponent_digits (drop (sign_len bs) bs) ≡ y
    → cond x
    (option_map Some
    (cond y (Some (record { letter = b; sign = take (sign_len bs) bs; digits = drop (sign_len bs) bs }))
    None)) None ≡ Some e
    → IfExponent e × (b ∷ bs ≡ exponent_text e)
exponent_first b bs e false l y d is = cc
exponent_first b bs e true l false d is = cc
exponent_first b bs None true l true d is = cc
exponent_first b bs (Some x) true l true d is =
    let R : Exponent = record { letter = b; sign = take (sign_len bs) bs; digits = drop (sign_len bs) bs } in
    let same : R ≡ x = cc in
    let P : Exponent → Type 0 = λ y. IsExponent y × (b ∷ bs ≡ exponent_text (Some y)) in
    subst P same (exponent_is b bs l d, ap (λ z. b ∷ z) (sym (take-append-drop (sign_len bs) bs)))

pub exponent_reads : (bytes : List ℕ) (e : Option Exponent) → exponent_of bytes ≡ Some e → IfExponent e
    × (bytes ≡ exponent_text e)
unfolding exponent_of
exponent_reads [] None is = (tt, refl)
exponent_reads [] (Some x) is = cc
exponent_reads (b ∷ bs) e is = exponent_first b bs e (is_exponent_letter b) refl
    (are_exponent_digits (drop (sign_len bs) bs)) refl is

-- a date that has parts has digits, and an exponent or none behind them
record HasParts (none : Bool) (x : Option (Option Exponent)) (f : Option Exponent → Date) (d : Date) : Type 0
  where
    digits : none ≡ false
    exponent : Option Exponent
    read : x ≡ Some exponent
    made : f exponent ≡ d

parts_cases : (none : Bool) (x : Option (Option Exponent)) (f : Option Exponent → Date) (d : Date)
    → cond none None (option_map f x) ≡ Some d → HasParts none x f d
parts_cases true x f d is = cc
parts_cases false None f d is = cc
parts_cases false (Some e) f d is = record { digits = refl; exponent = e; read = refl; made = cc }

body_split : (body : List ℕ) → body ≡ take_while is_ascii_digit body
    ++ (fraction_text (fraction_at body) ++ behind_digits body)
body_split body = sym (take-append-drop (prefix_len is_ascii_digit body) body) ∙ ap
    (λ x. take_while is_ascii_digit body ++ x) (fraction_split (drop (prefix_len is_ascii_digit body) body))

date_of_parts : (text : List ℕ) (e : Option Exponent) → 0 < length (digits_at (body_of text)) → IfExponent e
    → behind_digits (body_of text) ≡ exponent_text e
    → IsDate (unsigned_of (take (sign_len text) text) (body_of text) e)
    × (text ≡ date_text (unsigned_of (take (sign_len text) text) (body_of text) e))
date_of_parts text e some exponent behind =
    let body = body_of text in (
      record { sign = sign_is text; digits = digits_at_digits body; some = some; exponent = exponent },
      sym (take-append-drop (sign_len text) text) ∙ ap (λ x. take (sign_len text) text ++ x)
          (body_split body ∙ ap (λ x. take_while is_ascii_digit body
          ++ (fraction_text (fraction_at body) ++ x)) behind),
    )

pub parts_read : (text : List ℕ) (d : Date) → parts_of text ≡ Some d → IsDate d × (text ≡ date_text d)
unfolding parts_of
parts_read text d is =
    let body = body_of text in
    let cut = parts_cases (length (digits_at body) == 0) (exponent_of (behind_digits body))
    (unsigned_of (take (sign_len text) text) body) d is in
    let none : (length (digits_at body) == 0) ≡ false = cut.digits in
    let e = cut.exponent in
    let read = exponent_reads (behind_digits body) e cut.read in
    let P : Date → Type 0 = λ x. IsDate x × (text ≡ date_text x) in
    subst P cut.made (date_of_parts text e (grind (arith, nat_tests, none)) read.0 read.1)

-- ---- a date's text is read as its parts

-- the first byte, where there is one, fails a test
abbrev FirstFails : (ℕ → Bool) → List ℕ → Type 0
FirstFails p [] = Unit {0}
FirstFails p (b ∷ bs) = p b ≡ false

digit_no_sign : (b : ℕ) → is_ascii_digit b ≡ true → is_sign b ≡ false
digit_no_sign b e = grind (arith, nat_tests, e)

no_sign_len : (body : List ℕ) → FirstFails is_sign body → sign_len body ≡ 0
no_sign_len [] e = refl
no_sign_len (b ∷ bs) e = rw e refl

sign_len_of : (sign body : List ℕ) → IsSign sign → FirstFails is_sign body
    → sign_len (sign ++ body) ≡ length sign
sign_len_of sign body (inl e) first = let P : List ℕ → Type 0 = λ s. sign_len (s ++ body) ≡ length s
    in subst P (sym e) (no_sign_len body first)
sign_len_of sign body (inr (inl e)) first = let P : List ℕ → Type 0 = λ s. sign_len (s ++ body) ≡ length s
    in subst P (sym e) refl
sign_len_of sign body (inr (inr e)) first = let P : List ℕ → Type 0 = λ s. sign_len (s ++ body) ≡ length s
    in subst P (sym e) refl

prefix_of : (whole tail : List ℕ) → AreDigits whole → FirstFails is_ascii_digit tail
    → prefix_len is_ascii_digit (whole ++ tail) ≡ length whole
prefix_of [] [] are first = refl
prefix_of [] (b ∷ bs) are first = rw first refl
prefix_of (c ∷ whole) tail (is, are) first = rw is (let e = prefix_of whole tail are first in omega arith)

digits_left : (a b : List ℕ) → AreDigits (a ++ b) → AreDigits a
digits_left [] b are = tt
digits_left (c ∷ a) b (is, are) = (is, digits_left a b are)

digits_right : (a b : List ℕ) → AreDigits (a ++ b) → AreDigits b
digits_right [] b are = are
digits_right (c ∷ a) b (is, are) = digits_right a b are

letter_fails : (p : ℕ → Bool) (b : ℕ) → p 101 ≡ false → p 69 ≡ false → (b ≡ 101) ⊎ (b ≡ 69) → p b ≡ false
letter_fails p b x y (inl e) = ap p e ∙ x
letter_fails p b x y (inr e) = ap p e ∙ y

exponent_starts : (p : ℕ → Bool) (e : Option Exponent) → p 101 ≡ false → p 69 ≡ false → IfExponent e
    → FirstFails p (exponent_text e)
exponent_starts p None x y is = tt
exponent_starts p (Some e) x y is = letter_fails p e.letter x y is.letter

tail_starts : (fraction : Option (List ℕ)) (e : Option Exponent) → IfExponent e
    → FirstFails is_ascii_digit (fraction_text fraction ++ exponent_text e)
tail_starts None e is = exponent_starts is_ascii_digit e refl refl is
tail_starts (Some ds) e is = refl

fraction_none : (bytes : List ℕ) → FirstFails (λ b. b == 46) bytes → fraction_of bytes ≡ None
fraction_none [] first = refl
fraction_none (b ∷ bs) first = rw first refl

fraction_back : (fraction : Option (List ℕ)) (e : Option Exponent) → AreDigits (unwrap_or fraction [])
    → IfExponent e → fraction_of (fraction_text fraction ++ exponent_text e) ≡ fraction
fraction_back None e are is = fraction_none (exponent_text e) (exponent_starts (λ b. b == 46) e refl refl is)
fraction_back (Some ds) e are is = ap Some
    (take_at ds (exponent_text e) (prefix_len is_ascii_digit (ds ++ exponent_text e))
    (sym (prefix_of ds (exponent_text e) are (exponent_starts is_ascii_digit e refl refl is))))

body_starts : (whole : List ℕ) (fraction : Option (List ℕ)) (e : Option Exponent) → AreDigits whole
    → 0 < length (whole ++ unwrap_or fraction [])
    → FirstFails is_sign (whole ++ (fraction_text fraction ++ exponent_text e))
body_starts [] None e are some = absurd (omega arith)
body_starts [] (Some ds) e are some = refl
body_starts (c ∷ whole) fraction e (is, are) some = digit_no_sign c is

letter_true : (b : ℕ) → (b ≡ 101) ⊎ (b ≡ 69) → is_exponent_letter b ≡ true
letter_true b (inl e) = let P : ℕ → Type 0 = λ x. is_exponent_letter x ≡ true in subst P (sym e) refl
letter_true b (inr e) = let P : ℕ → Type 0 = λ x. is_exponent_letter x ≡ true in subst P (sym e) refl

pub all_true : (bytes : List ℕ) → AreDigits bytes → list_all is_ascii_digit bytes ≡ true
all_true [] are = refl
all_true (b ∷ bs) (is, are) = rw is (all_true bs are)

digits_ok : (ds : List ℕ) → AreDigits ds → 0 < length ds → length ds ≤ 4 → digits_value 10 ds ≤ 30
    → are_exponent_digits ds ≡ true
digits_ok ds are some four small = rw (
  all_true ds are,
  lt-ltb 0 (length ds) some,
  le-leb (length ds) 4 four,
  le-leb (digits_value 10 ds) 30 small,
) refl

exponent_back : (e : Option Exponent) → IfExponent e → exponent_of (exponent_text e) ≡ Some e
unfolding exponent_of
exponent_back None is = refl
exponent_back (Some e) is =
    let bs = e.sign ++ e.digits in
    let n : sign_len bs ≡ length e.sign = sign_len_of e.sign e.digits is.sign
    (no_sign_digits e.digits is.digits) in
    let front : take (sign_len bs) bs ≡ e.sign = take_at e.sign e.digits (sign_len bs) (sym n) in
    let back : drop (sign_len bs) bs ≡ e.digits = drop_at e.sign e.digits (sign_len bs) (sym n) in
    let ok : are_exponent_digits (drop (sign_len bs) bs) ≡ true = ap are_exponent_digits back ∙ digits_ok
    e.digits is.digits is.some is.four is.small in
    exponent_made e.letter (take (sign_len bs) bs) (drop (sign_len bs) bs) (is_exponent_letter e.letter)
    (are_exponent_digits (drop (sign_len bs) bs)) (letter_true e.letter is.letter) ok
    ∙ (ap (λ s. Some (Some (record { letter = e.letter; sign = s; digits = drop (sign_len bs) bs }))) front
    ∙ ap (λ ds. Some (Some (record { letter = e.letter; sign = e.sign; digits = ds }))) back)
  where
    no_sign_digits : (bytes : List ℕ) → AreDigits bytes → FirstFails is_sign bytes
    no_sign_digits [] are = tt
    no_sign_digits (b ∷ bs) (is, are) = digit_no_sign b is

    exponent_made : (letter : ℕ) (sign digits : List ℕ) (x y : Bool) → x ≡ true → y ≡ true
        → cond x (option_map {T = Exponent} Some
        (cond y (Some (record { letter = letter; sign = sign; digits = digits })) None)) None ≡ Some
        (Some (record { letter = letter; sign = sign; digits = digits }))
    exponent_made letter sign digits true true a b = refl
    exponent_made letter sign digits true false a b = absurd (true≢false (sym b))
    exponent_made letter sign digits false y a b = absurd (true≢false (sym a))

assembled : (b : Bool) (x : Option (Option Exponent)) (f : Option Exponent → Date) (e : Option Exponent)
    → b ≡ false → x ≡ Some e → cond b None (option_map f x) ≡ Some (f e)
assembled true x f e a is = absurd (true≢false a)
assembled false x f e a is = ap (option_map f) is

rest_read : (d : Date) → IsDate d → date_parts d.sign
    (d.whole ++ (fraction_text d.fraction ++ exponent_text d.exponent)) ≡ Some d
rest_read d is =
    let tail = fraction_text d.fraction ++ exponent_text d.exponent in
    let body = d.whole ++ tail in
    let n : prefix_len is_ascii_digit body ≡ length d.whole = prefix_of d.whole tail
    (digits_left d.whole (unwrap_or d.fraction []) is.digits)
    (tail_starts d.fraction d.exponent is.exponent) in
    let whole : take_while is_ascii_digit body ≡ d.whole = take_at d.whole tail
    (prefix_len is_ascii_digit body) (sym n) in
    let after : drop (prefix_len is_ascii_digit body) body ≡ tail = drop_at d.whole tail
    (prefix_len is_ascii_digit body) (sym n) in
    let fraction : fraction_at body ≡ d.fraction = ap fraction_of after ∙ fraction_back d.fraction d.exponent
    (digits_right d.whole (unwrap_or d.fraction []) is.digits) is.exponent in
    let behind : behind_digits body ≡ exponent_text d.exponent =
    ap (λ f. drop (length (fraction_text f)) (drop (prefix_len is_ascii_digit body) body)) fraction
    ∙ (ap (drop (length (fraction_text d.fraction))) after ∙ drop_at (fraction_text d.fraction)
    (exponent_text d.exponent) (length (fraction_text d.fraction)) refl) in
    let all : digits_at body ≡ date_digits d = ap (λ w. w ++ unwrap_or (fraction_at body) []) whole ∙ ap
    (λ f. d.whole ++ unwrap_or f []) fraction in
    assembled (length (digits_at body) == 0) (exponent_of (behind_digits body)) (unsigned_of d.sign body)
    d.exponent
    (some_digits (length (digits_at body)) (length (date_digits d)) (ap length all) is.some)
    (ap exponent_of behind ∙ exponent_back d.exponent is.exponent)
    ∙ (ap (λ w. Some (record {
      sign = d.sign;
      whole = w;
      fraction = fraction_at body;
      exponent = d.exponent;
    })) whole
    ∙ ap (λ f. Some (record { sign = d.sign; whole = d.whole; fraction = f; exponent = d.exponent }))
    fraction)
  where
    some_digits : (m n : ℕ) → m ≡ n → 0 < n → (m == 0) ≡ false
    some_digits m n e some = grind (arith, nat_tests)

pub parts_again : (d : Date) → IsDate d → parts_of (date_text d) ≡ Some d
unfolding parts_of
parts_again d is =
    let body = d.whole ++ (fraction_text d.fraction ++ exponent_text d.exponent) in
    let n : sign_len (date_text d) ≡ length d.sign = sign_len_of d.sign body is.sign
    (body_starts d.whole d.fraction d.exponent (digits_left d.whole (unwrap_or d.fraction []) is.digits)
    is.some) in
    ap (λ s. date_parts s (drop (sign_len (date_text d)) (date_text d)))
    (take_at d.sign body (sign_len (date_text d)) (sym n))
    ∙ (ap (date_parts d.sign) (drop_at d.sign body (sign_len (date_text d)) (sym n)) ∙ rest_read d is)

-- ---- the answers

pub date_only : (text : List ℕ) (d : Date) → IsDate d → text ≡ date_text d → date_of text ≡ meaning d
date_only text d is e = ap date_of e ∙ ap meaning_or_shape (parts_again d is)

found_by : (text : List ℕ) (o : Option Date) → parts_of text ≡ o → (date_of text ≡ Err Shape)
    ⊎ ((d : Date) × IsDate d × (text ≡ date_text d))
found_by text None e = inl (ap meaning_or_shape e)
found_by text (Some d) e = let read = parts_read text d e in inr (d, read.0, read.1)

pub date_found : (text : List ℕ) → (date_of text ≡ Err Shape) ⊎ ((d : Date) × IsDate d × (text ≡ date_text d))
date_found text = found_by text (parts_of text) refl

meaning_no_shape : (a b : Bool) (x : ℕ) → Err Shape ≡ cond a (Err Negative) (cond b (Err Big) (Ok x)) → ⊥
meaning_no_shape true b x e = cc
meaning_no_shape false true x e = cc
meaning_no_shape false false x e = cc

pub no_shape : (d : Date) → Err Shape ≡ meaning d → ⊥
no_shape d e = meaning_no_shape (is_minus d.sign && ltb 0 (digits_value 10 (date_digits d)))
    (ltb (MAX_TIME * denominator d) (numerator d)) (numerator d / denominator d) e

meaning_value : (a b : Bool) (x ns : ℕ) → Ok ns ≡ cond a (Err Negative) (cond b (Err Big) (Ok x)) → ns ≡ x
meaning_value true b x ns e = cc
meaning_value false true x ns e = cc
meaning_value false false x ns e = cc

pub value_of : (d : Date) (r : Result ℕ DateFault) → r ≡ meaning d
    → IfOk r (λ ns. (ns * denominator d ≤ numerator d) × (numerator d < (ns + 1) * denominator d))
value_of d (Err f) e = tt
value_of d (Ok ns) e = quotient_bounds (numerator d) (denominator d) ns (ten_pow_pos _)
    (meaning_value (is_minus d.sign && ltb 0 (digits_value 10 (date_digits d)))
    (ltb (MAX_TIME * denominator d) (numerator d)) (numerator d / denominator d) ns e)

pub all_values : (text : List ℕ) (r : Result ℕ DateFault) → r ≡ date_of text
    → IfOk r (λ ns. (d : Date) → IsDate d → text ≡ date_text d → (ns * denominator d ≤ numerator d)
    × (numerator d < (ns + 1) * denominator d))
all_values text (Err f) e = tt
all_values text (Ok ns) e = λ d is t. value_of d (Ok ns) (e ∙ date_only text d is t)
