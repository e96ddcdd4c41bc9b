-- How the parts of a date are cut from its text.
use Rattle.std.proofs.Common.{◌≡◌, ℕ, ◌+◌, ◌-◌, ◌*◌, ◌<◌, ◌⊎◌, ◌&&◌, ◌==◌, ◌^◌, Result, Err, inl, inr}
use Rattle.std.proofs.Common.{List, [], ◌∷◌, length, take, drop, Option, Some, None, cond, ltb, Bool, true}
use Rattle.std.proofs.Common.{false, refl, ◌∙◌, ap, arith, get_or, length-drop, subst}
use Rattle.std.proofs.lemmas.List.{take_all}
use Rattle.std.specs.Option.{option_map}
use Rattle.std.specs.Str.Parse.{digits_value}
use Rattle.std.proofs.lemmas.Bool.Decides.{nat_tests}
use Rattle.std.proofs.lemmas.Bool.{le-ltb, lt-ltb, true≢false}
use Rattle.list_lemmas.proofs.Options.{cond_of_none, cond_of_some}
use Rattle.decimal_digits.specs.Held.{Holds}
use Rattle.paje_lex.specs.declared.dates.Mantissa.{Mantissa}
use Rattle.paje_lex.specs.declared.date_fault.DateFault.{DateFault}
use Rattle.paje_lex.specs.declared.date_fault.DateFault.TheVariants.{Shape, Negative}
use Rattle.paje_lex.specs.DateGrammar.{Date, Exponent, is_minus, tens_of, tens_up, tens_down}
use Rattle.paje_lex.specs.DateGrammar.{whole_nanoseconds}
use Rattle.paje_lex.specs.DateReading.{are_exponent_digits, sign_len, exponent_behind, exponent_of}
use Rattle.paje_lex.specs.DateReading.{is_exponent_letter, behind_digits, body_of, digits_at, places_at}
use Rattle.paje_lex.specs.DateReading.{IsRead, unsigned_of, parts_of, date_of, meaning_or_shape}

-- ---- the exponent's sign, digits and letter

-- the number of the digits of an exponent
abbrev pub exponent_number : List ℕ → Option ℕ
exponent_number bs = cond (are_exponent_digits bs) (Some (digits_value 10 bs)) None

pub signed_some : (bs : List ℕ) (size : ℕ) → Some size ≡ exponent_number (drop (sign_len bs) bs)
    → option_map (λ e. tens_of (Some e)) (exponent_behind 101 bs) ≡ Some
    (cond (is_minus (take (sign_len bs) bs)) 0 size, cond (is_minus (take (sign_len bs) bs)) size 0)
signed_some bs size e =
    let both = cond_of_some (are_exponent_digits (drop (sign_len bs) bs))
    (digits_value 10 (drop (sign_len bs) bs)) size e in
    rw both.0
    (ap (λ n. Some (
      cond (is_minus (take (sign_len bs) bs)) 0 n,
      cond (is_minus (take (sign_len bs) bs)) n 0,
    )) both.1)

pub signed_none : (bs : List ℕ) → None ≡ exponent_number (drop (sign_len bs) bs)
    → option_map (λ e. tens_of (Some e)) (exponent_behind 101 bs) ≡ None
signed_none bs e = rw (cond_of_none (are_exponent_digits (drop (sign_len bs) bs))
    (digits_value 10 (drop (sign_len bs) bs)) e) refl

pub exponent_empty : (bs : List ℕ) → length bs ≡ 0 → option_map tens_of (exponent_of bs) ≡ Some (0, 0)
unfolding exponent_of
exponent_empty [] e = refl
exponent_empty (b ∷ bs) e = absurd (omega arith)

pub exponent_other : (bs : List ℕ) → 0 < length bs → is_exponent_letter (get_or bs 0 0) ≡ false
    → option_map tens_of (exponent_of bs) ≡ None
unfolding exponent_of
exponent_other [] some e = absurd (omega arith)
exponent_other (b ∷ bs) some e = rw e refl

behind_letter : (t : Bool) (a b : Exponent) → tens_of (Some a) ≡ tens_of (Some b)
    → option_map tens_of (option_map Some (cond t (Some a) None)) ≡ option_map (λ e. tens_of (Some e))
    (cond t (Some b) None)
behind_letter true a b e = ap Some e
behind_letter false a b e = refl

pub exponent_letter : (bs : List ℕ) → 0 < length bs → is_exponent_letter (get_or bs 0 0) ≡ true
    → option_map tens_of (exponent_of bs) ≡ option_map (λ e. tens_of (Some e))
    (exponent_behind 101 (drop 1 bs))
unfolding exponent_of
exponent_letter [] some e = absurd (omega arith)
exponent_letter (b ∷ bs) some e = rw e (behind_letter (are_exponent_digits (drop (sign_len bs) bs)) _ _ refl)

-- a slice from n on, as a call sees it
pub slice_behind : (n k : ℕ) (xs : List ℕ) → n ≡ k → take (length xs - n) (drop n xs) ≡ drop k xs
slice_behind n k xs e = take_all (length xs - n) (drop n xs) (simp length-drop (omega arith)) ∙ ap
    (λ i. drop i xs) e

-- what was read of a text without its sign, told of the text
pub told_of_body : (text body : List ℕ) (m : Mantissa) → body ≡ body_of text → Holds m.digits (digits_at body)
    → m.count ≡ length (digits_at body) → m.places ≡ places_at body → m.rest.now ≡ behind_digits body
    → IsRead text m
told_of_body text body m e digits count places rest = record {
  digits = let P : List ℕ → Type 0 = λ x. Holds m.digits (digits_at x) in subst P e digits;
  count = count ∙ ap (λ x. length (digits_at x)) e;
  places = places ∙ ap places_at e;
  rest = rest ∙ ap behind_digits e;
}

-- ---- the whole date

no_exponent_parts : (b : Bool) (x : Option (Option Exponent)) (f : Option Exponent → Date)
    → None ≡ option_map tens_of x → Err Shape ≡ meaning_or_shape (cond b None (option_map f x))
no_exponent_parts true x f e = refl
no_exponent_parts false None f e = refl
no_exponent_parts false (Some y) f e = cc

pub date_without_exponent : (text : List ℕ)
    → None ≡ option_map tens_of (exponent_of (behind_digits (body_of text))) → Err Shape ≡ date_of text
unfolding parts_of
date_without_exponent text e = no_exponent_parts (length (digits_at (body_of text)) == 0)
    (exponent_of (behind_digits (body_of text))) (unsigned_of (take (sign_len text) text) (body_of text)) e

pub date_without_digits : (text : List ℕ) → length (digits_at (body_of text)) ≡ 0 → Err Shape ≡ date_of text
unfolding parts_of
date_without_digits text e = rw e refl

-- what a date with these digits and this exponent means
abbrev pub meaning_at : List ℕ → ℕ → ℕ → Result ℕ DateFault
meaning_at text up down = cond (is_minus (take (sign_len text) text)
    && ltb 0 (digits_value 10 (digits_at (body_of text)))) (Err Negative)
    (whole_nanoseconds (digits_value 10 (digits_at (body_of text)) * 10 ^ (9 + up))
    (10 ^ (places_at (body_of text) + down)))

abbrev pair_in : Option (ℕ × ℕ) → ℕ × ℕ
pair_in None = (0, 0)
pair_in (Some p) = p

some_parts : (text : List ℕ) (b : Bool) (x : Option (Option Exponent)) (up down : ℕ) → b ≡ false
    → Some (up, down) ≡ option_map tens_of x
    → meaning_at text up down ≡ meaning_or_shape (cond b None
    (option_map (unsigned_of (take (sign_len text) text) (body_of text)) x))
some_parts text true x up down e tens = absurd (true≢false e)
some_parts text false None up down e tens = cc
some_parts text false (Some y) up down e tens =
    let first : up ≡ tens_up y = ap (λ o. (pair_in o).0) tens in
    let second : down ≡ tens_down y = ap (λ o. (pair_in o).1) tens in
    rw (first, second) refl

pub date_with : (text : List ℕ) (up down : ℕ) → Some (up, down) ≡ option_map tens_of
    (exponent_of (behind_digits (body_of text))) → 0 < length (digits_at (body_of text))
    → meaning_at text up down ≡ date_of text
unfolding parts_of
date_with text up down e some = some_parts text (length (digits_at (body_of text)) == 0)
    (exponent_of (behind_digits (body_of text))) up down (grind (arith, nat_tests)) e

pub negative_date : (text : List ℕ) (up down : ℕ) → is_minus (take (sign_len text) text) ≡ true
    → (digits_value 10 (digits_at (body_of text)) ≡ 0 → ⊥) → meaning_at text up down ≡ Err Negative
negative_date text up down minus some =
    rw (minus, lt-ltb 0 (digits_value 10 (digits_at (body_of text))) (omega arith)) refl

pub plain_date : (text : List ℕ) (up down : ℕ) → (is_minus (take (sign_len text) text) ≡ false)
    ⊎ (digits_value 10 (digits_at (body_of text)) ≡ 0)
    → meaning_at text up down ≡ whole_nanoseconds (digits_value 10 (digits_at (body_of text)) * 10 ^ (9 + up))
    (10 ^ (places_at (body_of text) + down))
plain_date text up down (inl plus) = rw plus refl
plain_date text up down (inr zero') = rw (le-ltb 0 (digits_value 10 (digits_at (body_of text))) (omega arith))
    (unsigned (is_minus (take (sign_len text) text)) _)
  where
    unsigned : (b : Bool) (r : Result ℕ DateFault) → cond (b && false) (Err Negative) r ≡ r
    unsigned true r = refl
    unsigned false r = refl
