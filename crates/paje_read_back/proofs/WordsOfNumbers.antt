-- Numbers, times and aliases are written as words without quotes.
use Rattle.std.proofs.Common.{ℕ, zero, suc, ◌-◌, ◌/◌, ◌%◌, ◌^◌, ◌<◌, ◌==◌, false, List, [], ◌∷◌, ◌++◌}
use Rattle.std.proofs.Common.{arith, codes, decimal, length, lt-ltb, mod-lt, replicate}
use Rattle.std.proofs.lemmas.Bool.{cond_both}
use Rattle.std.specs.Fmt.{digit_glyph, digits, digits_onto}
use Rattle.std.specs.List.{AllByRecursion}
use Rattle.list_lemmas.proofs.Each.{all_append}
use Rattle.paje_print.specs.WrittenNumbers.{container_alias, link_type_alias, seconds_text}
use Rattle.paje_print.specs.WrittenNumbers.{state_type_alias, zero_padded}
use Rattle.paje_read_back.proofs.WordsWellWritten.{IsBareWord, IsWordByte, bare-bytes}

-- ---- digits

digit-written : (d : ℕ) → d < 10 → IsWordByte (digit_glyph false d)
digit-written d small = rw (lt-ltb d 10 small) (omega arith, omega arith)

last-digit : (n : ℕ) → IsWordByte (digit_glyph false (n % 10))
last-digit n = digit-written (n % 10) (mod-lt n (omega arith))

digits-before : (k n : ℕ) (word : List ℕ) → IsBareWord word → IsBareWord (digits_onto k 10 false n word)
digits-before zero n word is = is
digits-before (suc k) n word is =
    let more : List ℕ = digit_glyph false (n % 10) ∷ word in
    cond_both (n / 10 == 0) more (digits_onto k 10 false (n / 10) more) IsBareWord
    (λ last. (last-digit n, bare-bytes word is))
    (λ other. digits-before k (n / 10) more (last-digit n, bare-bytes word is))

pub decimal-written : (n : ℕ) → IsBareWord (decimal n)
unfolding digits
decimal-written n =
    let last : List ℕ = digit_glyph false (n % 10) ∷ [] in
    cond_both (n / 10 == 0) last (digits_onto 63 10 false (n / 10) last) IsBareWord
    (λ one. (last-digit n, tt))
    (λ other. digits-before 63 (n / 10) last (last-digit n, tt))

-- ---- times

word-longer : (front behind : List ℕ) → IsBareWord front → AllByRecursion IsWordByte behind
    → IsBareWord (front ++ behind)
word-longer [] behind is are = absurd is
word-longer (b ∷ front) behind is are = all_append IsWordByte (b ∷ front) behind is are

zeros-written : (n : ℕ) → AllByRecursion IsWordByte (replicate n 48)
zeros-written zero = tt
zeros-written (suc n) = ((omega arith, omega arith), zeros-written n)

padded-written : (count n : ℕ) → AllByRecursion IsWordByte (zero_padded count n)
padded-written count n =
    all_append IsWordByte (replicate (count - length (decimal n)) 48) (decimal n)
    (zeros-written (count - length (decimal n))) (bare-bytes (decimal n) (decimal-written n))

pub seconds-written : (time : ℕ) → IsBareWord (seconds_text time)
seconds-written time =
    word-longer (decimal (time / 10 ^ 9)) (46 ∷ zero_padded 9 (time % 10 ^ 9))
    (decimal-written (time / 10 ^ 9)) ((omega arith, omega arith), padded-written 9 (time % 10 ^ 9))

-- ---- aliases

pub state_type_alias-written : (i : ℕ) → IsBareWord (state_type_alias i)
state_type_alias-written i = ((omega arith, omega arith), bare-bytes (decimal i) (decimal-written i))

pub link_type_alias-written : (i : ℕ) → IsBareWord (link_type_alias i)
link_type_alias-written i = ((omega arith, omega arith), bare-bytes (decimal i) (decimal-written i))

pub container_alias-written : (i : ℕ) → IsBareWord (container_alias i)
container_alias-written i =
    cond_both (i == 0) (codes "0") (99 ∷ decimal i) IsBareWord
    (λ root. ((omega arith, omega arith), tt))
    (λ other. ((omega arith, omega arith), bare-bytes (decimal i) (decimal-written i)))
