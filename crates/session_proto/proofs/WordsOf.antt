-- The words of a line, cut at its first space.
use Rattle.std.proofs.Common.{◌≡◌, ℕ, ◌+◌, ◌<◌, suc, zero, true, false, cond, eqb, List, [], ◌∷◌, length}
use Rattle.std.proofs.Common.{take, drop, get_or, refl, None, codes, ap, arith, eq-eqb}
use Rattle.std.proofs.lemmas.Bool.Decides.{nat_tests}
use Rattle.std.specs.Str.{bytes_eq}
use Rattle.session_proto.specs.Request.{words_of, onto_first, request_of_words}

-- a line without a space is one word
pub words_of-one : (line : List ℕ) → ((k : ℕ) → k < length line → get_or line k 0 ≡ 32 → ⊥)
    → words_of line ≡ line ∷ []
unfolding words_of
words_of-one [] none = refl
words_of-one (c ∷ cs) none =
    let here : eqb c 32 ≡ false = grind (arith, nat_tests, none 0) in
    let rest : words_of cs ≡ cs ∷ [] = words_of-one cs (λ k below is. none (suc k) (omega arith) is) in
    rw here (ap (onto_first c) rest)

-- a line with a space has the word before it, and then those behind it
pub words_of-cut : (line : List ℕ) (i : ℕ) → i < length line → get_or line i 0 ≡ 32
    → ((k : ℕ) → k < i → get_or line k 0 ≡ 32 → ⊥) → words_of line ≡ take i line
    ∷ words_of (drop (i + 1) line)
unfolding words_of
words_of-cut [] i below is none = absurd (omega arith)
words_of-cut (c ∷ cs) zero below is none =
    let here : eqb c 32 ≡ true = eq-eqb c 32 is in
    let rest : drop {A = ℕ} (0 + 1) (c ∷ cs) ≡ cs = refl in
    rw here refl
words_of-cut (c ∷ cs) (suc i) below is none =
    let here : eqb c 32 ≡ false = grind (arith, nat_tests, none 0) in
    let rest : words_of cs ≡ take i cs ∷ words_of (drop (i + 1) cs) = words_of-cut cs i (omega arith) is
    (λ k lower at. none (suc k) (omega arith) at) in
    let count : suc i + 1 ≡ suc (i + 1) = omega arith in
    rw (here, count) (ap (onto_first c) rest)

-- a line has a first word
pub words_of-some : (line : List ℕ) → (word : List ℕ) × (words : List (List ℕ))
    × (words_of line ≡ word ∷ words)
unfolding words_of
words_of-some [] = ([], [], refl)
words_of-some (c ∷ cs) =
    let rest = words_of-some cs in
    elim (eqb c 32) as (λ b. (word : List ℕ) × (words : List (List ℕ))
    × (cond b ([] ∷ words_of cs) (onto_first c (words_of cs)) ≡ word ∷ words)) [
      | true ↦ ([], words_of cs, refl)
      | false ↦ (c ∷ rest.0, rest.1, ap (onto_first c) rest.2)
    ]

-- more words than one behind PUT are no request
put_more : (len : List ℕ) (word : List ℕ) (words : List (List ℕ))
    → request_of_words (codes "PUT" ∷ len ∷ word ∷ words) ≡ None
put_more len word [] = refl
put_more len word (a ∷ []) = refl
put_more len word (a ∷ b ∷ []) = refl
put_more len word (a ∷ b ∷ c ∷ words) = refl

pub put_words : (len rest : List ℕ) → request_of_words (codes "PUT" ∷ len ∷ words_of rest) ≡ None
put_words len rest = let some = words_of-some rest in rw some.2 (put_more len some.0 some.1)

-- more words than four behind FLAT are no request
pub flat_words : (id sel a b rest : List ℕ)
    → request_of_words (codes "FLAT" ∷ id ∷ sel ∷ a ∷ b ∷ words_of rest) ≡ None
flat_words id sel a b rest = let some = words_of-some rest in rw some.2 refl

-- words behind a verb that is neither PUT nor FLAT are no request
other_words : (verb : List ℕ) (words : List (List ℕ)) → bytes_eq verb (codes "PUT") ≡ false
    → bytes_eq verb (codes "FLAT") ≡ false → (word : List ℕ) → request_of_words (verb ∷ word ∷ words) ≡ None
other_words verb [] put flat word = rw put refl
other_words verb (a ∷ []) put flat word = refl
other_words verb (a ∷ b ∷ []) put flat word = refl
other_words verb (a ∷ b ∷ c ∷ []) put flat word = rw flat refl
other_words verb (a ∷ b ∷ c ∷ d ∷ words) put flat word = refl

pub other_verb : (verb rest : List ℕ) → bytes_eq verb (codes "PUT") ≡ false
    → bytes_eq verb (codes "FLAT") ≡ false → request_of_words (verb ∷ words_of rest) ≡ None
other_verb verb rest put flat = let some = words_of-some rest
    in rw some.2 (other_words verb some.1 put flat some.0)
