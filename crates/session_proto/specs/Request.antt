-- What a request line says. The line stands without its newline.
use Rattle.std.specs.Prelude.{ℕ, ◌≤◌, ◌<◌, Bool, not, ◌&&◌, ◌||◌, ◌==◌, nat_lt, nat_le, if◌then◌else◌}
use Rattle.std.specs.Prelude.{List, [], ◌∷◌, length, slice_index, Option, None, Some, option_map, codes}
use Rattle.std.specs.Str.{bytes_eq}
use Rattle.decimal_digits.specs.Decimal.{decimal_of}
use Rattle.trace_base.specs.declared.limits.TheConstants.{MAX_REQUEST_LINE, MAX_TIME}
use Rattle.session_proto.specs.declared.request.Request.{Request}
use Rattle.session_proto.specs.declared.request.Request.TheVariants.{Put, Flat, Quit}
use Rattle.session_proto.specs.declared.request.Sel.TheVariants.{All}

-- whether the word isn't empty and has no leading zero
abbrev pub has_own_form : List ℕ → Bool
has_own_form word = nat_lt 0 (length word) && (length word == 1 || not (slice_index word 0 == 48))

-- the number that a word of a request writes: decimal digits with no sign and no zero in front, below 2^64
unfoldable pub number_of : List ℕ → Option ℕ
number_of word = if has_own_form word then decimal_of word else None

-- the byte is put before the first word
abbrev pub onto_first : ℕ → List (List ℕ) → List (List ℕ)
onto_first c [] = (c ∷ []) ∷ []
onto_first c (word ∷ words) = (c ∷ word) ∷ words

-- the parts of a line between its spaces; two spaces in a row have an empty one between them
unfoldable pub words_of : List ℕ → List (List ℕ)
words_of [] = [] ∷ []
words_of (c ∷ cs) = if c == 32 then [] ∷ words_of cs else onto_first c (words_of cs)

-- an interval that begins before it ends, within the greatest time
abbrev pub flat_of : Option ℕ → Option ℕ → Option ℕ → Option Request
flat_of (Some id) (Some a) (Some b) = if nat_lt a b && nat_le b MAX_TIME then Some (Flat id All a b) else None
flat_of (Some id) (Some a) None = None
flat_of (Some id) None b = None
flat_of None a b = None

-- the request that these words are
abbrev pub request_of_words : List (List ℕ) → Option Request
request_of_words [] = None
request_of_words (verb ∷ []) = if bytes_eq verb (codes "QUIT") then Some Quit else None
request_of_words (verb ∷ len ∷ []) =
    if bytes_eq verb (codes "PUT") then option_map (λ n. Put n) (number_of len) else None
request_of_words (verb ∷ id ∷ sel ∷ []) = None
request_of_words (verb ∷ id ∷ sel ∷ a ∷ []) = None
request_of_words (verb ∷ id ∷ sel ∷ a ∷ b ∷ []) =
    if bytes_eq verb (codes "FLAT") && bytes_eq sel (codes "*") then flat_of (number_of id) (number_of a)
    (number_of b) else None
request_of_words (verb ∷ id ∷ sel ∷ a ∷ b ∷ more ∷ words) = None

-- the request that the line is; a line that is too long is none
unfoldable pub request_of : List ℕ → Option Request
request_of line = if nat_le (length line) MAX_REQUEST_LINE then request_of_words (words_of line) else None

-- how many bytes of text follow the line; none where the line is the whole request
abbrev pub text_length : Request → Option ℕ
text_length (Put len) = Some len
text_length request = None

-- the numbers of the request are within their limits
abbrev pub IsWithinLimits : Request → Type 0
IsWithinLimits (Put len) = Unit {0}
IsWithinLimits (Flat id sel a b) = (a < b) × (b ≤ MAX_TIME)
IsWithinLimits Quit = Unit {0}
