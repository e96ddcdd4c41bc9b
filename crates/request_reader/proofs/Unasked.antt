-- What waits is taken, and the source isn't asked.
use Rattle.std.proofs.Common.{◌≡◌, ◌≢◌, refl, sym, ap, ◌∙◌, subst, inl, inr, ℕ, ◌+◌, ◌<◌, ◌≤◌, ◌⊎◌, ⊎_elim}
use Rattle.std.proofs.Common.{Bool, true, false, eqb, List, [], ◌∷◌, ◌++◌, length, Option, None, Some, arith}
use Rattle.std.proofs.Common.{append_assoc, append-nil, length-append, nat_le, take, drop, if◌then◌else◌}
use Rattle.std.proofs.Common.{true≢false}
use Rattle.std.specs.Prelude.{IsSome}
use Rattle.std.proofs.lemmas.Bool.Decides.{nat_tests}
use Rattle.session_proto.specs.Request.{request_of, text_length}
use Rattle.session_proto.specs.declared.request.Request.{Request}
use Rattle.request_reader.specs.Requests.{Front, load_of, first_request, with_text, front_of}
use Rattle.request_reader.specs.LineReading.{ReadsWaiting}
use Rattle.request_reader.specs.Skipping.{HasNoNewline}
use Rattle.request_reader.specs.declared.read_line.LineEnd.{LineEnd}
use Rattle.request_reader.specs.declared.read_line.LineEnd.TheVariants as ends
use Rattle.request_reader.specs.declared.pending.NextByte.{NextByte}
use Rattle.request_reader.specs.declared.pending.NextByte.TheVariants as byte
use Rattle.request_reader.proofs.Lines.{append-no_newline, push-no_newline, rest-no_newline, not_newline}
use Rattle.request_reader.proofs.Spelling.{first_request-cut, first_request-line}

-- what a call for the next byte ensures of those that wait
abbrev pub GivesFirst : {I : Type 0} → List ℕ → List ℕ → I → I → NextByte → Type 0
GivesFirst was now input input' result = (first : ℕ) (rest : List ℕ) → was ≡ first ∷ rest
    → (result ≡ byte.Byte first) × (now ≡ rest) × (input' ≡ input)

same_byte : (a b : ℕ) → byte.Byte a ≡ byte.Byte b → a ≡ b
same_byte a b is = cc

-- some bytes without a newline wait, then one, and then the rest, and the source is as it was
abbrev pub LineWaits : {I : Type 0} → List ℕ → I → I → List ℕ → Type 0
LineWaits now first input rest = (left : List ℕ) × HasNoNewline left × (now ≡ left ++ 10 ∷ rest)
    × (input ≡ first)

-- the next byte of a line that waits
next_of_line : {I : Type 0} (was now : List ℕ) (first input input' : I) (result : NextByte) (b : ℕ)
    (left rest : List ℕ) → GivesFirst was now input input' result → result ≡ byte.Byte b → b ≢ 10
    → HasNoNewline left → was ≡ left ++ 10 ∷ rest → input ≡ first
    → (more : List ℕ) × (left ≡ b ∷ more) × HasNoNewline more × (now ≡ more ++ 10 ∷ rest)
    × (input' ≡ first)
next_of_line was now first input input' result b [] rest gives is other none waits same =
    let g = gives 10 rest waits in absurd (other (sym (same_byte 10 b (sym g.0 ∙ is))))
next_of_line was now first input input' result b (m ∷ ms) rest gives is other none waits same =
    let g = gives m (ms ++ 10 ∷ rest) waits in (
      ms,
      ap (λ (x : ℕ). x ∷ ms) (same_byte m b (sym g.0 ∙ is)),
      rest-no_newline m ms none,
      g.1,
      g.2 ∙ same,
    )

pub line_goes_on : {I : Type 0} (was now : List ℕ) (first input input' : I) (result : NextByte) (b : ℕ)
    (rest : List ℕ) → GivesFirst was now input input' result → result ≡ byte.Byte b → b ≢ 10
    → LineWaits was first input rest → LineWaits now first input' rest
line_goes_on was now first input input' result b rest gives is other w =
    let n = next_of_line was now first input input' result b w.0 rest gives is other w.1 w.2 w.3 in
    (n.0, n.2, n.3, n.4)

-- and its newline
end_of_line : {I : Type 0} (was now : List ℕ) (first input input' : I) (result : NextByte) (b : ℕ)
    (left rest : List ℕ) → GivesFirst was now input input' result → result ≡ byte.Byte b → b ≡ 10
    → HasNoNewline left → was ≡ left ++ 10 ∷ rest → input ≡ first
    → (left ≡ []) × (now ≡ rest) × (input' ≡ first)
end_of_line was now first input input' result b [] rest gives is newline none waits same =
    let g = gives 10 rest waits in (refl, g.1, g.2 ∙ same)
end_of_line was now first input input' result b (m ∷ ms) rest gives is newline none waits same =
    let g = gives m (ms ++ 10 ∷ rest) waits in
    absurd (not_newline m ms none (same_byte m b (sym g.0 ∙ is) ∙ newline))

pub line_ends : {I : Type 0} (was now : List ℕ) (first input input' : I) (result : NextByte) (b : ℕ)
    (rest : List ℕ) → GivesFirst was now input input' result → result ≡ byte.Byte b → b ≡ 10
    → LineWaits was first input rest → (now ≡ rest) × (input' ≡ first)
line_ends was now first input input' result b rest gives is newline w =
    let e = end_of_line was now first input input' result b w.0 rest gives is newline w.1 w.2 w.3 in
    (e.1, e.2)

-- a line that waits has a byte
there : {I : Type 0} (was now : List ℕ) (input input' : I) (result : NextByte) (left rest : List ℕ)
    → GivesFirst was now input input' result → ((b : ℕ) → result ≢ byte.Byte b)
    → was ≡ left ++ 10 ∷ rest → ⊥
there was now input input' result [] rest gives other waits = other 10 (gives 10 rest waits).0
there was now input input' result (m ∷ ms) rest gives other waits =
    other m (gives m (ms ++ 10 ∷ rest) waits).0

pub line_is_there : {I : Type 0} (was now : List ℕ) (first input input' : I) (result : NextByte)
    (rest : List ℕ) → GivesFirst was now input input' result → ((b : ℕ) → result ≢ byte.Byte b)
    → LineWaits was first input rest → ⊥
line_is_there was now first input input' result rest gives other w =
    there was now input input' result w.0 rest gives other w.2

-- the line that is read begins a line that waits
abbrev pub ReadsFront : {I : Type 0} → List ℕ → List ℕ → List ℕ → I → I → List ℕ → Type 0
ReadsFront waited line now first input rest = (left : List ℕ) × (waited ≡ line ++ left)
    × HasNoNewline left × (now ≡ left ++ 10 ∷ rest) × (input ≡ first)

-- one byte more of it
pub front_goes_on : {I : Type 0} (waited line was now : List ℕ) (first input input' : I)
    (result : NextByte) (b : ℕ) (rest : List ℕ) → GivesFirst was now input input' result
    → result ≡ byte.Byte b → b ≢ 10 → ReadsFront waited line was first input rest
    → ReadsFront waited (line ++ b ∷ []) now first input' rest
front_goes_on waited line was now first input input' result b rest gives is other w =
    let n = next_of_line was now first input input' result b w.0 rest gives is other w.2 w.3 w.4 in (
      n.0,
      w.1 ∙ ap (λ (l : List ℕ). line ++ l) n.1 ∙ sym (append_assoc line (b ∷ []) n.0),
      n.2,
      n.3,
      n.4,
    )

-- all of it
pub front_ends : {I : Type 0} (waited line was now : List ℕ) (first input input' : I)
    (result : NextByte) (b : ℕ) (rest : List ℕ) → GivesFirst was now input input' result
    → result ≡ byte.Byte b → b ≡ 10 → ReadsFront waited line was first input rest
    → (line ≡ waited) × (now ≡ rest) × (input' ≡ first)
front_ends waited line was now first input input' result b rest gives is newline w =
    let e = end_of_line was now first input input' result b w.0 rest gives is newline w.2 w.3 w.4 in
    (sym (w.1 ∙ ap (λ (l : List ℕ). line ++ l) e.0 ∙ append-nil line), e.1, e.2)

-- a line that waits is longer than a front of it with more behind
pub front_is_shorter : {I : Type 0} (waited line was now : List ℕ) (first input input' : I)
    (result : NextByte) (b : ℕ) (rest : List ℕ) → GivesFirst was now input input' result
    → result ≡ byte.Byte b → b ≢ 10 → ReadsFront waited line was first input rest
    → (length line < length waited) × LineWaits now first input' rest
front_is_shorter waited line was now first input input' result b rest gives is other w =
    let n = next_of_line was now first input input' result b w.0 rest gives is other w.2 w.3 w.4 in (
      omega (arith, ap length w.1, length-append line w.0, ap length n.1),
      (n.0, n.2, n.3, n.4),
    )

-- and has a byte
pub front_is_there : {I : Type 0} (waited line was now : List ℕ) (first input input' : I)
    (result : NextByte) (rest : List ℕ) → GivesFirst was now input input' result
    → ((b : ℕ) → result ≢ byte.Byte b) → ReadsFront waited line was first input rest → ⊥
front_is_there waited line was now first input input' result rest gives other w =
    there was now input input' result w.0 rest gives other w.3

-- so have bytes of which some wait
pub byte_is_there : {I : Type 0} (was now : List ℕ) (input input' : I) (result : NextByte)
    → GivesFirst was now input input' result → ((b : ℕ) → result ≢ byte.Byte b) → length was ≤ 0
byte_is_there [] now input input' result gives other = omega arith
byte_is_there (b ∷ bs) now input input' result gives other = absurd (other b (gives b bs refl).0)

-- one of them was taken
pub byte_taken : {I : Type 0} (was now : List ℕ) (input input' : I) (result : NextByte)
    → GivesFirst was now input input' result → 0 < length was
    → (length was ≡ length now + 1) × (input' ≡ input)
byte_taken [] now input input' result gives some = absurd (omega arith)
byte_taken (b ∷ bs) now input input' result gives some =
    let g = gives b bs refl in (omega (arith, ap length g.1), g.2)

-- bytes have no newline, or begin with a line
abbrev pub BeginsWithLine : List ℕ → Type 0
BeginsWithLine bytes = (line rest : List ℕ) × HasNoNewline line × (bytes ≡ line ++ 10 ∷ rest)

line_behind : (b : ℕ) (bs : List ℕ) → b ≢ 10 → HasNoNewline bs ⊎ BeginsWithLine bs
    → HasNoNewline (b ∷ bs) ⊎ BeginsWithLine (b ∷ bs)
line_behind b bs other (inl none) = inl (append-no_newline (b ∷ []) bs (push-no_newline [] b refl other) none)
line_behind b bs other (inr l) = inr (
  b ∷ l.0,
  l.1,
  append-no_newline (b ∷ []) l.0 (push-no_newline [] b refl other) l.2,
  ap (λ (xs : List ℕ). b ∷ xs) l.3,
)

line_from : (b : ℕ) (bs : List ℕ) (newline : Bool) → eqb b 10 ≡ newline
    → HasNoNewline bs ⊎ BeginsWithLine bs → HasNoNewline (b ∷ bs) ⊎ BeginsWithLine (b ∷ bs)
line_from b bs true e behind =
    let newline : b ≡ 10 = grind (arith, nat_tests) in inr ([], bs, refl, ap (λ (x : ℕ). x ∷ bs) newline)
line_from b bs false e behind = line_behind b bs (λ is. grind (arith, nat_tests)) behind

cut_line : (bytes : List ℕ) → HasNoNewline bytes ⊎ BeginsWithLine bytes
cut_line [] = inl refl
cut_line (b ∷ bs) = line_from b bs (eqb b 10) refl (cut_line bs)

-- the text of a line is all there
text_fits : (request : Request) (len : ℕ) (rest : List ℕ) (t : Bool) → nat_le len (length rest) ≡ t
    → IsSome (front_of request (Some len) rest) → len ≤ length rest
text_fits request len rest true e some = grind (arith, nat_tests)
text_fits request len rest false e some = absurd (true≢false (sym (subst none e some)))
  where
    none : Bool → Type 0
    none b = IsSome {T = Front} (if b then Some
        (record { request = load_of (take len rest); rest = drop len rest }) else None)

-- a whole request that waits is a line, and the text behind it
pub waiting_request : (bytes : List ℕ) → IsSome (first_request bytes) → (line rest : List ℕ)
    × HasNoNewline line × (bytes ≡ line ++ 10 ∷ rest)
    × ((request : Request) (len : ℕ) → request_of line ≡ Some request → text_length request ≡ Some len
    → len ≤ length rest)
waiting_request bytes some = ⊎_elim
    (λ none. absurd (true≢false (sym (subst IsSome (first_request-cut bytes none) some))))
    (λ l. (
      l.0,
      l.1,
      l.2,
      l.3,
      λ request len is follows. text_fits request len l.1 (nat_le len (length l.1)) refl (subst IsSome
          (ap first_request l.3 ∙ first_request-line l.0 l.1 l.2 ∙ ap
          (λ (q : Option Request). with_text q l.1)
          is ∙ ap (λ (o : Option ℕ). front_of request o l.1) follows) some),
    ))
    (cut_line bytes)

-- where a whole request waits, its line is read, and the source is as it was
abbrev pub ReadsLineThere : {I : Type 0} → List ℕ → List ℕ → List ℕ → I → I → LineEnd → Type 0
ReadsLineThere was now line input input' end = (waited rest : List ℕ) → HasNoNewline waited
    → was ≡ waited ++ 10 ∷ rest → ReadsWaiting waited line end × (now ≡ rest) × (input' ≡ input)

pub line_unasked : {I : Type 0} (was now line : List ℕ) (input input' : I) (end : LineEnd)
    → ReadsLineThere was now line input input' end → IsSome (first_request was) → input' ≡ input
line_unasked was now line input input' end reads some =
    let w = waiting_request was some in (reads w.0 w.1 w.2 w.3).2

-- and its text
pub text_unasked : {I : Type 0} (was now line : List ℕ) (input input' last : I) (request : Request)
    (len : ℕ) → ReadsLineThere was now line input input' ends.Whole → request_of line ≡ Some request
    → text_length request ≡ Some len → (len ≤ length now → last ≡ input')
    → IsSome (first_request was) → last ≡ input
text_unasked was now line input input' last request len reads is follows text some =
    let w = waiting_request was some in
    let l = reads w.0 w.1 w.2 w.3 in
    let fits : len ≤ length w.1 = w.4 request len (ap request_of (sym l.0) ∙ is) follows in
    text (omega (arith, fits, ap length l.1)) ∙ l.2
