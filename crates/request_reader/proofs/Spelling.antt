-- What the bytes of a line, and of a text behind it, spell.
use Rattle.std.proofs.Common.{◌≡◌, refl, ap, ◌∙◌, subst, ℕ, suc, ◌+◌, ◌<◌, ◌≤◌, true, false, nat_le}
use Rattle.std.proofs.Common.{List, [], ◌∷◌, ◌++◌}
use Rattle.std.proofs.Common.{length, drop, append_assoc, Option, None, Some, arith, length-append}
use Rattle.std.proofs.lemmas.List.{take_at, drop_at}
use Rattle.std.proofs.lemmas.Bool.Decides.{nat_tests}
use Rattle.trace_base.specs.declared.limits.TheConstants.{MAX_TEXT}
use Rattle.session_proto.specs.Request.{request_of, text_length}
use Rattle.session_proto.specs.declared.request.Request.{Request}
use Rattle.request_reader.specs.Requests.{Line, Load, Large, Unreadable, load_of, front_of, with_text}
use Rattle.request_reader.specs.Requests.{front_at}
use Rattle.request_reader.specs.Requests.{first_request}
use Rattle.request_reader.specs.Incoming.{Spells}
use Rattle.request_reader.specs.Skipping.{HasNoNewline}
use Rattle.request_reader.proofs.Lines.{line_end-append}

drop_newline : (bytes more : List ℕ) → drop (length bytes + 1) (bytes ++ 10 ∷ more) ≡ more
drop_newline [] more = refl
drop_newline (b ∷ bs) more = rw (e) (drop_newline bs more) where
  e : length (b ∷ bs) + 1 ≡ suc (length bs + 1)
  e = omega arith

-- the first request begins with the first line
pub first_request-line : (bytes more : List ℕ) → HasNoNewline bytes
    → first_request (bytes ++ 10 ∷ more) ≡ with_text (request_of bytes) more
unfolding first_request
first_request-line bytes more none =
    ap (λ o. front_at (bytes ++ 10 ∷ more) o) (line_end-append bytes more none)
    ∙ ap (λ l. with_text (request_of l) (drop (length bytes + 1) (bytes ++ 10 ∷ more)))
    (take_at bytes (10 ∷ more) (length bytes) refl)
    ∙ ap (λ l. with_text (request_of bytes) l) (drop_newline bytes more)

-- the same, with the newline at the end of what was taken
line_behind : (bytes more : List ℕ) (q : Option Request) → HasNoNewline bytes → request_of bytes ≡ q
    → first_request ((bytes ++ 10 ∷ []) ++ more) ≡ with_text q more
line_behind bytes more q none is =
    ap (λ l. first_request l) (append_assoc bytes (10 ∷ []) more) ∙ first_request-line bytes more none ∙ ap
    (λ o. with_text o more) is

-- bytes without a newline have no whole request
pub first_request-cut : (bytes : List ℕ) → HasNoNewline bytes → first_request bytes ≡ None
unfolding first_request
first_request-cut bytes none = ap (λ o. front_at bytes o) none

pub spells-unreadable : (bytes taken : List ℕ) → HasNoNewline bytes → request_of bytes ≡ None → taken ≡ bytes
    ++ 10 ∷ [] → Spells taken Unreadable
spells-unreadable bytes taken none is eq = λ more. rw eq (line_behind bytes more None none is)

-- a line that no text follows is its request
pub spells-line : (bytes taken : List ℕ) (request : Request) → text_length request ≡ None
    → HasNoNewline bytes → request_of bytes ≡ Some request → taken ≡ bytes ++ 10 ∷ []
    → Spells taken (Line request)
spells-line bytes taken request alone none is eq = λ more.
    rw eq (line_behind bytes more (Some request) none is ∙ ap (λ o. front_of request o more) alone)

with_whole : (request : Request) (text more : List ℕ)
    → front_of request (Some (length text)) (text ++ more) ≡ Some
    (record { request = load_of text; rest = more })
with_whole request text more =
    let len = length-append text more in
    let fits : nat_le (length text) (length (text ++ more)) ≡ true = grind (arith, nat_tests) in
    rw (fits, take_at text more (length text) refl, drop_at text more (length text) refl) refl

-- a line and its text
spells-text : (bytes taken text : List ℕ) (request : Request) → HasNoNewline bytes
    → request_of bytes ≡ Some request → text_length request ≡ Some (length text)
    → taken ≡ bytes ++ 10 ∷ [] → Spells (taken ++ text) (load_of text)
spells-text bytes taken text request none is len eq = λ more.
    rw (eq, append_assoc (bytes ++ 10 ∷ []) text more)
    (line_behind bytes (text ++ more) (Some request) none is
    ∙ ap (λ o. front_of request o (text ++ more)) len ∙ with_whole request text more)

-- a text within the limit, and a larger one
pub load_of-within : (text : List ℕ) → length text ≤ MAX_TEXT → load_of text ≡ Load text
load_of-within text within =
    let fits : nat_le (length text) MAX_TEXT ≡ true = grind (arith, nat_tests) in rw fits refl

pub load_of-large : (text : List ℕ) → MAX_TEXT < length text → load_of text ≡ Large
load_of-large text large =
    let fits : nat_le (length text) MAX_TEXT ≡ false = grind (arith, nat_tests) in rw fits refl

pub spells-load : (bytes taken text : List ℕ) (request : Request) → HasNoNewline bytes
    → request_of bytes ≡ Some request → text_length request ≡ Some (length text)
    → taken ≡ bytes ++ 10 ∷ [] → length text ≤ MAX_TEXT → Spells (taken ++ text) (Load text)
spells-load bytes taken text request none is len eq within =
    subst (Spells (taken ++ text)) (load_of-within text within) (spells-text bytes taken text request none is
    len eq)

pub spells-large : (bytes taken text : List ℕ) (request : Request) → HasNoNewline bytes
    → request_of bytes ≡ Some request → text_length request ≡ Some (length text)
    → taken ≡ bytes ++ 10 ∷ [] → MAX_TEXT < length text → Spells (taken ++ text) Large
spells-large bytes taken text request none is len eq large =
    subst (Spells (taken ++ text)) (load_of-large text large) (spells-text bytes taken text request none is
    len eq)

-- a line and fewer bytes than its text has
pub first_request-short : (bytes taken part : List ℕ) (request : Request) (len : ℕ) → HasNoNewline bytes
    → request_of bytes ≡ Some request → text_length request ≡ Some len
    → taken ≡ bytes ++ 10 ∷ [] → length part < len → first_request (taken ++ part) ≡ None
first_request-short bytes taken part request len none is follows eq short =
    let fits : nat_le len (length part) ≡ false = grind (arith, nat_tests) in
    rw eq (line_behind bytes part (Some request) none is ∙ ap (λ o. front_of request o part) follows
    ∙ rw fits refl)
