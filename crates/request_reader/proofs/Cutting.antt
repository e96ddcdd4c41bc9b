-- How the first request of some bytes, and all requests of them, hang together.
use Rattle.std.proofs.Common.{◌≡◌, refl, ap, ℕ, zero, suc, ◌+◌, ◌<◌, ◌≤◌, Bool, true, false, if◌then◌else◌}
use Rattle.std.proofs.Common.{nat_le, List, [], ◌∷◌, ◌++◌, length, take, drop, Option, None, Some, option_map}
use Rattle.std.proofs.Common.{unwrap_or, arith, length-drop}
use Rattle.std.proofs.lemmas.List.Quantifiers.{position-Some}
use Rattle.session_proto.specs.Request.{text_length}
use Rattle.session_proto.specs.declared.request.Request.{Request}
use Rattle.session_proto.specs.declared.request.Request.TheVariants as line
use Rattle.request_reader.specs.Requests.{WholeRequest, Line, load_of, Front, with_text, front_of, line_end}
use Rattle.request_reader.specs.Requests.{front_at, first_request, rest_only, onto, requests_within}
use Rattle.request_reader.specs.Requests.{requests_of}
use Rattle.request_reader.specs.Requests.{AfterQuit}
use Rattle.request_reader.specs.Incoming.{Spells}

text_behind : (whole : Bool) (len : ℕ) (rest : List ℕ) (f : Front) →
    (if whole then Some (record { request = load_of (take len rest); rest = drop len rest }) else None)
    ≡ Some f
    → length f.rest ≤ length rest
text_behind true len rest f is = let e : drop len rest ≡ f.rest = cc
    in omega (arith, length-drop len rest, ap length e)
text_behind false len rest f is = cc

-- what is behind a request is no longer than what is behind its line
behind_front : (request : Request) (len : Option ℕ) (rest : List ℕ) (f : Front)
    → front_of request len rest ≡ Some f → length f.rest ≤ length rest
behind_front request None rest f is = let e : rest ≡ f.rest = cc in omega (arith, ap length e)
behind_front request (Some len) rest f is = text_behind (nat_le len (length rest)) len rest f is

behind_line : (q : Option Request) (rest : List ℕ) (f : Front) → with_text q rest ≡ Some f
    → length f.rest ≤ length rest
behind_line None rest f is = let e : rest ≡ f.rest = cc in omega (arith, ap length e)
behind_line (Some request) rest f is = behind_front request (text_length request) rest f is

behind_end : (bytes : List ℕ) (end : Option ℕ) → line_end bytes ≡ end → (f : Front)
    → front_at bytes end ≡ Some f → length f.rest < length bytes
behind_end bytes None e f is = cc
behind_end bytes (Some end) e f is =
    let p = position-Some _ bytes end 0 e in
    let r : length f.rest ≤ length (drop (end + 1) bytes) = behind_line _ (drop (end + 1) bytes) f is in
    omega (arith, length-drop (end + 1) bytes, p.0)

-- a request takes at least its newline
pub rest_is_shorter : (bytes : List ℕ) (f : Front) → first_request bytes ≡ Some f
    → length f.rest < length bytes
unfolding first_request
rest_is_shorter bytes f is = behind_end bytes (line_end bytes) refl f is

-- no request stands in no bytes
pub first_request-nil : first_request [] ≡ None
unfolding first_request
first_request-nil = refl

step : (n m : ℕ) (bytes : List ℕ) (o : Option Front)
    → ((f : Front) → o ≡ Some f → requests_within n f.rest ≡ requests_within m f.rest) →
    unwrap_or (option_map (λ (f : Front). onto f.request (requests_within n f.rest)) o) (rest_only bytes)
    ≡ unwrap_or (option_map (λ (f : Front). onto f.request (requests_within m f.rest)) o) (rest_only bytes)
step n m bytes None same = refl
step n m bytes (Some f) same = ap (λ b. onto f.request b) (same f refl)

-- more steps than there are bytes change nothing
pub requests_within-enough : (n m : ℕ) (bytes : List ℕ) → length bytes ≤ n → length bytes ≤ m
    → requests_within n bytes ≡ requests_within m bytes
unfolding requests_within first_request
requests_within-enough zero zero bytes h k = refl
requests_within-enough zero (suc m) [] h k = refl
requests_within-enough (suc n) zero [] h k = refl
requests_within-enough zero (suc m) (b ∷ bs) h k = absurd (omega arith)
requests_within-enough (suc n) zero (b ∷ bs) h k = absurd (omega arith)
requests_within-enough (suc n) (suc m) bytes h k =
    step n m bytes (first_request bytes) (λ f is.
    let s = rest_is_shorter bytes f is in
    requests_within-enough n m f.rest (omega (arith, s)) (omega (arith, s)))

-- the first request, and then those behind it
pub requests_of-first : (bytes rest : List ℕ) (r : WholeRequest)
    → first_request bytes ≡ Some (record { request = r; rest = rest }) →
    requests_of bytes ≡ onto r (requests_of rest)
unfolding requests_of requests_within
requests_of-first [] rest r is = let s = rest_is_shorter [] (record { request = r; rest = rest }) is
    in absurd (omega (arith, s))
requests_of-first (b ∷ bs) rest r is =
    let s = rest_is_shorter (b ∷ bs) (record { request = r; rest = rest }) is in
    rw is (ap (λ behind. onto r behind) (requests_within-enough (length bs) (length rest) rest
    (omega (arith, s)) (omega arith)))

-- no whole request: there is none
pub requests_of-none : (bytes : List ℕ) → first_request bytes ≡ None → requests_of bytes ≡ rest_only bytes
unfolding requests_of requests_within
requests_of-none [] is = refl
requests_of-none (b ∷ bs) is = rw is refl

-- bytes that spell a request, and then more
pub requests_of-append : (bytes more : List ℕ) (r : WholeRequest) → Spells bytes r
    → requests_of (bytes ++ more) ≡ onto r (requests_of more)
requests_of-append bytes more r spells = requests_of-first (bytes ++ more) more r (spells more)

pub requests_of-quit : (bytes more : List ℕ) → Spells bytes (Line line.Quit)
    → requests_of (bytes ++ more) ≡ record { all = Line line.Quit ∷ []; ending = AfterQuit }
requests_of-quit bytes more spells = requests_of-append bytes more (Line line.Quit) spells
