-- What the bytes of a line, and of a text behind it, are to a session.
use Rattle.std.proofs.Common.{◌≡◌, ◌≢◌, refl, ap, ◌∙◌, sym, ℕ, ◌<◌, List, [], ◌∷◌, ◌++◌, length}
use Rattle.std.proofs.Common.{Option, None, Some}
use Rattle.std.proofs.Common.{arith, length-append}
use Rattle.session_proto.proofs.Limits.{request_of-long}
use Rattle.session_proto.specs.Request.{request_of, text_length}
use Rattle.session_proto.specs.declared.request.Request.{Request}
use Rattle.request_reader.specs.Requests.{WholeRequest, Load, Unreadable, first_request}
use Rattle.request_reader.specs.Requests as requests
use Rattle.request_reader.specs.Incoming.{Takes, Spells, Is}
use Rattle.request_reader.specs.declared.incoming.Incoming.{Incoming}
use Rattle.request_reader.specs.declared.incoming.Incoming.TheVariants as incoming
use Rattle.request_reader.specs.Skipping.{HasNoNewline}
use Rattle.request_reader.specs.LineReading.{IsLongLine}
use Rattle.request_reader.specs.TextReading.{ReadsText}
use Rattle.request_reader.specs.declared.read_text.TextEnd.TheVariants.{Whole, Dropped, Large}
use Rattle.request_reader.proofs.Spelling.{spells-unreadable, spells-load, spells-large}
use Rattle.request_reader.proofs.Spelling.{first_request-short}
use Rattle.request_reader.proofs.Taking.{takes-then, takes-so}

-- what came is the request that was spelled
pub comes_as : (i : Incoming) (text : List ℕ) (r : WholeRequest) (old new : Option (List ℕ)) → Is i text r
    → Takes old new (λ taken. Spells taken r)
    → Takes old new (λ taken. (q : WholeRequest) × Is i text q × Spells taken q)
comes_as i text r old new is t =
    takes-so (λ taken. Spells taken r) (λ taken. (q : WholeRequest) × Is i text q × Spells taken q) old new t
    (λ s spells. (r, is, spells))

-- a line and its newline
abbrev pub IsLine : List ℕ → List ℕ → Type 0
IsLine bytes taken = taken ≡ bytes ++ 10 ∷ []

pub spells-long : (taken : List ℕ) → IsLongLine taken → Spells taken Unreadable
spells-long taken long = spells-unreadable long.0 taken long.2 (request_of-long long.0 long.3) long.1

-- a line was read that asks for a text of this length
pub record AsksText (old mid : Option (List ℕ)) (line : List ℕ) (request : Request) (len : ℕ) : Type 0 where
  pub line_ends : HasNoNewline line
  pub taken : Takes old mid (IsLine line)
  pub is : request_of line ≡ Some request
  pub follows : text_length request ≡ Some len

-- such a line, and the text behind it
pub takes-load : {old mid : Option (List ℕ)} {line : List ℕ} {request : Request} {len : ℕ} (text : List ℕ)
    (new : Option (List ℕ)) → AsksText old mid line request len → ReadsText len mid new text Whole
    → Takes old new (λ taken. (r : WholeRequest) × Is incoming.Load text r × Spells taken r)
takes-load {old} {mid} {line} {request} {len} text new asks reads =
    takes-then (IsLine line) (λ t. t ≡ text)
    (λ taken. (r : WholeRequest) × Is incoming.Load text r × Spells taken r) old mid new asks.taken reads.0
    (λ s t eq same. (
      Load text,
      refl,
      rw same (spells-load line s text request asks.line_ends asks.is
          (asks.follows ∙ ap (λ n. Some n) (sym reads.1)) eq (omega (arith, reads.1, reads.2))),
    ))

-- such a line, and as many bytes as its text has
pub takes-dropped : {old mid : Option (List ℕ)} {line : List ℕ} {request : Request} {len : ℕ} (text : List ℕ)
    (new : Option (List ℕ)) → AsksText old mid line request len → ReadsText len mid new text Dropped
    → Takes old new (λ taken. (r : WholeRequest) × Is incoming.Dropped text r × Spells taken r)
takes-dropped {old} {mid} {line} {request} {len} text new asks reads =
    takes-then (IsLine line) (λ t. length t ≡ len)
    (λ taken. (r : WholeRequest) × Is incoming.Dropped text r × Spells taken r) old mid new asks.taken reads.0
    (λ s t eq same. (
      Load t,
      (t, refl),
      spells-load line s t request asks.line_ends asks.is (asks.follows ∙ ap (λ n. Some n) (sym same)) eq
          (omega (arith, same, reads.1)),
    ))

pub takes-large : {old mid : Option (List ℕ)} {line : List ℕ} {request : Request} {len : ℕ} (text : List ℕ)
    (new : Option (List ℕ)) → AsksText old mid line request len → ReadsText len mid new text Large
    → Takes old new (λ taken. (r : WholeRequest) × Is incoming.Large text r × Spells taken r)
takes-large {old} {mid} {line} {request} {len} text new asks reads =
    takes-then (IsLine line) (λ t. length t ≡ len)
    (λ taken. (r : WholeRequest) × Is incoming.Large text r × Spells taken r) old mid new asks.taken reads.0
    (λ s t eq same. (
      requests.Large,
      refl,
      spells-large line s t request asks.line_ends asks.is (asks.follows ∙ ap (λ n. Some n) (sym same)) eq
          (omega (arith, same, reads.1)),
    ))

-- such a line, and fewer bytes than its text has
pub takes-short : {old mid : Option (List ℕ)} {line : List ℕ} {request : Request} {len : ℕ}
    (new : Option (List ℕ)) → AsksText old mid line request len → Takes mid new (λ t. length t < len)
    → Takes old new (λ taken. (taken ≢ []) × (first_request taken ≡ None))
takes-short {old} {mid} {line} {request} {len} new asks behind =
    takes-then (IsLine line) (λ t. length t < len) (λ taken. (taken ≢ []) × (first_request taken ≡ None)) old
    mid new asks.taken behind
    (λ s t eq short. (
      (λ nil. let l : length (s ++ t) ≡ 0 = ap length nil in
          absurd (omega (arith, l, length-append s t, ap length eq, length-append line (10 ∷ [])))),
      first_request-short line s t request len asks.line_ends asks.is asks.follows eq short,
    ))
