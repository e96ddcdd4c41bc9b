-- How the bytes that a session reads are cut into requests.
use Rattle.std.specs.Prelude.{ℕ, zero, suc, unwrap_or, ◌+◌, ◌==◌, nat_le, if◌then◌else◌, List, [], ◌∷◌}
use Rattle.std.specs.Prelude.{length, take, drop, position, Option, None, Some, option_map}
use Rattle.trace_base.specs.declared.limits.TheConstants.{MAX_TEXT}
use Rattle.session_proto.specs.Request.{request_of, text_length}
use Rattle.session_proto.specs.declared.request.Request.{Request}
use Rattle.session_proto.specs.declared.request.Request.TheVariants as line

-- A whole request: a request line that no bytes follow, the text of a load, a load of a text that is too
-- large to be read, or a line that is no request.
pub data WholeRequest : Type 0 where
  Line : (request : Request) → WholeRequest
  Load : (text : List ℕ) → WholeRequest
  Large : WholeRequest
  Unreadable : WholeRequest

-- a request, and the bytes behind it
pub record Front : Type 0 where
  pub request : WholeRequest
  pub rest : List ℕ

-- the load of a text
abbrev pub load_of : List ℕ → WholeRequest
load_of text = if nat_le (length text) MAX_TEXT then Load text else Large

-- the request of a line that so many bytes of text follow, or none
abbrev pub front_of : Request → Option ℕ → List ℕ → Option Front
front_of request None rest = Some (record { request = Line request; rest = rest })
front_of request (Some len) rest =
    if nat_le len (length rest) then Some (record { request = load_of (take len rest); rest = drop len rest })
    else None

-- the request of a line, with the text behind it
abbrev pub with_text : Option Request → List ℕ → Option Front
with_text None rest = Some (record { request = Unreadable; rest = rest })
with_text (Some request) rest = front_of request (text_length request) rest

-- the place of the first newline
abbrev pub line_end : List ℕ → Option ℕ
line_end bytes = position (λ b. b == 10) bytes

-- the request that the line up to this newline begins
abbrev pub front_at : List ℕ → Option ℕ → Option Front
front_at bytes None = None
front_at bytes (Some end) = with_text (request_of (take end bytes)) (drop (end + 1) bytes)

-- the first request, where the bytes have the whole of it
unfoldable pub first_request : List ℕ → Option Front
first_request bytes = front_at bytes (line_end bytes)

-- where bytes end: behind QUIT, between two requests, or inside one
pub data Ending : Type 0 where
  AfterQuit : Ending
  Between : Ending
  Inside : Ending

-- the requests of some bytes, and where these end
pub record Requests : Type 0 where
  pub all : List WholeRequest
  pub ending : Ending

-- bytes without a whole request
abbrev pub rest_only : List ℕ → Requests
rest_only [] = record { all = []; ending = Between }
rest_only (b ∷ bs) = record { all = []; ending = Inside }

-- one request more in front of those that follow it; none follows QUIT
abbrev pub onto : WholeRequest → Requests → Requests
onto (Line line.Quit) behind = record { all = Line line.Quit ∷ []; ending = AfterQuit }
onto request behind = record { all = request ∷ behind.all; ending = behind.ending }

-- the requests, at most n of them
unfoldable pub requests_within : ℕ → List ℕ → Requests
requests_within zero bytes = rest_only bytes
requests_within (suc n) bytes = unwrap_or
    (option_map (λ (f : Front). onto f.request (requests_within n f.rest)) (first_request bytes))
    (rest_only bytes)

-- the requests of the bytes; those behind QUIT belong to none
unfoldable pub requests_of : List ℕ → Requests
requests_of bytes = requests_within (length bytes) bytes
