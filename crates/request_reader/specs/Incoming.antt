-- What it means of the bytes that a session was given, and has left to read, that a request comes next.
use Rattle.std.specs.Prelude.{◌≡◌, ◌≢◌, ℕ, ◌≤◌, length, List, [], ◌++◌, Option, None, Some, Result, Ok, Err}
use Rattle.std.specs.Prelude.{option_map}
use Rattle.trace_base.specs.Outside.{Told}
use Rattle.trace_base.specs.declared.limits.TheConstants.{MAX_TEXT}
use Rattle.session_proto.specs.Request.{text_length, IsWithinLimits}
use Rattle.request_reader.specs.Requests.{WholeRequest, Line, Load, Large, Unreadable, first_request}
use Rattle.request_reader.specs.declared.incoming.Incoming.{Incoming}
use Rattle.request_reader.specs.declared.incoming.Incoming.TheVariants as incoming
use Rattle.request_reader.specs.declared.incoming.InputEnd.{InputEnd}
use Rattle.request_reader.specs.declared.incoming.InputEnd.TheVariants as ends

-- the bytes are this request and no more, whatever follows them
abbrev pub Spells : List ℕ → WholeRequest → Type 0
Spells bytes r = (more : List ℕ) → first_request (bytes ++ more) ≡ Some (record { request = r; rest = more })

-- what came is this request; of a load whose text was dropped only that much is known
abbrev pub Is : Incoming → List ℕ → WholeRequest → Type 0
Is (incoming.Line request) text r = r ≡ Line request
Is incoming.Load text r = r ≡ Load text
Is incoming.Dropped text r = (bytes : List ℕ) × (r ≡ Load bytes)
Is incoming.Large text r = r ≡ Large
Is incoming.Unreadable text r = r ≡ Unreadable

-- what is left to read: the bytes that were given and wait in the buffer, and those of the source, where it
-- tells them
abbrev pub left_to_read : List ℕ → Option (List ℕ) → Option (List ℕ)
left_to_read pending left = option_map (λ l. pending ++ l) left

-- these bytes were taken from what was left
abbrev pub Takes : Option (List ℕ) → Option (List ℕ) → (List ℕ → Type 0) → Type 0
Takes old new P = Told old new (λ was now. (taken : List ℕ) × (was ≡ taken ++ now) × P taken)

-- the input ended between two requests, inside one, or by a failure; the bytes taken have no whole request
abbrev pub EndsInput : Option (List ℕ) → Option (List ℕ) → InputEnd → Type 0
EndsInput old new ends.End = Told old new (λ was now. (was ≡ []) × (now ≡ []))
EndsInput old new ends.Cut = Takes old new (λ taken. (taken ≢ []) × (first_request taken ≡ None))
    × (new ≢ None → new ≡ Some [])
EndsInput old new ends.Failed = Takes old new (λ taken. first_request taken ≡ None)

-- what came is what the bytes taken spell, or the input ended
abbrev pub Comes : Option (List ℕ) → Option (List ℕ) → List ℕ → Result Incoming InputEnd → Type 0
Comes old new text (Ok i) = Takes old new (λ taken. (r : WholeRequest) × Is i text r × Spells taken r)
Comes old new text (Err end) = EndsInput old new end

-- no text follows the line of a request, its numbers are within their limits, and a text isn't too long
abbrev pub ComesWithinLimits : Incoming → List ℕ → Type 0
ComesWithinLimits (incoming.Line request) text = (text_length request ≡ None) × IsWithinLimits request
ComesWithinLimits incoming.Load text = length text ≤ MAX_TEXT
ComesWithinLimits incoming.Dropped text = Unit {0}
ComesWithinLimits incoming.Large text = Unit {0}
ComesWithinLimits incoming.Unreadable text = Unit {0}
