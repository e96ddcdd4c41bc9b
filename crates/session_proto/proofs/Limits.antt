-- The limits of the numbers in a request line.
use Rattle.std.proofs.Common.{◌≡◌, refl, ℕ, ◌<◌, Bool, true, false, ◌&&◌, nat_le, nat_lt}
use Rattle.std.proofs.Common.{if◌then◌else◌, List, [], ◌∷◌, length, Option, None, Some, option_map, arith}
use Rattle.std.specs.Prelude.{codes, IfSome}
use Rattle.std.specs.Str.{bytes_eq}
use Rattle.std.proofs.lemmas.Bool.Decides.{nat_tests}
use Rattle.trace_base.specs.declared.limits.TheConstants.{MAX_REQUEST_LINE, MAX_TIME}
use Rattle.session_proto.specs.Request.{request_of, request_of_words, words_of, number_of, flat_of}
use Rattle.session_proto.specs.Request.{IsWithinLimits}
use Rattle.session_proto.specs.declared.request.Request.{Request}
use Rattle.session_proto.specs.declared.request.Request.TheVariants.{Put, Flat, Quit}
use Rattle.session_proto.specs.declared.request.Sel.TheVariants.{All}

-- what holds of the numbers of a request, where there is one
abbrev pub IsLimited : Option Request → Type 0
IsLimited o = IfSome o IsWithinLimits

limited_if : (t : Bool) (q : Option Request) → IsLimited q → IsLimited (if t then q else None)
limited_if true q h = h
limited_if false q h = tt

limited_put : (o : Option ℕ) → IsLimited (option_map (λ n. Put n) o)
limited_put None = tt
limited_put (Some len) = tt

limited_flat : (id a b : Option ℕ) → IsLimited (flat_of id a b)
limited_flat (Some id) (Some a) (Some b) = at (nat_lt a b) (nat_le b MAX_TIME) refl refl where
  at : (t u : Bool) → nat_lt a b ≡ t → nat_le b MAX_TIME ≡ u
      → IsLimited (if t && u then Some (Flat id All a b) else None)
  at true true e f = (grind (arith, nat_tests), grind (arith, nat_tests))
  at true false e f = tt
  at false true e f = tt
  at false false e f = tt
limited_flat (Some id) (Some a) None = tt
limited_flat (Some id) None b = tt
limited_flat None a b = tt

limited_words : (words : List (List ℕ)) → IsLimited (request_of_words words)
limited_words [] = tt
limited_words (verb ∷ []) = limited_if (bytes_eq verb (codes "QUIT")) (Some Quit) tt
limited_words (verb ∷ len ∷ []) = limited_if (bytes_eq verb (codes "PUT"))
    (option_map (λ n. Put n) (number_of len)) (limited_put (number_of len))
limited_words (verb ∷ id ∷ sel ∷ []) = tt
limited_words (verb ∷ id ∷ sel ∷ a ∷ []) = tt
limited_words (verb ∷ id ∷ sel ∷ a ∷ b ∷ []) =
    limited_if (bytes_eq verb (codes "FLAT") && bytes_eq sel (codes "*"))
    (flat_of (number_of id) (number_of a) (number_of b))
    (limited_flat (number_of id) (number_of a) (number_of b))
limited_words (verb ∷ id ∷ sel ∷ a ∷ b ∷ more ∷ words) = tt

pub request_limited : (bytes : List ℕ) → IsLimited (request_of bytes)
unfolding request_of
request_limited bytes = limited_if (nat_le (length bytes) MAX_REQUEST_LINE)
    (request_of_words (words_of bytes)) (limited_words (words_of bytes))

-- a longer line is none
pub request_of-long : (bytes : List ℕ) → MAX_REQUEST_LINE < length bytes → request_of bytes ≡ None
unfolding request_of
request_of-long bytes long =
    let no : nat_le (length bytes) MAX_REQUEST_LINE ≡ false = grind (arith, nat_tests) in rw no refl
