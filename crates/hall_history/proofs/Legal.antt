-- A legal history stays legal with an entry that may follow, and was legal all along.
use Rattle.std.proofs.Common.{◌≡◌, ℕ, ◌<◌, inl, inr, List, [], ◌∷◌, ◌++◌, length}
use Rattle.std.proofs.Common.{sym, ap, ◌∙◌, subst, arith, length-append, take, length-take}
use Rattle.std.specs.Prelude.{slice_get}
use Rattle.std.proofs.lemmas.List.{take-append-le, take-take}
use Rattle.std.proofs.Math.Seq.{take-append_seam}
use Rattle.std.proofs.lemmas.Option.{slice_get_within}
use Rattle.std.proofs.lemmas.Bool.{cases_lt}
use Rattle.std.proofs.lemmas.Option.{same_Some}
use Rattle.list_lemmas.proofs.Positions.{slice_get-append_left, slice_get-last, slice_get-take}
use Rattle.hall_history.specs.History.{Entry, MayFollow, IsLegalHistory}

pub legal_more : (entries : List Entry) (e : Entry) → IsLegalHistory entries → MayFollow entries e
    → IsLegalHistory (entries ++ e ∷ [])
legal_more entries e legal may k x found =
    elim (cases_lt k (length entries)) [
      | inl lt ↦
          let same : take k (entries ++ e ∷ []) ≡ take k entries = take-append-le k entries (e ∷ [])
          (omega arith) in
          subst (λ (before : List Entry). MayFollow before x) (sym same)
          (legal k x (sym (slice_get-append_left entries (e ∷ []) k lt) ∙ found))
      | inr le ↦
          let within : k < length (entries ++ e ∷ []) = slice_get_within _ k x found in
          let last : k ≡ length entries = omega (arith, length-append entries (e ∷ [])) in
          let same : take k (entries ++ e ∷ []) ≡ entries = ap (λ n. take n (entries ++ e ∷ [])) last ∙
          take-append_seam entries (e ∷ []) in
          let this : e ≡ x = same_Some e x
          (sym (slice_get-last entries e) ∙ ap (slice_get (entries ++ e ∷ [])) (sym last) ∙ found) in
          subst (λ (before : List Entry). MayFollow before x) (sym same)
          (subst (λ (y : Entry). MayFollow entries y) this may)
    ]

-- a legal history was legal all along
pub legal_before : (entries : List Entry) (n : ℕ) → IsLegalHistory entries → IsLegalHistory (take n entries)
legal_before entries n legal k x found =
    let within : k < length (take n entries) = slice_get_within _ k x found in
    let short : k < n = omega (arith, length-take n entries) in
    let same : take k (take n entries) ≡ take k entries = take-take k n entries (omega arith) in
    subst (λ (before : List Entry). MayFollow before x) (sym same)
    (legal k x (sym (slice_get-take n entries k short) ∙ found))

pub legal_none : IsLegalHistory []
legal_none k e at = absurd cc
