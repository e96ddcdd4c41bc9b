-- What a legal history has of a trace that was opened.
use Rattle.std.proofs.Common.{◌≡◌, ℕ, suc, List, ◌∷◌, take, drop}
use Rattle.std.proofs.Common.{slice_get, Option, Some, subst}
use Rattle.std.proofs.lemmas.List.{take-append-drop}
use Rattle.trace_base.specs.Info.{IsLegalInfo}
use Rattle.trace_base.specs.declared.names.TraceInfo.{TraceInfo}
use Rattle.hall_history.specs.History.{Entry}
use Rattle.hall_history.specs.History.{IsLegalHistory, info_of}
use Rattle.hall_history.proofs.HistoryFronts.{info_legal}
use Rattle.trace_session.proofs.Loading.{info_of-more}

-- an entry of which f gives y, at some place
abbrev pub Stands : (Entry → Option TraceInfo) → List Entry → TraceInfo → Type 0
Stands f xs y = (k : ℕ) × (x : Entry) × (slice_get xs k ≡ Some x) × (f x ≡ Some y)

later : (f : Entry → Option TraceInfo) (x : Entry) (xs : List Entry) (y : TraceInfo) → Stands f xs y
    → Stands f (x ∷ xs) y
later f x xs y s = (suc s.0, s.1, s.2, s.3)

-- also where only the front of the history is looked at
pub legal_info_in_front : (entries : List Entry) (place id : ℕ) (info : TraceInfo) → IsLegalHistory entries
    → info_of (take place entries) id ≡ Some info → IsLegalInfo info
legal_info_in_front entries place id info legal is =
    let whole = info_of-more (take place entries) (drop place entries) id info is in
    info_legal entries id info legal (subst (λ (h : List Entry). info_of h id ≡ Some info)
    (take-append-drop place entries) whole)
