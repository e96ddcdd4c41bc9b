-- The last number of a room is taken back.
use Rattle.std.proofs.Common.{◌≡◌, ℕ, ◌<◌, List, [], ◌∷◌, ◌++◌, get_or, length, MatchOption}
use Rattle.std.proofs.Common.{Option}
use Rattle.std.proofs.Common.{None, Some, sym, ap, ◌∙◌, arith, slice_set, length-append}
use Rattle.std.proofs.lemmas.List.{get_or-set_same, same_from_push, set-get_or}
use Rattle.std.proofs.lemmas.Option.{unwrap_or-slice_get}
use Rattle.std.proofs.lemmas.List.{set-set}
use Rattle.node_store.specs.Changes.{room_list, with_last}
use Rattle.node_store.specs.Given.{Given}
use Rattle.node_store.specs.declared.numbered.Numbered.{Numbered}

popped_is : (es old new : List Numbered) (e : Numbered) (popped : Option Numbered) → old ≡ es ++ e ∷ []
    → MatchOption popped ((old ≡ []) × (new ≡ [])) (λ last. old ≡ new ++ last ∷ []) → new ≡ es
popped_is es old new e None is none =
    let long = ap length (sym is ∙ none.0) in absurd (omega (arith, long, length-append es (e ∷ [])))
popped_is es old new e (Some last) is some = (same_from_push new es last e (sym some ∙ is)).0

taken : (before : Given) (i : ℕ) (e : Numbered) (old new : List Numbered) (popped : Option Numbered)
    → i < length before.rooms → old ≡ get_or (with_last before i e).rooms i old
    → MatchOption popped ((old ≡ []) × (new ≡ [])) (λ last. old ≡ new ++ last ∷ [])
    → slice_set (with_last before i e).rooms i new ≡ before.rooms
taken before i e old new popped within is pop =
    let es = room_list before i in
    let whole = is ∙ get_or-set_same before.rooms i (es ++ e ∷ []) old within in
    set-set before.rooms i (es ++ e ∷ []) new
    ∙ ap (slice_set before.rooms i) (popped_is es old new e popped whole pop
    ∙ unwrap_or-slice_get before.rooms i [])
    ∙ set-get_or before.rooms i []

pub taken_back : (g before : Given) (i : ℕ) (e : Numbered) (old new : List Numbered)
    (popped : Option Numbered)
    → i < length before.rooms → g ≡ with_last before i e → old ≡ get_or g.rooms i old
    → MatchOption popped ((old ≡ []) × (new ≡ [])) (λ last. old ≡ new ++ last ∷ [])
    → (let after : Given = record { first = g.first; rooms = slice_set g.rooms i new } in after) ≡ before
taken_back g before i e old new popped within is at pop =
    let rooms = ap (λ (h : Given). slice_set h.rooms i new) is
    ∙ taken before i e old new popped within (at ∙ ap (λ (h : Given). get_or h.rooms i old) is) pop in
    let first = ap (λ (h : Given). h.first) is in
    λ k. record { first = first k; rooms = rooms k }
