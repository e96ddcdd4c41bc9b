-- The roots of lists of tracks.
use Rattle.std.proofs.Common.{◌≡◌, ℕ, List, [], ◌∷◌, ◌++◌, Option, None, Some, ap, sym, ◌∙◌, append-nil}
use Rattle.std.proofs.Common.{inl, inr, suc, zero}
use Rattle.std.specs.Prelude.{slice_get}
use Rattle.std.proofs.lemmas.List.Elements.{filter_map-append}
use Rattle.std.proofs.lemmas.Option.{none-some, same_Some}
use Rattle.list_lemmas.proofs.Members.{IsAmong}
use Rattle.registry_core.specs.declared.track_root.TrackRoot.{TrackRoot}
use Rattle.registry_core.specs.Trace.{roots_in}

-- the roots of joined lists
roots_in-append : (a b : List (Option TrackRoot)) → roots_in (a ++ b) ≡ roots_in a ++ roots_in b
roots_in-append a b = filter_map-append _ a b

-- the last slot is that of a published track: its root comes last
pub roots_in-taken : (slots left : List (Option TrackRoot)) (slot : Option TrackRoot) (r : TrackRoot)
    → slots ≡ left ++ slot ∷ [] → slot ≡ Some r → roots_in slots ≡ roots_in left ++ r.root ∷ []
roots_in-taken slots left slot r all is = ap roots_in (all ∙ ap (λ s. left ++ s ∷ []) is)
    ∙ roots_in-append left (Some r ∷ [])

-- it isn't: the roots are those of the other slots
pub roots_in-free : (slots left : List (Option TrackRoot)) (slot : Option TrackRoot)
    → slots ≡ left ++ slot ∷ [] → slot ≡ None → roots_in left ≡ roots_in slots
roots_in-free slots left slot all is = sym (ap roots_in (all ∙ ap (λ s. left ++ s ∷ []) is)
    ∙ roots_in-append left (None ∷ []) ∙ append-nil (roots_in left))

-- the root of a slot is among them
pub slot_root : (slots : List (Option TrackRoot)) (track : ℕ) (r : TrackRoot)
    → slice_get slots track ≡ Some (Some r) → IsAmong (roots_in slots) r.root
slot_root [] track r at = absurd (none-some (Some r) at)
slot_root (None ∷ slots) zero r at = absurd cc
slot_root (Some q ∷ slots) zero r at =
    inl (ap (λ (p : TrackRoot). p.root) (same_Some q r (same_Some (Some q) (Some r) at)))
slot_root (None ∷ slots) (suc track) r at = slot_root slots track r at
slot_root (Some q ∷ slots) (suc track) r at = inr (slot_root slots track r at)
