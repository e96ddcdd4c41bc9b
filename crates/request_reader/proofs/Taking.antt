-- How the bytes taken by one step after another add up.
use Rattle.std.proofs.Common.{◌≡◌, refl, ap, ◌∙◌, sym, ℕ, List, [], ◌∷◌, ◌++◌, append_assoc, Option}
use Rattle.std.proofs.Common.{None, Some}
use Rattle.trace_base.specs.Outside.{Told}
use Rattle.request_reader.specs.Incoming.{Takes, left_to_read}

-- two steps in a row
pub takes-then : (P Q R : List ℕ → Type 0) (a b c : Option (List ℕ)) → Takes a b P → Takes b c Q →
    ((s t : List ℕ) → P s → Q t → R (s ++ t)) → Takes a c R
takes-then P Q R None None None h k both = tt
takes-then P Q R (Some x) (Some y) (Some z) h k both =
    (h.0 ++ k.0, h.1 ∙ ap (λ l. h.0 ++ l) k.1 ∙ sym (append_assoc h.0 k.0 z), both h.0 k.0 h.2 k.2)
takes-then P Q R None None (Some z) h k both = absurd k
takes-then P Q R None (Some y) c h k both = absurd h
takes-then P Q R (Some x) None c h k both = absurd h
takes-then P Q R (Some x) (Some y) None h k both = absurd k

-- a step that takes one byte
pub takes-byte : (P Q : List ℕ → Type 0) (a b c : Option (List ℕ)) (x : ℕ) → Takes a b P
    → Told b c (λ was now. was ≡ x ∷ now) →
    ((s : List ℕ) → P s → Q (s ++ x ∷ [])) → Takes a c Q
takes-byte P Q None None None x h k more = tt
takes-byte P Q (Some u) (Some y) (Some z) x h k more =
    (h.0 ++ x ∷ [], h.1 ∙ ap (λ l. h.0 ++ l) k ∙ sym (append_assoc h.0 (x ∷ []) z), more h.0 h.2)
takes-byte P Q None None (Some z) x h k more = absurd k
takes-byte P Q None (Some y) c x h k more = absurd h
takes-byte P Q (Some u) None c x h k more = absurd h
takes-byte P Q (Some u) (Some y) None x h k more = absurd k

-- what is true of the bytes taken
pub takes-so : (P Q : List ℕ → Type 0) (a b : Option (List ℕ)) → Takes a b P → ((s : List ℕ) → P s → Q s)
    → Takes a b Q
takes-so P Q None None h so = tt
takes-so P Q (Some x) (Some y) h so = (h.0, h.1, so h.0 h.2)
takes-so P Q None (Some y) h so = absurd h
takes-so P Q (Some x) None h so = absurd h

-- bytes that waited were taken
pub takes-moved : (was now moved : List ℕ) (left : Option (List ℕ)) → was ≡ moved ++ now
    → Takes (left_to_read was left) (left_to_read now left) (λ taken. taken ≡ moved)
takes-moved was now moved None is = tt
takes-moved was now moved (Some l) is = (moved, ap (λ x. x ++ l) is ∙ append_assoc moved now l, refl)
