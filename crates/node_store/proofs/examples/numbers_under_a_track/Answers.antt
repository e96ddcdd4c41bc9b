-- The kids of the keys on the way are read off them.
use Rattle.std.proofs.Common.{◌≡◌, ℕ, Contains, Some, refl, sym, ap, ◌∙◌, arith, lit<, subst}
use Rattle.std.proofs.lemmas.Option.{same_Some}
use Rattle.node_key.specs.Examples.{half_key, tenth_key, track_key}
use Rattle.node_key.specs.Leads.{Leads, here, below}
use Rattle.node_key.specs.Stands.{KeyAt}
use Rattle.node_key.specs.declared.key.Kid.{Kid}
use Rattle.node_key.specs.declared.key.NodeKey.{NodeKey}
use Rattle.store_laws.specs.Store.{kids_in}
use Rattle.node_store.specs.Examples.{three_given}
use Rattle.node_store.specs.Given.{ever}
use Rattle.node_store.proofs.examples.numbers_under_a_track.Goals as goal

-- a key without kids leads no further
itself : (at : KeyAt) (from : ℕ) (leaf : NodeKey) → at from ≡ Some leaf
    → ((k : Kid) → Contains (kids_in leaf) k → ⊥) → (n : ℕ) → Leads at from n → n ≡ from
itself at from leaf is none n here = refl
itself at from leaf is none n (below m key k up found has) =
    let same = itself at from leaf is none m up in
    let one = same_Some key leaf (sym found ∙ ap at same ∙ is) in
    absurd (none k (subst (λ (a : NodeKey). Contains (kids_in a) k) one has))

pub returns-clause-down : goal.returns-clause-down
returns-clause-down c =
    let main : Kid = record { gap = 0; span = 500000000; node = 12 } in
    let f : Kid = record { gap = 100000000; span = 100000000; node = 0 } in
    below 12 half_key f (below 4 track_key main here refl (0, lit< tt, refl)) refl (0, lit< tt, refl)

pub returns-clause-leaf : goal.returns-clause-leaf
returns-clause-leaf c = itself (ever (three_given 0 0 1)) 0 tenth_key refl (λ k has. omega (arith, has.1))
