-- Complete definitions and their places: a look-up and an insertion see the definitions alone.
use Rattle.std.proofs.Common.{◌≡◌, ℕ, List, [], ◌∷◌, nat_eq, cond, Bool, true, false, refl, ap}
use Rattle.indexmap.specs.IndexMap.{insert_entry}
use Rattle.paje_defs.specs.declared.complete.Complete.{Complete}
use Rattle.paje_defs.specs.Table.{without_places}

pub insert_without : (entries : List (ℕ × Complete)) (number : ℕ) (c : Complete)
    → without_places (insert_entry nat_eq entries number c) ≡ insert_entry nat_eq (without_places entries)
    number c.definition
insert_without [] number c = refl
insert_without (entry ∷ entries) number c = by_test (nat_eq number entry.0) (insert_without entries number c)
  where
    by_test : (b : Bool) → without_places (insert_entry nat_eq entries number c) ≡ insert_entry nat_eq
        (without_places entries) number c.definition
        → without_places (cond b ((entry.0, c) ∷ entries) (entry ∷ insert_entry nat_eq entries number c))
        ≡ cond b ((entry.0, c.definition) ∷ without_places entries) ((entry.0, entry.1.definition)
        ∷ insert_entry nat_eq (without_places entries) number c.definition)
    by_test true later = refl
    by_test false later = ap (λ es. (entry.0, entry.1.definition) ∷ es) later
