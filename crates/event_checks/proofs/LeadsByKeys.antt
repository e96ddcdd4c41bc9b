-- What a number of a store leads to, by its key.
use Rattle.std.proofs.Common.{◌≡◌, ◌≢◌, ◌∙◌, ◌⊎◌, inl, inr, ℕ, ◌<◌, All, Contains, IsSome, List, Option, Some, arith}
use Rattle.std.proofs.Common.{refl, subst, sym, ap}
use Rattle.std.specs.Option.{option_map_or}
use Rattle.std.proofs.lemmas.List.Elements.{All-contains}
use Rattle.std.proofs.lemmas.Option.{same_Some}
use Rattle.node_key.proofs.Leading.{leads-then}
use Rattle.node_key.specs.Leads.{Leads, below, here}
use Rattle.node_key.specs.Stands.{KeyAt}
use Rattle.node_key.specs.declared.key.Kid.{Kid}
use Rattle.node_key.specs.declared.key.NodeKey.{NodeKey}
use Rattle.shard_core.specs.Room.{Stored}
use Rattle.store_laws.proofs.CanonicKeys.{node_of_key}
use Rattle.store_laws.specs.Store.{IsCanonic, Store, key_in, kids_in, node_in}

-- a number leads to what a kid of its key leads to
pub leads_by_kid : (at : KeyAt) (n : ℕ) (key : NodeKey) (k : Kid) (target : ℕ) → at n ≡ Some key
    → Contains (kids_in key) k → Leads at k.node target → Leads at n target
leads_by_kid at n key k target is has down = leads-then at n k.node target (below n key k here is has) down

-- and to nothing else but itself
leads_cases : (at : KeyAt) (n : ℕ) (key : NodeKey) (target : ℕ) → at n ≡ Some key → Leads at n target
    → (n ≡ target) ⊎ ((k : Kid) × Contains (kids_in key) k × Leads at k.node target)
leads_cases at n key target is here = inl refl
leads_cases at n key target is (below m own k up there has) =
    elim (leads_cases at n key m is up) [
      | inl same ↦
          let one : own ≡ key = same_Some own key (sym there ∙ ap at (sym same) ∙ is) in
          inr (k, subst (λ (l : NodeKey). Contains (kids_in l) k) one has, here)
      | inr (j, among, down) ↦ inr (j, among, below m own k down there has)
    ]

-- none of these kids leads to the number
abbrev pub NoneLeads : KeyAt → ℕ → List Kid → Type 0
NoneLeads at target kids = All (λ (k : Kid). ¬ Leads at k.node target) kids

pub leads_nowhere : (at : KeyAt) (n : ℕ) (key : NodeKey) (target : ℕ) → at n ≡ Some key → n ≢ target
    → NoneLeads at target (kids_in key) → ¬ Leads at n target
leads_nowhere at n key target is other none leads =
    elim (leads_cases at n key target is leads) [
      | inl same ↦ other same
      | inr (k, among, down) ↦
          All-contains (λ (j : Kid). ¬ Leads at j.node target) (kids_in key) k none among down
    ]

-- how high the node of a number is, 0 where there is none
abbrev pub height_at : Store → ℕ → ℕ
height_at rooms n = option_map_or (λ (s : Stored). s.key.height) (node_in rooms n) 0

-- a kid of a stored key is stored, and lower
pub record IsLower (rooms : Store) (n : ℕ) (k : Kid) : Type 0 where
  pub stored : IsSome (node_in rooms k.node)
  pub lower : height_at rooms k.node < height_at rooms n

pub kid_is_lower : (rooms : Store) (n : ℕ) (key : NodeKey) (k : Kid) → IsCanonic rooms
    → key_in rooms n ≡ Some key → Contains (kids_in key) k → IsLower rooms n k
kid_is_lower rooms n key k canonic is among =
    let (s, there, same) = node_of_key rooms n key is in
    let under = (canonic.keys n s there).kids k (subst (λ (l : NodeKey). Contains (kids_in l) k) (sym same)
    among) in
    record {
      stored = subst IsSome (sym under.there) (some_is under.stored);
      lower = omega (
        arith,
        ap (λ (o : Option Stored). option_map_or (λ (u : Stored). u.key.height) o 0) under.there,
        ap (λ (o : Option Stored). option_map_or (λ (u : Stored). u.key.height) o 0) there,
        under.lower,
      );
    }
  where
    some_is : (s : Stored) → IsSome (Some s)
    some_is s = refl
