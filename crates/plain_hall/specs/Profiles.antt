-- What a plain hall keeps of nodes beside their keys: their whole profiles.
use Rattle.std.specs.Prelude.{◌≡◌, ℕ}
use Rattle.std.proofs.Props.{props}
use base.Stored.{Coded-set}
use mathlib.Core.HLevel.{is_prop→PathP}
use Rattle.memo_rooms.specs.Rooms.{Kept}
use Rattle.memo_rooms.specs.Whole.{AreOfTrees}
use Rattle.node_key.specs.Stands.{KeyAt, Stands}
use Rattle.node_key.specs.Tree.{Tree}
use Rattle.store_laws.proofs.CanonicTrees.{one_tree}
use Rattle.whole_profiles.specs.Whole.{whole_profile}
use Rattle.whole_profiles.specs.contracts.entry.Entry as entry
use Rattle.whole_profiles.specs.declared.entry.Entry.{Entry}
use Rattle.whole_profiles.specs.declared.memo_kind.MemoKind.{MemoKind}
use Rattle.plain_hall.specs.StoreProps.{Stands-prop}

-- what is kept under a number is the whole profile of the tree that it stands for
abbrev pub AreProfiles : KeyAt → Kept → Type 0
AreProfiles key_at kept = AreOfTrees (Stands key_at) kept

Entry-set : IsSet Entry
Entry-set = Coded-set entry.the_row.coded

OfItsTree : KeyAt → ℕ → MemoKind → Entry → Type 0
OfItsTree key_at n kind e = (t : Tree) × Stands key_at n t × (e ≡ whole_profile kind t)

OfItsTree-prop : (key_at : KeyAt) (n : ℕ) (kind : MemoKind) (e : Entry) → IsProp (OfItsTree key_at n kind e)
unfolding OfItsTree
OfItsTree-prop key_at n kind e u v =
    let same : u.0 ≡ v.0 = one_tree key_at n u.0 v.0 u.1 v.1 in
    λ i. (
      same i,
      is_prop→PathP (λ i. Stands key_at n (same i)) (λ i. Stands-prop key_at n (same i)) u.1 v.1 i,
      is_prop→PathP (λ i. e ≡ whole_profile kind (same i)) (λ i. hlevel (props, Entry-set)) u.2 v.2 i,
    )

-- there is at most one proof of it, which a ghost field asks for
pub AreProfiles-prop : (key_at : KeyAt) (kept : Kept) → IsProp (AreProfiles key_at kept)
unfolding OfItsTree
AreProfiles-prop key_at kept = hlevel (props, OfItsTree-prop key_at)
