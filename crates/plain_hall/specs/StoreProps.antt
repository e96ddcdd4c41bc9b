-- A store is what it is in at most one way, so that a ghost field can keep that it is.
use Rattle.std.specs.Prelude.{◌≡◌, ◌<◌, ℕ, List, [], ◌∷◌, length, map, take, Some}
use Rattle.std.proofs.Common.{refl, sym, ap, ◌∙◌, arith}
use Rattle.std.proofs.Props.{props}
use Rattle.std.proofs.lemmas.Option.{same_Some}
use base.Stored.{Coded-set}
use mathlib.Core.HLevel.{is_prop→PathP}
use Rattle.node_key.specs.Keys.{IsKeyOf, numbered}
use Rattle.node_key.specs.declared.stake.Stake.{Stake}
use Rattle.node_key.specs.Stands.{KeyAt, KidsStand, Stands}
use Rattle.node_key.specs.Tree.{Kids, Tree, count, kid, no_kids}
use Rattle.node_key.specs.contracts.key.Kid as kid_type
use Rattle.node_key.specs.contracts.key.NodeKey as node_key
use Rattle.node_key.specs.declared.key.Kid.{Kid}
use Rattle.node_key.specs.declared.key.NodeKey.{NodeKey}
use Rattle.shard_core.specs.Room.{IsSound, Room, Stored, stored_code}
use Rattle.store_laws.specs.Counted.{IsCounted, IsStore}
use Rattle.store_laws.specs.Store.{IsCanonic, IsKidBelow, IsWellPlaced, Store, node_in}
use Rattle.node_store.specs.Kept.{AreKept, IsRoomOf, KeepsFor, NodesKept}

Kid-set : IsSet Kid
Kid-set = Coded-set kid_type.the_row.coded

NodeKey-set : IsSet NodeKey
NodeKey-set = Coded-set node_key.the_row.coded

Stored-set : IsSet Stored
Stored-set = Coded-set stored_code

-- ---- which tree a number stands for

IsKeyOf-prop : (t : Tree) (ns : List ℕ) (k : NodeKey) → IsProp (IsKeyOf t ns k)
IsKeyOf-prop t ns k = hlevel (props, Kid-set)

-- numbers of kids are told by their key
numbers_told : (k : Kids) (ns : List ℕ) → length ns ≡ count k
    → map (λ (c : Kid). c.node) (numbered k ns) ≡ ns
numbers_told no_kids [] long = refl
numbers_told no_kids (n ∷ ns) long = absurd (omega (arith, long))
numbers_told (kid gap func dur inner more) [] long = absurd (omega (arith, long))
numbers_told (kid gap func dur inner more) (n ∷ ns) long = ap (λ ms. n ∷ ms)
    (numbers_told more ns (omega (arith, long)))

-- a key, and numbers that stand for the kids
KeyStands : KeyAt → ℕ → Tree → Type 0
KeyStands key_at n t = (key : NodeKey) × (ns : List ℕ) × (key_at n ≡ Some key) × IsKeyOf t ns key
    × KidsStand key_at ns t.kids

KeyStands-prop : (key_at : KeyAt) (n : ℕ) (t : Tree) → ((ns : List ℕ) → IsProp (KidsStand key_at ns t.kids))
    → IsProp (KeyStands key_at n t)
unfolding KeyStands
KeyStands-prop key_at n t below u v =
    let same_key : u.0 ≡ v.0 = same_Some u.0 v.0 (sym u.2 ∙ v.2) in
    let same_numbers : u.1 ≡ v.1 = sym (numbers_told t.kids u.1 u.3.numbers) ∙ ap
    (map (λ (c : Kid). c.node)) (sym u.3.kids ∙ ap (λ (k : NodeKey). take k.len k.kids) same_key ∙ v.3.kids)
    ∙ numbers_told t.kids v.1 v.3.numbers in
    λ i. (
      same_key i,
      same_numbers i,
      is_prop→PathP (λ i. key_at n ≡ Some (same_key i)) (λ i. hlevel (props, NodeKey-set)) u.2 v.2 i,
      is_prop→PathP (λ i. IsKeyOf t (same_numbers i) (same_key i))
          (λ i. IsKeyOf-prop t (same_numbers i) (same_key i)) u.3 v.3 i,
      is_prop→PathP (λ i. KidsStand key_at (same_numbers i) t.kids) (λ i. below (same_numbers i)) u.4 v.4 i,
    )

KidsStand-prop : (key_at : KeyAt) (ns : List ℕ) (k : Kids) → IsProp (KidsStand key_at ns k)
unfolding KeyStands
KidsStand-prop key_at ns no_kids = hlevel props
KidsStand-prop key_at [] (kid gap func dur inner more) = λ u v. absurd u
KidsStand-prop key_at (n ∷ ns) (kid gap func dur inner more) = λ u v i. (
  KeyStands-prop key_at n (record { func = func; dur = dur; kids = inner })
      (λ ms. KidsStand-prop key_at ms inner) u.0 v.0 i,
  KidsStand-prop key_at ns more u.1 v.1 i,
)

pub Stands-prop : (key_at : KeyAt) (n : ℕ) (t : Tree) → IsProp (Stands key_at n t)
unfolding KeyStands
Stands-prop key_at n t = KeyStands-prop key_at n t (λ ns. KidsStand-prop key_at ns t.kids)

-- ---- a store, and what it keeps

IsSound-prop : (r : Room) → IsProp (IsSound r)
IsSound-prop r = hlevel props

IsKidBelow-prop : (rooms : Store) (height : ℕ) (k : Kid) → IsProp (IsKidBelow rooms height k)
IsKidBelow-prop rooms height k u v =
    let same : u.stored ≡ v.stored = same_Some u.stored v.stored (sym u.there ∙ v.there) in
    λ i. record {
      stored = same i;
      there = is_prop→PathP (λ i. node_in rooms k.node ≡ Some (same i)) (λ i. hlevel (props, Stored-set))
          u.there v.there i;
      span = is_prop→PathP (λ i. (same i).key.dur ≡ k.span) (λ i. hlevel props) u.span v.span i;
      lower = is_prop→PathP (λ i. (same i).key.height < height) (λ i. hlevel props) u.lower v.lower i;
    }

IsWellPlaced-prop : (rooms : Store) (key : NodeKey) → IsProp (IsWellPlaced rooms key)
IsWellPlaced-prop rooms key = hlevel (props, IsKidBelow-prop)

IsCanonic-prop : (rooms : Store) → IsProp (IsCanonic rooms)
IsCanonic-prop rooms = hlevel (props, IsSound-prop, IsWellPlaced-prop)

IsStand : KeyAt → Stake → Type 0
IsStand key_at x = Stands key_at x.number x.tree

IsCounted-prop : (rooms : Store) (held : List Stake) → IsProp (IsCounted rooms held)
IsCounted-prop rooms held = hlevel (props, Stands-prop)

IsStore-prop : (rooms : Store) (held : List Stake) → IsProp (IsStore rooms held)
IsStore-prop rooms held = hlevel (IsCanonic-prop, IsCounted-prop)

pub KeepsFor-prop : (s : NodesKept) (others : List Stake) → IsProp (KeepsFor s others)
KeepsFor-prop s others = IsStore-prop s.rooms _

IsRoomOf-prop : (first i : ℕ) (r : Room) (es : _) → IsProp (IsRoomOf first i r es)
IsRoomOf-prop first i r es = hlevel (props, IsSound-prop)

pub AreKept-prop : (s : NodesKept) → IsProp (AreKept s)
AreKept-prop s = hlevel (props, NodeKey-set, IsRoomOf-prop, Stands-prop)
