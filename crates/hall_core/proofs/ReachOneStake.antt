-- What a stake reaches, and which of several stakes reaches a number.
use Rattle.std.proofs.Common.{◌≡◌, ◌≢◌, ◌⊎◌, inl, inr, ℕ, zero, suc, ◌<◌, ◌≤◌, List, [], ◌∷◌, length}
use Rattle.std.proofs.Common.{All, Contains, Some, slice_get, get_or, option_map, refl, sym, ap, ◌∙◌}
use Rattle.std.proofs.Common.{subst, arith}
use Rattle.std.proofs.lemmas.List.{get_or-take, length-take}
use Rattle.std.proofs.lemmas.List.Elements.{All-contains, Contains-get_or}
use Rattle.std.proofs.lemmas.Option.{none-some, same_Some}
use Rattle.list_lemmas.proofs.Members.{has_here, has_only}
use Rattle.node_key.specs.Branches.{branches}
use Rattle.node_key.specs.Keys.{IsKeyOf, numbered}
use Rattle.node_key.specs.Stakes.{stake}
use Rattle.node_key.specs.declared.stake.Stake.{Stake}
use Rattle.node_key.specs.Stands.{KeyAt, KidsStand, Stands}
use Rattle.node_key.specs.Tree.{Kids, Tree, count, kid, no_kids, nodes, nodes_below}
use Rattle.node_key.specs.declared.key.Kid.{Kid}
use Rattle.node_key.specs.declared.key.NodeKey.{NodeKey}
use Rattle.node_key.specs.declared.tree.Branch.{Branch}
use Rattle.node_key.proofs.Numbering.{length-numbered}
use Rattle.store_laws.specs.Reached.{IsReached, staked, below}
use Rattle.store_laws.specs.Store.{Store, key_in, kids_in}
use Rattle.store_laws.proofs.CanonicKeys.{key_of_node, node_of_key}

-- ---- one stake and several

-- what stakes reach is reached from others that reach their numbers
pub reached_by_others : (rooms : Store) (held others : List Stake) (n : ℕ)
    → ((x : Stake) → Contains held x → IsReached rooms others x.number) → IsReached rooms held n
    → IsReached rooms others n
reached_by_others rooms held others n each (staked x h) = each x h
reached_by_others rooms held others n each (below m s k up is h) =
    below m s k (reached_by_others rooms held others m each up) is h

-- what several stakes reach, one of them reaches alone
pub reached_by_one : (rooms : Store) (held : List Stake) (n : ℕ) → IsReached rooms held n
    → (x : Stake) × Contains held x × IsReached rooms (x ∷ []) n
reached_by_one rooms held n (staked x h) = (x, h, staked x (has_here x []))
reached_by_one rooms held n (below m s k up is h) =
    let (x, among, alone) = reached_by_one rooms held m up in (x, among, below m s k alone is h)

-- and what one of them reaches alone, they reach
pub reached_by_all : (rooms : Store) (held : List Stake) (x : Stake) (n : ℕ) → Contains held x
    → IsReached rooms (x ∷ []) n → IsReached rooms held n
reached_by_all rooms held x n among alone =
    reached_by_others rooms (x ∷ []) held n
    (λ y h. subst (λ (z : Stake). IsReached rooms held z.number) (has_only x y h) (staked x among)) alone

-- none of the stakes reaches the number alone
abbrev pub NoneReaches : Store → ℕ → List Stake → Type 0
NoneReaches rooms target held = All (λ x. ¬ IsReached rooms (x ∷ []) target) held

-- so they don't reach it
pub reached_by_none : (rooms : Store) (held : List Stake) (target : ℕ) → NoneReaches rooms target held
    → ¬ IsReached rooms held target
reached_by_none rooms held target none reaches =
    let (x, among, alone) = reached_by_one rooms held target reaches in
    All-contains (λ (y : Stake). ¬ IsReached rooms (y ∷ []) target) held x none among alone

-- ---- a stake and the kids of its node

-- what a stake on a number reaches is the same for each tree
pub other_tree : (rooms : Store) (n : ℕ) (t u : Tree) (target : ℕ) → IsReached rooms (stake n t ∷ []) target
    → IsReached rooms (stake n u ∷ []) target
other_tree rooms n t u target reaches =
    reached_by_others rooms (stake n t ∷ []) (stake n u ∷ []) target
    (λ y h. subst (λ (z : Stake). IsReached rooms (stake n u ∷ []) z.number) (has_only (stake n t) y h)
    (staked (stake n u) (has_here (stake n u) []))) reaches

-- a stake reaches its number
pub reached_itself : (rooms : Store) (n : ℕ) (t : Tree) (target : ℕ) → n ≡ target
    → IsReached rooms (stake n t ∷ []) target
reached_itself rooms n t target is =
    subst (IsReached rooms (stake n t ∷ [])) is (staked (stake n t) (has_here (stake n t) []))

-- and what a stake on a kid of its node reaches
pub reached_by_kid : (rooms : Store) (n : ℕ) (t u : Tree) (key : NodeKey) (k : Kid) (target : ℕ)
    → key_in rooms n ≡ Some key → Contains (kids_in key) k → IsReached rooms (stake k.node u ∷ []) target
    → IsReached rooms (stake n t ∷ []) target
reached_by_kid rooms n t u key k target at among reaches =
    let (s, is, same) = node_of_key rooms n key at in
    let here = reached_itself rooms n t n refl in
    let under = subst (λ (l : NodeKey). Contains (kids_in l) k) (sym same) among in
    reached_by_others rooms (stake k.node u ∷ []) (stake n t ∷ []) target
    (λ y h. subst (λ (z : Stake). IsReached rooms (stake n t ∷ []) z.number) (has_only (stake k.node u) y h)
    (below n s k here is under)) reaches

-- and nothing else: it is the number, or what a stake on a kid reaches
reached_cases : (rooms : Store) (n : ℕ) (t : Tree) (key : NodeKey) (target : ℕ) → key_in rooms n ≡ Some key
    → IsReached rooms (stake n t ∷ []) target
    → (n ≡ target) ⊎ ((k : Kid) × Contains (kids_in key) k × IsReached rooms (stake k.node t ∷ []) target)
reached_cases rooms n t key target at (staked x h) = inl (ap (λ (y : Stake). y.number) (has_only (stake n t) x
    h))
reached_cases rooms n t key target at (below m s k up is h) =
    elim (reached_cases rooms n t key m at up) [
      | inl e ↦
          let same : s.key ≡ key = same_Some s.key key
          (sym (key_of_node rooms m s is) ∙ ap (key_in rooms) (sym e) ∙ at) in
          let among = subst (λ (l : NodeKey). Contains (kids_in l) k) same h in
          inr (k, among, reached_itself rooms k.node t k.node refl)
      | inr (j, among, reaches) ↦ inr (j, among, below m s k reaches is h)
    ]

-- none of the kids leads to the number
abbrev pub NoKidLeads : Store → Tree → ℕ → List Kid → Type 0
NoKidLeads rooms t target kids = All (λ (k : Kid). ¬ IsReached rooms (stake k.node t ∷ []) target) kids

-- where a node isn't the number and none of its kids leads there, it doesn't lead there
pub leads_nowhere : (rooms : Store) (n : ℕ) (t : Tree) (key : NodeKey) (target : ℕ)
    → key_in rooms n ≡ Some key → n ≢ target → NoKidLeads rooms t target (kids_in key)
    → ¬ IsReached rooms (stake n t ∷ []) target
leads_nowhere rooms n t key target at other none reaches =
    elim (reached_cases rooms n t key target at reaches) [
      | inl is ↦ other is
      | inr (k, among, alone) ↦
          All-contains (λ (j : Kid). ¬ IsReached rooms (stake j.node t ∷ []) target) (kids_in key) k none
          among alone
    ]

-- ---- the kids of a number that stands for a tree

-- a kid has fewer nodes
pub kid_has_fewer_nodes : (ks : Kids) (i : ℕ) (u : Tree)
    → option_map (λ (b : Branch). b.tree) (slice_get (branches ks) i) ≡ Some u → nodes u ≤ nodes_below ks
kid_has_fewer_nodes no_kids i u is = absurd (none-some u is)
kid_has_fewer_nodes (kid gap func dur inner more) zero u is = omega (
  arith,
  ap nodes (same_Some (record { func = func; dur = dur; kids = inner }) u is),
)
kid_has_fewer_nodes (kid gap func dur inner more) (suc i) u is =
    omega (arith, kid_has_fewer_nodes more i u is)

-- where numbers stand for kids, the number at an index stands for the branch there
numbered_kid_stands : (at : KeyAt) (ks : Kids) (ns : List ℕ) (i : ℕ) (u : Tree) (d : Kid) → KidsStand at ns ks
    → option_map (λ (b : Branch). b.tree) (slice_get (branches ks) i) ≡ Some u
    → Stands at (get_or (numbered ks ns) i d).node u
numbered_kid_stands at no_kids ns i u d stand is = absurd (none-some u is)
numbered_kid_stands at (kid gap func dur inner more) [] i u d stand is = absurd stand
numbered_kid_stands at (kid gap func dur inner more) (n ∷ ns) zero u d stand is =
    subst (Stands at n) (same_Some (record { func = func; dur = dur; kids = inner }) u is) stand.0
numbered_kid_stands at (kid gap func dur inner more) (n ∷ ns) (suc i) u d stand is =
    numbered_kid_stands at more ns i u d stand.1 is

-- the kid at an index of a key, which stands for a tree
pub record IsKidAt (at : KeyAt) (key : NodeKey) (i : ℕ) (k : Kid) (u : Tree) : Type 0 where
  pub within : i < length key.kids
  pub among : Contains (kids_in key) k
  pub stands : Stands at k.node u

-- the kid at an index stands for the branch there
pub kid_stands : (at : KeyAt) (n : ℕ) (t : Tree) (key : NodeKey) (i : ℕ) (u : Tree) (d : Kid) → Stands at n t
    → at n ≡ Some key → i < count t.kids
    → option_map (λ (b : Branch). b.tree) (slice_get (branches t.kids) i) ≡ Some u
    → IsKidAt at key i (get_or key.kids i d) u
kid_stands at n t key i u d (own, ns, has, of, stand) there low is =
    let same : own ≡ key = same_Some own key (sym has ∙ there) in
    let is_key : IsKeyOf t ns key = subst (IsKeyOf t ns) same of in
    let long : length (kids_in key) ≡ count t.kids =
    ap length is_key.kids ∙ length-numbered t.kids ns is_key.numbers in
    let inside : get_or (kids_in key) i d ≡ get_or key.kids i d =
    get_or-take key.len key.kids i d (omega (arith, is_key.len, low)) in
    record {
      within = omega (arith, length-take key.len key.kids, long, low);
      among = subst (Contains (kids_in key)) inside
          (Contains-get_or (kids_in key) i d (omega (arith, long, low)));
      stands = subst (λ (k : Kid). Stands at k.node u)
          (ap (λ (l : List Kid). get_or l i d) (sym is_key.kids) ∙ inside)
          (numbered_kid_stands at t.kids ns i u d stand is);
    }

-- a number that stands for a tree has a key, with as many kids
pub length_of_key : (at : KeyAt) (n : ℕ) (t : Tree) (key : NodeKey) → Stands at n t → at n ≡ Some key
    → key.len ≡ count t.kids
length_of_key at n t key (own, ns, has, of, stand) there =
    ap (λ (k : NodeKey). k.len) (same_Some key own (sym there ∙ has)) ∙ of.len
