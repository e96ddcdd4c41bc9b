-- Each of a list of trees once: it has the trees of the list, none of them twice.
use Rattle.std.proofs.Common.{◌≡◌, inl, inr, Bool, true, false, cond, nat_eq, List, [], ◌∷◌}
use Rattle.std.proofs.Common.{refl, sym, ap, ◌∙◌, subst, true≢false, eqb-true, eq-eqb}
use Rattle.std.specs.List.{list_any}
use Rattle.std.proofs.lemmas.Bool.{and_parts}
use Rattle.std.proofs.lemmas.Bool.{and_from, or_cases, or_left, or_right}
use Rattle.list_lemmas.proofs.Members.{IsAmong, IsApart}
use Rattle.node_key.specs.Keys.{different}
use Rattle.node_key.specs.Tree.{Tree, same_kids, same_tree}
use Rattle.node_key.proofs.StakeLaws.{same_kids-refl, same_kids-true}

-- trees that are the same are equal
pub same_tree-true : (t u : Tree) → same_tree t u ≡ true → t ≡ u
same_tree-true t u h =
    let two = and_parts _ (same_kids t.kids u.kids) h in
    let one = and_parts (nat_eq t.func u.func) (nat_eq t.dur u.dur) two.0 in
    let func = eqb-true t.func u.func one.0 in
    let dur = eqb-true t.dur u.dur one.1 in
    let kids = same_kids-true t.kids u.kids two.1 in
    λ i. record { func = func i; dur = dur i; kids = kids i }

pub same_tree_itself : (t : Tree) → same_tree t t ≡ true
same_tree_itself t =
    let one = and_from (nat_eq t.func t.func) (nat_eq t.dur t.dur) (eq-eqb _ _ refl) (eq-eqb _ _ refl) in
    and_from _ (same_kids t.kids t.kids) one (same_kids-refl t.kids)

among_same : (t : Tree) (ts : List Tree) → list_any (same_tree t) ts ≡ true → IsAmong ts t
among_same t [] h = absurd (true≢false (sym h))
among_same t (u ∷ ts) h = elim (or_cases (same_tree t u) (list_any (same_tree t) ts) h) [
  | inl here ↦ inl (sym (same_tree-true t u here))
  | inr later ↦ inr (among_same t ts later)
]

same_among : (t : Tree) (ts : List Tree) → IsAmong ts t → list_any (same_tree t) ts ≡ true
same_among t [] h = absurd h
same_among t (u ∷ ts) (inl e) = or_left (same_tree t u) (list_any (same_tree t) ts)
    (ap (same_tree t) e ∙ same_tree_itself t)
same_among t (u ∷ ts) (inr h) = or_right (same_tree t u) (list_any (same_tree t) ts) (same_among t ts h)

kept_by : (t : Tree) (ts : List Tree) (u : Tree) (b : Bool) → list_any (same_tree t) ts ≡ b
    → IsAmong (t ∷ ts) u → ((v : Tree) → IsAmong ts v → IsAmong (different ts) v)
    → IsAmong (cond b (different ts) (t ∷ different ts)) u
kept_by t ts u true is (inl e) rest = rest u (subst (IsAmong ts) e (among_same t ts is))
kept_by t ts u true is (inr h) rest = rest u h
kept_by t ts u false is (inl e) rest = inl e
kept_by t ts u false is (inr h) rest = inr (rest u h)

pub IsAmong-different : (ts : List Tree) (u : Tree) → IsAmong ts u → IsAmong (different ts) u
IsAmong-different [] u h = h
IsAmong-different (t ∷ ts) u h =
    kept_by t ts u (list_any (same_tree t) ts) refl h (λ v g. IsAmong-different ts v g)

had_by : (t : Tree) (ts : List Tree) (u : Tree) (b : Bool)
    → IsAmong (cond b (different ts) (t ∷ different ts)) u
    → (IsAmong (different ts) u → IsAmong ts u) → IsAmong (t ∷ ts) u
had_by t ts u true h rest = inr (rest h)
had_by t ts u false (inl e) rest = inl e
had_by t ts u false (inr h) rest = inr (rest h)

pub IsAmong-from_different : (ts : List Tree) (u : Tree) → IsAmong (different ts) u → IsAmong ts u
IsAmong-from_different [] u h = h
IsAmong-from_different (t ∷ ts) u h =
    had_by t ts u (list_any (same_tree t) ts) h (IsAmong-from_different ts u)

apart_by : (t : Tree) (ts : List Tree) (b : Bool) → list_any (same_tree t) ts ≡ b → IsApart (different ts)
    → IsApart (cond b (different ts) (t ∷ different ts))
apart_by t ts true is rest = rest
apart_by t ts false is rest = (
  λ h. true≢false (sym (same_among t ts (IsAmong-from_different ts t h)) ∙ is),
  rest,
)

pub IsApart-different : (ts : List Tree) → IsApart (different ts)
IsApart-different [] = tt
IsApart-different (t ∷ ts) = apart_by t ts (list_any (same_tree t) ts) refl (IsApart-different ts)
