-- Places that rise, and requests that come in order.
use Rattle.std.proofs.Common.{◌≡◌, ℕ, ◌≤◌, ◌<◌, List, [], ◌∷◌, ◌++◌, refl, sym, ◌∙◌, subst, arith}
use Rattle.trace_session.specs.Served.{Served, Rise}
use Rattle.trace_session.specs.Session.{ComeInOrder}

pub Rise-from : (n m : ℕ) (block : List ℕ) (o : ℕ) → n ≤ m → Rise m block o → Rise n block o
Rise-from n m [] o below r = omega (arith, below, r)
Rise-from n m (k ∷ ks) o below r = (omega (arith, below, r.0), r.1)

-- one place more
pub Rise-push : (n m : ℕ) (block : List ℕ) (k : ℕ) → Rise n block m → m < k → Rise n (block ++ k ∷ []) k
Rise-push n m [] k r below = (omega (arith, r, below), omega arith)
Rise-push n m (j ∷ js) k r below = (r.0, Rise-push j m js k r.1 below)

-- two blocks, one behind the other
pub Rise-append : (n m o : ℕ) (block block' : List ℕ) → Rise n block m → Rise m block' o
    → Rise n (block ++ block') o
Rise-append n m o [] block' r s = Rise-from n m block' o r s
Rise-append n m o (k ∷ ks) block' r s = (r.0, Rise-append k m o ks block' r.1 s)

-- one request more
pub ComeInOrder-push : (n m o : ℕ) (served : List Served) (x : Served) → ComeInOrder n served m → x.before ≡ m
    → Rise m x.block o → ComeInOrder n (served ++ x ∷ []) o
ComeInOrder-push n m o [] x order is r =
    (is ∙ sym order, o, subst (λ (k : ℕ). Rise k x.block o) (sym order) r, refl)
ComeInOrder-push n m o (y ∷ ys) x order is r =
    (order.0, order.1, order.2, ComeInOrder-push order.1 m o ys x order.3 is r)
