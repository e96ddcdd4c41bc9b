use Rattle.std.proofs.Common.{◌≡◌, Some, sym, ◌∙◌, ap, unwrap_or}
use Rattle.memo_rooms.proofs.WholeKept.{whole_empty, whole_filled, whole_grown, whole_looked}
use Rattle.memo_rooms.proofs.laws.memos_stay_whole.Goals as goal

pub returns-clause-empty : goal.returns-clause-empty
returns-clause-empty c tree_at = whole_empty (λ n t. tree_at n ≡ Some t)

pub returns-clause-looks : goal.returns-clause-looks
returns-clause-looks c tree_at = whole_looked (λ n t. tree_at n ≡ Some t)

pub returns-clause-fills : goal.returns-clause-fills
returns-clause-fills c tree_at old new n kind t is after whole = whole_filled (λ m u. tree_at m ≡ Some u)
    (λ m u v one other. ap (λ o. unwrap_or o u) (sym one ∙ other)) old new n kind t is after whole

pub returns-clause-trees : goal.returns-clause-trees
returns-clause-trees c tree_at now_at = whole_grown (λ n t. tree_at n ≡ Some t) (λ n t. now_at n ≡ Some t)
