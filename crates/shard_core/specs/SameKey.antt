-- Equality of keys, as a test.
use Rattle.std.specs.Prelude.{◌≡◌, ◌≤◌, ◌↔◌, ◌+◌, ◌-◌, drop, replicate, sum_by, Bool, true, ◌&&◌}
use Rattle.std.specs.Prelude.{◌==◌, List, [], ◌∷◌, refl}
use Rattle.std.specs.Cmp.{IsEquivalence, and_equiv, on_equiv, nat_eq_equiv}
use Rattle.std.specs.Cmp.Lexicographic.{pointwise, lists_equiv}
use Rattle.std.proofs.Common.{ap, sym}
use Rattle.std.proofs.lemmas.Bool.{and_parts, eqb-true, true≢false}
use Rattle.std.proofs.Props.{props}
use base.Stored.{Coded-set}
use mathlib.Core.HLevel.{is_prop→PathP}
use Rattle.node_key.specs.declared.key.Kid.{Kid}
use Rattle.node_key.specs.declared.key.NodeKey.{NodeKey}
use Rattle.node_key.specs.declared.limits.TheConstants.{MAX_KIDS}
use Rattle.node_key.specs.contracts.key.Kid as kid
use Rattle.shard_core.specs.Digest.{digest}

Kid-set : IsSet Kid
Kid-set = Coded-set kid.the_row.coded

-- whether two kids are the same
abbrev pub same_kid : Kid → Kid → Bool
same_kid a b = a.gap == b.gap && (a.span == b.span && a.node == b.node)

-- whether two keys are the same
abbrev pub same_key : NodeKey → NodeKey → Bool
same_key a b = a.func == b.func && (a.dur == b.dur && (a.height == b.height && (a.len == b.len
    && pointwise same_kid a.kids b.kids)))

same_kid-equiv : IsEquivalence same_kid
same_kid-equiv = and_equiv (on_equiv (λ k. k.gap) nat_eq_equiv)
    (and_equiv (on_equiv (λ k. k.span) nat_eq_equiv) (on_equiv (λ k. k.node) nat_eq_equiv))

-- to be the same is an equivalence
pub same_key-equiv : IsEquivalence same_key
same_key-equiv = and_equiv (on_equiv (λ k. k.func) nat_eq_equiv)
    (and_equiv (on_equiv (λ k. k.dur) nat_eq_equiv)
    (and_equiv (on_equiv (λ k. k.height) nat_eq_equiv) (and_equiv (on_equiv (λ k. k.len) nat_eq_equiv)
    (on_equiv (λ k. k.kids) (lists_equiv same_kid-equiv)))))

same_kid-true : (a b : Kid) → same_kid a b ≡ true → a ≡ b
same_kid-true a b h =
    let one = and_parts (a.gap == b.gap) (a.span == b.span && a.node == b.node) h in
    let two = and_parts (a.span == b.span) (a.node == b.node) one.1 in
    let gap = eqb-true a.gap b.gap one.0 in
    let span = eqb-true a.span b.span two.0 in
    let node = eqb-true a.node b.node two.1 in
    λ i. record { gap = gap i; span = span i; node = node i }

same_kids-true : (xs ys : List Kid) → pointwise same_kid xs ys ≡ true → xs ≡ ys
same_kids-true [] [] h = refl
same_kids-true [] (y ∷ ys) h = absurd (true≢false (sym h))
same_kids-true (x ∷ xs) [] h = absurd (true≢false (sym h))
same_kids-true (x ∷ xs) (y ∷ ys) h =
    let parts = and_parts (same_kid x y) (pointwise same_kid xs ys) h in
    let first = same_kid-true x y parts.0 in
    let rest = same_kids-true xs ys parts.1 in
    λ i. first i ∷ rest i

-- keys that are the same are equal
pub same_key-true : (a b : NodeKey) → same_key a b ≡ true → a ≡ b
same_key-true a b h =
    let one = and_parts (a.func == b.func) _ h in
    let two = and_parts (a.dur == b.dur) _ one.1 in
    let three = and_parts (a.height == b.height) _ two.1 in
    let four = and_parts (a.len == b.len) _ three.1 in
    let func = eqb-true a.func b.func one.0 in
    let dur = eqb-true a.dur b.dur two.0 in
    let height = eqb-true a.height b.height three.0 in
    let len = eqb-true a.len b.len four.0 in
    let kids = same_kids-true a.kids b.kids four.1 in
    λ i. record {
      func = func i;
      dur = dur i;
      height = height i;
      len = len i;
      kids = kids i;
      few = is_prop→PathP (λ j. len j ≤ MAX_KIDS) (λ j. hlevel props) a.few b.few i;
      zero_past = is_prop→PathP (λ j. drop (len j) (kids j) ≡ replicate (MAX_KIDS - len j)
          (record { gap = 0; span = 0; node = 0 })) (λ j. hlevel (props, Kid-set)) a.zero_past b.zero_past i;
      leaf = is_prop→PathP (λ j. (height j ≡ 0) ↔ (len j ≡ 0)) (λ j. hlevel props) a.leaf b.leaf i;
      within = is_prop→PathP (λ j. sum_by (λ k. k.gap + k.span) (kids j) ≤ dur j) (λ j. hlevel props)
          a.within b.within i;
    }

-- so they have one digest
pub digest_of_same : (a b : NodeKey) → same_key a b ≡ true → digest a ≡ digest b
digest_of_same a b h = ap digest (same_key-true a b h)
