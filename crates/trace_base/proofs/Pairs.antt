-- The pairs of a matrix are those that have a message.
use Rattle.std.proofs.Common.{◌≡◌, ℕ, List, map, ap, ◌∙◌}
use Rattle.std.specs.Cmp.{IsTotalOrder, on_total, then_total}
use Rattle.std.specs.FinMap.{nat_cmp-IsAntisymmetric}
use Rattle.std.specs.List.{Contains}
use Rattle.std.specs.Ordering.{nat_cmp}
use Rattle.std.specs.declared.cmp.Ordering.TheVariants.{Equal}
use Rattle.std.proofs.lemmas.Cmp.{nat_cmp_total}
use Rattle.list_lemmas.proofs.InOrder.{rising-unique}
use Rattle.list_lemmas.proofs.Orderings.{then-Equal}
use Rattle.trace_base.proofs.InOrder.{distinct-rising}
use Rattle.trace_base.specs.InOrder.{IsRisingListOf}
use Rattle.trace_base.specs.Matrix.{pair_cmp, pair_of, pairs_of}
use Rattle.trace_base.specs.declared.messages.Message.{Message}

pub pair_cmp-total : IsTotalOrder pair_cmp
pair_cmp-total = then_total (on_total (λ (p : ℕ × ℕ). p.0) nat_cmp_total)
    (on_total (λ (p : ℕ × ℕ). p.1) nat_cmp_total)

pair_cmp-Equal : (p q : ℕ × ℕ) → pair_cmp p q ≡ Equal → p ≡ q
pair_cmp-Equal (a, b) (c, d) h =
    let both = then-Equal (nat_cmp a c) (nat_cmp b d) h in
    let first : a ≡ c = nat_cmp-IsAntisymmetric a c both.0 in
    let second : b ≡ d = nat_cmp-IsAntisymmetric b d both.1 in
    ap (λ (x : ℕ). let p : ℕ × ℕ = (x, b) in p) first ∙ ap (λ (y : ℕ). let p : ℕ × ℕ = (c, y) in p) second

pub pairs_of-rising : (messages : List Message)
    → IsRisingListOf pair_cmp (Contains (map pair_of messages)) (pairs_of messages)
unfolding pairs_of
pairs_of-rising messages = distinct-rising pair_cmp pair_cmp-total pair_cmp-Equal
    (Contains (map pair_of messages)) (map pair_of messages) (λ p. (λ c. c, λ c. c))

pub pairs_of-only : (messages : List Message) (pairs : List (ℕ × ℕ))
    → IsRisingListOf pair_cmp (Contains (map pair_of messages)) pairs → pairs ≡ pairs_of messages
pairs_of-only messages pairs h =
    let known = pairs_of-rising messages in
    rising-unique pair_cmp pair_cmp-total pairs (pairs_of messages) h.rises known.rises
    (λ p c. (known.exact p).1 ((h.exact p).0 c))
    (λ p c. (h.exact p).1 ((known.exact p).0 c))
