-- What stakes reach in a store that is made of a list of nodes.
use Rattle.std.proofs.Common.{◌≡◌, ℕ, ◌==◌, true, List, sym, ◌∙◌}
use Rattle.std.specs.List.{list_any}
use Rattle.list_lemmas.proofs.All.{Each, Each-at}
use Rattle.node_key.specs.declared.stake.Stake.{Stake}
use Rattle.store_laws.specs.Reached.{IsReached, below, staked}
use Rattle.store_laws.specs.Store.{kids_in}
use Rattle.hall_core.specs.Examples.{rooms_with}
use Rattle.hall_core.proofs.SampleRooms.{Nodes, found_is, node_in-rooms_with}

-- Where some numbers are those of all stakes and of all kids, what is reached has one of them.
pub reached_among : (nodes : Nodes) (held : List Stake) (ns : List ℕ) (n : ℕ)
    → Each (λ x. list_any (λ m. m == x.number) ns ≡ true) held
    → Each (λ e. Each (λ k. list_any (λ m. m == k.node) ns ≡ true) (kids_in e.1.key)) nodes
    → IsReached (rooms_with nodes) held n → list_any (λ m. m == n) ns ≡ true
reached_among nodes held ns n on_stakes on_kids (staked x has) =
    Each-at (λ y. list_any (λ m. m == y.number) ns ≡ true) held x on_stakes has
reached_among nodes held ns n on_stakes on_kids (below up s k reached is has) =
    Each-at (λ c. list_any (λ m. m == c.node) ns ≡ true) (kids_in s.key) k
    (found_is (λ e. Each (λ c. list_any (λ m. m == c.node) ns ≡ true) (kids_in e.1.key)) nodes up s on_kids
    (sym (node_in-rooms_with nodes up) ∙ is)) has
