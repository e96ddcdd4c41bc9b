use Rattle.std.proofs.Common.{◌≡◌, ℕ, Contains, IsSome, sym, subst, refl}
use Rattle.std.proofs.lemmas.Result.{IfOk-weaker}
use Rattle.node_key.specs.Keys.{IsKeyOf}
use Rattle.node_key.specs.Stakes.{IsOverStakes}
use Rattle.node_key.specs.Stands.{Stands}
use Rattle.node_key.specs.declared.key.NodeKey.{NodeKey}
use Rattle.node_key.specs.declared.stake.Stake.{Stake as Staked}
use Rattle.store_laws.specs.Store.{key_in}
use Rattle.hall_core.specs.Answering.{WouldFree}
use Rattle.hall_core.proofs.StakesGivenBack.{key-is, node-of, would-free-kids, would-free-none}
use Rattle.hall_core.proofs.nodes.freed.Goals as goal

pub count-requires : goal.count-requires
count-requires c =
    let (x, has, on) = c.requires.there in
    let node = node-of c.args.rooms.now c.args.n x.tree
    (subst (λ (m : ℕ). Stands (key_in c.args.rooms.now) m x.tree) on (c.requires.store x has)) in
    subst IsSome (sym node.there) refl

pub returns-then-count-gt1 : goal.returns-then-count-gt1
returns-then-count-gt1 c x has on =
    would-free-none c.args.rooms.now x c.args.n c.count.result (c.requires.store x has) on c.count.ensures
    c.new.result.items c.if-count-gt1.true c.new.ensures.items

pub kid_stakes-requires : goal.kid_stakes-requires
kid_stakes-requires c =
    let t = c.in-Some.tree.now in
    let node = node-of c.args.rooms.now c.args.n t
    (c.requires.store (record { number = c.args.n; tree = t }) c.in-Some.ensures.some) in (
      node.numbers,
      subst (λ (k : NodeKey). IsKeyOf t node.numbers k)
          (key-is c.args.rooms.now c.args.n c.node.result node.stored c.node.ensures node.there) node.key_of,
    )

pub returns : goal.returns
returns c =
    let t = c.in-Some.tree.now in
    let stands = c.requires.store (record { number = c.args.n; tree = t }) c.in-Some.ensures.some in
    IfOk-weaker c.kid_stakes.result (λ kids. IsOverStakes t kids.items c.node.result)
    (λ kids. (x : Staked) → Contains c.args.stakes.now x → x.number ≡ c.args.n
    → WouldFree c.args.rooms.now x kids.items)
    (λ kids over x has on. would-free-kids c.args.rooms.now x c.args.n c.count.result
    (c.requires.store x has) on c.count.ensures t c.node.result kids.items stands c.node.ensures
    c.if-count-gt1.false over) c.kid_stakes.ensures
