use Rattle.std.proofs.Common.{◌∙◌, [], ◌∷◌, arith, get_or, refl, subst, sym, take, true≢false}
use Rattle.std.proofs.lemmas.List.Elements.{All-more}
use Rattle.node_key.specs.Stakes.{stake}
use Rattle.node_key.specs.declared.key.Kid.{Kid}
use Rattle.store_laws.specs.Reached.{IsReached}
use Rattle.store_laws.specs.Store.{key_in}
use Rattle.hall_core.proofs.ReachOneStake.{NoKidLeads, kid_has_fewer_nodes, kid_stands, leads_nowhere}
use Rattle.hall_core.proofs.ReachOneStake.{length_of_key, other_tree, reached_by_kid, reached_itself}
use Rattle.hall_core.proofs.reach.+leads.Goals as goal

abbrev none : Kid
none = record { gap = 0; span = 0; node = 0 }

pub returns-then-n-target : goal.returns-then-n-target
returns-then-n-target t c = (
  λ _. reached_itself c.args.rooms.now c.args.n c.args.tree.now c.args.target c.if-n-target.true,
  λ _. refl,
)

pub leads-requires : goal.leads-requires
leads-requires t c =
    let here = kid_stands (key_in c.args.rooms.now) c.args.n c.args.tree.now c.node-key.result c.loop-i.i
    c.kid.result.now none c.requires c.node-key.ensures (omega (arith, c.len-i-end.ensures.value))
    c.kid.ensures in (
      omega (
        arith,
        kid_has_fewer_nodes c.args.tree.now.kids c.loop-i.i c.kid.result.now c.kid.ensures,
        c.decreases,
      ),
      here.stands,
    )

pub returns-then-leads : goal.returns-then-leads
returns-then-leads t c =
    let here = kid_stands (key_in c.args.rooms.now) c.args.n c.args.tree.now c.node-key.result c.loop-i.i
    c.kid.result.now none c.requires c.node-key.ensures (omega (arith, c.len-i-end.ensures.value))
    c.kid.ensures in (
      λ _. reached_by_kid c.args.rooms.now c.args.n c.args.tree.now c.kid.result.now c.node-key.result
          (get_or c.node-key.result.kids c.loop-i.i none) c.args.target c.node-key.ensures here.among
          (c.leads.ensures.0 c.if-leads.true),
      λ _. refl,
    )

pub loop-i-preserved : goal.loop-i-preserved
loop-i-preserved t c =
    let k = get_or c.node-key.result.kids c.loop-i.i none in
    let here = kid_stands (key_in c.args.rooms.now) c.args.n c.args.tree.now c.node-key.result c.loop-i.i
    c.kid.result.now none c.requires c.node-key.ensures (omega (arith, c.len-i-end.ensures.value))
    c.kid.ensures in
    All-more (λ (j : Kid). ¬ IsReached c.args.rooms.now (stake j.node c.args.tree.now ∷ []) c.args.target)
    c.node-key.result.kids c.loop-i.i none here.within c.loop-i.invariant
    (λ reaches. true≢false (sym (c.leads.ensures.1
    (other_tree c.args.rooms.now k.node c.args.tree.now c.kid.result.now c.args.target reaches))
    ∙ c.if-leads.false))

pub returns : goal.returns
returns t c =
    let long = length_of_key (key_in c.args.rooms.now) c.args.n c.args.tree.now c.node-key.result c.requires
    c.node-key.ensures in
    let all = subst (λ n. NoKidLeads c.args.rooms.now c.args.tree.now c.args.target
    (take n c.node-key.result.kids))
    (omega (arith, long, c.len-i-end.ensures.value)) c.loop-i.invariant in (
      λ is. absurd (true≢false (sym is)),
      λ reaches. absurd (leads_nowhere c.args.rooms.now c.args.n c.args.tree.now c.node-key.result
          c.args.target c.node-key.ensures c.if-n-target.false all reaches),
    )
