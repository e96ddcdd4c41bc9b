use Rattle.std.proofs.Common.{◌≡◌, ◌++◌, ◌∷◌, [], map, sym, ap, ◌∙◌, arith, subst}
use Rattle.std.specs.List.{range_with_len}
use Rattle.std.proofs.lemmas.List.FromFn.{map-range_with_len_more}
use Rattle.store_laws.specs.Store.{Store, empty_room, empty_store}
use Rattle.node_store.specs.Given.{Given, stakes_of}
use Rattle.node_store.specs.Kept.{AreKept, KeepsFor}
use Rattle.node_store.proofs.Keeping.{kept}
use Rattle.node_store.proofs.Starting.{none_staked, starts_for_none, starts_kept}
use Rattle.node_store.proofs.store.NodeStore.starting_at.Goals as goal

pub loop-room-preserved : goal.loop-room-preserved
loop-room-preserved c =
    c.in_ok-push.ensures.items
    ∙ (λ i. c.loop-room.invariant i ++ c.starting_at.ensures i ∷ [])
    ∙ sym (map-range_with_len_more (empty_room c.args.first) 0 c.loop-room.room c.loop-room.room
    (omega arith))

-- all rooms are there
whole : (c : goal.In_ok-given) → empty_store c.args.first ≡ c.loop-room.shards.items
whole c =
    let all : 16 ≡ c.loop-room.room = omega (arith, c.loop-room.auto.room-end, c.loop-room-test.false) in
    ap (λ n. map (empty_room c.args.first) (range_with_len 0 n)) all ∙ sym c.loop-room.invariant

pub invariant_of-result : goal.invariant_of-result
invariant_of-result c =
    subst (λ (rooms : Store). AreKept (kept rooms c.in_ok-given.given)) (whole c)
    (subst (λ (g : Given). AreKept (kept (empty_store c.args.first) g)) (sym c.in_ok-given.ensures)
    (starts_kept c.args.first c.requires))

pub returns-clause-stakes : goal.returns-clause-stakes
returns-clause-stakes c = ap stakes_of c.in_ok-given.ensures ∙ none_staked c.args.first

pub returns-clause-kept : goal.returns-clause-kept
returns-clause-kept c =
    subst (λ (rooms : Store). KeepsFor (kept rooms c.in_ok-given.given) []) (whole c)
    (subst (λ (g : Given). KeepsFor (kept (empty_store c.args.first) g) []) (sym c.in_ok-given.ensures)
    (starts_for_none c.args.first c.requires))

pub returns-clause-sound : goal.returns-clause-sound
returns-clause-sound c =
    subst (λ (rooms : Store). AreKept (kept rooms c.in_ok-given.given)) (whole c)
    (subst (λ (g : Given). AreKept (kept (empty_store c.args.first) g)) (sym c.in_ok-given.ensures)
    (starts_kept c.args.first c.requires))
