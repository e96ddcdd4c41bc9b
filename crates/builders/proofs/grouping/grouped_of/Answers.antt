use Rattle.std.proofs.Common.{◌≡◌, ◌+◌, ◌-◌, ◌∙◌, ◌≤◌, List, ap, arith, min, take, drop, refl, length}
use Rattle.std.proofs.Common.{take_all, ℕ, [], Err}
use Rattle.std.proofs.lemmas.List.{length-drop}
use Rattle.node_key.specs.Bound.{grouped}
use Rattle.hall_trait.specs.View.{Account}
use Rattle.builders.specs.Built.{items_in, stakes_held}
use Rattle.builders.specs.Builds.{nodes_in}
use Rattle.builders.specs.declared.built.BuiltItem.{BuiltItem}
use Rattle.builders.proofs.Bags.{exchanges-then}
use Rattle.builders.proofs.GroupingItems.{GroupingItems-end, GroupingItems-more, GroupingItems-start}
use Rattle.builders.proofs.GroupingItems.{GroupingItems-work, chunk_is, refused-work}
use Rattle.builders.proofs.CountingNodes.{work-refused}
use Rattle.builders.proofs.GroupingItems.{Split-chunk, refused-front, refused-groups, refused-left}
use Rattle.builders.proofs.BuildingViews.{building_then, refused_then, working_same, working_then}
use Rattle.builders.proofs.KeepingOthers.{others_more}
use Rattle.builders.proofs.Spending.{spends_later}
use Rattle.hall_trait.proofs.Views.{goes_on_then}
use Rattle.builders.proofs.grouping.grouped_of.Goals as goal

pub chunks-init : goal.chunks-init
chunks-init g c = record {
  grouping = GroupingItems-start (g.H.Hall.view c.args.hall.now).seat
      (g.H.Hall.view c.args.hall.now).account.work c.args.items
      c.into_vec-list.result.items c.len-number.result c.into_vec-list.ensures c.len-number.ensures;
  reach = λ stored held by_what n t has led. led;
  rest = working_same (g.H.Hall.view c.args.hall.now);
}

-- what is grouped next, in the form of the code
next_chunk : (list now : List BuiltItem) (number from few : ℕ) → now ≡ list → length list ≡ number
    → few ≡ min 8 (number - from) → from ≤ number
    → take (from + few - from) (drop from now) ≡ take 8 (drop from list)
next_chunk list now number from few e n is h =
    ap (λ (bs : List BuiltItem). take (from + few - from) (drop from bs)) e
    ∙ chunk_is list number from (from + few) n (ap (λ (k : ℕ). from + k) is) h

-- the items that are left, in the form of the code
left_is : (list now : List BuiltItem) (from : ℕ) → now ≡ list
    → take (length now - from) (drop from now) ≡ drop from list
left_is list now from e =
    take_all (length now - from) (drop from now) (omega (arith, length-drop from now))
    ∙ ap (λ (bs : List BuiltItem). drop from bs) e

pub group_of-requires-clause-held : goal.group_of-requires-clause-held
group_of-requires-clause-held g c =
    let here = c.chunks.invariant.grouping in
    let s = here.parts c.requires.0 c.requires.1 in (
      take 8 s.left,
      Split-chunk (g.H.Hall.view c.args.hall.now).seat (g.H.Hall.view c.chunks.hall).seat
          (g.H.Hall.view c.args.hall.now).account.work (g.H.Hall.view c.chunks.hall).account.work
          c.args.items c.chunks.list.items _
          c.requires.0 c.chunks.groups c.chunks.from c.requires.1 s
          (next_chunk c.chunks.list.items c.deref.result.now c.len-number.result c.chunks.from c.min.result
          c.deref.ensures.value here.size c.min.ensures here.back),
    )

pub chunks-preserved : goal.chunks-preserved
chunks-preserved g c =
    let here = c.chunks.invariant.grouping in
    let is = next_chunk c.chunks.list.items c.deref.result.now c.len-number.result c.chunks.from c.min.result
    c.deref.ensures.value here.size c.min.ensures here.back in
    let grouping = GroupingItems-more (g.H.Hall.view c.args.hall.now).seat (g.H.Hall.view c.chunks.hall).seat
    (g.H.Hall.view c.group_of.new.hall).seat (g.H.Hall.view c.args.hall.now).account.work
    (g.H.Hall.view c.chunks.hall).account.work
    (g.H.Hall.view c.group_of.new.hall).account.work c.args.items c.chunks.list.items _ _
    c.len-number.result
    c.chunks.groups c.chunks.from _ c.in-Ok.group here c.chunks-test.true
    (ap (λ (k : ℕ). c.chunks.from + k) c.min.ensures) is refl c.in-Ok.ensures.answer
    c.in-Ok.ensures.work in
    record {
      grouping = grouping;
      reach = λ stored held. others_more (g.H.Hall.view c.args.hall.now).seat
          (g.H.Hall.view c.group_of.new.hall).seat (stakes_held stored) _ (g.H.Hall.reaches c.args.hall.now)
          (g.H.Hall.reaches c.chunks.hall) (g.H.Hall.reaches c.group_of.new.hall)
          (grouping.parts stored held).exchanged (c.chunks.invariant.reach stored held) c.in-Ok.ensures.reach;
      rest = working_then (g.H.Hall.view c.args.hall.now) (g.H.Hall.view c.chunks.hall)
          (g.H.Hall.view c.group_of.new.hall) c.chunks.invariant.rest c.in-Ok.ensures.rest;
    }

pub returns-clause-answer : goal.returns-clause-answer
returns-clause-answer g c stored held =
    GroupingItems-end (g.H.Hall.view c.args.hall.now).seat (g.H.Hall.view c.chunks.hall).seat
    (g.H.Hall.view c.args.hall.now).account.work (g.H.Hall.view c.chunks.hall).account.work c.args.items
    c.chunks.list.items
    c.from_vec.result c.len-number.result c.chunks.groups c.chunks.from c.chunks.invariant.grouping
    (omega arith)
    (c.from_vec.ensures ∙ c.truncate.ensures.items) stored held

pub release_all-requires : goal.release_all-requires
release_all-requires g c =
    let here = c.chunks.invariant.grouping in
    let kept = refused-front (g.H.Hall.view c.args.hall.now).seat (g.H.Hall.view c.chunks.hall).seat
    (g.H.Hall.view c.group_of.new.hall).seat (g.H.Hall.view c.args.hall.now).account.work
    (g.H.Hall.view c.chunks.hall).account.work
    c.args.items
    c.chunks.list.items _ c.len-number.result c.chunks.groups c.chunks.from here
    (next_chunk c.chunks.list.items c.deref.result.now c.len-number.result c.chunks.from c.min.result
    c.deref.ensures.value here.size c.min.ensures here.back) c.in-Err.ensures.answer c.requires.0 c.requires.1
    in (
      kept.0,
      refused-groups (g.H.Hall.view c.group_of.new.hall).seat _ kept.0 kept.1
          (ap (λ (bs : List BuiltItem). take c.chunks.groups bs) c.deref-in-Err.ensures.value ∙ kept.2)
          kept.5,
    )

pub release_all-requires-in-Err : goal.release_all-requires-in-Err
release_all-requires-in-Err g c =
    let here = c.chunks.invariant.grouping in
    let kept = refused-front (g.H.Hall.view c.args.hall.now).seat (g.H.Hall.view c.chunks.hall).seat
    (g.H.Hall.view c.group_of.new.hall).seat (g.H.Hall.view c.args.hall.now).account.work
    (g.H.Hall.view c.chunks.hall).account.work
    c.args.items
    c.chunks.list.items _ c.len-number.result c.chunks.groups c.chunks.from here
    (next_chunk c.chunks.list.items c.deref.result.now c.len-number.result c.chunks.from c.min.result
    c.deref.ensures.value here.size c.min.ensures here.back) c.in-Err.ensures.answer c.requires.0 c.requires.1
    in
    let first = c.release_all.ensures.gone kept.0 (refused-groups (g.H.Hall.view c.group_of.new.hall).seat _
    kept.0
    kept.1
    (ap (λ (bs : List BuiltItem). take c.chunks.groups bs) c.deref-in-Err.ensures.value ∙ kept.2) kept.5) in (
      kept.1,
      (refused-left (g.H.Hall.view c.args.hall.now).seat (g.H.Hall.view c.group_of.new.hall).seat
          (g.H.Hall.view c.release_all.new.hall).seat (stakes_held c.requires.0) _ kept.0 kept.1
          (left_is c.chunks.list.items c.deref-in-Err-2.result.now c.chunks.from
          c.deref-in-Err-2.ensures.value
          ∙ kept.3) kept.4 kept.5 first).0,
    )

pub returns-in-Err-clause-answer : goal.returns-in-Err-clause-answer
returns-in-Err-clause-answer g c stored held =
    let here = c.chunks.invariant.grouping in
    let kept = refused-front (g.H.Hall.view c.args.hall.now).seat (g.H.Hall.view c.chunks.hall).seat
    (g.H.Hall.view c.group_of.new.hall).seat (g.H.Hall.view c.args.hall.now).account.work
    (g.H.Hall.view c.chunks.hall).account.work
    c.args.items
    c.chunks.list.items _ c.len-number.result c.chunks.groups c.chunks.from here
    (next_chunk c.chunks.list.items c.deref.result.now c.len-number.result c.chunks.from c.min.result
    c.deref.ensures.value here.size c.min.ensures here.back) c.in-Err.ensures.answer stored held in
    let first = c.release_all.ensures.gone kept.0 (refused-groups (g.H.Hall.view c.group_of.new.hall).seat _
    kept.0
    kept.1
    (ap (λ (bs : List BuiltItem). take c.chunks.groups bs) c.deref-in-Err.ensures.value ∙ kept.2) kept.5) in
    let second = refused-left (g.H.Hall.view c.args.hall.now).seat (g.H.Hall.view c.group_of.new.hall).seat
    (g.H.Hall.view c.release_all.new.hall).seat (stakes_held stored) _ kept.0 kept.1
    (left_is c.chunks.list.items c.deref-in-Err-2.result.now c.chunks.from c.deref-in-Err-2.ensures.value
    ∙ kept.3) kept.4 kept.5 first in
    exchanges-then (g.H.Hall.view c.args.hall.now).seat (g.H.Hall.view c.release_all.new.hall).seat
    (g.H.Hall.view c.release_all-in-Err.new.hall).seat (stakes_held stored) (stakes_held kept.1) [] second.1
    (c.release_all-in-Err.ensures.gone kept.1 second.0)

pub returns-in-Err-clause-spent : goal.returns-in-Err-clause-spent
returns-in-Err-clause-spent g c =
    spends_later (g.H.Hall.view c.group_of.new.hall).rooms (g.H.Hall.view c.release_all-in-Err.new.hall).rooms
    c.in-Err.fault
    (goes_on_then (g.H.Hall.view c.group_of.new.hall) (g.H.Hall.view c.release_all.new.hall)
    (g.H.Hall.view c.release_all-in-Err.new.hall) c.release_all.ensures.rest
    c.release_all-in-Err.ensures.rest).rooms c.in-Err.ensures.spent

pub returns-clause-work : goal.returns-clause-work
returns-clause-work g c stored held =
    GroupingItems-work (g.H.Hall.view c.args.hall.now).seat (g.H.Hall.view c.chunks.hall).seat
    (g.H.Hall.view c.args.hall.now).account.work (g.H.Hall.view c.chunks.hall).account.work c.args.items
    c.chunks.list.items
    c.from_vec.result c.len-number.result c.chunks.groups c.chunks.from c.chunks.invariant.grouping
    (omega arith) stored held

pub returns-in-Err-clause-work : goal.returns-in-Err-clause-work
returns-in-Err-clause-work g c stored held =
    let here = c.chunks.invariant.grouping in
    work-refused (g.H.Hall.view c.args.hall.now).account.work (g.H.Hall.view c.group_of.new.hall).account.work
    (g.H.Hall.view c.release_all-in-Err.new.hall).account.work (nodes_in (items_in stored))
    (nodes_in (grouped (items_in stored)))
    (refused-work (g.H.Hall.view c.args.hall.now).seat (g.H.Hall.view c.chunks.hall).seat
    (g.H.Hall.view c.args.hall.now).account.work (g.H.Hall.view c.chunks.hall).account.work
    (g.H.Hall.view c.group_of.new.hall).account.work
    c.args.items c.chunks.list.items _ c.len-number.result c.chunks.groups c.chunks.from c.in-Err.fault here
    c.chunks-test.true
    (next_chunk c.chunks.list.items c.deref.result.now c.len-number.result c.chunks.from c.min.result
    c.deref.ensures.value here.size c.min.ensures here.back) c.in-Err.ensures.work stored held)
    (ap (λ (a : Account). a.work)
    (c.release_all-in-Err.ensures.rest.account ∙ c.release_all.ensures.rest.account))

pub returns-in-Err-clause-rest : goal.returns-in-Err-clause-rest
returns-in-Err-clause-rest g c =
    refused_then (g.H.Hall.view c.args.hall.now) (g.H.Hall.view c.group_of.new.hall)
    (g.H.Hall.view c.release_all-in-Err.new.hall) c.in-Err.fault
    (building_then {X = ℕ} (g.H.Hall.view c.args.hall.now) (g.H.Hall.view c.chunks.hall)
    (g.H.Hall.view c.group_of.new.hall) (Err c.in-Err.fault) c.chunks.invariant.rest c.in-Err.ensures.rest)
    (goes_on_then (g.H.Hall.view c.group_of.new.hall) (g.H.Hall.view c.release_all.new.hall)
    (g.H.Hall.view c.release_all-in-Err.new.hall) c.release_all.ensures.rest
    c.release_all-in-Err.ensures.rest)

pub returns-clause-reach : goal.returns-clause-reach
returns-clause-reach g c = c.chunks.invariant.reach

pub returns-in-Err-clause-reach : goal.returns-in-Err-clause-reach
returns-in-Err-clause-reach g c stored held =
    let here = c.chunks.invariant.grouping in
    let old = (g.H.Hall.view c.args.hall.now).seat in
    let kept = refused-front (g.H.Hall.view c.args.hall.now).seat (g.H.Hall.view c.chunks.hall).seat
    (g.H.Hall.view c.group_of.new.hall).seat (g.H.Hall.view c.args.hall.now).account.work
    (g.H.Hall.view c.chunks.hall).account.work c.args.items c.chunks.list.items _ c.len-number.result
    c.chunks.groups c.chunks.from here
    (next_chunk c.chunks.list.items c.deref.result.now c.len-number.result c.chunks.from c.min.result
    c.deref.ensures.value here.size c.min.ensures here.back) c.in-Err.ensures.answer stored held in
    let first = c.release_all.ensures.gone kept.0
    (refused-groups (g.H.Hall.view c.group_of.new.hall).seat _ kept.0 kept.1
    (ap (λ (bs : List BuiltItem). take c.chunks.groups bs) c.deref-in-Err.ensures.value ∙ kept.2) kept.5) in
    let second = refused-left (g.H.Hall.view c.args.hall.now).seat (g.H.Hall.view c.group_of.new.hall).seat
    (g.H.Hall.view c.release_all.new.hall).seat (stakes_held stored) _ kept.0 kept.1
    (left_is c.chunks.list.items c.deref-in-Err-2.result.now c.chunks.from c.deref-in-Err-2.ensures.value
    ∙ kept.3) kept.4 kept.5 first in
    let asked = others_more old (g.H.Hall.view c.group_of.new.hall).seat (stakes_held stored) _
    (g.H.Hall.reaches c.args.hall.now) (g.H.Hall.reaches c.chunks.hall) (g.H.Hall.reaches c.group_of.new.hall)
    kept.4 (c.chunks.invariant.reach stored held) c.group_of.ensures.reach in
    let groups = others_more old (g.H.Hall.view c.release_all.new.hall).seat (stakes_held stored)
    (stakes_held kept.1) (g.H.Hall.reaches c.args.hall.now) (g.H.Hall.reaches c.group_of.new.hall)
    (g.H.Hall.reaches c.release_all.new.hall) second.1 asked c.release_all.ensures.reach in
    others_more old (g.H.Hall.view c.release_all-in-Err.new.hall).seat (stakes_held stored) []
    (g.H.Hall.reaches c.args.hall.now) (g.H.Hall.reaches c.release_all.new.hall)
    (g.H.Hall.reaches c.release_all-in-Err.new.hall) (returns-in-Err-clause-answer g c stored held) groups
    c.release_all-in-Err.ensures.reach
