use Rattle.std.proofs.Common.{◌∙◌, ◌++◌, ap₂, sym}
use Rattle.hall_core.proofs.SeatsMoved.{moved, stayed}
use Rattle.hall_core.proofs.seats.move_stakes.Goals as goal

pub returns-clause-moved : goal.returns-clause-moved
returns-clause-moved c a b at at' done =
    let ok = sym c.is_ok-done.ensures.value ∙ done in
    moved c.args.seats.now.items c.args.from c.args.to c.index_mut.result.now c.index_mut-4.result.now
    c.index_mut-2.result.now c.index_mut-3.result.now c.replace.new.dest c.replace-2.new.dest
    c.from_vec.result c.from_vec-2.result c.requires.apart c.requires.there.0 c.requires.there.1
    c.index_mut.ensures.value c.index_mut-2.ensures.value c.index_mut-3.ensures.value
    c.index_mut-4.ensures.value a b at at'
    (c.from_vec-2.ensures ∙ rw ok at c.append.ensures.other_items)
    (c.from_vec.ensures ∙ rw ok at c.append.ensures.items
    ∙ ap₂ (λ xs ys. xs ++ ys) (c.into_vec-list.ensures ∙ c.replace-2.ensures.value)
    (c.into_vec-moved.ensures ∙ c.replace.ensures.value))

pub returns-clause-same : goal.returns-clause-same
returns-clause-same c done =
    let ok = sym c.is_ok-done.ensures.value ∙ done in
    stayed c.args.seats.now.items c.args.from c.args.to c.index_mut.result.now c.index_mut-4.result.now
    c.index_mut-2.result.now c.index_mut-3.result.now c.replace.new.dest c.replace-2.new.dest
    c.from_vec.result c.from_vec-2.result c.requires.apart c.requires.there.0 c.requires.there.1
    c.index_mut.ensures.value c.index_mut-2.ensures.value c.index_mut-3.ensures.value
    c.index_mut-4.ensures.value
    (c.from_vec-2.ensures ∙ rw ok at c.append.ensures.other_items ∙ c.into_vec-moved.ensures
    ∙ c.replace.ensures.value)
    (c.from_vec.ensures ∙ rw ok at c.append.ensures.items ∙ c.into_vec-list.ensures
    ∙ c.replace-2.ensures.value)
