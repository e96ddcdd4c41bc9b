use Rattle.std.proofs.Common.{◌≡◌, ◌∙◌, All, List, length, subst, sym, ap, rules}
use Rattle.std.specs.Result.{OnOk}
use Rattle.list_lemmas.proofs.Options.{either_way}
use Rattle.trace_base.specs.declared.profile.Row.{Row}
use Rattle.profile_math.specs.Sum.{RowFits, RisesByFunction}
use Rattle.profile_math.proofs.RowClosings.{found, missing, rises_with}
use Rattle.profile_math.proofs.flat.close_rows.Goals as goal

abbrev no_row : Row
no_row = record { func = 0; calls = 0; incl = 0; excl = 0 }

pub overflow_add-closed : goal.overflow_add-closed
overflow_add-closed c = let changed = found c.args.rows.now _ _ c.args.call c.in-Some.at no_row
    c.requires.ordered
    c.requires.fits c.as_slice.ensures c.as_slice-in-Some.ensures c.in-Some.ensures in
    let fits = changed.fits in search rules

pub overflow_add-closed-in-Some : goal.overflow_add-closed-in-Some
overflow_add-closed-in-Some c = let changed = found c.args.rows.now _ _ c.args.call c.in-Some.at no_row
    c.requires.ordered
    c.requires.fits c.as_slice.ensures c.as_slice-in-Some.ensures c.in-Some.ensures in
    let fits = changed.fits in search rules

pub returns-in-Some-clause-ok : goal.returns-in-Some-clause-ok
returns-in-Some-clause-ok c = let changed = found c.args.rows.now _ _ c.args.call c.in-Some.at no_row
    c.requires.ordered
    c.requires.fits c.as_slice.ensures c.as_slice-in-Some.ensures c.in-Some.ensures
    in c.set.ensures ∙ changed.is

pub returns-in-Some-clause-ordered : goal.returns-in-Some-clause-ordered
returns-in-Some-clause-ordered c = let changed = found c.args.rows.now _ _ c.args.call c.in-Some.at no_row
    c.requires.ordered c.requires.fits c.as_slice.ensures c.as_slice-in-Some.ensures c.in-Some.ensures in
    subst RisesByFunction (sym c.set.ensures) changed.rises

pub add_rows-requires : goal.add_rows-requires
add_rows-requires c = subst (All RowFits) (sym ((missing c.args.rows.now _ c.args.call c.requires.ordered
    c.as_slice.ensures c.in-None.ensures).0 (sym c.holds_anything.ensures ∙ c.if-holds_anything.true)))
    c.requires.fits

pub returns-in-None-clause-ok : goal.returns-in-None-clause-ok
returns-in-None-clause-ok c = let is = (missing c.args.rows.now _ c.args.call c.requires.ordered
    c.as_slice.ensures c.in-None.ensures).0 (sym c.holds_anything.ensures ∙ c.if-holds_anything.true) in
    subst (λ (us : List Row). OnOk c.add_rows.result (c.add_rows.new.rows ≡ us)) is c.add_rows.ensures.ok

pub returns-in-None-clause-in_place : goal.returns-in-None-clause-in_place
returns-in-None-clause-in_place c = λ e. c.add_rows.ensures.in_place
    (ap length ((missing c.args.rows.now _ c.args.call
    c.requires.ordered c.as_slice.ensures c.in-None.ensures).0 (sym c.holds_anything.ensures
    ∙ c.if-holds_anything.true)) ∙ e)

pub returns-in-None-2-clause-ok : goal.returns-in-None-2-clause-ok
returns-in-None-2-clause-ok c = (missing c.args.rows.now _ c.args.call c.requires.ordered
    c.as_slice.ensures c.in-None.ensures).1 (sym c.holds_anything.ensures ∙ c.if-holds_anything.false)

pub returns-in-None-clause-ordered : goal.returns-in-None-clause-ordered
returns-in-None-clause-ordered c = either_way RisesByFunction c.add_rows.result c.add_rows.new.rows _
    c.args.rows.now
    c.add_rows.ensures.ok c.add_rows.ensures.err (rises_with c.args.rows.now c.args.call c.requires.ordered)
    c.requires.ordered
