use Rattle.std.proofs.Common.{◌∙◌, ◌<◌, ◌+◌, ◌^◌, All, List, length, subst, sym, ap, sum_by, rules}
use Rattle.std.proofs.lemmas.Bool.{false≢true}
use Rattle.trace_base.specs.declared.profile.Row.{Row}
use Rattle.profile_math.specs.Closing.{call_row, closed_rows}
use Rattle.profile_math.specs.Sum.{RowFits}
use Rattle.profile_math.proofs.RowClosings.{call_is, call-incl, closed-rows, closed_is}
use Rattle.profile_math.proofs.flat.ProfileSums.close_over.Goals as goal

pub time_in_calls-requires : goal.time_in_calls-requires
time_in_calls-requires c =
    let p = c.args.self.now in
    let small : p.bare + sum_by (λ (r : Row). r.excl) p.rows < 2 ^ 128 =
    call-incl p.rows (call_row c.args.func c.args.begun p)
    (subst (All RowFits) (closed-rows c.args.func c.args.begun p) c.requires.fits.1) in
    subst (λ (us : List Row). sum_by (λ (r : Row). r.excl) us < 2 ^ 128) (sym c.as_slice.ensures)
    (search rules)

pub overflow_add-call : goal.overflow_add-call
overflow_add-call c =
    let p = c.args.self.now in
    let small : p.bare + sum_by (λ (r : Row). r.excl) p.rows < 2 ^ 128 =
    call-incl p.rows (call_row c.args.func c.args.begun p)
    (subst (All RowFits) (closed-rows c.args.func c.args.begun p) c.requires.fits.1) in
    let same : p.bare + c.time_in_calls.result < 2 ^ 128 =
    subst (λ n. p.bare + n < 2 ^ 128) (sym (c.time_in_calls.ensures
    ∙ ap (λ (us : List Row). sum_by (λ (r : Row). r.excl) us) c.as_slice.ensures)) small in search rules

pub close_rows-requires-clause-fits : goal.close_rows-requires-clause-fits
close_rows-requires-clause-fits c =
    let p = c.args.self.now in
    subst (All RowFits) (closed-rows c.args.func c.args.begun p
    ∙ ap (closed_rows p.rows) (sym (call_is p c.args.func c.args.begun c.from.result c.time_in_calls.result
    (search rules) (c.time_in_calls.ensures
    ∙ ap (λ (us : List Row). sum_by (λ (r : Row). r.excl) us) c.as_slice.ensures)))) c.requires.fits.1

pub returns-in_err-close_rows-clause-in_place : goal.returns-in_err-close_rows-clause-in_place
returns-in_err-close_rows-clause-in_place c = λ e.
    let p = c.args.self.now in
    absurd (false≢true (c.in_err-close_rows.ensures.in_place
    (ap length (ap (closed_rows p.rows) (call_is p c.args.func c.args.begun c.from.result
    c.time_in_calls.result
    (search rules) (c.time_in_calls.ensures
    ∙ ap (λ (us : List Row). sum_by (λ (r : Row). r.excl) us) c.as_slice.ensures))
    ∙ sym (closed-rows c.args.func c.args.begun p)) ∙ e)))

pub returns-clause-ok : goal.returns-clause-ok
returns-clause-ok c =
    let p = c.args.self.now in
    closed_is c.args.func c.args.begun p c.close_rows.new.rows (c.in_ok-close_rows.ensures.ok
    ∙ ap (closed_rows p.rows) (call_is p c.args.func c.args.begun c.from.result c.time_in_calls.result
    (search rules) (c.time_in_calls.ensures
    ∙ ap (λ (us : List Row). sum_by (λ (r : Row). r.excl) us) c.as_slice.ensures)))
