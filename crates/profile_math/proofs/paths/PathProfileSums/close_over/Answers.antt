use Rattle.std.proofs.Common.{◌∙◌, ◌<◌, ◌+◌, ◌^◌, ◌∷◌, List, length, subst, sym, ap, map}
use Rattle.std.proofs.Common.{sum_by, rules, arith}
use Rattle.std.proofs.lemmas.List.{length-map}
use Rattle.trace_base.specs.declared.profile.PathRow.{PathRow}
use Rattle.profile_math.specs.PathClosing.{one_deeper}
use Rattle.profile_math.specs.PathSum.{IsDepthFirst}
use Rattle.profile_math.proofs.PathClosings.{call_is, closed-fits, closed-none, closed-ordered, closed-rows}
use Rattle.profile_math.proofs.PathClosings.{closed_is}
use Rattle.profile_math.proofs.paths.PathProfileSums.close_over.Goals as goal

pub returns-then-not-has_row-clause-ok : goal.returns-then-not-has_row-clause-ok
returns-then-not-has_row-clause-ok c = closed-none c.args.func c.args.begun c.args.self.now
    (sym c.has_row.ensures ∙ c.if-not-has_row.true)

pub time_in_calls-requires : goal.time_in_calls-requires
time_in_calls-requires c =
    let p = c.args.self.now in
    let small : p.bare + sum_by (λ (r : PathRow). r.excl) p.rows < 2 ^ 128 =
    (closed-fits c.args.func c.args.begun p c.requires.ordered
    (sym c.has_row.ensures ∙ c.if-not-has_row.false)
    c.requires.fits.1).0 in
    subst (λ (us : List PathRow). sum_by (λ (r : PathRow). r.excl) us < 2 ^ 128) (sym c.as_slice.ensures)
    (search rules)

pub overflow_add-call : goal.overflow_add-call
overflow_add-call c =
    let p = c.args.self.now in
    let small : p.bare + sum_by (λ (r : PathRow). r.excl) p.rows < 2 ^ 128 =
    (closed-fits c.args.func c.args.begun p c.requires.ordered
    (sym c.has_row.ensures ∙ c.if-not-has_row.false)
    c.requires.fits.1).0 in
    let same : p.bare + c.time_in_calls.result < 2 ^ 128 =
    subst (λ n. p.bare + n < 2 ^ 128) (sym (c.time_in_calls.ensures
    ∙ ap (λ (us : List PathRow). sum_by (λ (r : PathRow). r.excl) us) c.as_slice.ensures)) small
    in search rules

pub put_under-requires : goal.put_under-requires
put_under-requires c = (closed-fits c.args.func c.args.begun c.args.self.now c.requires.ordered
    (sym c.has_row.ensures ∙ c.if-not-has_row.false) c.requires.fits.1).1

pub returns-in_err-put_under-clause-in_place : goal.returns-in_err-put_under-clause-in_place
returns-in_err-put_under-clause-in_place c = λ e.
    let p = c.args.self.now in
    absurd (omega (
      arith,
      e,
      ap length (closed-rows c.args.func c.args.begun p c.requires.ordered
          (sym c.has_row.ensures ∙ c.if-not-has_row.false)),
      length-map p.rows one_deeper,
    ))

pub returns-clause-ok : goal.returns-clause-ok
returns-clause-ok c =
    let p = c.args.self.now in
    closed_is c.args.func c.args.begun p c.put_under.new.rows (c.in_ok-put_under.ensures.ok
    ∙ ap (λ (r : PathRow). r ∷ map one_deeper p.rows) (call_is p c.args.func c.args.begun c.from.result
    c.time_in_calls.result (search rules) (c.time_in_calls.ensures
    ∙ ap (λ (us : List PathRow). sum_by (λ (r : PathRow). r.excl) us) c.as_slice.ensures))
    ∙ sym (closed-rows c.args.func c.args.begun p c.requires.ordered
    (sym c.has_row.ensures ∙ c.if-not-has_row.false)))

pub returns-clause-ordered : goal.returns-clause-ordered
returns-clause-ordered c =
    let p = c.args.self.now in
    subst IsDepthFirst (sym (c.in_ok-put_under.ensures.ok
    ∙ ap (λ (r : PathRow). r ∷ map one_deeper p.rows) (call_is p c.args.func c.args.begun c.from.result
    c.time_in_calls.result (search rules) (c.time_in_calls.ensures
    ∙ ap (λ (us : List PathRow). sum_by (λ (r : PathRow). r.excl) us) c.as_slice.ensures))))
    (closed-ordered c.args.func c.args.begun p c.requires.ordered)
