use Rattle.std.proofs.Common.{◌≡◌, Option, None, Some, length, refl, ap, arith}
use Rattle.std.proofs.lemmas.Bool.{false≢true}
use Rattle.trace_base.specs.declared.names.TraceInfo.{TraceInfo}
use Rattle.hall_history.specs.History.{Published, PublishedTree, opened_ids, info_of, published_of, is_open}
use Rattle.hall_history.specs.History.{is_loading}
use Rattle.hall_history.specs.Examples.{lone, quiet_tree}
use Rattle.hall_history.proofs.examples.unlawful_publications.Goals as goal

pub returns-clause-dropped : goal.returns-clause-dropped
unfolding opened_ids info_of published_of is_open is_loading
returns-clause-dropped c legal = false≢true (legal 2 (Published 1 0 quiet_tree) refl).0

pub returns-clause-twice : goal.returns-clause-twice
unfolding opened_ids info_of published_of is_open is_loading
returns-clause-twice c legal =
    let none : ◌≡◌ {A = Option PublishedTree} (Some quiet_tree) None =
    (legal 2 (Published 1 0 quiet_tree) refl).1 in
    absurd cc

some_same : (x y : TraceInfo) → ◌≡◌ {A = Option TraceInfo} (Some x) (Some y) → x ≡ y
some_same x y e = cc

pub returns-clause-unfit : goal.returns-clause-unfit
unfolding opened_ids info_of published_of is_open is_loading
returns-clause-unfit c legal =
    let fits = (legal 1 (Published 1 1 quiet_tree) refl).2.1 in
    let told : lone ≡ fits.0 = some_same lone fits.0 fits.1 in
    omega (arith, ap (λ (i : TraceInfo). length i.names.tracks) told, fits.2)
