use Rattle.std.proofs.Common.{refl, sym, lit<}
use Rattle.std.proofs.lemmas.Bool.{false≢true}
use Rattle.hall_history.specs.History.{Sealed, Dropped, Closed, opened_ids, info_of, published_of, is_open}
use Rattle.hall_history.specs.History.{is_loading}
use Rattle.hall_history.proofs.examples.unlawful_ends.Goals as goal

pub returns-clause-sealed_dropped : goal.returns-clause-sealed_dropped
unfolding opened_ids info_of published_of is_open is_loading
returns-clause-sealed_dropped c legal = false≢true (legal 2 (Sealed 1) refl).0

pub returns-clause-sealed_early : goal.returns-clause-sealed_early
unfolding opened_ids info_of published_of is_open is_loading
returns-clause-sealed_early c legal = false≢true ((legal 1 (Sealed 1) refl).1 0 (lit< tt))

pub returns-clause-dropped_sealed : goal.returns-clause-dropped_sealed
unfolding opened_ids info_of published_of is_open is_loading
returns-clause-dropped_sealed c legal = false≢true (legal 2 (Dropped 1) refl)

pub returns-clause-closed_unopened : goal.returns-clause-closed_unopened
unfolding opened_ids info_of published_of is_open is_loading
returns-clause-closed_unopened c legal = false≢true (legal 0 (Closed 1) refl).0

pub returns-clause-closed_loading : goal.returns-clause-closed_loading
unfolding opened_ids info_of published_of is_open is_loading
returns-clause-closed_loading c legal = false≢true (sym (legal 1 (Closed 1) refl).1)
