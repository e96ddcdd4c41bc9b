use Rattle.std.proofs.Common.{◌≡◌, ◌≤◌, nat_le, true, refl}
use Rattle.std.proofs.lemmas.Bool.{leb-true}
use Rattle.std.proofs.lemmas.List.Elements.{All-weaker}
use Rattle.std.proofs.lemmas.List.Sums.{AllPass-from_list_all}
use Rattle.trace_base.specs.Examples.{two_calls}
use Rattle.trace_base.specs.declared.limits.TheConstants.{MAX_TIME}
use Rattle.paje_lines.specs.EventLine.{AreInTime}
use Rattle.paje_lines.specs.Examples.{two_calls_lines}
use Rattle.paje_legal.proofs.examples.two_calls_fit.Goals as goal

in_time : AreInTime two_calls_lines
in_time = All-weaker (λ l. nat_le l.time MAX_TIME ≡ true) (λ l. l.time ≤ MAX_TIME)
    (λ l e. leb-true l.time MAX_TIME e) two_calls_lines
    (AllPass-from_list_all (λ l. nat_le l.time MAX_TIME) two_calls_lines refl)

pub returns : goal.returns
returns c = c.streams_fit_their_tracks.ensures.fits two_calls_lines in_time refl 0 two_calls refl
