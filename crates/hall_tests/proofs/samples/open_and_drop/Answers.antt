use Rattle.std.proofs.Common.{◌∙◌}
use Rattle.hall_tests.proofs.SampleLoads.{adds_has, covers_at_once, none_left_at_once}
use Rattle.hall_tests.proofs.samples.open_and_drop.Goals as goal

pub abandon-requires-clause-has : goal.abandon-requires-clause-has
abandon-requires-clause-has g c = adds_has _ _ _ c.in_ok-pass.ensures.answer.passes

pub abandon-requires-clause-covers : goal.abandon-requires-clause-covers
abandon-requires-clause-covers g c = covers_at_once _ _ _ _ _ c.in_ok-pass.ensures.answer

pub returns : goal.returns
returns g c =
    let admitted = c.in_ok-pass.ensures.answer in record {
      no_stakes = c.abandon.ensures.stakes ∙ admitted.stakes ∙ c.requires.no_stakes;
      no_pins = c.abandon.ensures.answer.pins ∙ admitted.pins ∙ c.requires.no_pins;
      no_passes = none_left_at_once _ _ _ _ c.requires.no_passes admitted.passes
          c.abandon.ensures.answer.passes;
    }
