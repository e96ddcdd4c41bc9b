use Rattle.std.proofs.Common.{refl}
use Rattle.paje_lex.specs.DateReading.{parts_of, exponent_of}
use Rattle.paje_defs.proofs.examples.event_examples.Goals as goal

pub returns-clause-link : goal.returns-clause-link
unfolding parts_of exponent_of
returns-clause-link c = refl

pub returns-clause-other_order : goal.returns-clause-other_order
unfolding parts_of exponent_of
returns-clause-other_order c = refl

pub returns-clause-destroyed : goal.returns-clause-destroyed
unfolding parts_of exponent_of
returns-clause-destroyed c = refl

pub returns-clause-no_number : goal.returns-clause-no_number
unfolding parts_of exponent_of
returns-clause-no_number c = refl

pub returns-clause-long_number : goal.returns-clause-long_number
unfolding parts_of exponent_of
returns-clause-long_number c = refl

pub returns-clause-unknown : goal.returns-clause-unknown
unfolding parts_of exponent_of
returns-clause-unknown c = refl

pub returns-clause-too_few : goal.returns-clause-too_few
unfolding parts_of exponent_of
returns-clause-too_few c = refl

pub returns-clause-negative : goal.returns-clause-negative
unfolding parts_of exponent_of
returns-clause-negative c = refl

pub returns-clause-shape : goal.returns-clause-shape
unfolding parts_of exponent_of
returns-clause-shape c = refl

pub returns-clause-unnamed : goal.returns-clause-unnamed
unfolding parts_of exponent_of
returns-clause-unnamed c = refl

pub returns-clause-timeless : goal.returns-clause-timeless
unfolding parts_of exponent_of
returns-clause-timeless c = refl

pub returns-clause-below : goal.returns-clause-below
unfolding parts_of exponent_of
returns-clause-below c = refl

pub returns-clause-empty : goal.returns-clause-empty
unfolding parts_of exponent_of
returns-clause-empty c = refl

pub returns-clause-too_few_first : goal.returns-clause-too_few_first
unfolding parts_of exponent_of
returns-clause-too_few_first c = refl

pub returns-clause-big : goal.returns-clause-big
unfolding parts_of exponent_of
returns-clause-big c = refl
