use Rattle.std.proofs.Common.{◌≡◌, ◌+◌, ◌⊎◌, Some, arith, sym, ◌∙◌, refl, inr, subst}
use Rattle.std.proofs.lemmas.Bool.{eqb-true}
use Rattle.paje_reader.specs.declared.read_fault.ReadFault.TheVariants.{Memory, Refused}
use Rattle.paje_reader.specs.declared.read_fault.ReadRefusal.{ReadRefusal}
use Rattle.paje_reader.specs.declared.why.Why.TheVariants.{Unended}
use Rattle.paje_reader.specs.TextSaid.{text_refusal}
use Rattle.paje_reader.proofs.TextRead.{all_read, ends_inside, ends_whole, goes_on, starts, stops}
use Rattle.paje_reader.proofs.read.read_lines.Goals as goal

pub loop-rest-init : goal.loop-rest-init
loop-rest-init c = starts c.args.text.now c.args.reader.now c.requires.none

pub overflow_add-number : goal.overflow_add-number
overflow_add-number c = omega (arith, c.loop-rest.invariant.room, c.requires.limit, c.first_line.ensures.shorter)

pub line-requires : goal.line-requires
line-requires c = (c.loop-rest.invariant.before, c.loop-rest.invariant.read)

pub returns-in-Err : goal.returns-in-Err
returns-in-Err c =
    let reading = c.loop-rest.invariant in
    subst (λ f. (f ≡ Memory) ⊎ ((refusal : ReadRefusal) × (f ≡ Refused refusal)
    × (text_refusal c.args.text.now ≡ Some refusal))) (sym c.at.ensures)
    (stops (Unit {0}) c.args.text.now c.loop-rest.rest.now c.first_line.result.0.now c.first_line.result.1.now
    c.loop-rest.number c.loop-rest.reader c.line.new.self c.in-Err.fault reading c.first_line.ensures.cut
    (c.in-Err.ensures reading.before reading.read))

pub loop-rest-smaller : goal.loop-rest-smaller
loop-rest-smaller c = c.first_line.ensures.shorter

pub loop-rest-preserved : goal.loop-rest-preserved
loop-rest-preserved c =
    let reading = c.loop-rest.invariant in
    goes_on c.args.text.now c.loop-rest.rest.now c.first_line.result.0.now c.first_line.result.1.now
    c.loop-rest.number c.loop-rest.reader c.line.new.self reading c.first_line.ensures.cut
    c.first_line.ensures.shorter (c.in_default.ensures reading.before reading.read).1

pub overflow_add-result : goal.overflow_add-result
overflow_add-result c = omega (arith, c.loop-rest.invariant.room, c.requires.limit)

pub returns-then-is_inside : goal.returns-then-is_inside
returns-then-is_inside c =
    inr (
      record { line = c.loop-rest.number + 1; why = Unended },
      refl,
      ends_inside c.args.text.now c.loop-rest.rest.now c.loop-rest.number c.loop-rest.reader c.loop-rest.invariant
          (eqb-true _ _ (sym c.is_empty.ensures ∙ c.loop-rest-test.false)) (sym c.is_inside.ensures
          ∙ c.if-is_inside.true),
    )

pub returns : goal.returns
returns c =
    let none = eqb-true _ _ (sym c.is_empty.ensures ∙ c.loop-rest-test.false) in (
      all_read c.args.text.now c.loop-rest.rest.now c.loop-rest.number c.loop-rest.reader c.loop-rest.invariant
          none,
      ends_whole c.args.text.now c.loop-rest.rest.now c.loop-rest.number c.loop-rest.reader c.loop-rest.invariant
          none (sym c.is_inside.ensures ∙ c.if-is_inside.false),
    )
