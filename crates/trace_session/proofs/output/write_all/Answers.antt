use Rattle.std.proofs.Common.{◌≡◌, ◌-◌, ◌++◌, ℕ, List, length, take, drop, sym, ap, ◌∙◌, arith, append_assoc}
use Rattle.std.proofs.lemmas.List.{take-append-drop, take_rest}
use Rattle.trace_base.proofs.Telling.{told_then}
use Rattle.trace_session.proofs.output.write_all.Goals as goal

pub loop-rest-preserved : goal.loop-rest-preserved
loop-rest-preserved g c =
    let n = c.in-Took.n in
    let rest = c.loop-rest.rest.now in
    let i = c.loop-rest.invariant.written in
    let whole : rest ≡ take n rest ++ take (length rest - n) (drop n rest) =
    sym (ap (λ (l : List ℕ). take n rest ++ l) (take_rest rest n) ∙ take-append-drop n rest) in
    record {
      written = (
        i.0 ++ take n rest,
        i.1 ∙ ap (λ (l : List ℕ). i.0 ++ l) whole ∙ sym
            (append_assoc i.0 (take n rest) (take (length rest - n) (drop n rest))),
        told_then (λ was now. now ≡ was ++ i.0) (λ was now. now ≡ was ++ take n rest) (λ was now. now ≡ was
            ++ (i.0 ++ take n rest)) (g.O.Sink.held c.args.output.now) (g.O.Sink.held c.loop-rest.output)
            (g.O.Sink.held c.write.new.self)
            (λ x y z p q. q ∙ ap (λ (l : List ℕ). l ++ take n rest) p ∙ append_assoc x i.0 (take n rest)) i.2
            c.in-Took.ensures.written.2,
      );
      later = omega (arith, c.loop-rest.invariant.later, c.in-Took.ensures.later);
    }
