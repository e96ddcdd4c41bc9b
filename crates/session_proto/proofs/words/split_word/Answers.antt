use Rattle.std.proofs.Common.{◌+◌, take, arith, ap, ◌∙◌, ◌∷◌, sym}
use Rattle.std.proofs.lemmas.List.{take_rest}
use Rattle.session_proto.specs.Request.{words_of}
use Rattle.session_proto.proofs.WordsOf.{words_of-one, words_of-cut}
use Rattle.session_proto.proofs.words.split_word.Goals as goal

pub returns-then-c-eq32 : goal.returns-then-c-eq32
returns-then-c-eq32 c =
    let line = c.args.line.now in
    words_of-cut line c.loop-i.i (omega arith) c.if-c-eq32.true c.loop-i.invariant
    ∙ ap (λ rest. take c.loop-i.i line ∷ words_of rest) (sym (take_rest line (c.loop-i.i + 1)))

pub returns : goal.returns
returns c = words_of-one c.args.line.now (λ k below is. c.loop-i.invariant k (omega arith) is)
