use Rattle.std.proofs.Common.{[], ◌∷◌, sym, arith}
use Rattle.std.proofs.Math.Utf8.{encode}
use Rattle.std.proofs.lemmas.Bool.{true≢false}
use Rattle.std.proofs.lemmas.Str.{is_utf8-from_IsUtf8}
use Rattle.std.specs.Str.{chars, is_utf8}
use Rattle.paje_print.proofs.canonical_examples.broken_texts.Goals as goal

pub returns-clause-utf8 : goal.returns-clause-utf8
unfolding is_utf8 chars encode
returns-clause-utf8 c is =
    true≢false (sym (is_utf8-from_IsUtf8 (255 ∷ []) (is.texts 3 [] (omega arith)).utf8))
