use Rattle.std.proofs.Common.{◌≡◌, ℕ, Bool, List, arith, sym, ap, ◌∙◌, subst, codes, Decides}
use Rattle.std.proofs.lemmas.Slice.Eq.{bytes_eq-Decides}
use Rattle.std.specs.Str.{bytes_eq}
use Rattle.std.specs.String.{string_bytes}
use Rattle.list_lemmas.proofs.Fronts.{list_of_one, one_text}
use Rattle.trace_session.proofs.program.is_batch.Goals as goal

pub returns-in-len1 : goal.returns-in-len1
returns-in-len1 c =
    let one = list_of_one c.args.words.now c.word-item.result (omega (arith, c.in-len1.len_at_least))
    (omega (arith, c.in-len1.len_below)) c.word-item.is in
    let test : c.eq.result ≡ bytes_eq (string_bytes c.word-item.result) (codes "batch") =
    c.eq.ensures ∙ ap (λ (l : List ℕ). bytes_eq l (codes "batch")) c.as_str.ensures.value in
    let decides : Decides c.eq.result (string_bytes c.word-item.result ≡ codes "batch") =
    subst (λ (b : Bool). Decides b (string_bytes c.word-item.result ≡ codes "batch")) (sym test)
    (bytes_eq-Decides (string_bytes c.word-item.result) (codes "batch")) in
    one_text string_bytes c.args.words.now c.word-item.result (codes "batch") c.eq.result one decides
