-- The bytes of a chunk that wait, from a start to an end.
use Rattle.std.proofs.Common.{◌≡◌, ℕ, ◌+◌, ◌-◌, ◌≤◌, List, ◌++◌, length, min, take, drop, sym, ap, ◌∙◌, arith}
use Rattle.std.proofs.Math.Seq.{drop-drop}
use Rattle.std.proofs.lemmas.List.{length-drop, length-take, take-append-drop}
use Rattle.list_lemmas.proofs.Fronts.{drop_take_to}
use Rattle.request_reader.specs.Reading.{Moves}

-- the first of them stand behind a text
pub waiting-moved : (start end count most : ℕ) (chunk same text longer : List ℕ) → start ≤ end
    → end ≤ length chunk → count ≡ min most (end - start) → same ≡ chunk
    → longer ≡ text ++ take count (take (end - start) (drop start same))
    → Moves most (drop start (take end chunk)) (drop (start + count) (take end chunk)) text longer
waiting-moved start end count most chunk same text longer below fits is_least is added =
    let whole : length (drop start (take end chunk)) ≡ end - start =
    omega (arith, fits, length-drop start (take end chunk), length-take end chunk) in (
      take count (drop start (take end chunk)),
      sym (take-append-drop count (drop start (take end chunk))) ∙ ap
          (λ (l : List ℕ). take count (drop start (take end chunk)) ++ l)
          (drop-drop count start (take end chunk)),
      added ∙ ap (λ (l : List ℕ). text ++ take count (take (end - start) (drop start l))) is ∙ ap
          (λ (l : List ℕ). text ++ take count l) (sym (drop_take_to start end chunk below)),
      omega (arith, is_least, whole, length-take count (drop start (take end chunk))),
    )
