use Rattle.std.proofs.Common.{◌≡◌, ◌++◌, ◌-◌, ◌∙◌, List, ℕ, OnOk, length, replicate, subst}
use Rattle.paje_print.proofs.text_parts.add_nine_digits.Goals as goal

-- src/text_parts.rt:42:1
pub returns : goal.returns
returns c = subst (λ (digits : List ℕ). OnOk c.add_padded.result (c.add_padded.new.out.items
    ≡ c.args.out.now.items ++ (replicate (9 - length digits) 48 ++ digits)))
    (c.as_bytes.ensures.value ∙ c.format.ensures.text) c.add_padded.ensures
