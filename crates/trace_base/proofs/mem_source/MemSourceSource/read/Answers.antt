use Rattle.std.proofs.Common.{◌≡◌, ℕ, length, arith}
use Rattle.std.proofs.lemmas.Grind.{common_steps}
use Rattle.list_lemmas.proofs.Fronts.{left_given}
use Rattle.trace_base.proofs.mem_source.MemSourceSource.read.Goals as goal

pub returns-clause-read : goal.returns-clause-read
returns-clause-read c =
    let n : ℕ = c.min-n.result in
    let copied = c.copy_from_slice.new.self in
    let len : length copied ≡ n = grind (arith, common_steps) in
    let bytes : c.as_slice-bytes.result.now ≡ c.args.self.now.bytes = cc in (
      omega arith,
      grind (arith, common_steps),
      left_given _ copied _ c.args.self.now.given n len
          (rw (← bytes) c.copy_from_slice.ensures.after),
    )
