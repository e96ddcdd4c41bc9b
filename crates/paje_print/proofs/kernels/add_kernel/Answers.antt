use Rattle.std.proofs.Common.{◌≡◌, ℕ, List, OnOk, ap, arith, nat_eq, subst, ◌∙◌}
use Rattle.std.specs.List.{position_or_len}
use Rattle.paje_print.proofs.KernelPlaces.{called_again, called_new}
use Rattle.paje_print.proofs.kernels.add_kernel.Goals as goal

pub returns-then-place_of-len : goal.returns-then-place_of-len
returns-then-place_of-len c = λ xs are. called_again c.args.called.now xs c.args.kernel c.place_of.result
    (c.place_of.ensures.place ∙ ap (position_or_len (nat_eq c.args.kernel)) c.as_slice.ensures)
    (omega arith) are

pub returns : goal.returns
returns c = λ xs are. subst (λ (ks : List ℕ). OnOk c.push.result (c.push.new.self ≡ ks))
    (called_new c.args.called.now xs c.args.kernel c.place_of.result
    (c.place_of.ensures.place ∙ ap (position_or_len (nat_eq c.args.kernel)) c.as_slice.ensures)
    (omega arith) are) c.push.ensures.ok
