use Rattle.std.proofs.Common.{ℕ, ◌+◌, List, drop, take, subst, arith}
use Rattle.request_reader.specs.Reading.{Moves}
use Rattle.request_reader.proofs.Waiting.{waiting-moved}
use Rattle.request_reader.proofs.pending.Pending.move_into.Goals as goal

pub returns-clause-moved : goal.returns-clause-moved
returns-clause-moved c =
    let moved = waiting-moved c.self.inside.start c.self.inside.end c.min-count.result c.args.most
    c.self.inside.chunk.items c.deref.result.now c.args.text.now.items c.extend_from_slice.new.self.items
    (omega (arith, c.if-self.false)) (omega (arith, c.self.invariant.1))
    (omega (arith, c.min-count.ensures)) c.deref.ensures.value c.in-Ok.ensures.items in
    subst (λ (w : List ℕ). Moves c.args.most w
    (drop (c.self.inside.start + c.min-count.result) (take c.self.inside.end c.self.inside.chunk.items))
    c.args.text.now.items c.extend_from_slice.new.self.items) c.self.view_is moved
