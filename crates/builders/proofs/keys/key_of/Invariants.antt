use Rattle.builders.proofs.KeyKids.{Filling}
use Rattle.builders.proofs.keys.key_of.Given as goal

abbrev pub invariant-loop-i : goal.invariant-loop-i
invariant-loop-i l = Filling l.fn.start l.fn.end l.items l.kids l.from l.highest l.i
