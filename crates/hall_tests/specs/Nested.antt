-- Calls that lie in one another and take no time, each of another function.
use Rattle.std.specs.Prelude.{ℕ, zero, suc}
use Rattle.trace_base.specs.declared.profile.Row.{Row}
use Rattle.node_key.specs.Tree.{Kids, Tree, kid, no_kids}

-- the calls of the functions from n down to 1, each within the one before it
unfoldable pub nested : ℕ → Kids
nested zero = no_kids
nested (suc n) = kid 0 (suc n) 0 (nested n) no_kids

-- the call of function n, in which the calls from the one before n down to 1 lie
unfoldable pub outermost : ℕ → Tree
outermost zero = record { func = 0; dur = 0; kids = no_kids }
outermost (suc n) = record { func = suc n; dur = 0; kids = nested n }

-- the row of a function that was called once and took no time
abbrev pub one_call_of : ℕ → Row
one_call_of f = record { func = f; calls = 1; incl = 0; excl = 0 }
