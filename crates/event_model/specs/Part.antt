-- Which call stacks a part of the time is over.
use Rattle.std.specs.Prelude.{ℕ, Bool, List}
use Rattle.trace_base.specs.Flat.{is_open_in, is_innermost_in, is_bare}
use Rattle.trace_base.specs.Paths.{is_path, is_under}
use Rattle.event_model.specs.declared.part.Part.{Part}
use Rattle.event_model.specs.declared.part.Part.TheVariants.{Open, Innermost, Bare, At, Under}

-- whether the part's time runs while the call stack is this one
abbrev pub has : Part → List ℕ → Bool
has (Open f) stack = is_open_in f stack
has (Innermost f) stack = is_innermost_in f stack
has Bare stack = is_bare stack
has (At path) stack = is_path path.now stack
has (Under path) stack = is_under path.now stack
