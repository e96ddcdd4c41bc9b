-- The parts of a tree's time: those in which each of its kids runs, and those in which none does.
use Rattle.std.specs.Prelude.{ℕ, ◌+◌, ◌≤◌, List, [], ◌∷◌}
use Rattle.node_key.specs.Events.{stream_from}
use Rattle.node_key.specs.Tree.{Kids, Tree, kid, no_kids, total}
use Rattle.trace_base.specs.declared.stream.TrackStream.{TrackStream}
use Rattle.profile_laws.specs.Streams.{idle}

-- each of the kids takes at least the time that its own kids and the gaps before them take
abbrev pub AreTimed : Kids → Type 0
AreTimed no_kids = Unit {0}
AreTimed (kid gap func dur inner more) = (total inner ≤ dur) × AreTimed inner × AreTimed more

-- so does the tree
abbrev pub IsTimed : Tree → Type 0
IsTimed t = (total t.kids ≤ t.dur) × AreTimed t.kids

-- the parts from a time on, up to the end of the tree, in order: the gap before each kid and the kid, and the
-- time behind the last
abbrev pub parts_from : ℕ → ℕ → Kids → List TrackStream
parts_from from end no_kids = idle from end ∷ []
parts_from from end (kid gap func dur inner more) = idle from (from + gap)
    ∷ stream_from (record { func = func; dur = dur; kids = inner }) (from + gap)
    ∷ parts_from (from + gap + dur) end more

-- the parts of a tree that begins at a time
abbrev pub parts : Tree → ℕ → List TrackStream
parts t at = parts_from at (at + t.dur) t.kids
