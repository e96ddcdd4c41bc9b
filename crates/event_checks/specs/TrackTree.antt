-- Which trees a track may have.
use Rattle.std.specs.Prelude.{◌≡◌, ℕ}
use Rattle.node_key.specs.Tree.{Tree}
use Rattle.node_key.specs.Trees.{tree}
use Rattle.trace_base.specs.Info.{Fits}
use Rattle.trace_base.specs.declared.names.TraceInfo.{TraceInfo}
use Rattle.trace_base.specs.declared.stream.TrackStream.{TrackStream}

-- a stream that fits the track starts at this time, and has this tree
abbrev pub IsTrackTree : Tree → ℕ → TraceInfo → ℕ → Type 0
IsTrackTree t start info track =
    (s : TrackStream) × Fits s info track × (start ≡ s.start) × (t ≡ tree s)
