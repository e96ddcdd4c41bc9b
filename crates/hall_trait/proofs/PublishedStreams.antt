-- The stream of a published track is the one that was published.
use Rattle.std.proofs.Common.{◌≡◌, ◌+◌, arith}
use Rattle.trace_base.specs.Stream.{IsLegal}
use Rattle.trace_base.specs.declared.stream.TrackStream.{TrackStream}
use Rattle.hall_history.specs.History.{published_tree, stream_published}
use Rattle.node_key.specs.Trees.{tree}
use Rattle.call_tree.proofs.TheLaw.{end-start, trees_keep_events}

-- a legal stream is read off its start and its tree
pub stream_read_back : (s : TrackStream) → IsLegal s → stream_published (published_tree s) ≡ s
stream_read_back s legal =
    let end : s.start + (tree s).dur ≡ s.end = omega (arith, end-start s legal) in
    let events = trees_keep_events s legal in
    λ i. record { start = s.start; end = end i; events = events i }
