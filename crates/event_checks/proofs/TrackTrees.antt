-- The stream that a tree is from a start on, where it is the tree of a legal stream that starts there.
use Rattle.std.proofs.Common.{◌≡◌, ◌∙◌, ◌↔◌, ℕ, ◌+◌, ◌≤◌, Bool, Err, IfOk, IsTrue, List, Ok, Result, ap, arith}
use Rattle.std.proofs.Common.{subst, sym}
use Rattle.trace_base.specs.declared.memory.Memory.{Memory}
use Rattle.call_tree.proofs.TheLaw.{end-start, trees_keep_events}
use Rattle.node_key.specs.Events.{events, stream_from}
use Rattle.node_key.specs.Tree.{Tree}
use Rattle.node_key.specs.Trees.{tree}
use Rattle.trace_base.specs.Info.{Fits}
use Rattle.trace_base.specs.Stream.{IsLegal}
use Rattle.trace_base.specs.declared.limits.TheConstants.{MAX_TIME}
use Rattle.trace_base.specs.declared.names.TraceInfo.{TraceInfo}
use Rattle.trace_base.specs.declared.stream.Event.{Event}
use Rattle.trace_base.specs.declared.stream.TrackStream.{TrackStream}
use Rattle.event_checks.specs.TrackTree.{IsTrackTree}

-- the tree of a legal stream gives the stream back
stream_back : (s : TrackStream) → IsLegal s → stream_from (tree s) s.start ≡ s
stream_back s legal =
    ap (λ (x : ℕ). record { start = s.start; end = x; events = events (tree s) s.start })
    ends
    ∙ ap (λ (x : List Event). record { start = s.start; end = s.end; events = x }) (trees_keep_events s legal)
  where
    ends : s.start + (tree s).dur ≡ s.end
    ends = omega (arith, end-start s legal)

-- a stream that fits a track and has the tree is the stream of the tree
pub track_stream : (t : Tree) (start : ℕ) (info : TraceInfo) (track : ℕ) → IsTrackTree t start info track
    → (start + t.dur ≤ MAX_TIME) × Fits (stream_from t start) info track × (t ≡ tree (stream_from t start))
track_stream t start info track (s, fits, begins, has) =
    let same : stream_from t start ≡ s =
    ap (λ (u : Tree). stream_from u start) has ∙ ap (λ (n : ℕ). stream_from (tree s) n) begins
    ∙ stream_back s fits.legal in (
      omega (arith, ap (λ (u : TrackStream). u.end) same, fits.legal.in_time),
      subst (λ (u : TrackStream). Fits u info track) (sym same) fits,
      has ∙ ap tree (sym same),
    )

-- whether the stream of the tree fits, whether it is that of any stream that does
pub track_stream_back : (t : Tree) (start : ℕ) (s : TrackStream) (info : TraceInfo) (track : ℕ)
    → s ≡ stream_from t start
    → (IsTrackTree t start info track → Fits s info track × (t ≡ tree s))
    × (Fits s info track × (t ≡ tree s) → IsTrackTree t start info track)
track_stream_back t start s info track is = (
  λ has. subst (λ (u : TrackStream). Fits u info track × (t ≡ tree u)) (sym is)
      ((track_stream t start info track has).1, (track_stream t start info track has).2),
  λ (fits, has). (s, fits, ap (λ (u : TrackStream). u.start) (sym is), has),
)

pub track_test : (t : Tree) (start : ℕ) (s : TrackStream) (info : TraceInfo) (track : ℕ)
    (answer : Result Bool Memory) → s ≡ stream_from t start
    → IfOk answer (λ is. IsTrue is ↔ (Fits s info track × (t ≡ tree s)))
    → IfOk answer (λ is. IsTrue is ↔ IsTrackTree t start info track)
track_test t start s info track (Err e) is told = tt
track_test t start s info track (Ok b) is told =
    let (there, back) = track_stream_back t start s info track is in
    (λ yes. back (told.0 yes), λ has. told.1 (there has))

pub stream_made : (t : Tree) (start end : ℕ) (es : List Event) → end ≡ start + t.dur → es ≡ events t start
    → record { start = start; end = end; events = es } ≡ stream_from t start
stream_made t start end es ends are =
    ap (λ (x : ℕ). record { start = start; end = x; events = es }) ends
    ∙ ap (λ (x : List Event). record { start = start; end = start + t.dur; events = x }) are
