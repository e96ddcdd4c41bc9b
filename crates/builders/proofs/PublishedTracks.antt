-- The stream of a track that is read from its tree.
use Rattle.std.proofs.Common.{◌≡◌, ℕ, ◌+◌, ◌≤◌, List, [], ◌++◌, Option, None, Some, option_map, sym, ap}
use Rattle.std.proofs.Common.{subst, ◌∙◌, arith}
use Rattle.node_key.specs.Events.{events}
use Rattle.hall_history.specs.History.{Entry, FitsTrack, IsTrackTree, PublishedTree, published_of, stream_of}
use Rattle.hall_history.specs.History.{stream_published}
use Rattle.node_key.specs.Tree.{Tree}
use Rattle.node_key.specs.declared.key.NodeKey.{NodeKey}
use Rattle.trace_base.specs.declared.limits.TheConstants.{MAX_TIME}
use Rattle.trace_base.specs.declared.stream.Event.{Event}
use Rattle.trace_base.specs.declared.stream.TrackStream.{TrackStream}
use Rattle.call_tree.proofs.TheLaw.{end-start}
use Rattle.hall_trait.proofs.PublishedStreams.{stream_read_back}
use Rattle.hall_trait.specs.Nodes.{ReadsNode}

-- a track ends within the greatest time
pub track-ends : (leads : ℕ → Tree → Type 0) (entries : List Entry) (id track start : ℕ) (p : PublishedTree)
    (key : NodeKey) → IsTrackTree entries id track p → start ≡ p.start → ReadsNode leads p.tree key
    → start + key.dur ≤ MAX_TIME
track-ends leads entries id track start p key is e r =
    let legal = is.1.3.legal in
    omega (
      arith,
      e,
      r.1.dur,
      legal.in_time,
      end-start is.0 legal,
      ap (λ (q : PublishedTree). q.start) is.2,
      ap (λ (q : PublishedTree). q.tree.dur) is.2,
    )

-- nothing is published
pub unpublished : (entries : List Entry) (id track : ℕ) → published_of entries id track ≡ None
    → None ≡ stream_of entries id track
unfolding stream_of
unpublished entries id track e = sym (ap (option_map stream_published) e)

-- what was read
pub read-stream : (leads : ℕ → Tree → Type 0) (start : ℕ) (p : PublishedTree) (key : NodeKey)
    (begun list : List Event) → start ≡ p.start → ReadsNode leads p.tree key → begun ≡ []
    → list ≡ begun ++ events p.tree start
    → record { start = start; end = start + key.dur; events = list } ≡ stream_published p
read-stream leads start p key begun list e r none is =
    let whole : list ≡ events p.tree start = is ∙ ap (λ (es : List Event). es ++ events p.tree start) none in
    ap (λ (es : List Event). let s : TrackStream = record
    { start = start; end = start + key.dur; events = es } in s)
    whole
    ∙ ap (λ (n : ℕ). let s : TrackStream = record {
      start = start;
      end = start + n;
      events = events p.tree
          start;
    } in s)
    r.1.dur
    ∙ ap (λ (n : ℕ). stream_published (record { start = n; tree = p.tree })) e

pub published-stream : (entries : List Entry) (id track : ℕ) (p : PublishedTree) (s : TrackStream)
    → published_of entries id track ≡ Some p → s ≡ stream_published p → Some s ≡ stream_of entries id track
unfolding stream_of
published-stream entries id track p s e is =
    ap (λ (t : TrackStream). let o : Option TrackStream = Some t in o) is
    ∙ sym (ap (option_map stream_published) e)

-- it fits the track
pub published-fits : (entries : List Entry) (id track : ℕ) (p : PublishedTree) (s : TrackStream)
    → IsTrackTree entries id track p → s ≡ stream_published p → FitsTrack entries id track s
published-fits entries id track p s is e =
    let same : s ≡ is.0 = e ∙ ap stream_published is.2 ∙ stream_read_back is.0 is.1.3.legal in
    subst (λ (t : TrackStream). FitsTrack entries id track t) (sym same) is.1
