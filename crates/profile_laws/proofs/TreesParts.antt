-- The profile of a tree is made of those of its parts, whatever kind of profile it is.
use Rattle.std.proofs.Common.{◌≡◌, ℕ, ◌+◌, ◌≤◌, Bool, List, [], ◌∷◌, ◌++◌, map, refl, sym, ap, subst, ◌∙◌}
use Rattle.std.proofs.Common.{append-nil, append_assoc, arith}
use Rattle.call_tree.proofs.Moving.{events-moved}
use Rattle.call_tree.specs.Laws.{moved}
use Rattle.node_key.specs.Events.{events, events_below, stream_from}
use Rattle.node_key.specs.Tree.{Kids, Tree, kid, no_kids, total}
use Rattle.profile_laws.proofs.TreesComplete.{IsWhole, complete, enclosed-call, enclosed-group, runs-append}
use Rattle.profile_laws.proofs.TreesComplete.{runs-below, whole-tree}
use Rattle.profile_laws.specs.Laws.{OfCall, OfEnclosed, OfGroup, OfInside, OfJoined, OfLater, ProfileOf}
use Rattle.profile_laws.specs.Parts.{AreTimed, parts_from}
use Rattle.profile_laws.specs.Streams.{event_later, idle, joined, later}
use Rattle.profile_math.specs.Laws.{IsComplete, call_of}
use Rattle.trace_base.specs.Flat.{is_within}
use Rattle.trace_base.specs.declared.stream.Event.{Event}
use Rattle.trace_base.specs.declared.stream.Event.TheVariants.{Enter, Leave}
use Rattle.trace_base.specs.declared.stream.TrackStream.{TrackStream}

-- the profile of a call is the closing of the profile of what it encloses
abbrev pub OfEnclosing : {X : Type 0} → ProfileOf X → (ℕ → Bool → X → X) → Type 0
OfEnclosing profile closing = (inner : TrackStream) (f a b : ℕ) → IsComplete inner → 1 ≤ f
    → profile (call_of f inner ∷ []) a b ≡ closing f (is_within a b inner.start) (profile (inner ∷ []) a b)

-- the stream of kids, without a call round them
abbrev below : (from end : ℕ) → Kids → TrackStream
below from end kids = record { start = from; end = end; events = events_below from kids }

whole-below : (from end : ℕ) (kids : Kids) → AreTimed kids → from + total kids ≤ end
    → IsWhole (below from end kids)
whole-below from end kids timed h = runs-below kids 0 from end timed h

whole-joined : (s t : TrackStream) → IsWhole s → IsWhole t → s.end ≡ t.start → IsWhole (joined s t)
whole-joined s t whole_s whole_t e =
    runs-append 0 0 0 s.start t.start t.end s.events t.events
    (subst (λ (n : ℕ). IsWhole (record s { end = n })) e whole_s) whole_t

-- ---- groups

-- a kid with the gap before it, and the kids behind, are put behind a stream one by one
joined-kid : (s : TrackStream) (t : Tree) (gap end : ℕ) (more : Kids)
    → joined (joined (joined s (idle s.end (s.end + gap))) (stream_from t (s.end + gap)))
    (below (s.end + gap + t.dur) end more) ≡ joined s (below s.end end (kid gap t.func t.dur t.kids more))
unfolding events
joined-kid s t gap end more =
    let kid_events : List Event = events t (s.end + gap) in
    let behind : List Event = events_below (s.end + gap + t.dur) more in
    ap (λ (es : List Event). let u : TrackStream = record { start = s.start; end = end; events = es } in u)
    (ap (λ (es : List Event). (es ++ kid_events) ++ behind) (append-nil s.events)
    ∙ append_assoc s.events kid_events behind)

-- the profile of a stream with kids behind it, by the kids' parts
behind-parts : {X : Type 0} (profile : ProfileOf X) → OfJoined profile → (kids : Kids) (s : TrackStream)
    (end a b : ℕ) → IsWhole s → AreTimed kids → s.end + total kids ≤ end
    → profile (joined s (below s.end end kids) ∷ []) a b ≡ profile (s ∷ parts_from s.end end kids) a b
behind-parts profile of_joined no_kids s end a b whole timed h =
    of_joined s (idle s.end end) [] a b (complete s whole) (complete (idle s.end end) (refl, omega arith))
    refl
behind-parts {X} profile of_joined (kid gap func dur inner more) s end a b whole timed h =
    let t : Tree = record { func = func; dur = dur; kids = inner } in
    let at : ℕ = s.end + gap in
    let pause : TrackStream = idle s.end at in
    let pause_whole : IsWhole pause = (refl, omega arith) in
    let front : TrackStream = joined s pause in
    let front_whole : IsWhole front = whole-joined s pause whole pause_whole refl in
    let tree_whole : IsWhole (stream_from t at) = whole-tree t at (timed.0, timed.1) in
    let rest : List TrackStream = parts_from (at + dur) end more in
    ap (λ (u : TrackStream). profile (u ∷ []) a b) (sym (joined-kid s t gap end more))
    ∙ behind-parts profile of_joined more (joined front (stream_from t at)) end a b
    (whole-joined front (stream_from t at) front_whole tree_whole refl) timed.2 (omega (arith, h))
    ∙ of_joined front (stream_from t at) rest a b (complete front front_whole)
    (complete (stream_from t at) tree_whole) refl
    ∙ of_joined s pause (stream_from t at ∷ rest) a b (complete s whole) (complete pause pause_whole) refl

-- the profile of kids, without a call round them
below-parts : {X : Type 0} (profile : ProfileOf X) → OfJoined profile → (kids : Kids) (from end a b : ℕ)
    → AreTimed kids → from + total kids ≤ end
    → profile (below from end kids ∷ []) a b ≡ profile (parts_from from end kids) a b
unfolding events
below-parts profile of_joined no_kids from end a b timed h = refl
below-parts profile of_joined (kid gap func dur inner more) from end a b timed h =
    let t : Tree = record { func = func; dur = dur; kids = inner } in
    let at : ℕ = from + gap in
    let pause : TrackStream = idle from at in
    let pause_whole : IsWhole pause = (refl, omega arith) in
    let tree_whole : IsWhole (stream_from t at) = whole-tree t at (timed.0, timed.1) in
    behind-parts profile of_joined more (joined pause (stream_from t at)) end a b
    (whole-joined pause (stream_from t at) pause_whole tree_whole refl) timed.2 (omega (arith, h))
    ∙ of_joined pause (stream_from t at) (parts_from (at + dur) end more) a b (complete pause pause_whole)
    (complete (stream_from t at) tree_whole) refl

pub of_group : {X : Type 0} (profile : ProfileOf X) → OfJoined profile → OfGroup profile
unfolding events
of_group profile of_joined t at a b timed e =
    ap (λ (es : List Event). profile (record { start = at; end = at + t.dur; events = es } ∷ []) a b)
    (enclosed-group t.func at (at + t.dur) (events_below at t.kids) e)
    ∙ below-parts profile of_joined t.kids at (at + t.dur) a b timed.1 (omega (arith, timed.0))

-- ---- calls

pub of_call : {X : Type 0} (profile : ProfileOf X) (closing : ℕ → Bool → X → X) → OfJoined profile
    → OfEnclosing profile closing → OfCall profile closing
unfolding events
of_call {X} profile closing of_joined enclosing t at a b timed h =
    let inner : TrackStream = below at (at + t.dur) t.kids in
    ap (λ (es : List Event). profile (record { start = at; end = at + t.dur; events = es } ∷ []) a b)
    (enclosed-call t.func at (at + t.dur) (events_below at t.kids) h)
    ∙ enclosing inner t.func a b
    (complete inner (whole-below at (at + t.dur) t.kids timed.1 (omega (arith, timed.0)))) h
    ∙ ap (λ (p : X). closing t.func (is_within a b at) p)
    (below-parts profile of_joined t.kids at (at + t.dur) a b timed.1 (omega (arith, timed.0)))

-- ---- trees within the interval

moved-later : (d : ℕ) (es : List Event) → map (moved d) es ≡ map (event_later d) es
moved-later d [] = refl
moved-later d (Enter f t ∷ es) = ap (λ (l : List Event). Enter f (t + d) ∷ l) (moved-later d es)
moved-later d (Leave t ∷ es) = ap (λ (l : List Event). Leave (t + d) ∷ l) (moved-later d es)

-- the stream of a tree is that from the time 0 on, moved
later-tree : (t : Tree) (at : ℕ) → later at (stream_from t 0) ≡ stream_from t at
later-tree t at =
    let start : 0 + at ≡ at = omega arith in
    let end : 0 + t.dur + at ≡ at + t.dur = omega arith in
    let moved_on : map (event_later at) (events t 0) ≡ events t at =
    sym (moved-later at (events t 0)) ∙ sym (events-moved t at 0) ∙ ap (events t) start in
    ap (λ (n : ℕ). let u : TrackStream = record {
      start = n;
      end = 0 + t.dur + at;
      events = map (event_later at) (events t 0);
    } in u) start
    ∙ ap (λ (n : ℕ). let u : TrackStream = record {
      start = at;
      end = n;
      events = map (event_later at) (events t 0);
    } in u) end
    ∙ ap (λ (es : List Event). let u : TrackStream = record {
      start = at;
      end = at + t.dur;
      events = es;
    } in u) moved_on

pub of_inside : {X : Type 0} (profile : ProfileOf X) → OfLater profile → OfEnclosed profile
    → OfInside profile (λ t. profile (stream_from t 0 ∷ []) 0 (t.dur + 1))
of_inside {X} profile of_later of_enclosed t at a b timed low high =
    let start : at ≡ 0 + at = omega arith in
    let end : at + t.dur + 1 ≡ t.dur + 1 + at = omega arith in
    of_enclosed (stream_from t at) a b (complete (stream_from t at) (whole-tree t at timed)) low high
    ∙ ap (λ (n : ℕ). profile (stream_from t at ∷ []) n (at + t.dur + 1)) start
    ∙ ap (λ (n : ℕ). profile (stream_from t at ∷ []) (0 + at) n) end
    ∙ ap (λ (u : TrackStream). profile (u ∷ []) (0 + at) (t.dur + 1 + at)) (sym (later-tree t at))
    ∙ of_later (stream_from t 0 ∷ []) at 0 (t.dur + 1)
