-- Tracks that are published: their trees can be summed, and their profiles fit.
use Rattle.std.proofs.Common.{◌≡◌, ℕ, ◌+◌, ◌*◌, ◌-◌, ◌<◌, ◌≤◌, ◌^◌, List, [], ◌∷◌, ◌++◌, Option, Some, None}
use Rattle.std.proofs.Common.{length}
use Rattle.std.proofs.Common.{sum_by, refl, ap, sym, subst, ◌∙◌, arith, zero, suc}
use Rattle.std.specs.List.{AllByRecursion, cons_option, filter_map, range_with_len}
use Rattle.std.specs.Option.{option_map, option_map_or}
use Rattle.std.proofs.lemmas.List.{length-append}
use Rattle.std.proofs.lemmas.List.FromFn.{length-range_with_len}
use Rattle.std.proofs.lemmas.List.Elements.{filter_map-append}
use Rattle.std.proofs.lemmas.List.Sums.{sum_by-append, sum_by-cons}
use Rattle.hall_history.specs.History.{Entry, PublishedTree, published_of, published_tree, stream_of}
use Rattle.hall_history.specs.History.{stream_published}
use Rattle.hall_history.specs.Seat.{Seat}
use Rattle.hall_history.specs.declared.published.Published.TheVariants.{Root}
use Rattle.hall_trait.specs.Nodes.{TellsTrack}
use Rattle.hall_trait.specs.Reach.{HasSource, Reaching, Source}
use Rattle.profile_laws.specs.Laws.{ProfileOf}
use Rattle.hall_trait.proofs.PublishedStreams.{stream_read_back}
use Rattle.list_lemmas.proofs.Each.{all_push}
use Rattle.list_lemmas.proofs.Ranges.{range_with_len-more}
use Rattle.node_key.specs.Events.{stream_from}
use Rattle.node_key.specs.Tree.{Tree}
use Rattle.profile_laws.proofs.TreesTimed.{timed-tree}
use Rattle.profile_laws.specs.Parts.{IsTimed}
use Rattle.profile_math.specs.Laws.{IsComplete}
use Rattle.profile_walk.proofs.Fitting.{enters-tree}
use Rattle.profile_laws.specs.Sizes.{FitTogether, enters, lasts}
use Rattle.profile_walk.specs.Summed.{CanSum}
use Rattle.profile_walk.specs.Tracks.{CanAdd, levels_from, streams_from, twice_levels}
use Rattle.trace_base.specs.Stream.{IsLegal}
use Rattle.trace_base.specs.declared.limits.TheConstants.{MAX_STATE_EVENTS, MAX_TIME}
use Rattle.trace_base.specs.declared.stream.TrackStream.{TrackStream}

legal-complete : (s : TrackStream) → IsLegal s → IsComplete s
legal-complete s legal = record {
  in_order = legal.in_order;
  closes_open = legal.closes_open;
  all_closed = legal.all_closed;
  functions = λ i f t e. (legal.functions i f t e).0;
}

-- ---- so many legal streams fit

complete-all : (ss : List TrackStream) → AllByRecursion IsLegal ss → AllByRecursion IsComplete ss
complete-all [] all = tt
complete-all (s ∷ ss) all = (legal-complete s all.0, complete-all ss all.1)

lasts-all : (ss : List TrackStream) → AllByRecursion IsLegal ss → sum_by lasts ss ≤ length ss * MAX_TIME
lasts-all [] all = omega arith
lasts-all (s ∷ ss) all = omega (arith, sum_by-cons lasts s ss, lasts-all ss all.1, all.0.in_time)

enters-all : (ss : List TrackStream) → AllByRecursion IsLegal ss
    → sum_by enters ss ≤ length ss * MAX_STATE_EVENTS
enters-all [] all = omega arith
enters-all (s ∷ ss) all = omega (arith, sum_by-cons enters s ss, enters-all ss all.1, all.0.calls)

pub fits-legal : (ss : List TrackStream) → AllByRecursion IsLegal ss → length ss ≤ 2 ^ 32 → FitTogether ss
fits-legal ss all few = record {
  complete = complete-all ss all;
  time = omega (arith, lasts-all ss all, few);
  calls = omega (arith, enters-all ss all, few);
}

-- and one more
pub fits-legal_more : (ss : List TrackStream) (s : TrackStream) → AllByRecursion IsLegal ss → IsLegal s
    → length ss < 2 ^ 32 → FitTogether (ss ++ s ∷ [])
fits-legal_more ss s all legal few =
    fits-legal (ss ++ s ∷ []) (all_push IsLegal ss s all legal)
    (omega (arith, length-append ss (s ∷ []), few))

-- ---- what is published

-- the stream of a published tree
pub published-legal : (p : PublishedTree) (s : TrackStream) → IsLegal s → p ≡ published_tree s
    → IsLegal (stream_published p)
published-legal p s legal e =
    subst IsLegal (sym (ap stream_published e ∙ stream_read_back s legal)) legal

pub published-sums : (p : PublishedTree) (s : TrackStream) → IsLegal s → p ≡ published_tree s → CanSum p.tree
published-sums p s legal e = record {
  timed = subst IsTimed (sym (ap (λ (q : PublishedTree). q.tree) e)) (timed-tree s legal);
  few = omega (arith, enters-tree p.tree p.start, (published-legal p s legal e).calls);
}

-- ---- one track

pub streams-one : (entries : List Entry) (id track : ℕ)
    → streams_from entries id track 1 ≡ cons_option (stream_of entries id track) []
streams-one entries id track = refl

pub streams-some : (entries : List Entry) (id track start : ℕ) (p : PublishedTree)
    → published_of entries id track ≡ Some p → start ≡ p.start
    → streams_from entries id track 1 ≡ stream_from p.tree start ∷ []
unfolding stream_of
streams-some entries id track start p e same =
    streams-one entries id track
    ∙ ap (λ (o : Option PublishedTree). cons_option (option_map stream_published o) []) e
    ∙ ap (λ (n : ℕ). stream_from p.tree n ∷ []) (sym same)

pub streams-none : (entries : List Entry) (id track : ℕ) → published_of entries id track ≡ None
    → streams_from entries id track 1 ≡ []
unfolding stream_of
streams-none entries id track e =
    streams-one entries id track
    ∙ ap (λ (o : Option PublishedTree). cons_option (option_map stream_published o) []) e

levels_of : Option PublishedTree → ℕ
levels_of o = option_map_or (λ (p : PublishedTree). twice_levels p.tree) o 0

levels-one : (entries : List Entry) (id track : ℕ)
    → levels_from entries id track 1 ≡ levels_of (published_of entries id track)
unfolding levels_of
levels-one entries id track =
    omega (arith, sum_by-cons (λ (k : ℕ). levels_of (published_of entries id k)) track [])

pub levels-some : (entries : List Entry) (id track : ℕ) (p : PublishedTree)
    → published_of entries id track ≡ Some p → levels_from entries id track 1 ≡ twice_levels p.tree
unfolding levels_of
levels-some entries id track p e = levels-one entries id track ∙ ap levels_of e

-- ---- one track more

pub streams-more : (entries : List Entry) (id first n track : ℕ) → first + n ≡ track
    → streams_from entries id first (n + 1)
    ≡ streams_from entries id first n ++ streams_from entries id track 1
streams-more entries id first n track e =
    ap (filter_map (stream_of entries id)) (range_with_len-more first n track e)
    ∙ filter_map-append (stream_of entries id) (range_with_len first n) (track ∷ [])

pub levels-more : (entries : List Entry) (id first n track : ℕ) → first + n ≡ track
    → levels_from entries id first (n + 1)
    ≡ levels_from entries id first n + levels_from entries id track 1
levels-more entries id first n track e =
    let f : ℕ → ℕ = λ k. option_map_or (λ (p : PublishedTree). twice_levels p.tree) (published_of entries id
    k) 0 in
    ap (sum_by f) (range_with_len-more first n track e)
    ∙ sum_by-append f (range_with_len first n) (track ∷ [])

-- ---- a track that is told

-- what may be added of it
pub track-adds : {X : Type 0} (profile : ProfileOf X) (entries : List Entry) (id track start n : ℕ)
    (seat : Seat) (reaches : Reaching) (by_what : Source) (a b : ℕ) (base : List TrackStream) (sum : X)
    → HasSource seat by_what → (told : TellsTrack entries id track (reaches by_what) (Root start n))
    → AllByRecursion IsLegal base → length base < 2 ^ 32 → sum ≡ profile base a b
    → CanAdd profile seat reaches by_what n told.0.tree start a b base sum
track-adds profile entries id track start n seat reaches by_what a b base sum has told all few e =
    let p : PublishedTree = told.0 in
    let legal = told.2.1.3.legal in
    let whole : IsLegal (stream_from p.tree start) =
    subst (λ (m : ℕ). IsLegal (stream_from p.tree m)) (sym told.3) (published-legal p told.2.0 legal
    told.2.2) in
    record {
      has = has;
      led = told.4;
      sums = published-sums p told.2.0 legal told.2.2;
      in_time = whole.in_time;
      is = e;
      fit = fits-legal_more base (stream_from p.tree start) all whole few;
    }

pub track-legal : (entries : List Entry) (id track start n : ℕ) (leads : ℕ → Tree → Type 0)
    → TellsTrack entries id track leads (Root start n)
    → AllByRecursion IsLegal (streams_from entries id track 1) × (length (streams_from entries id track 1) ≡
    1)
track-legal entries id track start n leads told =
    let p : PublishedTree = told.0 in
    let whole : IsLegal (stream_from p.tree start) =
    subst (λ (m : ℕ). IsLegal (stream_from p.tree m)) (sym told.3)
    (published-legal p told.2.0 told.2.1.3.legal told.2.2) in
    subst (λ (l : List TrackStream). AllByRecursion IsLegal l × (length l ≡ 1))
    (sym (streams-some entries id track start p told.1 told.3)) ((whole, tt), refl)

-- no track has more streams than one
length-of : (f : ℕ → Option TrackStream) (ks : List ℕ) → length (filter_map f ks) ≤ length ks
length-of f [] = omega arith
length-of f (k ∷ ks) = elim (f k) as (λ o. length (cons_option o (filter_map f ks)) ≤ length (k ∷ ks)) [
  | None ↦ omega (arith, length-of f ks)
  | Some s ↦ omega (arith, length-of f ks)
]

pub streams-few : (entries : List Entry) (id first n : ℕ) → length (streams_from entries id first n) ≤ n
streams-few entries id first n =
    omega (arith, length-of (stream_of entries id) (range_with_len first n), length-range_with_len first n)

-- more tracks have no fewer levels
levels-later : (entries : List Entry) (id first n d : ℕ)
    → levels_from entries id first n ≤ levels_from entries id first (n + d)
levels-later entries id first n zero =
    let same : n + 0 ≡ n = omega arith in
    omega (arith, ap (levels_from entries id first) same)
levels-later entries id first n (suc d) =
    let same : n + suc d ≡ n + d + 1 = omega arith in
    omega (
      arith,
      ap (levels_from entries id first) same,
      levels-more entries id first (n + d) (first + (n + d)) refl,
      levels-later entries id first n d,
    )

pub levels-upto : (entries : List Entry) (id first n k : ℕ) → n ≤ k
    → levels_from entries id first n ≤ levels_from entries id first k
levels-upto entries id first n k h =
    let same : n + (k - n) ≡ k = omega (arith, h) in
    omega (arith, ap (levels_from entries id first) same, levels-later entries id first n (k - n))

-- the tracks up to the next one
pub streams-next : (entries later : List Entry) (id first track : ℕ) → later ≡ entries → first ≤ track
    → streams_from entries id first (track + 1 - first)
    ≡ streams_from entries id first (track - first) ++ streams_from later id track 1
streams-next entries later id first track same h =
    let next : track + 1 - first ≡ track - first + 1 = omega (arith, h) in
    ap (streams_from entries id first) next
    ∙ streams-more entries id first (track - first) track (omega (arith, h))
    ∙ ap (λ (es : List Entry). streams_from entries id first (track - first) ++ streams_from es id track 1)
    (sym same)

pub levels-next : (entries later : List Entry) (id first track : ℕ) → later ≡ entries → first ≤ track
    → levels_from entries id first (track + 1 - first)
    ≡ levels_from entries id first (track - first) + levels_from later id track 1
levels-next entries later id first track same h =
    let next : track + 1 - first ≡ track - first + 1 = omega (arith, h) in
    ap (levels_from entries id first) next
    ∙ levels-more entries id first (track - first) track (omega (arith, h))
    ∙ ap (λ (es : List Entry). levels_from entries id first (track - first) + levels_from es id track 1)
    (sym same)
