-- What stakes and roots stand for, where a track is published and where it is told.
use Rattle.std.proofs.Common.{◌≡◌, ℕ, ◌-◌, zero-lt-suc, List, [], ◌∷◌, take, Some, refl, ap, ◌∙◌, subst, arith, Contains}
use Rattle.trace_base.specs.declared.stream.TrackStream.{TrackStream}
use Rattle.hall_history.proofs.Legal.{legal_before}
use Rattle.hall_history.specs.declared.asks.AskIds.{AskIds}
use Rattle.hall_history.specs.declared.published.Published.{Published}
use Rattle.hall_history.specs.declared.published.Published.TheVariants.{NotYet, Root as RootAt}
use Rattle.hall_history.specs.History.{EntryOf, published_of, published_tree}
use Rattle.hall_history.specs.declared.seat.PinView.{PinView}
use Rattle.hall_trait.specs.Nodes.{TellsTrack}
use Rattle.node_key.specs.Leads.{here}
use Rattle.node_key.specs.Stakes.{HasStakes, stake}
use Rattle.node_key.specs.Stands.{KeyAt, Stands}
use Rattle.node_key.specs.Tree.{Tree}
use Rattle.node_key.specs.Trees.{tree}
use Rattle.registry_core.proofs.ToldTracks.{not_yet_told, published_told}
use Rattle.registry_core.specs.Asking.{asked_ids}
use Rattle.registry_core.specs.Registry.{RegistryValue, kept_trace}
use Rattle.registry_core.specs.Standing.{AreTrees}
use Rattle.registry_core.specs.Trace.{Trace, published_by}
use Rattle.store_laws.proofs.SumsOfStakes.{among_held}
use Rattle.node_store.proofs.TreesUnder.{tree_is}
use Rattle.node_store.specs.Given.{ever, stakes_of}
use Rattle.node_store.specs.Kept.{NodesKept}
use Rattle.plain_hall.specs.HallLaws.{stakes_stand}
use Rattle.plain_hall.specs.Reaching.{ReachesByPin}
use Rattle.plain_hall.specs.Rooted.{tree_of_root, with_trees}
use Rattle.plain_hall.specs.Whole.{IsSoundHall, at_first}
use Rattle.plain_hall.specs.declared.root.Root.{Root}
use Rattle.plain_hall.proofs.Found.{published_fits}

-- a number with a stake stands for its tree
pub staked_stands : (nodes : NodesKept) (r : RegistryValue) (entries : List (EntryOf Root))
    (queries : List AskIds) (n : ℕ) (t : Tree) → IsSoundHall nodes r entries queries
    → HasStakes (stakes_of nodes.given) (stake n t ∷ []) → Stands (ever nodes.given) n t
staked_stands nodes r entries queries n t whole has =
    stakes_stand whole (stake n t) (among_held (stakes_of nodes.given) (stake n t ∷ []) (stake n t) has
    (0, zero-lt-suc 0, refl))

-- so it is the root of that tree
pub root_of_tree : (key_at : KeyAt) (n start : ℕ) (s : TrackStream) → Stands key_at n (tree s) → start ≡ s.start
    → tree_of_root key_at (record { start = start; node = n }) ≡ published_tree s
root_of_tree key_at n start s stands begins =
    let same = tree_is key_at n (tree s) stands in
    λ i. record { start = begins i; tree = same i }

-- what the registry tells of a track is what the history tells
pub track_told : (nodes : NodesKept) (r : RegistryValue) (entries : List (EntryOf Root))
    (queries : List AskIds) (id place track : ℕ) (t : Trace) (o : Published)
    → IsSoundHall nodes r entries queries → kept_trace r.traces id ≡ Some t → published_by t place track ≡ o
    → TellsTrack (take place (with_trees (ever nodes.given) entries)) id track (Stands (ever nodes.given)) o
track_told nodes r entries queries id place track t NotYet whole kept told =
    let seen = with_trees (ever nodes.given) entries in
    let all : place - 0 ≡ place = omega arith in
    ap (λ n. published_of (take n seen) id track) (Rattle.std.proofs.Common.sym all)
    ∙ not_yet_told (AreTrees (ever nodes.given)) at_first r seen id place track t whole.stands kept told
track_told nodes r entries queries id place track t (RootAt start root) whole kept told =
    let seen = with_trees (ever nodes.given) entries in
    let all : place - 0 ≡ place = omega arith in
    let is =
    published_told (AreTrees (ever nodes.given)) at_first r seen id place track start root t whole.stands kept
    told in
    let at = ap (λ n. published_of (take n seen) id track) (Rattle.std.proofs.Common.sym all) ∙ is.1 in (
      is.0,
      at,
      published_fits (take place seen) id track is.0 (legal_before seen place whole.legal) at,
      is.2.0,
      is.2.1,
    )

-- the root that is told is reached by the pin
pub track_reached : (nodes : NodesKept) (r : RegistryValue) (entries : List (EntryOf Root))
    (queries : List AskIds) (pins : List PinView) (pin : PinView) (id track : ℕ) (t : Trace) (o : Published)
    → IsSoundHall nodes r entries queries → Contains pins pin → Contains (asked_ids pin.ids) id
    → kept_trace r.traces id ≡ Some t → published_by t pin.place track ≡ o
    → TellsTrack (take pin.place (with_trees (ever nodes.given) entries)) id track
    (ReachesByPin nodes r pins pin) o
track_reached nodes r entries queries pins pin id track t NotYet whole has asked kept told =
    track_told nodes r entries queries id pin.place track t NotYet whole kept told
track_reached nodes r entries queries pins pin id track t (RootAt start root) whole has asked kept told =
    let (p, at, fits, begins, stands) =
    track_told nodes r entries queries id pin.place track t (RootAt start root) whole kept told in (
      p,
      at,
      fits,
      begins,
      record {
        has = has;
        root = root;
        sees = record {
          id = id;
          asked = asked;
          trace = t;
          kept = kept;
          track = track;
          start = start;
          told = told;
        };
        leads = record { led = here; stands = stands };
      },
    )
