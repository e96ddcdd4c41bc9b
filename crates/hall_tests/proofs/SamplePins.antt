-- What the tests need of what a pin sees.
use Rattle.std.proofs.Common.{◌≡◌, ℕ, zero, suc, List, [], ◌∷◌, Bool, Contains, take, refl, ap, ◌∙◌, sym, subst}
use Rattle.std.specs.Prelude.{slice_index_or}
use Rattle.std.specs.List.{AllZip}
use Rattle.std.proofs.Math.Seq.{take-length}
use Rattle.hall_history.specs.History.{Entry, tracks_of}
use Rattle.hall_history.specs.Seat.{Seat}
use Rattle.hall_history.specs.declared.asks.AskIds.{AskIds}
use Rattle.hall_history.specs.declared.published.Published.{Published}
use Rattle.hall_history.specs.declared.published.Published.TheVariants.{Root}
use Rattle.hall_trait.specs.Answers.{PinsTraces}
use Rattle.hall_history.specs.declared.seat.PinView.{PinView}
use Rattle.hall_trait.specs.Nodes.{ReadsNode, TellsTrack}
use Rattle.hall_history.specs.Asks.{first_id, second_id}
use Rattle.hall_trait.specs.Reach.{FromPin, KeepsReach, Reaching}
use Rattle.hall_trait.specs.declared.pin.Pin.{Pin}
use Rattle.node_key.specs.Branches.{branches}
use Rattle.node_key.specs.Keys.{numbered}
use Rattle.node_key.specs.Tree.{Kids, Tree, count, kid, no_kids}
use Rattle.node_key.specs.declared.key.Kid.{Kid}
use Rattle.node_key.specs.declared.key.NodeKey.{NodeKey}
use Rattle.node_key.specs.declared.tree.Branch.{Branch}
use Rattle.hall_tests.specs.Sees.{Sees}

-- all that was seen was seen at a pin's place
pinned_seen : (alone : Bool) (old new : Seat) (ids : AskIds) (pin : Pin) → PinsTraces alone old new ids pin
    → take pin.place new.seen ≡ new.seen
pinned_seen alone old new ids pin pinned = ap (λ k. take k new.seen) pinned.entered.last ∙ take-length new.seen

-- its first trace has this many tracks
pub pinned_tracks : (alone : Bool) (old new : Seat) (ids : AskIds) (pin : Pin)
    → PinsTraces alone old new ids pin → tracks_of (take pin.place new.seen) (first_id pin.ids) ≡ pin.first.tracks
pinned_tracks alone old new ids pin pinned =
    ap (λ (es : List Entry). tracks_of es (first_id pin.ids)) (pinned_seen alone old new ids pin pinned)
    ∙ ap (λ (is : AskIds). tracks_of new.seen (first_id is)) pinned.same_ids ∙ sym pinned.first

-- a root that is told is reached
pub root_reached : (entries : List Entry) (id track : ℕ) (leads : ℕ → Tree → Type 0) (told : Published)
    (start n : ℕ) → told ≡ Root start n → TellsTrack entries id track leads told → (t : Tree) × leads n t
root_reached entries id track leads told start n is tells =
    let root = subst (λ (p : Published). TellsTrack entries id track leads p) is tells in
    (root.0.tree, root.4)

-- ... and its second trace this many
pub pinned_tracks_second : (alone : Bool) (old new : Seat) (ids : AskIds) (pin : Pin)
    → PinsTraces alone old new ids pin
    → tracks_of (take pin.place new.seen) (second_id pin.ids) ≡ pin.second.tracks
pinned_tracks_second alone old new ids pin pinned =
    ap (λ (es : List Entry). tracks_of es (second_id pin.ids)) (pinned_seen alone old new ids pin pinned)
    ∙ ap (λ (is : AskIds). tracks_of new.seen (second_id is)) pinned.same_ids ∙ sym pinned.second

-- what a pin sees it sees as long as the seat has it
pub sees_still : (seat : Seat) (was now : Reaching) (pin : PinView) → KeepsReach seat was now
    → Contains seat.pins pin → (n : ℕ) → Sees was pin n → Sees now pin n
sees_still seat was now pin keeps has n sees = (sees.0, keeps (FromPin pin) n sees.0 has sees.1)

-- the first of some items
first_item : (xs : List Kid) (n : ℕ) (d x : Kid) (rest : List Kid) → take n xs ≡ x ∷ rest
    → slice_index_or xs 0 d ≡ x
first_item [] zero d x rest is = absurd cc
first_item [] (suc n) d x rest is = absurd cc
first_item (y ∷ ys) zero d x rest is = absurd cc
first_item (y ∷ ys) (suc n) d x rest is = cc

-- the first kid of a node that is read is reached
pub first_kid_led : (leads : ℕ → Tree → Type 0) (t : Tree) (key : NodeKey) (d : Kid) → (key.len ≡ 0 → ⊥)
    → ReadsNode leads t key → (u : Tree) × leads (slice_index_or key.kids 0 d).node u
first_kid_led leads t key d some (ns, of, zip) =
    go t.kids ns of.kids (λ none. some (of.len ∙ none)) zip
  where
    go : (ks : Kids) (ns : List ℕ) → take key.len key.kids ≡ numbered ks ns → (count ks ≡ 0 → ⊥)
        → AllZip (λ n (b : Branch). leads n b.tree) ns (branches ks)
        → (u : Tree) × leads (slice_index_or key.kids 0 d).node u
    go no_kids ns is some zip = absurd (some refl)
    go (kid gap func dur inner more) [] is some zip = absurd zip
    go (kid gap func dur inner more) (n ∷ ns) is some zip = (
      _,
      subst (λ m. leads m (record { func = func; dur = dur; kids = inner }))
          (sym (ap (λ (k : Kid). k.node) (first_item key.kids key.len d _ _ is))) zip.0,
    )
