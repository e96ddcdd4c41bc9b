-- What the owner of a plain hall reaches is stored, so that equal trees have one number.
use Rattle.std.proofs.Common.{◌≡◌, ℕ, ◌++◌, List, Contains, sym, subst}
use Rattle.std.proofs.lemmas.List.Elements.{Contains-append_left, Contains-append_right}
use Rattle.list_lemmas.proofs.Members.{Contains-from_IsAmong, IsAmong-from_Contains, IsAmong-map}
use Rattle.hall_history.specs.History.{EntryOf}
use Rattle.hall_history.specs.declared.asks.AskIds.{AskIds}
use Rattle.hall_history.specs.declared.seat.PinView.{PinView}
use Rattle.hall_trait.specs.Reach.{FromPin, FromStake, Source}
use Rattle.node_key.specs.Stakes.{stake}
use Rattle.node_key.specs.Stands.{Stands}
use Rattle.node_key.specs.Tree.{Tree}
use Rattle.node_key.specs.declared.stake.Stake.{Stake}
use Rattle.node_store.proofs.Leading.{led_ever}
use Rattle.node_store.specs.Given.{ever, stakes_of}
use Rattle.node_store.specs.Kept.{NodesKept}
use Rattle.node_store.specs.TreeUnder.{tree_under}
use Rattle.registry_core.proofs.ToldStays.{told-kept}
use Rattle.registry_core.specs.Registry.{RegistryValue}
use Rattle.registry_core.specs.Roots.{roots_kept}
use Rattle.store_laws.proofs.CanonicTrees.{one_number, one_tree}
use Rattle.store_laws.specs.Store.{key_in}
use Rattle.plain_hall.specs.Reaching.{LeadsTo, Reaches}
use Rattle.plain_hall.specs.Rooted.{stakes_under}
use Rattle.plain_hall.specs.Whole.{IsSoundHall}
use Rattle.plain_hall.specs.declared.root.Root.{Root}

-- what a held number leads to is stored
led_stored : (s : NodesKept) (r : RegistryValue) (entries : List (EntryOf Root)) (queries : List AskIds)
    (x : Stake) (n : ℕ) (t : Tree) → IsSoundHall s r entries queries
    → Contains (stakes_of s.given ++ stakes_under (ever s.given) (roots_kept r.traces)) x
    → LeadsTo (ever s.given) x.number n t → Stands (key_in s.rooms) n t
led_stored s r entries queries x n t whole among leads =
    let kept = led_ever s (stakes_under (ever s.given) (roots_kept r.traces)) x whole.store whole.roots among in
    let there = (kept.led n).1 leads.led in (kept.trees n t there).1 leads.stands

-- what is reached is
pub reached_stored : (s : NodesKept) (r : RegistryValue) (entries : List (EntryOf Root))
    (queries : List AskIds) (pins : List PinView) (by_what : Source) (n : ℕ) (t : Tree)
    → IsSoundHall s r entries queries → Reaches s r pins by_what n t → Stands (key_in s.rooms) n t
reached_stored s r entries queries pins (FromStake x) n t whole reached =
    led_stored s r entries queries x n t whole (Contains-append_left (stakes_of s.given) _ x reached.has)
    reached.leads
reached_stored s r entries queries pins (FromPin p) n t whole reached =
    let root = reached.root in
    let sees = reached.sees in
    let kept = told-kept r.traces sees.id p.place sees.track sees.start root sees.trace sees.kept sees.told in
    let x = stake root (tree_under (ever s.given) root) in
    led_stored s r entries queries x n t whole (Contains-append_right (stakes_of s.given)
    (stakes_under (ever s.given) (roots_kept r.traces)) x
    (Contains-from_IsAmong (stakes_under (ever s.given) (roots_kept r.traces)) x
    (IsAmong-map (λ m. stake m (tree_under (ever s.given) m)) (roots_kept r.traces) root
    (IsAmong-from_Contains (roots_kept r.traces) root kept)))) reached.leads

-- two numbers that are reached are equal exactly if their trees are
pub same_numbers_same_trees : (s : NodesKept) (r : RegistryValue) (entries : List (EntryOf Root))
    (queries : List AskIds) (pins : List PinView) (by_what : Source) (a b : ℕ) (t u : Tree)
    → IsSoundHall s r entries queries → Reaches s r pins by_what a t → Reaches s r pins by_what b u
    → (a ≡ b → t ≡ u) × (t ≡ u → a ≡ b)
same_numbers_same_trees s r entries queries pins by_what a b t u whole first second =
    let on_a = reached_stored s r entries queries pins by_what a t whole first in
    let on_b = reached_stored s r entries queries pins by_what b u whole second in (
      λ same. one_tree (key_in s.rooms) a t u on_a
          (subst (λ (n : ℕ). Stands (key_in s.rooms) n u) (sym same) on_b),
      λ same. one_number s.rooms a b t whole.roots.canonic on_a
          (subst (λ (v : Tree). Stands (key_in s.rooms) b v) (sym same) on_b),
    )
