-- What the owner of a plain hall reaches, from one moment to the next.
use Rattle.std.proofs.Common.{◌≡◌, ℕ, [], ◌∷◌, List, Contains, Some, inl, inr, take, refl, sym, ◌∙◌, subst}
use Rattle.std.specs.List.{AllZip}
use Rattle.std.proofs.lemmas.Option.{same_Some}
use Rattle.list_lemmas.proofs.Members.{Contains-from_IsAmong, IsAmong}
use Rattle.std.proofs.lemmas.List.Elements.{All-contains}
use Rattle.hall_history.specs.History.{Entry}
use Rattle.hall_history.specs.declared.seat.PinView.{PinView}
use Rattle.hall_trait.specs.Nodes.{ReadsNode}
use Rattle.hall_trait.specs.Reach.{FromPin, FromStake, KeepsReach, Source}
use Rattle.node_key.specs.Branches.{branches}
use Rattle.node_key.specs.Keys.{IsKeyOf, numbered}
use Rattle.node_key.specs.Leads.{Leads, here, below}
use Rattle.node_key.proofs.Leading.{leads-then}
use Rattle.node_key.specs.Stands.{KeyAt, KidsStand, Stands}
use Rattle.node_key.specs.Tree.{Kids, Tree, kid, no_kids}
use Rattle.node_key.specs.declared.key.Kid.{Kid}
use Rattle.node_key.specs.declared.tree.Branch.{Branch}
use Rattle.node_key.specs.declared.key.NodeKey.{NodeKey}
use Rattle.node_store.proofs.TreesUnder.{stands_still}
use Rattle.node_store.specs.Given.{ever, stakes_of}
use Rattle.node_store.specs.Kept.{KeepsNumbers, NodesKept}
use Rattle.registry_core.specs.Asking.{asked_ids}
use Rattle.registry_core.specs.Registry.{RegistryValue, kept_trace}
use Rattle.registry_core.specs.Staying.{KeepsTold, TellsRootsOf}
use Rattle.registry_core.specs.Trace.{Trace}
use Rattle.plain_hall.specs.PlainSeat.{plain_seat}
use Rattle.plain_hall.specs.Reaching.{LeadsTo, Reaches, SeesRoot}

-- where more keys are found, a number leads to what it led to
pub leads_more : (before after : KeyAt)
    → ((n : ℕ) (key : NodeKey) → before n ≡ Some key → after n ≡ Some key) → (from n : ℕ)
    → Leads before from n → Leads after from n
leads_more before after more from n here = here
leads_more before after more from n (below m key k up is has) =
    below m key k (leads_more before after more from m up) (more m key is) has

pub leads_still : (s t : NodesKept) (from n : ℕ) (u : Tree) → KeepsNumbers s t
    → LeadsTo (ever s.given) from n u → LeadsTo (ever t.given) from n u
leads_still s t from n u keeps was = record {
  led = leads_more (ever s.given) (ever t.given) keeps from n was.led;
  stands = stands_still (ever s.given) (ever t.given) keeps n u was.stands;
}

-- a root that a pin is told of stays told
sees_still : (r q : RegistryValue) (pin : PinView) (root : ℕ) → KeepsTold r q pin.ids pin.place
    → SeesRoot r pin root → SeesRoot q pin root
sees_still r q pin root told was =
    let (u, kept, tells) = All-contains (λ id. (t : Trace) → kept_trace r.traces id ≡ Some t
    → (u : Trace) × (kept_trace q.traces id ≡ Some u) × TellsRootsOf pin.place t u) (asked_ids pin.ids)
    was.id told was.asked was.trace was.kept in
    record {
      id = was.id;
      asked = was.asked;
      trace = u;
      kept = kept;
      track = was.track;
      start = was.start;
      told = tells was.track was.start root was.told;
    }

-- what was reached by a stake or a pin that is left is reached by it still
pub reach_still : (s t : NodesKept) (r q : RegistryValue) (pins left : List PinView) (entries : List Entry)
    → KeepsNumbers s t
    → ((p : PinView) → Contains pins p → Contains left p → KeepsTold r q p.ids p.place)
    → KeepsReach (plain_seat (stakes_of t.given) entries left) (Reaches s r pins) (Reaches t q left)
reach_still s t r q pins left entries keeps told (FromStake x) n u has was = record {
  has = has;
  leads = leads_still s t x.number n u keeps was.leads;
}
reach_still s t r q pins left entries keeps told (FromPin p) n u has was = record {
  has = has;
  root = was.root;
  sees = sees_still r q p was.root (told p was.has has) was.sees;
  leads = leads_still s t was.root n u keeps was.leads;
}

-- a number that is reached stands for its tree
pub reached_stands : (s : NodesKept) (r : RegistryValue) (pins : List PinView) (by_what : Source) (n : ℕ)
    (t : Tree) → Reaches s r pins by_what n t → Stands (ever s.given) n t
reached_stands s r pins (FromStake x) n t reached = reached.leads.stands
reached_stands s r pins (FromPin p) n t reached = reached.leads.stands

-- so is what lies below it
pub reached_below : (s : NodesKept) (r : RegistryValue) (pins : List PinView) (by_what : Source) (n m : ℕ)
    (t u : Tree) → Reaches s r pins by_what n t → Leads (ever s.given) n m → Stands (ever s.given) m u
    → Reaches s r pins by_what m u
reached_below s r pins (FromStake x) n m t u reached led stands = record {
  has = reached.has;
  leads = record { led = leads-then (ever s.given) x.number n m reached.leads.led led; stands = stands };
}
reached_below s r pins (FromPin p) n m t u reached led stands = record {
  has = reached.has;
  root = reached.root;
  sees = reached.sees;
  leads = record { led = leads-then (ever s.given) reached.root n m reached.leads.led led; stands = stands };
}

-- the kids of a key that is read are reached, each by what the node is
kids_reached : (s : NodesKept) (r : RegistryValue) (pins : List PinView) (by_what : Source) (n : ℕ) (t : Tree)
    (key : NodeKey) → Reaches s r pins by_what n t → ever s.given n ≡ Some key → (ns : List ℕ) (k : Kids)
    → ((c : Kid) → IsAmong (numbered k ns) c → Contains (take key.len key.kids) c)
    → KidsStand (ever s.given) ns k
    → AllZip (λ m (b : Branch). Reaches s r pins by_what m b.tree) ns (branches k)
kids_reached s r pins by_what n t key reached at [] no_kids among stand = tt
kids_reached s r pins by_what n t key reached at (m ∷ ns) no_kids among stand = absurd cc
kids_reached s r pins by_what n t key reached at [] (kid gap func dur inner more) among stand = stand
kids_reached s r pins by_what n t key reached at (m ∷ ns) (kid gap func dur inner more) among stand = (
  reached_below s r pins by_what n m t _ reached
      (below n key (record { gap = gap; span = dur; node = m }) here at (among _ (inl refl))) stand.0,
  kids_reached s r pins by_what n t key reached at ns more (λ c there. among c (inr there)) stand.1,
)

-- a node that is read is told with kids that are reached
pub node_reached : (s : NodesKept) (r : RegistryValue) (pins : List PinView) (by_what : Source) (n : ℕ)
    (t : Tree) (key : NodeKey) → Reaches s r pins by_what n t → ever s.given n ≡ Some key
    → ReadsNode (Reaches s r pins by_what) t key
node_reached s r pins by_what n t key reached at =
    let (own, ns, is, of, stand) = reached_stands s r pins by_what n t reached in
    let is_key = subst (IsKeyOf t ns) (same_Some own key (sym is ∙ at)) of in (
      ns,
      is_key,
      kids_reached s r pins by_what n t key reached at ns t.kids (λ c there.
          subst (λ (cs : List Kid). Contains cs c) (sym is_key.kids)
          (Contains-from_IsAmong (numbered t.kids ns) c there)) stand,
    )
