-- The roots that a registry keeps of a trace, as stakes on the trees that the history published of it.
use Rattle.std.proofs.Common.{◌≡◌, ◌+◌, ◌∙◌, ℕ, suc, All, List, [], ◌∷◌, Option, None, Some, ap, arith, length}
use Rattle.std.proofs.Common.{map, option_map, refl, subst, sym}
use Rattle.std.specs.List.{cons_option, filter_map, range_with_len}
use Rattle.std.specs.Prelude.{slice_get}
use Rattle.std.proofs.lemmas.List.Elements.{All-cons, All-nil}
use Rattle.list_lemmas.proofs.Fronts.{cons_head, cons_tail, no_cons}
use Rattle.hall_history.proofs.HistoryFronts.{published_stays}
use Rattle.hall_history.specs.History.{Entry, PublishedTree, published_of}
use Rattle.hall_world.specs.Seats.{AreRootStakes}
use Rattle.node_key.specs.Stands.{KeyAt, Stands}
use Rattle.node_key.specs.Stakes.{stake}
use Rattle.node_key.specs.Tree.{Tree}
use Rattle.node_key.specs.declared.stake.Stake.{Stake}
use Rattle.registry_core.proofs.FollowsRegistry.{slots_told}
use Rattle.registry_core.proofs.KeptTraces.{kept_id}
use Rattle.registry_core.specs.Registry.{RegistryValue, kept_trace}
use Rattle.registry_core.specs.Standing.{AreTrees, KeepsTrack, StandsFor, Start}
use Rattle.registry_core.specs.Trace.{Trace, roots_in}
use Rattle.registry_core.specs.declared.track_root.TrackRoot.{TrackRoot}

-- a stake whose number stands for its tree
abbrev pub StakeStands : KeyAt → Stake → Type 0
StakeStands key_at x = Stands key_at x.number x.tree

-- ---- slot by slot

module _ (key_at : KeyAt) (start : Start) (entries : List Entry) (id : ℕ) where
  -- the tree that was published as a track
  abbrev pub tree_of_track : ℕ → Option Tree
  tree_of_track track = option_map (λ (p : PublishedTree). p.tree) (published_of entries id track)

  -- stakes on the roots of slots, which are those of the tracks from one on
  pub record RootsFrom (track : ℕ) (slots : List (Option TrackRoot)) : Type 0 where
    pub stakes : List Stake
    pub numbers : map (λ (x : Stake). x.number) stakes ≡ roots_in slots
    pub trees : map (λ (x : Stake). x.tree) stakes ≡ filter_map tree_of_track (range_with_len track (length slots))
    pub stand : All (StakeStands key_at) stakes

  -- a slot of which nothing is published adds none
  free : (track : ℕ) (slots : List (Option TrackRoot)) → published_of entries id track ≡ None
      → RootsFrom (track + 1) slots → RootsFrom track (None ∷ slots)
  free track slots none rest = record {
    stakes = rest.stakes;
    numbers = rest.numbers;
    trees = rest.trees
        ∙ ap (λ (o : Option PublishedTree). cons_option (option_map (λ (p : PublishedTree). p.tree) o)
        (filter_map tree_of_track (range_with_len (track + 1) (length slots)))) (sym none);
    stand = rest.stand;
  }

  -- a root that is published adds one
  filled : (track : ℕ) (q : TrackRoot) (p : PublishedTree) (slots : List (Option TrackRoot))
      → published_of entries id track ≡ Some p → Stands key_at q.root p.tree → RootsFrom (track + 1) slots
      → RootsFrom track (Some q ∷ slots)
  filled track q p slots is stands rest = record {
    stakes = stake q.root p.tree ∷ rest.stakes;
    numbers = ap (λ ns. q.root ∷ ns) rest.numbers;
    trees = ap (λ ts. p.tree ∷ ts) rest.trees
        ∙ ap (λ (o : Option PublishedTree). cons_option (option_map (λ (p : PublishedTree). p.tree) o)
        (filter_map tree_of_track (range_with_len (track + 1) (length slots)))) (sym is);
    stand = All-cons (StakeStands key_at) (stake q.root p.tree) rest.stakes stands rest.stand;
  }

  one : (track : ℕ) (slot : Option TrackRoot) (slots : List (Option TrackRoot))
      → KeepsTrack (AreTrees key_at) start entries id track slot → RootsFrom (track + 1) slots
      → RootsFrom track (slot ∷ slots)
  one track None slots none rest = free track slots none rest
  one track (Some q) slots (what, (begins, stands), since, by) rest =
      filled track q what slots (published_stays entries _ id track what by.from) stands rest

  pub roots_from : (track : ℕ) (slots : List (Option TrackRoot))
      → ((i : ℕ) (slot : Option TrackRoot) → slice_get slots i ≡ Some slot
      → KeepsTrack (AreTrees key_at) start entries id (track + i) slot) → RootsFrom track slots
  roots_from track [] each = record { stakes = []; numbers = refl; trees = refl; stand = All-nil (StakeStands key_at) }
  roots_from track (slot ∷ slots) each =
      one track slot slots
      (subst (λ (n : ℕ). KeepsTrack (AreTrees key_at) start entries id n slot)
      (let e : track + 0 ≡ track = omega arith in e) (each 0 slot refl))
      (roots_from (track + 1) slots (λ i s at.
      subst (λ (n : ℕ). KeepsTrack (AreTrees key_at) start entries id n s)
      (let e : track + suc i ≡ track + 1 + i = omega arith in e) (each (suc i) s at)))

-- ---- a kept trace

-- stakes that are on the roots of a trace, each of which stands
pub record StandingRoots (key_at : KeyAt) (entries : List Entry) (id : ℕ) (roots : List ℕ) : Type 0 where
  pub stakes : List Stake
  pub on_roots : AreRootStakes entries id roots stakes
  pub stand : All (StakeStands key_at) stakes

-- there are such
pub root_stakes : (key_at : KeyAt) (start : Start) (r : RegistryValue) (entries : List Entry) (id : ℕ) (t : Trace)
    → StandsFor (AreTrees key_at) start r entries → kept_trace r.traces id ≡ Some t
    → StandingRoots key_at entries id (roots_in t.tracks)
root_stakes key_at start r entries id t was kept =
    let own = kept_id r.traces id t kept in
    let all = roots_from key_at start entries id 0 t.tracks
    (λ i slot at. subst (λ (k : ℕ). KeepsTrack (AreTrees key_at) start entries id k slot)
    (let e : i ≡ 0 + i = omega arith in e)
    (subst (λ (n : ℕ). KeepsTrack (AreTrees key_at) start entries n i slot) own
    ((was.traces id t kept).tracks i slot at))) in
    record {
      stakes = all.stakes;
      on_roots = record {
        numbers = all.numbers;
        trees = all.trees ∙ ap (λ n. filter_map (tree_of_track key_at start entries id) (range_with_len 0 n))
            (sym (slots_told (AreTrees key_at) start r entries id t was kept));
      };
      stand = all.stand;
    }

-- stakes with the same numbers and the same trees are the same
pub same_stakes : (xs ys : List Stake) → map (λ (x : Stake). x.number) xs ≡ map (λ (x : Stake). x.number) ys
    → map (λ (x : Stake). x.tree) xs ≡ map (λ (x : Stake). x.tree) ys → xs ≡ ys
same_stakes [] [] numbers trees = refl
same_stakes (x ∷ xs) [] numbers trees = absurd (no_cons _ _ numbers)
same_stakes [] (y ∷ ys) numbers trees = absurd (no_cons _ _ (sym numbers))
same_stakes (x ∷ xs) (y ∷ ys) numbers trees =
    let ns = λ (zs : List Stake). map (λ (z : Stake). z.number) zs in
    let ts = λ (zs : List Stake). map (λ (z : Stake). z.tree) zs in
    let number = cons_head x.number y.number (ns xs) (ns ys) numbers in
    let tree = cons_head x.tree y.tree (ts xs) (ts ys) trees in
    let rest = same_stakes xs ys (cons_tail x.number y.number (ns xs) (ns ys) numbers)
    (cons_tail x.tree y.tree (ts xs) (ts ys) trees) in
    λ i. (let s : Stake = record { number = number i; tree = tree i } in s) ∷ rest i

-- so all such stakes stand
pub root_stakes_stand : (key_at : KeyAt) (start : Start) (r : RegistryValue) (entries : List Entry) (id : ℕ)
    (t : Trace) (stakes : List Stake) → StandsFor (AreTrees key_at) start r entries
    → kept_trace r.traces id ≡ Some t → AreRootStakes entries id (roots_in t.tracks) stakes
    → All (StakeStands key_at) stakes
root_stakes_stand key_at start r entries id t stakes was kept are =
    let all = root_stakes key_at start r entries id t was kept in
    subst (All (StakeStands key_at))
    (same_stakes all.stakes stakes (all.on_roots.numbers ∙ sym are.numbers) (all.on_roots.trees ∙ sym are.trees))
    all.stand
