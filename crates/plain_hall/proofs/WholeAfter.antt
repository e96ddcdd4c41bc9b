-- What each call leaves of what holds of a plain hall.
use Rattle.std.proofs.Common.{◌≡◌, List, [], ◌∷◌, ◌++◌, Option, None, Some, refl, sym, ap, ◌∙◌, subst}
use Rattle.std.proofs.Common.{arith, inl, inr, true}
use Rattle.std.specs.Prelude.{slice_get, is_some}
use Rattle.std.proofs.lemmas.List.{map-append}
use Rattle.list_lemmas.proofs.Positions.{last_or_before}
use Rattle.hall_history.proofs.Legal.{legal_more}
use Rattle.hall_history.specs.History.{Entry, EntryOf, IsLegalHistory, MayFollow}
use Rattle.hall_history.specs.History.{Opened, Published, Sealed, Dropped, Closed, Asked}
use Rattle.hall_history.specs.declared.asks.AskIds.{AskIds}
use Rattle.node_key.specs.Stands.{KeyAt}
use Rattle.node_key.specs.declared.key.NodeKey.{NodeKey}
use Rattle.node_key.specs.declared.stake.Stake.{Stake}
use Rattle.node_store.proofs.TreesUnder.{stands_still, tree_still}
use Rattle.node_store.specs.Given.{ever}
use Rattle.node_store.specs.Kept.{AreKept, KeepsFor, KeepsNumbers, NodesKept}
use Rattle.registry_core.proofs.StandsStarted.{stands-started}
use Rattle.registry_core.proofs.ToldTracks.{stands_with_more}
use Rattle.registry_core.specs.Registry.{RegistryValue, new_registry}
use Rattle.registry_core.specs.Roots.{roots_kept}
use Rattle.registry_core.specs.Standing.{AreTrees, StandsFor}
use Rattle.registry_core.specs.UsedBy.{AreUsedBy}
use Rattle.plain_hall.specs.Orderly.{IsOrderly}
use Rattle.plain_hall.specs.Rooted.{NamesNode, NameNodes, stakes_under, told_by, tree_of_root, with_trees}
use Rattle.plain_hall.specs.Whole.{IsSoundHall, at_first}
use Rattle.plain_hall.specs.declared.root.Root.{Root}
use Rattle.plain_hall.proofs.Legal.{IsInTurn, orderly_more, orderly_none}
use Rattle.plain_hall.proofs.RootStakes.{roots_still}
use Rattle.plain_hall.proofs.Told.{SameTrees, with_trees-same}

-- one entry more

pub seen_more : (key_at : KeyAt) (old new : List (EntryOf Root)) (e : EntryOf Root) → new ≡ old ++ e ∷ []
    → with_trees key_at new ≡ with_trees key_at old ++ told_by (tree_of_root key_at) e ∷ []
seen_more key_at old new e seen = ap (with_trees key_at) seen ∙ map-append (told_by (tree_of_root key_at)) old
    (e ∷ [])

numbered_more : (key_at : KeyAt) (old new : List (EntryOf Root)) (e : EntryOf Root) → new ≡ old ++ e ∷ []
    → NamesNode key_at e → NameNodes key_at old → NameNodes key_at new
numbered_more key_at old new e seen here were k x at = elim (last_or_before old e k x
    (sym (ap (λ es. slice_get es k) seen) ∙ at)) [
      | inl before ↦ were k x before
      | inr last ↦ let P : EntryOf Root → Type 0 = λ y. NamesNode key_at y in subst P (sym last.1) here
    ]

-- the registry and the store go on with the entry
pub whole_entry : (s t : NodesKept) (r q : RegistryValue) (old new : List (EntryOf Root)) (e : EntryOf Root)
    (before after : List AskIds) → new ≡ old ++ e ∷ []
    → MayFollow (with_trees (ever s.given) old) (told_by (tree_of_root (ever s.given)) e)
    → IsInTurn (with_trees (ever s.given) old) (told_by (tree_of_root (ever s.given)) e)
    → StandsFor (AreTrees (ever s.given)) at_first q
    (with_trees (ever s.given) old ++ told_by (tree_of_root (ever s.given)) e ∷ [])
    → AreUsedBy q.traces after → ever t.given ≡ ever s.given → AreKept t
    → KeepsFor t (stakes_under (ever s.given) (roots_kept q.traces)) → NamesNode (ever s.given) e
    → IsSoundHall s r old before → IsSoundHall t q new after
whole_entry s t r q old new e before after seen may turn stands used same kept keeps named was =
    let told = sym (seen_more (ever s.given) old new e seen) in
    let Legal : KeyAt → Type 0 = λ k. IsLegalHistory (with_trees k new) in
    let Orderly : KeyAt → Type 0 = λ k. IsOrderly (with_trees k new) in
    let Standing : KeyAt → Type 0 = λ k. StandsFor (AreTrees k) at_first q (with_trees k new) in
    let Keeping : KeyAt → Type 0 = λ k. KeepsFor t (stakes_under k (roots_kept q.traces)) in
    let Named : KeyAt → Type 0 = λ k. NameNodes k new in
    record {
      legal = subst Legal (sym same) (subst (λ (es : List Entry). IsLegalHistory es) told
          (legal_more _ _ was.legal may));
      orderly = subst Orderly (sym same) (subst (λ (es : List Entry). IsOrderly es) told
          (orderly_more _ _ was.orderly may turn));
      stands = subst Standing (sym same)
          (subst (λ (es : List Entry). StandsFor (AreTrees (ever s.given)) at_first q es) told stands);
      used = used;
      store = kept;
      roots = subst Keeping (sym same) keeps;
      numbered = subst Named (sym same) (numbered_more (ever s.given) old new e seen named was.numbered);
    }

-- they go on without an entry
pub whole_back : (s t : NodesKept) (r q : RegistryValue) (entries : List (EntryOf Root))
    (before after : List AskIds)
    → StandsFor (AreTrees (ever s.given)) at_first q (with_trees (ever s.given) entries)
    → AreUsedBy q.traces after → ever t.given ≡ ever s.given → AreKept t
    → KeepsFor t (stakes_under (ever s.given) (roots_kept q.traces)) → IsSoundHall s r entries before
    → IsSoundHall t q entries after
whole_back s t r q entries before after stands used same kept keeps was =
    let Legal : KeyAt → Type 0 = λ k. IsLegalHistory (with_trees k entries) in
    let Orderly : KeyAt → Type 0 = λ k. IsOrderly (with_trees k entries) in
    let Standing : KeyAt → Type 0 = λ k. StandsFor (AreTrees k) at_first q (with_trees k entries) in
    let Keeping : KeyAt → Type 0 = λ k. KeepsFor t (stakes_under k (roots_kept q.traces)) in
    let Named : KeyAt → Type 0 = λ k. NameNodes k entries in
    record {
      legal = subst Legal (sym same) was.legal;
      orderly = subst Orderly (sym same) was.orderly;
      stands = subst Standing (sym same) stands;
      used = used;
      store = kept;
      roots = subst Keeping (sym same) keeps;
      numbered = subst Named (sym same) was.numbered;
    }

-- ---- the store goes on, and keeps its numbers

same_trees : (s t : NodesKept) → AreKept s → KeepsNumbers s t → SameTrees (ever s.given) (ever t.given)
same_trees s t were keeps n there = go (ever s.given n) refl there
  where
    go : (o : Option NodeKey) → ever s.given n ≡ o → is_some o ≡ true
        → Rattle.node_store.specs.TreeUnder.tree_under (ever t.given) n
        ≡ Rattle.node_store.specs.TreeUnder.tree_under (ever s.given) n
    go None at is = absurd cc
    go (Some key) at is = tree_still (ever s.given) (ever t.given) keeps n (were.stand n key at)

still_named : (s t : NodesKept) (e : EntryOf Root) → KeepsNumbers s t → NamesNode (ever s.given) e
    → NamesNode (ever t.given) e
still_named s t (Published id track r) keeps there = go (ever s.given r.node) refl there
  where
    go : (o : Option NodeKey) → ever s.given r.node ≡ o → is_some o ≡ true
        → is_some (ever t.given r.node) ≡ true
    go None at is = absurd cc
    go (Some key) at is = ap is_some (keeps r.node key at)
still_named s t (Opened id info) keeps there = tt
still_named s t (Sealed id) keeps there = tt
still_named s t (Dropped id) keeps there = tt
still_named s t (Closed id) keeps there = tt
still_named s t Asked keeps there = tt

pub seen_still : (s t : NodesKept) (r : RegistryValue) (entries : List (EntryOf Root))
    (queries : List AskIds) → KeepsNumbers s t → IsSoundHall s r entries queries
    → with_trees (ever t.given) entries ≡ with_trees (ever s.given) entries
seen_still s t r entries queries keeps was =
    with_trees-same (ever s.given) (ever t.given) entries (same_trees s t was.store keeps) was.numbered

pub whole_still : (s t : NodesKept) (r : RegistryValue) (entries : List (EntryOf Root))
    (queries : List AskIds) → KeepsNumbers s t → AreKept t
    → ((others : List Stake) → KeepsFor s others → KeepsFor t others) → IsSoundHall s r entries queries
    → IsSoundHall t r entries queries
whole_still s t r entries queries keeps kept on was =
    let same = sym (seen_still s t r entries queries keeps was) in
    record {
      legal = subst (λ (es : List Entry). IsLegalHistory es) same was.legal;
      orderly = subst (λ (es : List Entry). IsOrderly es) same was.orderly;
      stands = subst (λ (es : List Entry). StandsFor (AreTrees (ever t.given)) at_first r es) same
          (stands_with_more (AreTrees (ever s.given)) (AreTrees (ever t.given)) at_first r
          (with_trees (ever s.given) entries) (λ from root p is. (
            is.0,
            stands_still (ever s.given) (ever t.given) keeps root p.tree is.1,
          )) was.stands);
      used = was.used;
      store = kept;
      roots = subst (KeepsFor t) (sym (roots_still s t (roots_kept r.traces) was.store keeps was.roots))
          (on _ was.roots);
      numbered = λ k e at. still_named s t e keeps (was.numbered k e at);
    }

pub same_numbers : (s t : NodesKept) → ever t.given ≡ ever s.given → KeepsNumbers s t
same_numbers s t same n key at = ap (λ (k : KeyAt). k n) same ∙ at

-- ---- at first

pub whole_none : (s : NodesKept) (r : RegistryValue) (entries : List (EntryOf Root)) → entries ≡ []
    → r ≡ new_registry 0 1 → AreKept s → KeepsFor s [] → IsSoundHall s r entries []
whole_none s r entries none fresh kept keeps =
    subst (λ (q : RegistryValue). IsSoundHall s q entries []) (sym fresh)
    (subst (λ (es : List (EntryOf Root)). IsSoundHall s (new_registry 0 1) es []) (sym none) (record {
      legal = λ k e at. absurd cc;
      orderly = orderly_none;
      stands = stands-started (AreTrees (ever s.given)) 0 1 (omega arith) (omega arith) (omega arith);
      used = record {
        users = λ k d lt. absurd (omega (arith, lt));
        kept = λ id named. absurd (omega (arith, named));
      };
      store = kept;
      roots = keeps;
      numbered = λ k e at. absurd cc;
    }))
