-- The profiles that a plain hall keeps are whole, whatever its calls do.
use Rattle.std.proofs.Common.{◌≡◌, ℕ, Option, None, Some, Ok, inl, inr, ap, sym, ◌∙◌, subst}
use Rattle.hall_trait.specs.Memo.{FillsIn, TellsProfile}
use Rattle.memo_rooms.proofs.WholeKept.{of_trees_filled, of_trees_grown}
use Rattle.memo_rooms.specs.Rooms.{IsKeptAfter, Kept, LookTells}
use Rattle.node_key.specs.Stands.{KeyAt, Stands}
use Rattle.node_key.specs.Tree.{Tree}
use Rattle.node_store.proofs.TreesUnder.{stands_still}
use Rattle.node_store.specs.Given.{ever}
use Rattle.node_store.specs.Kept.{KeepsNumbers, NodesKept}
use Rattle.store_laws.proofs.CanonicTrees.{one_tree}
use Rattle.whole_profiles.specs.Entry.{entry_kind}
use Rattle.whole_profiles.specs.Whole.{whole_profile}
use Rattle.whole_profiles.specs.declared.entry.Entry.{Entry}
use Rattle.whole_profiles.specs.declared.memo_kind.MemoKind.{MemoKind}
use Rattle.whole_profiles.specs.declared.memo_kind.MemoKind.TheVariants.{Flat, Paths}
use Rattle.plain_hall.specs.Profiles.{AreProfiles}

-- a profile that is kept of a number is that of its tree
pub profile_told : (at : KeyAt) (kept : Kept) (n : ℕ) (kind : MemoKind) (e : Entry) (t : Tree)
    → AreProfiles at kept → Stands at n t → kept n kind ≡ Some e → e ≡ whole_profile kind t
profile_told at kept n kind e t are stands there =
    let (u, also, is) = are n kind e there in is ∙ ap (whole_profile kind) (one_tree at n u t also stands)

-- numbers keep their trees
pub profiles_still : (s t : NodesKept) (kept : Kept) → KeepsNumbers s t → AreProfiles (ever s.given) kept
    → AreProfiles (ever t.given) kept
profiles_still s t kept keeps are = of_trees_grown (Stands (ever s.given)) (Stands (ever t.given)) kept
    (λ n u stands. stands_still (ever s.given) (ever t.given) keeps n u stands) are

-- what a look tells is the whole profile, or that there is none
pub look_told : (at : KeyAt) (kept : Kept) (n : ℕ) (kind : MemoKind) (t : Tree) (found : Option Entry)
    → AreProfiles at kept → Stands at n t → LookTells (kept n kind) (Ok found) → TellsProfile kind t (Ok found)
look_told at kept n kind t None are stands is = tt
look_told at kept n kind t (Some e) are stands is = profile_told at kept n kind e t are stands (sym is)

-- the kind of a whole profile
pub kind_of_whole : (kind : MemoKind) (t : Tree) (e : Entry) → e ≡ whole_profile kind t → entry_kind e ≡ kind
kind_of_whole Flat t e is = ap entry_kind is
kind_of_whole Paths t e is = ap entry_kind is

-- after a whole profile was filled in
pub profiles_filled : (at : KeyAt) (old new : Kept) (n : ℕ) (kind : MemoKind) (e : Entry) (t : Tree)
    → Stands at n t → e ≡ whole_profile kind t → IsKeptAfter old n kind e new → AreProfiles at old
    → AreProfiles at new
profiles_filled at old new n kind e t stands is after are =
    of_trees_filled (Stands at) old new n kind t stands
    (subst (λ (x : Entry). IsKeptAfter old n kind x new) is after) are

-- what a hall tells of a fill
pub fill_told : (old new : Kept) (n : ℕ) (kind : MemoKind) (e : Entry) → IsKeptAfter old n kind e new
    → FillsIn (Some old) (Some new) n kind e
fill_told old new n kind e (inl keeps) = inl (record { there = keeps.there; others = keeps.others })
fill_told old new n kind e (inr none) = inr none.1
