use Rattle.std.proofs.Common.{◌≡◌, ◌<◌, ℕ, [], ◌∷◌, ◌++◌, arith, ap, ap₂, ◌∙◌, subst, sym}
use Rattle.hall_history.specs.declared.asks.PassState.{PassState}
use Rattle.hall_history.specs.declared.asks.PassState.TheVariants.{Straight}
use Rattle.hall_trait.specs.Answers.{IsRootOf}
use Rattle.hall_history.specs.History.{IsTrackTree, Published, info_of, published_tree, tracks_of}
use Rattle.node_key.specs.Stakes.{stake}
use Rattle.node_key.specs.Stands.{KeyAt, Stands}
use Rattle.node_key.specs.Tree.{Tree}
use Rattle.node_key.specs.Trees.{tree}
use Rattle.node_store.proofs.TreesUnder.{tree_is}
use Rattle.node_store.specs.Given.{ever}
use Rattle.node_store.specs.Kept.{KeepsFor}
use Rattle.node_store.specs.TreeUnder.{tree_under}
use Rattle.registry_core.specs.Registry.{RegistryValue}
use Rattle.registry_core.specs.Roots.{roots_kept}
use Rattle.registry_core.proofs.ToldCalls.{told-published}
use Rattle.plain_hall.specs.KeptHistory.{entries_owed, history}
use Rattle.plain_hall.specs.PlainHall.{pins_of, seat_of, seen_by}
use Rattle.plain_hall.specs.Rooted.{stakes_under, tree_of_root, with_trees}
use Rattle.plain_hall.specs.declared.root.Root.{Root}
use Rattle.plain_hall.proofs.Calls.{pass_facts, next_is_count, published_left, load_entry}
use Rattle.plain_hall.proofs.Found.{held_more}
use Rattle.plain_hall.proofs.Keeping.{nexts_stay}
use Rattle.plain_hall.proofs.LoadFacts.{awaits_track, last_place, owes}
use Rattle.plain_hall.proofs.Publishing.{root_of_tree, staked_stands}
use Rattle.plain_hall.proofs.Steps.{told_tracks}
use Rattle.plain_hall.proofs.WholeAfter.{same_numbers, seen_more}
use Rattle.plain_hall.proofs.WholeCalls.{whole_published}
use Rattle.memo_rooms.specs.Rooms.{kept_under}
use Rattle.registry_core.specs.Staying.{KeepsTold}
use Rattle.plain_hall.proofs.Owed.{owed-published}
use Rattle.plain_hall.proofs.ProfilesKept.{profiles_still}
use Rattle.plain_hall.proofs.Reached.{reach_still}
use Rattle.plain_hall.proofs.Views.{goes_on_alike}
use Rattle.plain_hall.proofs.hall.PlainHallHall.publish.Goals as goal

-- the track that the caller names is the one that the state has
same_track : (state : PassState) (a b : ℕ) → state ≡ Straight a → state ≡ Straight b → a ≡ b
same_track state a b at told = cc

pub publish-place-requires : goal.publish-place-requires
publish-place-requires g c =
    let was = c.args.self.now in
    let pass = c.args.pass.now in
    let facts = pass_facts _ pass was.whole.orderly c.requires.has in
    let fits = c.requires.root.3.fits in
    let within : c.in-Straight.track < tracks_of (seen_by was) pass.id = omega (
      arith,
      fits.2,
      told_tracks (info_of (seen_by was) pass.id) fits.0 fits.1,
      same_track pass.state c.requires.root.0 c.in-Straight.track c.requires.root.2 c.in-Straight.is,
    ) in
    awaits_track _ _ _ _ pass.id c.in-Straight.track was.whole.stands was.whole.orderly facts.loading
    (next_is_count _ pass c.in-Straight.track facts c.in-Straight.is) within

pub push-requires : goal.push-requires
push-requires g c =
    let was = c.args.self.now in
    let facts = pass_facts _ c.args.pass.now was.whole.orderly c.requires.has in
    omega (arith, was.space, owes _ _ _ _ c.args.pass.now.id was.whole.stands facts.loading)

pub invariant_of-self : goal.invariant_of-self
invariant_of-self g c =
    let was = c.args.self.now in
    let pass = c.args.pass.now in
    let key_at = ever was.nodes.given in
    let nodes = c.hand_over.new.self in
    let facts = pass_facts _ pass was.whole.orderly c.requires.has in
    let owed = owes _ _ _ _ pass.id was.whole.stands facts.loading in
    let track = c.in-Straight.track in
    let root : Root = record { start = c.args.start; node = c.args.root } in
    let s = c.requires.root.1 in
    let of_stream : IsRootOf (seat_of was) pass.id track c.args.start c.args.root s =
    subst (λ (t : ℕ). IsRootOf (seat_of was) pass.id t c.args.start c.args.root s)
    (same_track pass.state c.requires.root.0 track c.requires.root.2 c.in-Straight.is) c.requires.root.3 in
    let stands = staked_stands was.nodes _ _ _ c.args.root (tree s) was.whole of_stream.staked in
    let fits : IsTrackTree (seen_by was) pass.id track (tree_of_root key_at root) =
    (s, of_stream.fits, root_of_tree key_at c.args.root c.args.start s stands of_stream.begins) in
    let same : tree s ≡ tree_under key_at c.args.root = sym (tree_is key_at c.args.root (tree s) stands) in
    let keeps : KeepsFor nodes (stake c.args.root (tree_under key_at c.args.root)
    ∷ stakes_under key_at (roots_kept was.registry.traces)) =
    subst (λ (t : Tree). KeepsFor nodes (stake c.args.root t
    ∷ stakes_under key_at (roots_kept was.registry.traces))) same
    (c.hand_over.ensures.kept _ (tree s) of_stream.staked was.whole.roots) in
    let left = owed-published was.registry c.publish-place.new.self pass.id track c.args.start c.args.root owed
    c.publish-place.ensures.rest in
    let within : track < tracks_of (seen_by was) pass.id = omega (
      arith,
      of_stream.fits.2,
      told_tracks (info_of (seen_by was) pass.id) of_stream.fits.0 of_stream.fits.1,
    ) in
    record {
      whole = whole_published was.nodes nodes _ _ (history was.past) _ pass.id track root _ c.push.ensures.seen
          c.publish-place.ensures.rest c.hand_over.ensures.numbers c.hand_over.ensures.sound
          (awaits_track _ _ _ _ pass.id track was.whole.stands was.whole.orderly facts.loading
          (next_is_count _ pass track facts c.in-Straight.is) within) fits (next_is_count _ pass track facts c.in-Straight.is)
          (subst (λ (t : Tree). Stands key_at c.args.root t) same stands) keeps was.whole;
      space = c.push.ensures.space (entries_owed c.publish-place.new.self) (omega (arith, was.space, left));
      held = held_more _ _ _ was.pin c.push.ensures.seen was.held;
      profiles = profiles_still was.nodes nodes (kept_under was.memos)
          (same_numbers was.nodes nodes c.hand_over.ensures.numbers) was.profiles;
    }

pub advance-requires : goal.advance-requires
advance-requires g c track next =
    let was = c.args.self.now in
    let pass = c.args.pass.now in
    let facts = pass_facts _ pass was.whole.orderly c.requires.has in
    let fits = c.requires.root.3.fits in
    omega (
      arith,
      fits.2,
      facts.to,
      told_tracks (info_of (seen_by was) pass.id) fits.0 fits.1,
      same_track pass.state c.requires.root.0 track c.requires.root.2 next,
    )

pub returns-clause-answer : goal.returns-clause-answer
returns-clause-answer g c track s next of_stream =
    let was = c.args.self.now in
    let pass = c.args.pass.now in
    let key_at = ever was.nodes.given in
    let facts = pass_facts _ pass was.whole.orderly c.requires.has in
    let same : c.in-Straight.track ≡ track = same_track pass.state c.in-Straight.track track c.in-Straight.is
    next in
    let stands = staked_stands was.nodes _ _ _ c.args.root (tree s) was.whole of_stream.staked in
    let is : tree_of_root key_at (record { start = c.args.start; node = c.args.root }) ≡ published_tree s =
    root_of_tree key_at c.args.root c.args.start s stands of_stream.begins in
    let seen = ap (λ (k : KeyAt). with_trees k (history c.push.new.self)) c.hand_over.ensures.numbers
    ∙ seen_more key_at _ _ _ c.push.ensures.seen ∙ ap₂
    (λ t p. seen_by was ++ Published pass.id t p ∷ []) same is in
    record {
      entered = load_entry _ _ _ _ _ pass _ c.publish-place.result seen
          (last_place _ _ (seen_by was) _ _ c.publish-place.result was.whole.stands seen
          c.publish-place.ensures.place) facts
          (published_left (seen_by was) pass track (published_tree s) was.whole.orderly next facts);
      stakes = c.hand_over.ensures.stakes (tree s) of_stream.staked;
    }

pub returns-clause-rest : goal.returns-clause-rest
returns-clause-rest g c = goes_on_alike _ _ _ _ _ (nexts_stay _ _ c.hand_over.ensures.rooms)

pub returns-clause-reach : goal.returns-clause-reach
returns-clause-reach g c =
    let was = c.args.self.now in
    let pass = c.args.pass.now in
    let track = c.in-Straight.track in
    let facts = pass_facts _ pass was.whole.orderly c.requires.has in
    let fits = c.requires.root.3.fits in
    let within : track < tracks_of (seen_by was) pass.id = omega (
      arith,
      fits.2,
      told_tracks (info_of (seen_by was) pass.id) fits.0 fits.1,
      same_track pass.state c.requires.root.0 track c.requires.root.2 c.in-Straight.is,
    ) in
    let awaits = awaits_track _ _ _ _ pass.id track was.whole.stands was.whole.orderly facts.loading
    (next_is_count _ pass track facts c.in-Straight.is) within in
    reach_still was.nodes c.hand_over.new.self was.registry c.publish-place.new.self (pins_of was) (pins_of was)
    (with_trees (ever c.hand_over.new.self.given) (history c.push.new.self))
    (same_numbers was.nodes c.hand_over.new.self c.hand_over.ensures.numbers) (λ p has still.
    subst (λ (q : RegistryValue). KeepsTold was.registry q p.ids p.place) (sym c.publish-place.ensures.rest)
    (told-published was.registry pass.id track c.args.start c.args.root p.ids p.place awaits))
