-- The roots that come free when a pin is given back, as stakes on what was published.
use Rattle.std.proofs.Common.{◌≡◌, ◌∙◌, ℕ, All, Bool, false, true, List, [], ◌++◌, Option, None, Some, ap, ap₂}
use Rattle.std.proofs.Common.{cond, eqb, map, refl, subst, sym, unwrap_or}
use Rattle.std.proofs.lemmas.List.{map-append}
use Rattle.std.proofs.lemmas.List.Elements.{All-append, All-nil}
use Rattle.list_lemmas.proofs.Options.{option_map_found}
use Rattle.std.proofs.lemmas.Option.{none-some, same_Some}
use Rattle.list_lemmas.proofs.Found.{find-map_same}
use Rattle.hall_history.specs.Asks.{first_id, second_id}
use Rattle.hall_history.specs.History.{Entry}
use Rattle.hall_history.specs.declared.asks.AskIds.{AskIds}
use Rattle.hall_history.specs.declared.asks.AskIds.TheVariants.{One, Two}
use Rattle.hall_world.specs.Seats.{AreFreedStakes, AreRootStakes}
use Rattle.hall_world.proofs.RootStakes.{StakeStands, root_stakes, root_stakes_stand}
use Rattle.node_key.specs.Stands.{KeyAt}
use Rattle.node_key.specs.declared.stake.Stake.{Stake}
use Rattle.registry_core.proofs.KeptTraces.{IsRising, IsRising-map, kept_too}
use Rattle.registry_core.specs.Asking.{roots_freed, times_asked, unpinned, without_users}
use Rattle.registry_core.specs.Registry.{RegistryValue, has_id, kept_trace}
use Rattle.registry_core.specs.Roots.{roots_freed_by}
use Rattle.registry_core.specs.Standing.{AreTrees, StandsFor, Start}
use Rattle.registry_core.specs.Trace.{Trace, is_over, roots_in, used_less}

-- the roots are those of the kept trace of this id
AreRootsOf : RegistryValue → ℕ → List ℕ → Type 0
AreRootsOf r id roots = (t : Trace) × (kept_trace r.traces id ≡ Some t) × (roots ≡ roots_in t.tracks)

-- roots that come free are those of a kept trace
freed_kept : (r : RegistryValue) (ids : AskIds) (id : ℕ) (roots : List ℕ) → IsRising r.traces
    → roots_freed ids r.traces id ≡ Some roots → AreRootsOf r id roots
unfolding AreRootsOf
freed_kept r ids id roots rising freed =
    let less = λ (t : Trace). used_less (times_asked ids t.id) t in
    let tracks = λ (t : Trace). roots_in t.tracks in
    let (u, found, are) = option_map_found tracks _ roots freed in
    let kept = kept_too is_over (without_users ids r.traces) id u (IsRising-map less r.traces (λ t. refl) rising)
    found in
    let (t, is, same) = option_map_found less (kept_trace r.traces id) u
    (sym (find-map_same (has_id id) less (λ t. refl) r.traces) ∙ kept) in
    (t, is, sym are ∙ sym (ap tracks same))

first_kept : (r : RegistryValue) (ids : AskIds) (roots : List ℕ) → IsRising r.traces
    → (unpinned ids r.traces).first ≡ Some roots → AreRootsOf r (first_id ids) roots
first_kept r (One a) roots rising freed = freed_kept r (One a) a roots rising freed
first_kept r (Two a b) roots rising freed = freed_kept r (Two a b) a roots rising freed

second_kept : (r : RegistryValue) (ids : AskIds) (roots : List ℕ) → IsRising r.traces
    → (unpinned ids r.traces).second ≡ Some roots → AreRootsOf r (second_id ids) roots
second_kept r (One a) roots rising freed = absurd (none-some roots freed)
second_kept r (Two a b) roots rising freed = by (eqb a b) freed
  where
    by : (same : Bool) → cond same None (roots_freed (Two a b) r.traces b) ≡ Some roots → AreRootsOf r b roots
    by true none = absurd (none-some roots none)
    by false is = freed_kept r (Two a b) b roots rising is

-- ---- as stakes

module _ (key_at : KeyAt) (start : Start) (r : RegistryValue) (entries : List Entry)
    (was : StandsFor (AreTrees key_at) start r entries)
  where
    -- those of one of the traces
    part : (id : ℕ) (o : Option (List ℕ)) (xs : List Stake)
        → ((roots : List ℕ) → o ≡ Some roots → AreRootsOf r id roots)
        → ((roots : List ℕ) → o ≡ Some roots → AreRootStakes entries id roots xs) → (o ≡ None → xs ≡ [])
        → (map (λ (x : Stake). x.number) xs ≡ unwrap_or o []) × All (StakeStands key_at) xs
    unfolding AreRootsOf
    part id None xs kept are none = (
      ap (map (λ (x : Stake). x.number)) (none refl),
      subst (All (StakeStands key_at)) (sym (none refl)) (All-nil (StakeStands key_at)),
    )
    part id (Some roots) xs kept are none =
        let (t, is, all) = kept roots refl in (
          (are roots refl).numbers,
          root_stakes_stand key_at start r entries id t xs was is
              (subst (λ rs. AreRootStakes entries id rs xs) all (are roots refl)),
        )

    -- all of them stand, under the numbers of the roots that came free
    pub freed_stand : (ids : AskIds) (stakes : List Stake)
        → AreFreedStakes entries ids (unpinned ids r.traces) stakes
        → (map (λ (x : Stake). x.number) stakes ≡ roots_freed_by (unpinned ids r.traces))
        × All (StakeStands key_at) stakes
    freed_stand ids stakes are =
        let rising = was.sound.rising in
        let (numbers, stand) = part (first_id ids) (unpinned ids r.traces).first are.first
        (λ roots is. first_kept r ids roots rising is) are.of_first are.none_of_first in
        let (numbers', stand') = part (second_id ids) (unpinned ids r.traces).second are.second
        (λ roots is. second_kept r ids roots rising is) are.of_second are.none_of_second in
        let number = λ (x : Stake). x.number in (
          ap (map number) are.both ∙ map-append number are.first are.second
              ∙ ap₂ (λ a b. a ++ b) numbers numbers',
          subst (All (StakeStands key_at)) (sym are.both)
              (All-append (StakeStands key_at) are.first are.second stand stand'),
        )

    -- there are such stakes for the roots of one trace that came free
    one_part : (id : ℕ) (o : Option (List ℕ)) → ((roots : List ℕ) → o ≡ Some roots → AreRootsOf r id roots)
        → (xs : List Stake) × ((roots : List ℕ) → o ≡ Some roots → AreRootStakes entries id roots xs) × (o ≡ None → xs ≡ [])
    unfolding AreRootsOf
    one_part id None kept = ([], λ roots is. absurd (none-some roots is), λ none. refl)
    one_part id (Some roots) kept =
        let (t, is, all) = kept roots refl in
        let stand = root_stakes key_at start r entries id t was is in (
          stand.stakes,
          λ more same. subst (λ rs. AreRootStakes entries id rs stand.stakes) (sym all ∙ same_Some roots more same)
              stand.on_roots,
          λ none. absurd (none-some roots (sym none)),
        )

    -- so there are for all roots that came free
    pub freed_stakes : (ids : AskIds) → (stakes : List Stake) × AreFreedStakes entries ids (unpinned ids r.traces) stakes
    freed_stakes ids =
        let rising = was.sound.rising in
        let (xs, are, none) = one_part (first_id ids) (unpinned ids r.traces).first
        (λ roots is. first_kept r ids roots rising is) in
        let (ys, are', none') = one_part (second_id ids) (unpinned ids r.traces).second
        (λ roots is. second_kept r ids roots rising is) in (
          xs ++ ys,
          record {
            first = xs;
            second = ys;
            of_first = are;
            of_second = are';
            none_of_first = none;
            none_of_second = none';
            both = refl;
          },
        )
