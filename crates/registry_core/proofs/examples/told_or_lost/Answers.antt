use Rattle.std.proofs.Common.{◌≡◌, None, Some, ap, arith, refl, subst, ◌∙◌, ◌∷◌, []}
use Rattle.std.proofs.lemmas.Option.{none-some, same_Some}
use Rattle.list_lemmas.proofs.All.{All-one}
use Rattle.hall_history.specs.declared.published.Published.TheVariants.{Root}
use Rattle.registry_core.specs.Examples.{both, in_use_at, loading_trace, only_first, second_root, with_one}
use Rattle.registry_core.specs.Registry.{kept_trace}
use Rattle.registry_core.specs.Staying.{TellsRootsOf}
use Rattle.registry_core.specs.Trace.{Trace, published_by}
use Rattle.registry_core.proofs.ToldStays.{HasSuch, told-filled}
use Rattle.registry_core.proofs.examples.told_or_lost.Goals as goal

pub returns-clause-stays : goal.returns-clause-stays
returns-clause-stays c = All-one (λ id. (t : Trace) → kept_trace (in_use_at 6).traces id ≡ Some t
    → HasSuch (with_one 7 1 (loading_trace 1 both)).traces 6 id t) 1 (λ t kept. (
      loading_trace 1 both,
      refl,
      subst (λ (u : Trace). TellsRootsOf 6 u (loading_trace 1 both))
          (same_Some (loading_trace 1 only_first) t kept)
          (told-filled 6 1 second_root (loading_trace 1 only_first) refl),
    ))

pub returns-clause-gone : goal.returns-clause-gone
returns-clause-gone c keeps =
    let (u, kept, tells) = keeps 0 1 (omega arith) (loading_trace 1 only_first) refl in none-some u kept

pub returns-clause-other_root : goal.returns-clause-other_root
returns-clause-other_root c keeps =
    let (u, kept, tells) = keeps 0 1 (omega arith) (loading_trace 1 only_first) refl in
    let now = same_Some (loading_trace 1 (Some second_root ∷ None ∷ [])) u kept in
    let told : Root 2 41 ≡ Root 0 40 = ap (λ (v : Trace). published_by v 8 0) now ∙ tells 0 0 40 refl in
    absurd cc
