-- A registry that was just started stands for the history without entries.
use Rattle.std.proofs.Common.{ℕ, ◌+◌, ◌<◌, ◌≤◌, [], refl, arith}
use Rattle.std.specs.List.Sorted.{IsStrictlySortedBy}
use Rattle.std.proofs.lemmas.List.Elements.{All-nil}
use Rattle.trace_base.specs.declared.limits.TheConstants.{MAX_PLACES}
use Rattle.hall_history.specs.History.{info_of, is_open, opened_ids, promised, published_count, published_of}
use Rattle.registry_core.specs.Registry.{IsSoundRegistry, new_registry}
use Rattle.registry_core.specs.Standing.{RootsAre, StandsFor}
use Rattle.registry_core.specs.Trace.{IsSoundTrace, Trace}

-- it is sound
sound_started : (place id : ℕ) → place ≤ MAX_PLACES → 1 ≤ id → id ≤ place + 1
    → IsSoundRegistry (new_registry place id)
unfolding IsStrictlySortedBy
sound_started place id fits first last = record {
  rising = tt;
  given = All-nil (λ (t : Trace). t.id < id);
  first_id = first;
  last_id = last;
  few = omega arith;
  promises = refl;
  room = omega arith;
  each = All-nil (IsSoundTrace place);
}

-- nothing has happened yet
pub stands-started : {X : Type 0} (are : RootsAre X) (place id : ℕ) → place ≤ MAX_PLACES → 1 ≤ id
    → id ≤ place + 1 → StandsFor are (record { place = place; id = id }) (new_registry place id) []
unfolding opened_ids info_of published_of published_count is_open promised
stands-started are place id fits first last = record {
  sound = sound_started place id fits first last;
  place = omega arith;
  ids = refl;
  next_id = omega arith;
  promised = refl;
  untold = λ id above. record {
    info = refl;
    count = refl;
    published = λ track. refl;
    sealed = refl;
    ended = refl;
  };
  opens = λ id. refl;
  traces = λ id t kept. absurd cc;
}
