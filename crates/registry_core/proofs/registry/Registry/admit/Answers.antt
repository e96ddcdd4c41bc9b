-- The registry stays sound with a trace opened, and one trace more is open.
use Rattle.std.proofs.Common.{◌≡◌, ◌+◌, ◌<◌, arith, length, sym, ap}
use Rattle.std.proofs.Common.{◌∙◌}
use Rattle.std.specs.Arc.{arc_value}
use Rattle.std.specs.Result.{is_err}
use Rattle.std.proofs.lemmas.Bool.{false≢true}
use Rattle.list_lemmas.proofs.Options.{told_unless_err}
use Rattle.trace_base.specs.declared.limits.TheConstants.{MAX_OPEN_TRACES}
use Rattle.trace_base.specs.declared.names.TraceInfo.{TraceInfo}
use Rattle.registry_core.specs.contracts.registry.Registry as registry
use Rattle.registry_core.specs.Loading.{entries_of_load}
use Rattle.registry_core.specs.Registry.{FitsPlaces, open_count, taken_places}
use Rattle.registry_core.proofs.SoundLoads.{still-opened}
use Rattle.registry_core.proofs.registry.Registry.admit.Goals as goal
use Rattle.registry_core.proofs.registry.Registry.admit.Goals.{in-Ok, in-Err}

pub invariant_of-self-2 : goal.invariant_of-self-2
invariant_of-self-2 c =
    elim c.match-new.branch [
      | in-Ok w ↦
          let info = arc_value c.args.info in
          let tracks : c.len.result ≡ length info.names.tracks = c.len.ensures
          ∙ ap (λ (i : TraceInfo). length i.names.tracks) c.deref.ensures in
          let taken : taken_places (registry.the_view c.self.inside) ≡ c.taken-taken.result =
          ap taken_places c.self.view_is ∙ sym c.taken-taken.ensures.value in
          let fits : FitsPlaces (registry.the_view c.self.inside) (entries_of_load info) =
          omega (arith, tracks, taken, c.if-taken-promised-gt-MAX_PLACES.false) in
          let few : open_count c.self.inside.traces < MAX_OPEN_TRACES =
          omega (arith, c.if-self-eq-MAX_OPEN_TRACES.false, c.self.invariant.1, c.self.invariant.0.few) in
          let added = told_unless_err w.add-added.result _ (c.if-is_err.ensures.value ∙ ap is_err w.added-is)
          w.add-added.ensures.added in
          let still = still-opened (registry.the_view c.self.inside) info (c.len.result + 1) w.in-Ok.trace
          w.add-added.new.self c.self.invariant.0 fits few c.requires (ap (λ n. n + 1) tracks) w.in-Ok.ensures
          added in
          rw w.self-inside-is (still.0, ap (λ n. n + 1) c.self.invariant.1 ∙ still.1)
      | in-Err w ↦ absurd (false≢true (c.if-is_err.ensures.value ∙ ap is_err w.added-is))
    ]
