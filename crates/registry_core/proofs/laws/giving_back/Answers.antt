-- Traces that are given back lose users, which the history doesn't tell, and those that are over aren't open.
use Rattle.std.proofs.Common.{filter, not, refl}
use Rattle.registry_core.specs.Asking.{times_asked, without_users}
use Rattle.registry_core.specs.Standing.{AreTrees}
use Rattle.registry_core.specs.Trace.{Trace, is_over, used_less}
use Rattle.registry_core.proofs.KeptTraces.{IsRising-map}
use Rattle.registry_core.proofs.SoundAsks.{sound-unpinned}
use Rattle.registry_core.proofs.StandsGiven.{differs-over, differs-users, stands-given}
use Rattle.registry_core.proofs.laws.giving_back.Goals as goal

pub returns : goal.returns
returns c key_at start old entries ids stands used =
    let less = λ (t : Trace). used_less (times_asked ids t.id) t in
    let traces = without_users ids old.traces in
    stands-given (AreTrees key_at) start old entries (filter (λ t. not (is_over t)) traces) stands
    (differs-over old.traces traces (IsRising-map less old.traces (λ t. refl) stands.sound.rising)
    (differs-users less old.traces (λ t. (record { id = refl; info = refl; tracks = refl }, refl, refl))))
    (sound-unpinned old ids stands.sound used)
