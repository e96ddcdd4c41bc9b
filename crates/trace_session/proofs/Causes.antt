-- Why a session ended by a fault.
use Rattle.std.proofs.Common.{◌≡◌, refl}
use Rattle.trace_base.specs.Outside.{Rose}
use Rattle.trace_session.specs.Run.{EndsByCause, SinkState, SourceState}
use Rattle.trace_session.specs.declared.sessions.End.{End}
use Rattle.trace_session.specs.declared.sessions.End.TheVariants as ends

-- each fault that ends a session has its cause
pub ends_by_cause : (end : End) (source source' : SourceState) (sink sink' : SinkState)
    → (end ≡ ends.ReadFault → Rose source.faults source'.faults)
    → (end ≡ ends.WriteFault → Rose sink.faults sink'.faults) → EndsByCause end source source' sink sink'
ends_by_cause ends.Quit source source' sink sink' read write = tt
ends_by_cause ends.Eof source source' sink sink' read write = tt
ends_by_cause ends.Cut source source' sink sink' read write = tt
ends_by_cause ends.ReadFault source source' sink sink' read write = read refl
ends_by_cause ends.WriteFault source source' sink sink' read write = write refl
