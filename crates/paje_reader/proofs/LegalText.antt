-- What a text says is a legal trace.
use Rattle.std.proofs.Common.{◌≡◌, ℕ, List, Some, slice_get, sym, subst}
use Rattle.trace_base.specs.Info.{Fits, IsLegalInfo}
use Rattle.trace_base.specs.declared.stream.TrackStream.{TrackStream}
use Rattle.trace_base.specs.declared.text.TraceText.{TraceText}
use Rattle.paje_lines.specs.Text.{info_of_text, text_said}
use Rattle.paje_legal.proofs.LegalInfo.{legal_info}
use Rattle.paje_legal.proofs.StreamFits.{streams_fit}
use Rattle.paje_reader.specs.declared.reader.Reader.{Reader}
use Rattle.paje_reader.specs.LineReasons.{event_lines}
use Rattle.paje_reader.specs.Reader.{HasRead}
use Rattle.paje_reader.specs.TextLines.{TextLine}
use Rattle.paje_reader.proofs.InTime.{events_in_time}

pub legal_said : (lines : List TextLine) (r : Reader) (trace : TraceText) → HasRead lines r
    → trace ≡ text_said (event_lines lines) → IsLegalInfo (info_of_text trace)
legal_said lines r trace read is = subst (λ t. IsLegalInfo (info_of_text t)) (sym is)
    (legal_info (event_lines lines) (events_in_time lines) read.entities.known.unrefused)

pub fits_said : (lines : List TextLine) (r : Reader) (trace : TraceText) → HasRead lines r
    → trace ≡ text_said (event_lines lines) → (i : ℕ) (s : TrackStream)
    → slice_get trace.tracks i ≡ Some s → Fits s (info_of_text trace) i
fits_said lines r trace read is = subst
    (λ t. (i : ℕ) (s : TrackStream) → slice_get t.tracks i ≡ Some s → Fits s (info_of_text t) i) (sym is)
    (streams_fit (event_lines lines) (events_in_time lines) read.entities.known.unrefused)
