-- No line of a canonical text is refused, and its lines say the trace.
use Rattle.std.proofs.Common.{◌≡◌, None}
use Rattle.trace_base.specs.declared.text.TraceText.{TraceText}
use Rattle.paje_lines.specs.Reasons.{event_refusal}
use Rattle.paje_lines.specs.Text.{names_of, text_said}
use Rattle.paje_print.specs.Canonical.{IsCanonical}
use Rattle.paje_read_back.specs.ToldLines.{told_lines}
use Rattle.paje_read_back.proofs.DeclaredParts.{first_state}
use Rattle.paje_read_back.proofs.EndsSaid.{ends-as-told}
use Rattle.paje_read_back.proofs.EndsTimes.{end-said}
use Rattle.paje_read_back.proofs.EndsWhole.{whole-unrefused}
use Rattle.paje_read_back.proofs.FunctionsSaid.{functions-said}
use Rattle.paje_read_back.proofs.LinksSaid.{links-said}
use Rattle.paje_read_back.proofs.NamesFound.{finds-names}
use Rattle.paje_read_back.proofs.NamesSaid.{containers-said, kinds-said, link-kinds-said}
use Rattle.paje_read_back.proofs.StatesUnrefused.{last-times_known, states-unrefused}
use Rattle.paje_read_back.proofs.StreamsSaid.{streams-said}
use Rattle.paje_read_back.proofs.TracksSaid.{tracks-said}

pub none-refused : (t : TraceText) → IsCanonical t → event_refusal (told_lines t) ≡ None
none-refused t is = whole-unrefused t is (states-unrefused t is (finds-names t is) (first_state t))
    (last-times_known t is (finds-names t is) (first_state t))

names-said : (t : TraceText) → IsCanonical t → names_of (told_lines t) ≡ t.names
names-said t is i = record {
  end = end-said t is i;
  containers = containers-said t is i;
  kinds = kinds-said t is i;
  link_kinds = link-kinds-said t is i;
  tracks = tracks-said t is (finds-names t is) i;
  functions = functions-said t is (finds-names t is) i;
}

pub trace-said : (t : TraceText) → IsCanonical t → text_said (told_lines t) ≡ t
trace-said t is i = record {
  names = names-said t is i;
  tracks = streams-said t is (finds-names t is) (ends-as-told t is) i;
  links = links-said t is i;
}
