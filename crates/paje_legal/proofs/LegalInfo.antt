-- The names that the lines of a trace say, with the messages of their link events, are a legal info.
use Rattle.std.proofs.Common.{◌≡◌, ◌<◌, ◌≤◌, List, length, None, arith, ◌*◌}
use Rattle.std.specs.List.{AllByRecursion}
use Rattle.std.proofs.lemmas.List.Elements.{All-from_recursion}
use Rattle.list_lemmas.proofs.Each.{all_mapped}
use Rattle.trace_base.specs.declared.limits.TheConstants.{MAX_CONTAINERS, MAX_LINK_EVENTS}
use Rattle.trace_base.specs.Info.{IsLegalInfo, NamesExisting, JoinsExisting}
use Rattle.trace_base.specs.Messages.{table_of, in_table_order, messages_started}
use Rattle.trace_base.specs.declared.messages.Message.{Message}
use Rattle.trace_base.specs.declared.names.Track.{Track}
use Rattle.paje_lines.specs.EventLine.{EventLine, AreInTime}
use Rattle.paje_lines.specs.Types.{state_types}
use Rattle.paje_lines.specs.Containers.{containers_in}
use Rattle.paje_lines.specs.States.{tracks_in}
use Rattle.paje_lines.specs.Reasons.{event_refusal}
use Rattle.paje_lines.specs.Text.{containers_of, links_of, names_of, info_said}
use Rattle.paje_lines.proofs.Containers.{containers_within, containers-length, legal_containers}
use Rattle.paje_lines.proofs.StateTypes.{kinds_within, kinds-length}
use Rattle.paje_lines.proofs.Tracks.{tracks_within, tracks_exist, tracks_differ}
use Rattle.paje_lines.proofs.Functions.{functions_within}
use Rattle.paje_lines.proofs.LinkEvents.{links_within, links_exist}
use Rattle.paje_legal.proofs.MessagePairs.{messages_within, messages_between}

containers_count : (lines : List EventLine) → event_refusal lines ≡ None
    → length (containers_of lines) ≤ MAX_CONTAINERS
containers_count lines none =
    let same = containers-length lines in
    let within = containers_within lines none in
    omega (arith, same, within)

messages_count : (lines : List EventLine) → event_refusal lines ≡ None
    → 2 * length (in_table_order (messages_started (links_of lines))) ≤ MAX_LINK_EVENTS
messages_count lines none =
    let half = messages_within (links_of lines) in
    let within = links_within lines none in
    omega (arith, half, within)

tracks_of_names : (lines : List EventLine) → AllByRecursion (NamesExisting (names_of lines)) (tracks_in lines)
tracks_of_names lines =
    let containers = containers-length lines in
    let kinds = kinds-length lines in
    all_mapped (λ (t : Track). (t.container < length (containers_in lines)) × (t.kind < state_types lines))
    (NamesExisting (names_of lines)) (λ t is. (omega (arith, containers, is), omega (arith, kinds, is)))
    (tracks_in lines) (tracks_exist lines)

messages_of_names : (lines : List EventLine) → AllByRecursion (JoinsExisting (names_of lines))
    (in_table_order (messages_started (links_of lines)))
messages_of_names lines =
    let containers = containers-length lines in
    all_mapped (λ (m : Message). (m.from < length (containers_in lines))
    × (m.to < length (containers_in lines))) (JoinsExisting (names_of lines))
    (λ m is. (omega (arith, containers, is), omega (arith, containers, is)))
    (in_table_order (messages_started (links_of lines)))
    (messages_between (links_of lines) (length (containers_in lines)) (links_exist lines))

pub legal_info : (lines : List EventLine) → AreInTime lines → event_refusal lines ≡ None
    → IsLegalInfo (info_said lines)
unfolding table_of
legal_info lines are none = record {
  containers = containers_count lines none;
  types = kinds_within lines none;
  tracks = tracks_within lines none;
  functions = functions_within lines none;
  messages = messages_count lines none;
  intervals = legal_containers lines are none;
  existing = All-from_recursion (NamesExisting (names_of lines)) (tracks_in lines) (tracks_of_names lines);
  distinct = tracks_differ lines;
  joined = All-from_recursion (JoinsExisting (names_of lines))
      (in_table_order (messages_started (links_of lines))) (messages_of_names lines);
}
