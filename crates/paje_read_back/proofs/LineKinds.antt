-- Lines of states and lines of link events, among those of a canonical text.
use Rattle.std.proofs.Common.{◌≡◌, ℕ, ◌+◌, List, [], ◌∷◌, length, Bool, true, false}
use Rattle.std.proofs.Common.{cond, map, refl, sym}
use Rattle.std.specs.List.{AllByRecursion}
use Rattle.std.proofs.lemmas.Bool.{true≢false}
use Rattle.list_lemmas.proofs.Each.{all_append, all_mapped}
use Rattle.trace_base.specs.declared.messages.LinkEvent.{LinkEvent}
use Rattle.paje_defs.specs.declared.event_name.EventName.{EventName}
use Rattle.paje_defs.specs.declared.event_name.EventName.TheVariants as events
use Rattle.paje_lines.specs.EventLine.{EventLine, destroys, is_link_event, is_state_event}
use Rattle.paje_lines.specs.Examples.{from}
use Rattle.paje_read_back.specs.ToldLines.{end_told, link_told, start_told}
use Rattle.paje_read_back.proofs.DeclaredLines.{NoneIs}
use Rattle.paje_read_back.proofs.FindsNames.{DeclaresNothing, declares_nothing}
use Rattle.paje_read_back.proofs.NumberedLines.{from-append}
use Rattle.std.proofs.Common.{◌≡◌, ℕ, ◌+◌, List, [], ◌∷◌, length, map, Bool, false, refl, sym}
use Rattle.std.proofs.Common.{subst}
use Rattle.std.specs.List.{AllByRecursion, flat_map}
use Rattle.trace_base.specs.declared.names.Track.{Track}
use Rattle.trace_base.specs.declared.stream.Event.{Event}
use Rattle.trace_base.specs.declared.stream.Event.TheVariants.{Enter, Leave}
use Rattle.trace_base.specs.declared.stream.TrackStream.{TrackStream}
use Rattle.paje_lines.specs.EventLine.{EventLine}
use Rattle.paje_read_back.specs.ToldLines.{state_told, track_told}

abbrev pub IsStateLine : EventLine → Type 0
IsStateLine line = is_state_event line.event ≡ true

-- it is no state line
abbrev pub IsNoState : EventLine → Type 0
IsNoState line = is_state_event line.event ≡ false

abbrev pub IsLinkLine : EventLine → Type 0
IsLinkLine line = is_link_event line.event ≡ true

-- ---- what they are not

pub state_facts : (event : EventName) → is_state_event event ≡ true
    → (declares_nothing event ≡ true) × (is_link_event event ≡ false) × (destroys event ≡ false)
state_facts events.PushState is = (refl, refl, refl)
state_facts events.SetState is = (refl, refl, refl)
state_facts events.PopState is = (refl, refl, refl)
state_facts events.ResetState is = (refl, refl, refl)
state_facts _ is = absurd (true≢false (sym is))

pub link_facts : (event : EventName) → is_link_event event ≡ true
    → (declares_nothing event ≡ true) × (is_state_event event ≡ false) × (destroys event ≡ false)
link_facts events.StartLink is = (refl, refl, refl)
link_facts events.EndLink is = (refl, refl, refl)
link_facts _ is = absurd (true≢false (sym is))

pub states-declare_nothing : (lines : List EventLine) → AllByRecursion IsStateLine lines
    → AllByRecursion DeclaresNothing lines
states-declare_nothing lines are = all_mapped IsStateLine DeclaresNothing
    (λ l is. (state_facts l.event is).0) lines are

pub states-no_links : (lines : List EventLine) → AllByRecursion IsStateLine lines
    → NoneIs (λ l. is_link_event l.event) lines
states-no_links lines are = all_mapped IsStateLine (λ l. is_link_event l.event ≡ false)
    (λ l is. (state_facts l.event is).1) lines are

pub states-destroy_none : (lines : List EventLine) → AllByRecursion IsStateLine lines
    → NoneIs (λ l. destroys l.event) lines
states-destroy_none lines are = all_mapped IsStateLine (λ l. destroys l.event ≡ false)
    (λ l is. (state_facts l.event is).2) lines are

pub links-declare_nothing : (lines : List EventLine) → AllByRecursion IsLinkLine lines
    → AllByRecursion DeclaresNothing lines
links-declare_nothing lines are = all_mapped IsLinkLine DeclaresNothing
    (λ l is. (link_facts l.event is).0) lines are

pub links-no_states : (lines : List EventLine) → AllByRecursion IsLinkLine lines
    → NoneIs (λ l. is_state_event l.event) lines
links-no_states lines are = all_mapped IsLinkLine (λ l. is_state_event l.event ≡ false)
    (λ l is. (link_facts l.event is).1) lines are

pub links-destroy_none : (lines : List EventLine) → AllByRecursion IsLinkLine lines
    → NoneIs (λ l. destroys l.event) lines
links-destroy_none lines are = all_mapped IsLinkLine (λ l. destroys l.event ≡ false)
    (λ l is. (link_facts l.event is).2) lines are

-- ---- the lines that are told

events_are : (functions : List (List ℕ)) (track : Track) (events : List Event) (n : ℕ)
    → AllByRecursion IsStateLine (from n (map (state_told functions track) events))
events_are functions track [] n = tt
events_are functions track (Enter f time ∷ events) n = (refl, events_are functions track events (n + 1))
events_are functions track (Leave time ∷ events) n = (refl, events_are functions track events (n + 1))

pub track_is : (functions : List (List ℕ)) (p : Track × TrackStream) (n : ℕ)
    → AllByRecursion IsStateLine (from n (track_told functions p))
track_is functions p n = (refl, events_are functions p.0 p.1.events (n + 1))

pub tracks_are : (functions : List (List ℕ)) (ps : List (Track × TrackStream)) (n : ℕ)
    → AllByRecursion IsStateLine (from n (flat_map (track_told functions) ps))
tracks_are functions [] n = tt
tracks_are functions (p ∷ ps) n = subst (AllByRecursion IsStateLine)
    (sym (from-append n (track_told functions p) (flat_map (track_told functions) ps)))
    (all_append IsStateLine (from n (track_told functions p)) (from (n + length (track_told functions p))
    (flat_map (track_told functions) ps)) (track_is functions p n)
    (tracks_are functions ps (n + length (track_told functions p))))

pub link_event : (l : LinkEvent) (n : ℕ) (b : Bool)
    → is_link_event (cond b (start_told l) (end_told l) n).event ≡ true
link_event l n true = refl
link_event l n false = refl

pub links-are_links : (links : List LinkEvent) (n : ℕ) → AllByRecursion IsLinkLine (from n (map link_told
    links))
links-are_links [] n = tt
links-are_links (l ∷ links) n = (link_event l n l.starts, links-are_links links (n + 1))
