-- Which roots of the registry lead to a number.
use Rattle.std.proofs.Common.{◌≡◌, ◌∙◌, ◌↔◌, inl, inr, ℕ, ◌<◌, ◌≤◌, Bool, Contains, IsSome, IsTrue, List, None, Option, Some, [], ◌∷◌}
use Rattle.std.proofs.Common.{ap, length, refl, subst, sym}
use Rattle.std.proofs.Common.{arith}
use Rattle.std.proofs.lemmas.Bool.{cases_lt}
use Rattle.std.specs.Option.{option_and_then}
use Rattle.std.proofs.lemmas.List.Elements.{All-contains}
use Rattle.std.proofs.lemmas.Option.{slice_get_past}
use Rattle.hall_history.specs.declared.asks.AskIds.{AskIds}
use Rattle.hall_history.specs.declared.asks.AskIds.TheVariants.{Two}
use Rattle.hall_history.specs.declared.published.Published.{Published}
use Rattle.hall_history.specs.declared.published.Published.TheVariants.{NotYet, Root}
use Rattle.hall_history.specs.declared.seat.PinView.{PinView}
use Rattle.hall_world.specs.Steps.{IsReachedBy, by_pin, by_stake}
use Rattle.hall_world.specs.declared.world.SeatView.{SeatView}
use Rattle.hall_world.specs.declared.world.World.{World}
use Rattle.list_lemmas.proofs.Members.{has_cons, has_here, has_only, has_there}
use Rattle.node_key.specs.Leads.{Leads}
use Rattle.node_key.specs.declared.stake.Stake.{Stake}
use Rattle.registry_core.proofs.ToldStays.{told-kept}
use Rattle.registry_core.specs.Asking.{asked_ids}
use Rattle.registry_core.specs.Registry.{RegistryValue, kept_trace}
use Rattle.registry_core.specs.Trace.{Trace, published_by, seen_by_place}
use Rattle.registry_core.specs.declared.track_root.TrackRoot.{TrackRoot}
use Rattle.store_laws.specs.Store.{Store, key_in, node_in}
use Rattle.event_checks.specs.Reach.{PinLeads, PinsLead, StakesLead, StoresRoots, TraceLeads}
use Rattle.event_checks.specs.Reach.{TrackLeads}

-- ---- one track

not_yet : (start root : ℕ) → NotYet ≡ Root start root → ⊥
not_yet start root e = cc

same_root : (start root start' root' : ℕ) → Root start root ≡ Root start' root' → root ≡ root'
same_root start root start' root' e = cc

trace_there : (o : Option Trace) → IsSome o → (t : Trace) × (o ≡ Some t)
trace_there None h = absurd cc
trace_there (Some t) h = (t, refl)

-- what was told of the track of a kept trace
abbrev pub IsTold : RegistryValue → (id place track : ℕ) → Published → Type 0
IsTold registry id place track told =
    (t : Trace) → kept_trace registry.traces id ≡ Some t → told ≡ published_by t place track

-- a root that was told is stored
pub told_stored : (rooms : Store) (registry : RegistryValue) (id place track start root : ℕ) (told : Published)
    → StoresRoots rooms registry → IsSome (kept_trace registry.traces id)
    → IsTold registry id place track told → told ≡ Root start root → IsSome (node_in rooms root)
told_stored rooms registry id place track start root told stored there is same =
    let (t, kept) = trace_there (kept_trace registry.traces id) there in
    All-contains (λ r. IsSome (node_in rooms r)) _ root stored
    (told-kept registry.traces id place track start root t kept (sym (is t kept) ∙ same))

pub told_root : (rooms : Store) (registry : RegistryValue) (id place track target start root : ℕ)
    (told : Published) (answer : Bool) → IsSome (kept_trace registry.traces id)
    → IsTold registry id place track told → told ≡ Root start root
    → (IsTrue answer ↔ Leads (key_in rooms) root target)
    → IsTrue answer ↔ TrackLeads rooms registry id place track target
told_root rooms registry id place track target start root told answer there is same tells = (
  λ yes.
      (let (t, kept) = trace_there (kept_trace registry.traces id) there in
      (t, kept, start, root, sym (is t kept) ∙ same, tells.0 yes)),
  λ (t, kept, start', root', here, down). tells.1 (subst (λ r. Leads (key_in rooms) r target)
      (same_root start' root' start root (sym here ∙ sym (is t kept) ∙ same)) down),
)

pub told_none : (rooms : Store) (registry : RegistryValue) (id place track target : ℕ) (told : Published)
    → IsTold registry id place track told → told ≡ NotYet
    → ¬ TrackLeads rooms registry id place track target
told_none rooms registry id place track target told is same (t, kept, start, root, here, down) =
    not_yet start root (sym same ∙ is t kept ∙ here)

-- ---- one trace

-- a trace has no track past its last
past_tracks : (t : Trace) (place track start root : ℕ) → length t.tracks ≤ track
    → published_by t place track ≡ Root start root → ⊥
past_tracks t place track start root past here =
    not_yet start root (sym (ap (λ (o : Option (Option TrackRoot)). seen_by_place place
    (option_and_then (λ slot. slot) o)) (slice_get_past t.tracks track past)) ∙ here)

-- none of its tracks before this one leads to the number
abbrev pub NoTrackLeads : Store → RegistryValue → (id place target track : ℕ) → Type 0
NoTrackLeads rooms registry id place target track =
    (k : ℕ) → k < track → ¬ TrackLeads rooms registry id place k target

pub no_track : (rooms : Store) (registry : RegistryValue) (id place target track : ℕ)
    → ((t : Trace) → kept_trace registry.traces id ≡ Some t → length t.tracks ≤ track)
    → NoTrackLeads rooms registry id place target track → ¬ TraceLeads rooms registry id place target
no_track rooms registry id place target track last none (k, (t, kept, start, root, here, down)) =
    elim (cases_lt k track) [
      | inl below ↦ none k below (t, kept, start, root, here, down)
      | inr past ↦ past_tracks t place k start root (omega (arith, last t kept, past)) here
    ]

-- ---- one pin

-- a trace of a pin that leads to the number
pub pin_by_trace : (rooms : Store) (registry : RegistryValue) (p : PinView) (id target : ℕ)
    → Contains (asked_ids p.ids) id → TraceLeads rooms registry id p.place target
    → PinLeads rooms registry p target
pin_by_trace rooms registry p id target asked (track, (t, kept, start, root, here, down)) = (
  root,
  record { id = id; asked = asked; trace = t; kept = kept; track = track; start = start; told = here },
  down,
)

-- and otherwise none does
pub trace_of_pin : (rooms : Store) (registry : RegistryValue) (p : PinView) (target : ℕ)
    → PinLeads rooms registry p target
    → (id : ℕ) × Contains (asked_ids p.ids) id × TraceLeads rooms registry id p.place target
trace_of_pin rooms registry p target (root, sees, down) = (
  sees.id,
  sees.asked,
  (sees.track, (sees.trace, sees.kept, sees.start, root, sees.told, down)),
)

-- a pin on two traces leads where one of them does
pub pin_on_two : (rooms : Store) (registry : RegistryValue) (p : PinView) (first second target : ℕ)
    (answer : Bool) → p.ids ≡ Two first second → ¬ TraceLeads rooms registry first p.place target
    → (IsTrue answer ↔ TraceLeads rooms registry second p.place target)
    → IsTrue answer ↔ PinLeads rooms registry p target
pin_on_two rooms registry p first second target answer is none tells = (
  λ yes. pin_by_trace rooms registry p second target
      (subst (λ (ids : AskIds). Contains (asked_ids ids) second) (sym is)
      (has_there first second (second ∷ []) (has_here second []))) (tells.0 yes),
  λ leads.
      (let (id, asked, down) = trace_of_pin rooms registry p target leads in
      elim (has_cons first id (second ∷ []) (subst (λ (ids : AskIds). Contains (asked_ids ids) id) is asked)) [
        | inl same ↦
            absurd (none (subst (λ n. TraceLeads rooms registry n p.place target) (sym same) down))
        | inr later ↦ tells.1 (subst (λ n. TraceLeads rooms registry n p.place target)
            (sym (has_only second id later)) down)
      ]),
)

-- ---- one seat

-- a seat reaches what its stakes lead to
pub reached_by_stakes : (w : World) (seat : SeatView) (n : ℕ) (rooms : Store) (stakes : List Stake)
    → rooms ≡ w.state.shards → stakes ≡ seat.stakes → StakesLead rooms stakes n → IsReachedBy w seat n
reached_by_stakes w seat n rooms stakes is has leads =
    let (x, among, down) = subst (λ r. StakesLead r seat.stakes n) is
    (subst (λ xs. StakesLead rooms xs n) has leads) in by_stake x among down

-- and else what its pins lead to
pub reached_by_pins : (w : World) (seat : SeatView) (n : ℕ) (rooms : Store) (stakes : List Stake)
    (pins : List PinView) (answer : Bool) → rooms ≡ w.state.shards → stakes ≡ seat.stakes
    → pins ≡ seat.pins → ¬ StakesLead rooms stakes n
    → (IsTrue answer ↔ PinsLead rooms w.state.registry pins n) → IsTrue answer ↔ IsReachedBy w seat n
reached_by_pins w seat n rooms stakes pins answer is has sees none tells = (
  λ yes.
      (let (p, among, (root, seen, down)) = subst (λ r. PinsLead r w.state.registry seat.pins n) is
      (subst (λ ps. PinsLead rooms w.state.registry ps n) sees (tells.0 yes)) in
      by_pin p root among seen down),
  back,
)
  where
    back : IsReachedBy w seat n → IsTrue answer
    back (by_stake x among down) = absurd (none (subst (λ xs. StakesLead rooms xs n) (sym has)
        (subst (λ r. StakesLead r seat.stakes n) (sym is) (x, among, down))))
    back (by_pin p root among seen down) = tells.1 (subst (λ ps. PinsLead rooms w.state.registry ps n)
        (sym sees) (subst (λ r. PinsLead r w.state.registry seat.pins n) (sym is)
        (p, among, (root, seen, down))))
