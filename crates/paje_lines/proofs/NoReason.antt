-- What holds of a line that isn't refused.
use Rattle.std.proofs.Common.{◌≡◌, ℕ, ◌<◌, List, [], ◌∷◌, Bool, true, false, Option, Some, None, refl, sym}
use Rattle.std.proofs.Common.{ap, is_some, nat_le}
use Rattle.std.specs.List.{AllByRecursion}
use Rattle.std.proofs.lemmas.Bool.{true≢false, leb-false}
use Rattle.paje_defs.specs.Refusals.{first_of, when}
use Rattle.paje_defs.specs.declared.event_name.EventName.{EventName}
use Rattle.paje_defs.specs.declared.event_name.EventName.TheVariants as events
use Rattle.paje_defs.specs.declared.role.Role.TheVariants as roles
use Rattle.paje_lines.specs.declared.what.What.{What}
use Rattle.paje_lines.specs.declared.model_fault.ModelFault.TheVariants.{TooMany}
use Rattle.paje_lines.specs.EventLine.{EventLine, creates, destroys, is_state_event, is_link_event}
use Rattle.paje_lines.specs.Types.{sort_of, is_container_type}
use Rattle.paje_lines.specs.Reasons.{full, limit_of, reason_of, create_reason, destroy_reason, state_reason}
use Rattle.paje_lines.specs.Reasons.{link_reason, links_in, new_type_reason, define_reason, type_reason}

-- ---- reasons in their order

-- where there is none, each is none
pub each_none : {F : Type 0} (reasons : List (Option F)) → first_of reasons ≡ None
    → AllByRecursion (λ o. o ≡ None) reasons
each_none [] e = tt
each_none (None ∷ reasons) e = (refl, each_none reasons e)
each_none (Some f ∷ reasons) e = absurd (true≢false (ap is_some e))

pub when_none : {F : Type 0} (b : Bool) (fault : F) → when b fault ≡ None → b ≡ false
when_none true fault e = absurd (true≢false (ap is_some e))
when_none false fault e = refl

-- there is room for one more
pub room : (kind : What) (count : ℕ) → full kind count ≡ None → count < limit_of kind
room kind count e = leb-false (limit_of kind) count
    (when_none (nat_le (limit_of kind) count) (TooMany kind) e)

-- ---- which reason a line of an event has

abbrev pub Unrefused : EventName → List EventLine → EventLine → Type 0
Unrefused event before line = reason_of event before line ≡ None

pub created : (event : EventName) (before : List EventLine) (line : EventLine) → Unrefused event before line
    → creates event ≡ true → create_reason before line ≡ None
created events.CreateContainer before line e is = e
created _ before line e is = absurd (true≢false (sym is))

pub destroyed : (event : EventName) (before : List EventLine) (line : EventLine)
    → Unrefused event before line → destroys event ≡ true → destroy_reason before line ≡ None
destroyed events.DestroyContainer before line e is = e
destroyed _ before line e is = absurd (true≢false (sym is))

pub stated : (event : EventName) (before : List EventLine) (line : EventLine) → Unrefused event before line
    → is_state_event event ≡ true → state_reason before line ≡ None
stated events.PushState before line e is = e
stated events.SetState before line e is = e
stated events.PopState before line e is = e
stated events.ResetState before line e is = e
stated _ before line e is = absurd (true≢false (sym is))

pub linked : (event : EventName) (before : List EventLine) (line : EventLine) → Unrefused event before line
    → is_link_event event ≡ true → link_reason (links_in before) before line ≡ None
linked events.StartLink before line e is = e
linked events.EndLink before line e is = e
linked _ before line e is = absurd (true≢false (sym is))

type_defined : (before : List EventLine) (line : EventLine) → define_reason before line ≡ None
    → new_type_reason before line ≡ None
type_defined before line e =
    (each_none (type_reason is_container_type before line roles.Kind
    ∷ new_type_reason before line ∷ []) e).1.0

pub typed : (event : EventName) (before : List EventLine) (line : EventLine) → Unrefused event before line
    → is_some (sort_of before event) ≡ true → new_type_reason before line ≡ None
typed events.DefineContainerType before line e is = type_defined before line e
typed events.DefineStateType before line e is = type_defined before line e
typed events.DefineEventType before line e is = type_defined before line e
typed events.DefineVariableType before line e is = type_defined before line e
typed events.DefineLinkType before line e is =
    (each_none (type_reason is_container_type before line roles.Kind
    ∷ type_reason is_container_type before line roles.FromKind
    ∷ type_reason is_container_type before line roles.ToKind
    ∷ new_type_reason before line ∷ []) e).1.1.1.0
typed _ before line e is = absurd (true≢false (sym is))
