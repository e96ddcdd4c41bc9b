-- A container is destroyed: by what is kept of it, and of its tracks.
use Rattle.std.proofs.Common.{◌≡◌, ℕ, ◌<◌, ◌^◌, ◌==◌, List, [], ◌∷◌, ◌++◌, length, slice_get, sum_by, Option}
use Rattle.std.proofs.Common.{Some}
use Rattle.std.proofs.Common.{None, refl, sym, ◌∙◌, ap, subst}
use Rattle.std.specs.Option.{option_and_then, option_map, option_map_or}
use Rattle.std.proofs.lemmas.Option.{none-some, same_Some}
use Rattle.paje_defs.specs.declared.event_name.EventName.TheVariants.{DestroyContainer}
use Rattle.paje_defs.specs.declared.role.Role.TheVariants as roles
use Rattle.paje_defs.specs.Refusals.{first_of, when}
use Rattle.paje_lines.specs.declared.effect.Effect.TheVariants.{Left}
use Rattle.paje_lines.specs.declared.model_fault.ModelFault.{ModelFault}
use Rattle.paje_lines.specs.declared.model_fault.ModelFault.TheVariants.{AfterDestroy, WrongKind}
use Rattle.paje_lines.specs.EventLine.{EventLine, text_of}
use Rattle.paje_lines.specs.Containers.{DeclaredContainer, container_named, containers_in, destruction}
use Rattle.paje_lines.specs.Effects.{effect, effect_of}
use Rattle.paje_lines.specs.Reasons.{back_reason, destroy_reason, destroyed_reason}
use Rattle.paje_lines.specs.Reasons.{destruction_reason, reason_of}
use Rattle.paje_lines.specs.States.{latest, open_in}
use Rattle.paje_lines.proofs.Containers.{named_exists}
use Rattle.paje_lines.proofs.NoReason.{each_none}
use Rattle.paje_lines.proofs.NotDestroyed.{not_destroyed}
use Rattle.paje_model.specs.declared.container_table.ContainerTable.{ContainerTable}
use Rattle.paje_model.specs.declared.container_table.Destruction.{Destruction}
use Rattle.paje_model.specs.declared.container_table.Existing.{Existing}
use Rattle.paje_model.specs.declared.known.Known.{Known}
use Rattle.paje_model.specs.ContainerTable.{ChangesContainer, destroyed_by, stay_reason}
use Rattle.paje_model.specs.Existing.{AreContainers, existing_at}
use Rattle.paje_model.specs.Known.{IsKnown, IsOfLines}
use Rattle.paje_model.specs.TrackTable.{calls_at}
use Rattle.paje_model.proofs.ContainersSoFar.{containers_destroyed, existing-get, existing-length}
use Rattle.paje_model.proofs.KnownContainers.{IsOfContainers, destroying, known_after}
use Rattle.paje_model.proofs.OpenCalls.{calls-summed, few_in}

-- ---- the container that a line names

pub is_there : (lines : List EventLine) (t : ContainerTable) (text : List ℕ) (place : ℕ)
    → AreContainers lines t
    → container_named lines text ≡ Some place → place < length t.list.items
is_there lines t text place are named = subst (λ n. place < n)
    (sym (ap length are.existing ∙ existing-length lines)) (named_exists lines text place named)

record IsAt (lines : List EventLine) (place : ℕ) (e : Existing) : Type 0 where
  declared : DeclaredContainer
  is : existing_at lines (place, declared) ≡ e

is_at : (lines : List EventLine) (t : ContainerTable) (place : ℕ) (e : Existing) → AreContainers lines t
    → slice_get t.list.items place ≡ Some e → IsAt lines place e
is_at lines t place e are at = by (slice_get (containers_in lines) place)
    (sym (existing-get lines place) ∙ (ap (λ es. slice_get es place) (sym are.existing) ∙ at))
  where
    by : (o : Option DeclaredContainer) → option_map (λ d. existing_at lines (place, d)) o ≡ Some e
        → IsAt lines place e
    by None is = absurd (none-some e is)
    by (Some d) is = record { declared = d; is = same_Some (existing_at lines (place, d)) e is }

-- ---- whether it may be destroyed

stays_by : (place time last : ℕ) (o : Option EventLine)
    → first_of (when (place == 0) (WrongKind roles.Name)
    ∷ option_map (λ (d : Destruction). AfterDestroy d.line) (option_map (λ line. record {
      line = line.number;
      time = line.time;
    }) o)
    ∷ back_reason time last ∷ [])
    ≡ first_of (when (place == 0) (WrongKind roles.Name) ∷ destroyed_reason o ∷ back_reason time last ∷ [])
stays_by place time last None = refl
stays_by place time last (Some line) = refl

stays : (lines : List EventLine) (line : EventLine) (t : ContainerTable) (place : ℕ) (e : Existing) (time : ℕ)
    → AreContainers lines t → slice_get t.list.items place ≡ Some e → time ≡ line.time
    → stay_reason place e time ≡ destruction_reason lines line place
stays lines line t place e time are at is =
    let found = is_at lines t place e are at in
    ap (λ (e : Existing). stay_reason place e time) (sym found.is)
    ∙ (stays_by place time (latest lines place) (destruction lines place)
    ∙ ap (λ time. first_of (when (place == 0) (WrongKind roles.Name)
    ∷ destroyed_reason (destruction lines place) ∷ back_reason time (latest lines place) ∷ [])) is)

-- where the line names it
pub reason_is : (lines : List EventLine) (line : EventLine) (t : ContainerTable) (place : ℕ) (e : Existing)
    (time : ℕ) (why : Option ModelFault) → AreContainers lines t → slice_get t.list.items place ≡ Some e
    → time ≡ line.time → container_named lines (text_of line roles.Name) ≡ Some place
    → stay_reason place e time ≡ why
    → option_and_then (destruction_reason lines line) (container_named lines (text_of line roles.Name)) ≡ why
reason_is lines line t place e time why are at is named stay =
    ap (option_and_then (destruction_reason lines line)) named
    ∙ (sym (stays lines line t place e time are at is) ∙ stay)

still_there : (lines : List EventLine) (line : EventLine) (place : ℕ)
    → destruction_reason lines line place ≡ None
    → destruction lines place ≡ None
still_there lines line place none = not_destroyed (destruction lines place)
    (each_none (when (place == 0) (WrongKind roles.Name) ∷ destroyed_reason (destruction lines place)
    ∷ back_reason line.time (latest lines place) ∷ []) none).1.0

-- ---- its open calls

pub open_there : (lines : List EventLine) (k : Known) (place : ℕ) (e : Existing) (places : List ℕ)
    → IsKnown lines k → slice_get k.containers.list.items place ≡ Some e → places ≡ e.tracks
    → sum_by (calls_at k.tracks) places ≡ open_in lines place
open_there lines k place e places known at are =
    let found = is_at lines k.containers place e known.containers at in
    ap (sum_by (calls_at k.tracks)) (are ∙ ap (λ (e : Existing). e.tracks) (sym found.is))
    ∙ calls-summed lines k.tracks place known.tracks

pub few_there : (k : Known) (place : ℕ) (e : Existing) (places : List ℕ) → IsOfLines k
    → slice_get k.containers.list.items place ≡ Some e → places ≡ e.tracks
    → sum_by (calls_at k.tracks) places < 2 ^ 32
few_there k place e places (lines, known) at are = subst (λ n. n < 2 ^ 32)
    (sym (open_there lines k place e places known at are)) (few_in lines known.unrefused place)

pub leaves : (lines : List EventLine) (line : EventLine) (place left : ℕ) → line.event ≡ DestroyContainer
    → container_named lines (text_of line roles.Name) ≡ Some place → left ≡ open_in lines place
    → Left left ≡ effect lines line
leaves lines line place left is named open_now =
    ap Left (open_now ∙ sym (ap (λ o. option_map_or (open_in lines) o 0) named))
    ∙ sym (ap (λ e. effect_of e lines line) is)

-- ---- what is known behind it

pub known_destroyed : (lines : List EventLine) (line : EventLine) (k : Known) (new : ContainerTable)
    (place : ℕ)
    (e : Existing) (time end : ℕ) → IsKnown lines k → line.event ≡ DestroyContainer
    → destroy_reason lines line ≡ None → container_named lines (text_of line roles.Name) ≡ Some place
    → slice_get k.containers.list.items place ≡ Some e → stay_reason place e time ≡ None → time ≡ line.time
    → end ≡ line.time → ChangesContainer k.containers new place (destroyed_by line.number end)
    → IsKnown (lines ++ line ∷ []) (record k { containers = new })
known_destroyed lines line k new place e time end known is none named at stay is_time is_end changes =
    known_after lines line k new known (subst (IsOfContainers lines) (sym is) (destroying lines))
    (ap (λ e. reason_of e lines line) is ∙ none)
    (containers_destroyed lines line k.containers new place e known.containers is named
    (still_there lines line place
    (sym (stays lines line k.containers place e time known.containers at is_time) ∙ stay))
    (ap (λ es. slice_get es place) (sym known.containers.existing) ∙ at)
    (subst (λ time. ChangesContainer k.containers new place (destroyed_by line.number time)) is_end changes))
