-- What is known of the lines so far, after one that creates or destroys a container.
use Rattle.std.proofs.Common.{◌≡◌, ℕ, false, List, [], ◌∷◌, ◌++◌, None, sym, ◌∙◌, ap, subst, refl}
use Rattle.paje_defs.specs.declared.event_name.EventName.{EventName}
use Rattle.paje_defs.specs.declared.event_name.EventName.TheVariants.{CreateContainer, DestroyContainer}
use Rattle.paje_defs.specs.declared.role.Role.TheVariants as roles
use Rattle.paje_lines.specs.EventLine.{EventLine, alias_of, defines_value, enters, is_link_event}
use Rattle.paje_lines.specs.EventLine.{is_state_event}
use Rattle.paje_lines.specs.EventLine.{is_state_type, text_of}
use Rattle.paje_lines.specs.Found.{rooted}
use Rattle.paje_lines.specs.Reasons.{create_reason, event_reason, reason_of}
use Rattle.paje_lines.specs.Types.{rooted_entity, sort_of}
use Rattle.paje_model.specs.declared.container_table.ContainerTable.{ContainerTable}
use Rattle.paje_model.specs.declared.known.Known.{Known}
use Rattle.paje_model.specs.ContainerTable.{TakesContainer}
use Rattle.paje_model.specs.Existing.{AreContainers}
use Rattle.paje_model.specs.Known.{IsKnown}
use Rattle.paje_model.proofs.ContainersSoFar.{containers_created}
use Rattle.paje_model.proofs.KeptFacts.{AreValues-kept, count_of_states-kept, functions-kept, links-kept}
use Rattle.paje_model.proofs.KeptFacts.{unrefused-kept}
use Rattle.paje_model.proofs.KeptTracks.{AreTracks-kept}
use Rattle.paje_model.proofs.TypesSoFar.{types_kept}

-- an event that concerns containers alone
pub record IsOfContainers (lines : List EventLine) (event : EventName) : Type 0 where
  pub sort : sort_of lines event ≡ None
  pub values : defines_value event ≡ false
  pub types : is_state_type event ≡ false
  pub enters_none : enters event ≡ false
  pub states : is_state_event event ≡ false
  pub links : is_link_event event ≡ false

pub known_after : (lines : List EventLine) (line : EventLine) (k : Known) (new : ContainerTable)
    → IsKnown lines k → IsOfContainers lines line.event → event_reason lines line ≡ None
    → AreContainers (lines ++ line ∷ []) new → IsKnown (lines ++ line ∷ []) (record k { containers = new })
known_after lines line k new known is none containers = record {
  types = types_kept lines line k.types known.types is.sort;
  containers = containers;
  values = AreValues-kept lines line k.values known.values is.values is.types;
  functions = known.functions ∙ sym (functions-kept lines line is.enters_none);
  tracks = AreTracks-kept lines line k.tracks known.tracks is.states;
  links = known.links ∙ sym (links-kept lines line is.links);
  states = known.states ∙ sym (count_of_states-kept lines line is.states);
  unrefused = unrefused-kept lines line known.unrefused none;
}

pub creating : (lines : List EventLine) → IsOfContainers lines CreateContainer
creating lines = record {
  sort = refl;
  values = refl;
  types = refl;
  enters_none = refl;
  states = refl;
  links = refl;
}

pub destroying : (lines : List EventLine) → IsOfContainers lines DestroyContainer
destroying lines = record {
  sort = refl;
  values = refl;
  types = refl;
  enters_none = refl;
  states = refl;
  links = refl;
}

-- ---- a container is created

-- the texts and the time that were read are those of the line
created_of : (lines : List EventLine) (line : EventLine) (old new : ContainerTable) (alias name : List ℕ)
    (start : ℕ) → AreContainers lines old → line.event ≡ CreateContainer → alias ≡ alias_of line
    → name ≡ text_of line roles.Name → start ≡ line.time
    → TakesContainer old new (record { alias = rooted alias; name = name; line = line.number }) start
    → AreContainers (lines ++ line ∷ []) new
created_of lines line old new alias name start are is alias_is name_is start_is takes =
    containers_created lines line old new are is
    (subst (λ t. TakesContainer old new (rooted_entity line) t) start_is
    (subst (λ n. TakesContainer old new (record {
      alias = rooted (alias_of line);
      name = n;
      line = line.number;
    }) start) name_is
    (subst (λ a. TakesContainer old new (record { alias = rooted a; name = name; line = line.number }) start)
    alias_is takes)))

pub known_created : (lines : List EventLine) (line : EventLine) (k : Known) (new : ContainerTable)
    (alias name : List ℕ) (start : ℕ) → IsKnown lines k → line.event ≡ CreateContainer
    → create_reason lines line ≡ None → alias ≡ alias_of line → name ≡ text_of line roles.Name
    → start ≡ line.time
    → TakesContainer k.containers new (record { alias = rooted alias; name = name; line = line.number }) start
    → IsKnown (lines ++ line ∷ []) (record k { containers = new })
known_created lines line k new alias name start known is none alias_is name_is start_is takes =
    known_after lines line k new known (subst (IsOfContainers lines) (sym is) (creating lines))
    (ap (λ e. reason_of e lines line) is ∙ none)
    (created_of lines line k.containers new alias name start known.containers is alias_is name_is start_is
    takes)
