-- What is known of the lines so far, after a line of no container and no track.
use Rattle.std.proofs.Common.{◌≡◌, true, false, List, [], ◌∷◌, ◌++◌, None, refl, sym, ◌∙◌, true≢false}
use Rattle.std.proofs.Common.{subst}
use Rattle.paje_defs.specs.declared.event_name.EventName.{EventName}
use Rattle.paje_defs.specs.declared.event_name.EventName.TheVariants as events
use Rattle.paje_lines.specs.EventLine.{EventLine, creates, defines_value, destroys, is_dropped, is_link_event}
use Rattle.paje_lines.specs.EventLine.{is_state_event, is_state_type}
use Rattle.paje_lines.specs.Reasons.{event_reason, reason_of}
use Rattle.paje_lines.specs.Text.{links_of}
use Rattle.paje_lines.specs.Types.{sort_of}
use Rattle.paje_model.specs.declared.known.Known.{Known}
use Rattle.paje_model.specs.Known.{AreValues, IsKnown}
use Rattle.paje_lines.specs.States.{functions_entered}
use Rattle.paje_model.specs.Existing.{AreContainers}
use Rattle.paje_model.specs.FunctionTable.{functions_kept}
use Rattle.paje_model.specs.MadeTracks.{AreTracks}
use Rattle.paje_model.specs.TypeTable.{AreTypes}
use Rattle.paje_model.proofs.KeptFacts.{AreContainers-kept, AreValues-kept, count_of_states-kept, enters_none}
use Rattle.paje_model.proofs.KeptFacts.{functions-kept, links-kept, unrefused-kept}
use Rattle.paje_model.proofs.KeptTracks.{AreTracks-kept}
use Rattle.paje_model.proofs.TypesSoFar.{types_kept}

-- it neither creates nor destroys a container, and is no state event
pub record IsApart (event : EventName) : Type 0 where
  pub states : is_state_event event ≡ false
  pub creates_none : creates event ≡ false
  pub destroys_none : destroys event ≡ false

-- what such a line may change
pub record Changes (lines : List EventLine) (new : Known) : Type 0 where
  pub types : AreTypes lines new.types
  pub values : AreValues lines new.values
  pub links : new.links ≡ links_of lines

-- and what it leaves
pub record IsLeft (old new : Known) : Type 0 where
  pub containers : new.containers ≡ old.containers
  pub functions : new.functions ≡ old.functions
  pub tracks : new.tracks ≡ old.tracks
  pub states : new.states ≡ old.states

pub known-next : (lines : List EventLine) (line : EventLine) (old new : Known) → IsKnown lines old
    → event_reason lines line ≡ None → IsApart line.event → Changes (lines ++ line ∷ []) new
    → IsLeft old new → IsKnown (lines ++ line ∷ []) new
known-next lines line old new known none apart changes left = record {
  types = changes.types;
  containers = subst (AreContainers (lines ++ line ∷ [])) (sym left.containers)
      (AreContainers-kept lines line old.containers known.containers apart.states apart.creates_none
      apart.destroys_none);
  values = changes.values;
  functions = subst (λ t. functions_kept t ≡ functions_entered (lines ++ line ∷ [])) (sym left.functions)
      (known.functions ∙ sym (functions-kept lines line (enters_none line.event apart.states)));
  tracks = subst (AreTracks (lines ++ line ∷ [])) (sym left.tracks)
      (AreTracks-kept lines line old.tracks known.tracks apart.states);
  links = changes.links;
  states = left.states ∙ (known.states ∙ sym (count_of_states-kept lines line apart.states));
  unrefused = unrefused-kept lines line known.unrefused none;
}

-- ---- dropped lines

record IsDropped (lines : List EventLine) (line : EventLine) (event : EventName) : Type 0 where
  pub apart : IsApart event
  pub sort : sort_of lines event ≡ None
  pub state_types : is_state_type event ≡ false
  pub values : defines_value event ≡ false
  pub links : is_link_event event ≡ false
  pub reason : reason_of event lines line ≡ None

dropped : (lines : List EventLine) (line : EventLine) (event : EventName) → is_dropped event ≡ true
    → IsDropped lines line event
dropped lines line events.NewEvent is = record {
  apart = record {
    states = refl;
    creates_none = refl;
    destroys_none = refl;
  };
  sort = refl;
  state_types = refl;
  values = refl;
  links = refl;
  reason = refl;
}
dropped lines line events.SetVariable is = record {
  apart = record {
    states = refl;
    creates_none = refl;
    destroys_none = refl;
  };
  sort = refl;
  state_types = refl;
  values = refl;
  links = refl;
  reason = refl;
}
dropped lines line events.AddVariable is = record {
  apart = record {
    states = refl;
    creates_none = refl;
    destroys_none = refl;
  };
  sort = refl;
  state_types = refl;
  values = refl;
  links = refl;
  reason = refl;
}
dropped lines line events.SubVariable is = record {
  apart = record {
    states = refl;
    creates_none = refl;
    destroys_none = refl;
  };
  sort = refl;
  state_types = refl;
  values = refl;
  links = refl;
  reason = refl;
}
dropped lines line _ is = absurd (true≢false (sym is))

pub known-dropped : (lines : List EventLine) (line : EventLine) (k : Known) → IsKnown lines k
    → is_dropped line.event ≡ true → IsKnown (lines ++ line ∷ []) k
known-dropped lines line k known is =
    let facts : IsDropped lines line line.event = dropped lines line line.event is in
    known-next lines line k k known facts.reason facts.apart (record {
      types = types_kept lines line k.types known.types facts.sort;
      values = AreValues-kept lines line k.values known.values facts.values facts.state_types;
      links = known.links ∙ sym (links-kept lines line facts.links);
    }) (record { containers = refl; functions = refl; tracks = refl; states = refl })
