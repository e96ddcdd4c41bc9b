-- The events that a canonical text defines, with their fields.
use Rattle.std.specs.Prelude.{ℕ, List, [], ◌∷◌, ◌++◌, map, codes, decimal}
use Rattle.std.specs.List.{enumerate_from, flat_map}
use Rattle.paje_print.specs.WrittenWords.{WrittenLine, bare}

pub record WrittenField : Type 0 where
  pub name : List ℕ
  pub kind : List ℕ

pub record WrittenEvent : Type 0 where
  pub name : List ℕ
  pub fields : List WrittenField

abbrev pub written_string : List ℕ → WrittenField
written_string name = record { name = name; kind = codes "string" }

abbrev pub written_time : WrittenField
written_time = record { name = codes "Time"; kind = codes "date" }

abbrev pub written_size : WrittenField
written_size = record { name = codes "Size"; kind = codes "int" }

-- the number of an event is its place here, counted from 0
abbrev pub written_events : List WrittenEvent
written_events =
    record {
      name = codes "PajeDefineContainerType";
      fields = map written_string (codes "Alias" ∷ codes "Type" ∷ codes "Name" ∷ []);
    }
    ∷ record {
      name = codes "PajeDefineStateType";
      fields = map written_string (codes "Alias" ∷ codes "Type" ∷ codes "Name" ∷ []);
    }
    ∷ record {
      name = codes "PajeDefineLinkType";
      fields = map written_string (codes "Alias" ∷ codes "Type" ∷ codes "StartContainerType"
          ∷ codes "EndContainerType" ∷ codes "Name" ∷ []);
    }
    ∷ record {
      name = codes "PajeCreateContainer";
      fields = written_time ∷ map written_string (codes "Alias" ∷ codes "Type" ∷ codes "Container"
          ∷ codes "Name" ∷ []);
    }
    ∷ record {
      name = codes "PajeDestroyContainer";
      fields = written_time ∷ map written_string (codes "Type" ∷ codes "Name" ∷ []);
    }
    ∷ record {
      name = codes "PajePushState";
      fields = written_time ∷ map written_string (codes "Type" ∷ codes "Container" ∷ codes "Value" ∷ []);
    }
    ∷ record {
      name = codes "PajePopState";
      fields = written_time ∷ map written_string (codes "Type" ∷ codes "Container" ∷ []);
    }
    ∷ record {
      name = codes "PajeResetState";
      fields = written_time ∷ map written_string (codes "Type" ∷ codes "Container" ∷ []);
    }
    ∷ record {
      name = codes "PajeStartLink";
      fields = written_time ∷ map written_string (codes "Type" ∷ codes "Container" ∷ codes "Value"
          ∷ codes "StartContainer" ∷ codes "Key" ∷ []) ++ written_size ∷ [];
    }
    ∷ record {
      name = codes "PajeEndLink";
      fields = written_time ∷ map written_string (codes "Type" ∷ codes "Container" ∷ codes "Value"
          ∷ codes "EndContainer" ∷ codes "Key" ∷ []);
    }
    ∷ []

-- ---- their definitions

abbrev pub field_line : WrittenField → WrittenLine
field_line field = bare (codes "%") ∷ bare field.name ∷ bare field.kind ∷ []

abbrev pub definition_of_event : ℕ × WrittenEvent → List WrittenLine
definition_of_event p = (bare (codes "%EventDef") ∷ bare p.1.name ∷ bare (decimal p.0) ∷ [])
    ∷ map field_line p.1.fields ++ (bare (codes "%EndEventDef") ∷ []) ∷ []

unfoldable pub definitions_written : List WrittenLine
definitions_written = flat_map definition_of_event (enumerate_from 0 written_events)
