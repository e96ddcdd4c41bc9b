-- What a text finds among what was declared.
use Rattle.std.specs.Prelude.{ℕ, Bool, not, List, [], ◌∷◌, codes, filter, Option, position}
use Rattle.std.specs.Prelude.{if◌then◌else◌}
use Rattle.std.specs.Option.{option_or}
use Rattle.std.specs.Str.{bytes_eq}

-- what was declared on a line, and by which texts it is found
pub record Entity : Type 0 where
  pub alias : List ℕ
  pub name : List ℕ
  pub line : ℕ

abbrev pub has_alias : List ℕ → Entity → Bool
has_alias text e = bytes_eq text e.alias

abbrev pub has_name : List ℕ → Entity → Bool
has_name text e = bytes_eq text e.name

-- where the entity of this alias stands, else the first of this name; counted from 0
abbrev pub entity_place : List Entity → List ℕ → Option ℕ
entity_place entities text = option_or (position (has_alias text) entities) (position (has_name text)
    entities)

-- `/` is another way to write `0`, where a type or a container is named
abbrev pub rooted : List ℕ → List ℕ
rooted text = if bytes_eq text (codes "/") then codes "0" else text

-- it is there from line 0
abbrev pub root : Entity
root = record { alias = codes "0"; name = codes "0"; line = 0 }

-- the different texts of a list, in the order in which they first stand there
abbrev pub distinct_by : {X : Type 0} → (X → X → Bool) → List X → List X
distinct_by same [] = []
distinct_by same (x ∷ xs) = x ∷ filter (λ y. not (same x y)) (distinct_by same xs)
