-- Small stores on which the definitions are computed.
use Rattle.std.specs.Prelude.{ℕ, ◌∷◌, [], replicate}
use Rattle.node_key.specs.Examples.{half_key, tenth_key, track_key}
use Rattle.node_store.specs.Given.{Given}

-- no numbers were given
abbrev pub none_given : Given
none_given = record { first = 0; rooms = replicate 16 [] }

-- A track in which main calls f twice: f has number 0, main 12 and the track 4. The owner has these stakes on
-- them.
abbrev pub three_given : (on_f on_main on_track : ℕ) → Given
three_given on_f on_main on_track = record {
  first = 0;
  rooms = (record { key = tenth_key; staked = on_f } ∷ []) ∷ [] ∷ [] ∷ []
      ∷ (record { key = track_key; staked = on_track } ∷ []) ∷ [] ∷ [] ∷ []
      ∷ [] ∷ [] ∷ [] ∷ []
      ∷ (record { key = half_key; staked = on_main } ∷ []) ∷ [] ∷ [] ∷ [] ∷ [];
}
