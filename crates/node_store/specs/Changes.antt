-- Changes of the numbers given.
use Rattle.std.specs.Prelude.{ℕ, ◌-◌, ◌/◌, ◌%◌, ◌++◌, ◌∷◌, [], List, slice_get, slice_set, unwrap_or}
use Rattle.std.specs.Option.{option_map_or}
use Rattle.node_key.specs.declared.limits.TheConstants.{STORE_ROOMS}
use Rattle.node_store.specs.Given.{Given}
use Rattle.node_store.specs.declared.numbered.Numbered.{Numbered}

-- the list of a room
abbrev pub room_list : Given → ℕ → List Numbered
room_list g i = unwrap_or (slice_get g.rooms i) []

-- one number more in a room
abbrev pub with_last : Given → ℕ → Numbered → Given
with_last g i e = record { first = g.first; rooms = slice_set g.rooms i (room_list g i ++ e ∷ []) }

-- another count of stakes on a number
abbrev pub restaked : List Numbered → ℕ → ℕ → List Numbered
restaked es p staked = option_map_or (λ e. slice_set es p (record { key = e.key; staked = staked }))
    (slice_get es p) es

abbrev pub with_staked : Given → ℕ → ℕ → Given
with_staked g n staked = record {
  first = g.first;
  rooms = slice_set g.rooms (n % STORE_ROOMS)
      (restaked (room_list g (n % STORE_ROOMS)) (n / STORE_ROOMS - g.first) staked);
}
