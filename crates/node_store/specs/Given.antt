-- The numbers that the store ever gave, room by room, each with its key and with how many stakes the owner of
-- the store has on it.
use Rattle.std.specs.Prelude.{ℕ, ◌+◌, ◌*◌, ◌-◌, ◌/◌, ◌%◌, nat_le, if◌then◌else◌, List, fold, length, map, max}
use Rattle.std.specs.Prelude.{replicate, slice_get, Option, None, refl}
use Rattle.std.specs.List.{flat_map, range_with_len}
use Rattle.std.specs.Option.{option_and_then, option_map, option_map_or}
use Rattle.std.specs.Coded.{Coded, code_by, coded×, coded_ℕ, coded_list}
use Rattle.node_key.specs.Stakes.{stake}
use Rattle.node_key.specs.declared.stake.Stake.{Stake}
use Rattle.node_key.specs.Stands.{KeyAt}
use Rattle.node_key.specs.declared.limits.TheConstants.{STORE_ROOMS}
use Rattle.node_store.specs.TreeUnder.{tree_under}
use Rattle.node_store.specs.declared.numbered.Numbered.{Numbered}
use Rattle.node_store.specs.contracts.numbered.Numbered as numbered

-- in each room, in the order in which they were given; the first of each room has the index `first`
pub record Given : Type 0 where
  pub first : ℕ
  pub rooms : List (List Numbered)

-- what was given under a number
abbrev pub given_entry : Given → ℕ → Option Numbered
given_entry g n = if nat_le g.first (n / STORE_ROOMS)
    then option_and_then (λ es. slice_get es (n / STORE_ROOMS - g.first)) (slice_get g.rooms
    (n % STORE_ROOMS))
    else None

-- the key that a number was ever given to
abbrev pub ever : Given → KeyAt
ever g n = option_map (λ e. e.key) (given_entry g n)

-- how many stakes the owner has on a number
abbrev pub staked_at : Given → ℕ → ℕ
staked_at g n = option_map_or (λ e. e.staked) (given_entry g n) 0

-- a stake on a number, with the tree that it stands for
abbrev pub stake_at : Given → ℕ → Stake
stake_at g n = stake n (tree_under (ever g) n)

-- a number that is past each given one
abbrev pub past_numbers : Given → ℕ
past_numbers g = STORE_ROOMS * (g.first + fold max 0 (map (λ es. length es) g.rooms))

-- the stakes of the owner, number by number
unfoldable pub stakes_of : Given → List Stake
stakes_of g = flat_map (λ n. replicate (staked_at g n) (stake_at g n)) (range_with_len 0 (past_numbers g))

-- stored as the tuple of its fields
abbrev pub given_code : Coded Given
given_code =
    code_by (ℕ × List (List Numbered)) (coded× coded_ℕ (coded_list (coded_list numbered.the_row.coded)))
    (λ g. (g.first, g.rooms)) (λ p. record { first = p.0; rooms = p.1 }) (λ _. refl)
