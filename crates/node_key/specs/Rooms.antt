-- In which room of the store a node is.
use Rattle.std.specs.Prelude.{ℕ, ◌+◌, ◌*◌, ◌/◌, ◌%◌, ◌^◌, sum_by}
use Rattle.node_key.specs.declared.limits.TheConstants.{STORE_ROOMS}
use Rattle.node_key.specs.declared.key.Kid.{Kid}
use Rattle.node_key.specs.declared.key.NodeKey.{NodeKey}

-- what a kid adds
abbrev pub kid_weight : Kid → ℕ
kid_weight k = k.gap + 3 * k.span + 7 * k.node

-- what a key adds up to; a kid past its last adds nothing
abbrev pub key_weight : NodeKey → ℕ
key_weight k = k.func + k.dur + k.dur / 16 + k.dur / 4096 + 5 * k.height + sum_by kid_weight k.kids

-- the room of a key: its sum in 64 bits, which wraps
unfoldable pub room : NodeKey → ℕ
room k = key_weight k % 2 ^ 64 % STORE_ROOMS
