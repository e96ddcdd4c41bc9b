-- What a key is hashed by.
use Rattle.std.specs.Prelude.{ℕ, ◌+◌, ◌*◌, ◌%◌, ◌^◌, bit_xor, fold, take}
use Rattle.node_key.specs.declared.key.Kid.{Kid}
use Rattle.node_key.specs.declared.key.NodeKey.{NodeKey}

-- what a kid adds
abbrev pub parts : Kid → ℕ
parts kid = ((kid.gap * 11400714819323198485 % 2 ^ 64 + kid.span * 14029467366897019727 % 2 ^ 64) % 2 ^ 64
    + kid.node * 15485907386658061715 % 2 ^ 64) % 2 ^ 64

-- a digest with one kid more
abbrev pub mixed : ℕ → Kid → ℕ
mixed so_far kid = bit_xor so_far (parts kid) * 11400714819323198485 % 2 ^ 64

-- a number that tells most keys apart: of the function, the duration and the kids that are there
abbrev pub digest : NodeKey → ℕ
digest k = fold mixed (bit_xor (k.dur * 14029467366897019727 % 2 ^ 64) k.func) (take k.len k.kids)
