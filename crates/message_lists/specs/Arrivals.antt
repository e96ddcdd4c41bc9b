-- The arrivals of messages, by link type and key.
use Rattle.std.specs.Prelude.{ℕ, Bool, not, ◌&&◌, ◌==◌, nat_eq, List, [], unwrap_or}
use Rattle.std.specs.Cmp.Lexicographic.{pointwise}
use Rattle.std.specs.HashMap.{HashMap, get_by}
use Rattle.std.specs.Option.{option_map_or}
use Rattle.std.specs.declared.vec.Vec.{Vec}
use Rattle.std.specs.declared.alloc.Global.{Global}
use Rattle.std.specs.declared.hash.BuildHasherDefault.{BuildHasherDefault}
use Rattle.std.specs.declared.hash.FoldHasher.{FoldHasher}
use Rattle.trace_base.specs.declared.messages.LinkEvent.{LinkEvent}
use Rattle.message_lists.specs.declared.arrivals.Arrival.{Arrival}
use Rattle.message_lists.specs.declared.link_key.LinkKey.{LinkKey}

abbrev pub Arrivals : Type 0
Arrivals = HashMap LinkKey (Vec Arrival Global) (BuildHasherDefault FoldHasher)

-- whether the key is the one of this link type and these bytes
abbrev pub is_key : ℕ → List ℕ → LinkKey → Bool
is_key kind key k = (kind == k.kind) && pointwise nat_eq key k.key.now

-- whether this link type and these bytes are the ones of the key
abbrev pub is_at : LinkKey → ℕ → List ℕ → Bool
is_at k kind key = (k.kind == kind) && pointwise nat_eq k.key.now key

-- the arrivals that the table has for the link type and the key
abbrev pub arrivals_at : Arrivals → ℕ → List ℕ → List Arrival
arrivals_at table kind key = option_map_or (λ v. v.items) (get_by (is_key kind key) table) []

abbrev pub Counts : Type 0
Counts = HashMap LinkKey ℕ (BuildHasherDefault FoldHasher)

-- the count that the table has for the link type and the key
abbrev pub count_at : Counts → ℕ → List ℕ → ℕ
count_at table kind key = unwrap_or (get_by (is_key kind key) table) 0

-- the arrival that the link event tells
abbrev pub arrival_of : LinkEvent → Arrival
arrival_of l = record { container = l.container; time = l.time }

-- whether the link event is a start of this link type and key
abbrev pub is_start_of : ℕ → List ℕ → LinkEvent → Bool
is_start_of kind key l = l.starts && ((l.kind == kind) && pointwise nat_eq l.key key)

-- whether the link event is an end of this link type and key
abbrev pub is_end_of : ℕ → List ℕ → LinkEvent → Bool
is_end_of kind key l = not l.starts && ((l.kind == kind) && pointwise nat_eq l.key key)
