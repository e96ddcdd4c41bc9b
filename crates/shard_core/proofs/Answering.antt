-- What each step on the tables is to the room.
use Rattle.std.proofs.Common.{◌≡◌, inl, inr, ℕ, ◌+◌, ◌-◌, ◌*◌, ◌<◌, ◌≤◌, List, [], ◌∷◌, ◌++◌}
use Rattle.std.proofs.Common.{slice_get}
use Rattle.std.proofs.Common.{Option, Some, None, refl, sym, ap, ◌∙◌, subst, arith, nat_eq, is_some}
use Rattle.std.proofs.Common.{unwrap_or}
use Rattle.std.proofs.Common.{IfSome, IfNone, Result, Ok, Err}
use Rattle.std.specs.FinMap as map
use Rattle.std.specs.List.{IsDistinct, swap_remove}
use Rattle.std.specs.Map.{keys_of, lookup}
use Rattle.std.specs.Option.{option_map}
use Rattle.std.specs.Ordering.{nat_cmp}
use Rattle.std.proofs.lemmas.Bool.{cases_eq}
use Rattle.indexmap.specs.IndexMap.{set_value_at}
use Rattle.node_key.specs.Rooms.{room as room_of_key}
use Rattle.node_key.specs.declared.key.NodeKey.{NodeKey}
use Rattle.node_key.specs.declared.limits.TheConstants.{MAX_NUMBERS, STORE_ROOMS}
use Rattle.shard_core.specs.declared.limits.TheConstants.{MAX_COUNT}
use Rattle.shard_core.specs.declared.answers.Interned.{Interned}
use Rattle.shard_core.specs.declared.answers.Interned.TheVariants.{Known, New}
use Rattle.shard_core.specs.declared.answers.ShardFault.{ShardFault}
use Rattle.shard_core.specs.declared.answers.ShardFault.TheVariants.{Spent}
use Rattle.shard_core.specs.declared.answers.Dropped.TheVariants.{Kept, Removed}
use Rattle.shard_core.specs.Interning.{IsSpent, Interns, Drops}
use Rattle.shard_core.specs.Listed.{LacksKey}
use Rattle.shard_core.specs.Room.{Stored, Room, HasNode, IsSound, node_at, room_of, with_node}
use Rattle.shard_core.specs.Room.{with_new}
use Rattle.shard_core.specs.Room.{without}
use Rattle.shard_core.proofs.RoomMaps.{get_of, keeps_at, set_seen, take_seen, push_seen, absent_key}
use Rattle.shard_core.proofs.Soundness.{IsSound-with_node, IsSound-with_new, IsSound-without}

abbrev Entries : Type 0
Entries = List (ℕ × Stored)

abbrev node : NodeKey → ℕ → Stored
node k c = record { key = k; count = c }

pub seen_at : (room next : ℕ) (es : Entries) (v : Room) (i n : ℕ) (s : Stored) → room_of room next es ≡ v
    → IsDistinct nat_eq (keys_of es) → slice_get es i ≡ Some (n, s) → node_at v n ≡ Some s
seen_at room next es v i n s is apart at =
    subst (λ (r : Room). node_at r n ≡ Some s) is (keeps_at room next es i n s apart at)

pub unseen : (room next : ℕ) (es : Entries) (v : Room) (n : ℕ) → room_of room next es ≡ v
    → lookup (nat_eq n) es ≡ None → node_at v n ≡ None
unseen room next es v n is none = subst (λ (r : Room). node_at r n ≡ None) is (get_of es n ∙ none)

pub has_seen : (room next : ℕ) (es : Entries) (v : Room) (n : ℕ) (r : Option ℕ) → room_of room next es ≡ v
    → IsDistinct nat_eq (keys_of es)
    → IfSome r (λ i. (s : Stored) × (slice_get es i ≡ Some (n, s))) → IfNone r (lookup (nat_eq n) es ≡ None)
    → is_some r ≡ is_some (node_at v n)
has_seen room next es v n None is apart some none = sym (ap is_some (unseen room next es v n is none))
has_seen room next es v n (Some i) is apart some none =
    sym (ap is_some (seen_at room next es v i n some.0 is apart some.1))

-- a part of the node under a number
pub part_seen : {X : Type 0} (part : Stored → X) (room next : ℕ) (es : Entries) (v : Room) (i n : ℕ)
    (s : Stored) (x : X) → room_of room next es ≡ v → IsDistinct nat_eq (keys_of es)
    → slice_get es i ≡ Some (n, s) → option_map (λ (e : ℕ × Stored). part e.1) (slice_get es i) ≡ Some x
    → option_map part (node_at v n) ≡ Some x
part_seen part room next es v i n s x is apart at told = ap (option_map part) (seen_at room next es v i n s is
    apart at) ∙ sym (ap (option_map (λ (e : ℕ × Stored). part e.1)) at) ∙ told

-- the count of a key that is there is raised, unless it is the greatest
pub raised : (room next : ℕ) (es es' : Entries) (i n : ℕ) (k : NodeKey) (c : ℕ)
    (res : Result Interned ShardFault) → IsSound (room_of room next es) → IsDistinct nat_eq (keys_of es)
    → slice_get es i ≡ Some (n, node k c)
    → (MAX_COUNT ≤ c → (res ≡ Err (Spent MAX_COUNT)) × (es' ≡ es))
    → (c < MAX_COUNT → (res ≡ Ok (Known n)) × (es' ≡ set_value_at es i (node k (c + 1))))
    → Interns (room_of room next es) k res (room_of room next es') × IsSound (room_of room next es')
raised room next es es' i n k c res sound apart at full more =
    let r = room_of room next es in
    let keeps = keeps_at room next es i n (node k c) apart at in
    let here = sound.placed n k c keeps in
    elim (cases_eq c MAX_COUNT) [
      | inl same ↦
          let f = full (omega (arith, same)) in (
            subst (λ (x : Result Interned ShardFault). Interns r k x (room_of room next es')) (sym f.0)
                (subst (λ (l : Entries). Interns r k (Err (Spent MAX_COUNT)) (room_of room next l)) (sym f.1)
                (inr (n, subst (λ (x : ℕ). HasNode r n k x) same keeps, refl), refl)),
            subst (λ (l : Entries). IsSound (room_of room next l)) (sym f.1) sound,
          )
      | inr differs ↦
          let below : c < MAX_COUNT = omega (arith, differs, here.most) in
          let f = more below in
          let eq : room_of room next es' ≡ with_node r n k (c + 1) =
          ap (λ (l : Entries). room_of room next l) f.1
          ∙ ap (λ (m : map.FinMap nat_cmp Stored). let x : Room =
          record { room = room; next = next; nodes = m } in x)
          (set_seen es i n (node k c) (node k (c + 1)) apart at) in (
            subst (λ (x : Result Interned ShardFault). Interns r k x (room_of room next es')) (sym f.0)
                (c, keeps, below, eq),
            subst IsSound (sym eq) (IsSound-with_node r n k c (c + 1) sound keeps (omega arith)
                (omega (arith, below))),
          )
    ]

pub spent_numbers : (room next : ℕ) (es : Entries) (k : NodeKey) → IsSound (room_of room next es)
    → MAX_NUMBERS ≤ next → LacksKey es k → IsSpent (room_of room next es) k MAX_NUMBERS
spent_numbers room next es k sound all lacks =
    inl (absent_key room next es k lacks, omega (arith, sound.next, all), refl)

fresh_by : (room next : ℕ) (es : Entries) (m : ℕ) (o : Option Stored) → IsSound (room_of room next es)
    → m ≡ STORE_ROOMS * next + room → lookup (nat_eq m) es ≡ o → o ≡ None
fresh_by room next es m None sound is e = refl
fresh_by room next es m (Some s) sound is e =
    let at = sound.placed m s.key s.count (get_of es m ∙ e) in
    absurd (omega (arith, at.index, is, sound.room))

-- no node has the next number
pub fresh : (room next : ℕ) (es : Entries) (m : ℕ) → IsSound (room_of room next es)
    → m ≡ STORE_ROOMS * next + room → lookup (nat_eq m) es ≡ None
fresh room next es m sound is = fresh_by room next es m (lookup (nat_eq m) es) sound is refl

pub added : (room next : ℕ) (es es' : Entries) (m : ℕ) (k : NodeKey) → IsSound (room_of room next es)
    → next < MAX_NUMBERS → room_of_key k ≡ room → m ≡ STORE_ROOMS * next + room → LacksKey es k
    → es' ≡ es ++ (m, node k 1) ∷ []
    → Interns (room_of room next es) k (Ok (New m)) (room_of room (next + 1) es')
    × IsSound (room_of room (next + 1) es')
added room next es es' m k sound below here is lacks after =
    let r = room_of room next es in
    let absent = absent_key room next es k lacks in
    let eq : room_of room (next + 1) es' ≡ with_new r k =
    ap (λ (l : Entries). room_of room (next + 1) l) after
    ∙ ap (λ (x : map.FinMap nat_cmp Stored). let y : Room =
    record { room = room; next = next + 1; nodes = x } in y)
    (push_seen es m (node k 1) (fresh room next es m sound is)
    ∙ ap (λ (x : ℕ). map.insert (map.from_entries {R = nat_cmp} es) x (node k 1)) is) in (
      (absent, below, is, eq),
      subst IsSound (sym eq) (IsSound-with_new r k sound absent below here),
    )

told : (es : Entries) (i n : ℕ) (s : Stored) (count : ℕ) → slice_get es i ≡ Some (n, s)
    → option_map (λ (e : ℕ × Stored). e.1.count) (slice_get es i) ≡ Some count → s.count ≡ count
told es i n s count at is = ap (λ (o : Option ℕ). unwrap_or o count)
    (sym (ap (option_map (λ (e : ℕ × Stored). e.1.count)) at) ∙ is)

pub kept : (room next : ℕ) (es es' : Entries) (i n : ℕ) (s : Stored) (count : ℕ)
    → IsSound (room_of room next es) → IsDistinct nat_eq (keys_of es) → slice_get es i ≡ Some (n, s)
    → option_map (λ (e : ℕ × Stored). e.1.count) (slice_get es i) ≡ Some count → 1 < count
    → es' ≡ set_value_at es i (node s.key (count - 1))
    → Drops (room_of room next es) n Kept (room_of room next es') × IsSound (room_of room next es')
kept room next es es' i n s count sound apart at is above after =
    let r = room_of room next es in
    let same = told es i n s count at is in
    let keeps : HasNode r n s.key count = keeps_at room next es i n s apart at
    ∙ ap (λ (x : ℕ). Some (node s.key x)) same in
    let here = sound.placed n s.key count keeps in
    let eq : room_of room next es' ≡ with_node r n s.key (count - 1) =
    ap (λ (l : Entries). room_of room next l) after
    ∙ ap (λ (m : map.FinMap nat_cmp Stored). let x : Room = record { room = room; next = next; nodes = m }
    in x)
    (set_seen es i n s (node s.key (count - 1)) apart at) in (
      (s.key, count, keeps, above, eq),
      subst IsSound (sym eq) (IsSound-with_node r n s.key count (count - 1) sound keeps (omega (arith, above))
          (omega (arith, here.most))),
    )

pub removed : (room next : ℕ) (es es' : Entries) (i n : ℕ) (s : Stored) (count : ℕ) (k : NodeKey)
    → IsSound (room_of room next es) → IsDistinct nat_eq (keys_of es) → slice_get es i ≡ Some (n, s)
    → option_map (λ (e : ℕ × Stored). e.1.count) (slice_get es i) ≡ Some count → count ≤ 1
    → k ≡ s.key → es' ≡ swap_remove es i (n, s)
    → Drops (room_of room next es) n (Removed k) (room_of room next es') × IsSound (room_of room next es')
removed room next es es' i n s count k sound apart at is low key after =
    let r = room_of room next es in
    let same = told es i n s count at is in
    let kept = keeps_at room next es i n s apart at in
    let here = sound.placed n s.key s.count kept in
    let one : s.count ≡ 1 = omega (arith, same, low, here.least) in
    let keeps : HasNode r n k 1 = kept ∙ (λ j. Some (node (sym key j) (one j))) in
    let eq : room_of room next es' ≡ without r n =
    ap (λ (l : Entries). room_of room next l) after
    ∙ ap (λ (m : map.FinMap nat_cmp Stored). let x : Room = record { room = room; next = next; nodes = m }
    in x)
    (take_seen es i n s apart at) in (
      (keeps, eq),
      subst IsSound (sym eq) (IsSound-without r n sound),
    )
