-- What follows from the answers of a room.
use Rattle.std.proofs.Common.{◌≡◌, inl, inr, ℕ, ◌+◌, Option, Some, None, refl, sym}
use Rattle.std.proofs.Common.{ap, ◌∙◌, arith, unwrap_or, Ok, Err}
use Rattle.node_key.specs.declared.key.NodeKey.{NodeKey}
use Rattle.shard_core.specs.declared.limits.TheConstants.{MAX_COUNT}
use Rattle.shard_core.specs.declared.answers.Interned.TheVariants.{Known, New}
use Rattle.shard_core.specs.declared.answers.ShardFault.TheVariants.{Memory, Spent}
use Rattle.shard_core.specs.declared.answers.Dropped.TheVariants.{Kept, Removed}
use Rattle.shard_core.specs.Room.{Stored, Room, HasNode, IsSound, node_at, next_number}
use Rattle.shard_core.specs.Laws.{InternsNeverLowerNext, DropsKeepNext, NewNumbersAreFresh, SpentByItsCauses}
use Rattle.shard_core.specs.Laws.{NewNumbersRise}

pub interns_never_lower_next : InternsNeverLowerNext
interns_never_lower_next old new k (Ok (Known n)) h =
    let same : new.next ≡ old.next = ap (λ (r : Room). r.next) h.3 in omega (arith, same)
interns_never_lower_next old new k (Ok (New n)) h =
    let more : new.next ≡ old.next + 1 = ap (λ (r : Room). r.next) h.3 in omega (arith, more)
interns_never_lower_next old new k (Err (Spent v)) h =
    let same : new.next ≡ old.next = ap (λ (r : Room). r.next) h.1 in omega (arith, same)
interns_never_lower_next old new k (Err Memory) h =
    let same : new.next ≡ old.next = ap (λ (r : Room). r.next) h.2 in omega (arith, same)

pub drops_keep_next : DropsKeepNext
drops_keep_next old new n Kept h = ap (λ (r : Room). r.next) h.4
drops_keep_next old new n (Removed k) h = ap (λ (r : Room). r.next) h.1

no_node : (r : Room) (n : ℕ) (o : Option Stored) → IsSound r → n ≡ next_number r → node_at r n ≡ o → o ≡ None
no_node r n None sound is e = refl
no_node r n (Some s) sound is e =
    let at = sound.placed n s.key s.count e in
    absurd (omega (arith, at.index, is, sound.room))

pub new_numbers_are_fresh : NewNumbersAreFresh
new_numbers_are_fresh old new k n sound h = (
  omega (arith, h.2, sound.room),
  ap (λ (r : Room). r.next) h.3,
  no_node old n (node_at old n) sound h.2 refl,
)

-- a key has one count
one_count : (r : Room) (m n : ℕ) (k : NodeKey) (c d : ℕ) → IsSound r → HasNode r m k c → HasNode r n k d
    → c ≡ d
one_count r m n k c d sound a b =
    let same = sound.keys_differ m n k c d a b in
    let x : Stored = record { key = k; count = c } in
    ap (λ (o : Option Stored). (unwrap_or o x).count) (sym a ∙ ap (λ (i : ℕ). node_at r i) same ∙ b)

pub spent_by_its_causes : SpentByItsCauses
spent_by_its_causes old k v (Ok (Known m)) new sound (inl p) h = absurd (p.0 (m, h.0, h.1))
spent_by_its_causes old k v (Ok (Known m)) new sound (inr q) h =
    let same = one_count old m q.0 k h.0 MAX_COUNT sound h.1 q.1 in absurd (omega (arith, same, h.2))
spent_by_its_causes old k v (Ok (New m)) new sound (inl p) h = absurd (omega (arith, p.1, h.1))
spent_by_its_causes old k v (Ok (New m)) new sound (inr q) h = absurd (h.0 (q.0, MAX_COUNT, q.1))
spent_by_its_causes old k v (Err Memory) new sound (inl p) h = absurd (omega (arith, p.1, h.1))
spent_by_its_causes old k v (Err Memory) new sound (inr q) h = absurd (h.0 (q.0, MAX_COUNT, q.1))
spent_by_its_causes old k v (Err (Spent w)) new sound (inl p) (inl r, e) =
    λ i. Err (Spent ((r.2 ∙ sym p.2) i))
spent_by_its_causes old k v (Err (Spent w)) new sound (inl p) (inr r, e) = absurd (p.0 (r.0, MAX_COUNT, r.1))
spent_by_its_causes old k v (Err (Spent w)) new sound (inr q) (inl r, e) = absurd (r.0 (q.0, MAX_COUNT, q.1))
spent_by_its_causes old k v (Err (Spent w)) new sound (inr q) (inr r, e) =
    λ i. Err (Spent ((r.2 ∙ sym q.2) i))

pub new_numbers_rise : NewNumbersRise
new_numbers_rise one after later end j k m n sound g most h =
    let more : after.next ≡ one.next + 1 = ap (λ (r : Room). r.next) g.3 in
    omega (arith, g.2, h.2, sound.room, more, most)
