-- A key is stored in its room.
use Rattle.std.proofs.Common.{◌≡◌, inl, inr, ℕ, ◌+◌, ◌*◌, ◌%◌, ◌<◌, ◌≤◌, ◌^◌, List, [], Contains, get_or}
use Rattle.std.proofs.Common.{length}
use Rattle.std.proofs.Common.{Some, Ok, Err, IsSome, is_some, sym, ap, ◌∙◌, arith, subst, slice_get}
use Rattle.std.proofs.Common.{slice_set, option_map}
use Rattle.std.proofs.lemmas.List.{set-get_or}
use Rattle.std.proofs.lemmas.Option.{get_or_from_slice_get, none-some, slice_get-get_or}
use Rattle.std.proofs.lemmas.Option.{slice_get_read, slice_get_within}
use Rattle.list_lemmas.proofs.Options.{some_or_none}
use Rattle.node_key.specs.Rooms.{room}
use Rattle.node_key.specs.Stakes.{HasStakes, IsOverStakes, times}
use Rattle.node_key.specs.declared.stake.Stake.{Stake}
use Rattle.node_key.specs.Stands.{Stands}
use Rattle.node_key.specs.Tree.{Tree}
use Rattle.node_key.specs.declared.key.NodeKey.{NodeKey}
use Rattle.node_key.specs.declared.limits.TheConstants.{STORE_ROOMS}
use Rattle.shard_core.specs.Interning.{Interns}
use Rattle.shard_core.specs.Room.{Room, Stored, with_node}
use Rattle.shard_core.specs.declared.answers.Interned.TheVariants.{Known, New}
use Rattle.shard_core.specs.declared.answers.ShardFault.{ShardFault}
use Rattle.shard_core.specs.declared.answers.ShardFault.TheVariants.{Memory, Spent}
use Rattle.store_laws.specs.Store.{node_in}
use Rattle.store_laws.proofs.StepsInRooms.{node_in_room}
use Rattle.store_laws.proofs.StepsOfKids.{KidsStand-staked, numbers}
use Rattle.store_laws.proofs.SumsOfStakes.{times_from_there}
use Rattle.node_store.specs.Answering.{StoresIn, StoresKey, HasKids}
use Rattle.node_store.specs.Changes.{with_last, with_staked}
use Rattle.node_store.specs.Given.{Given, ever, given_entry, staked_at, stakes_of}
use Rattle.node_store.specs.Kept.{AreKept, KeepsFor, NodesKept}
use Rattle.node_store.specs.declared.numbered.Numbered.{Numbered}
use Rattle.node_store.proofs.Exchanging.{staked_le}
use Rattle.node_store.proofs.Keeping.{kept, kept_staked, kept_with_new, kept_with_node}
use Rattle.node_store.proofs.Staking.{given_from_staked, key_of_new, keys_kept, staked_from_times}
use Rattle.node_store.proofs.TreesUnder.{stands_still}

abbrev pub first_of : NodeKey → Numbered
first_of key = record { key = key; staked = 1 }

-- what the owner has a stake on stands
pub staked_stands : (s : NodesKept) (x : Stake) → AreKept s → 1 ≤ times x (stakes_of s.given)
    → Stands (ever s.given) x.number x.tree
staked_stands s x is_kept has =
    let (staked, tree) = staked_from_times s.given x has in
    let entry = given_from_staked s.given x.number staked in
    let at = ap (option_map (λ (e : Numbered). e.key)) entry.1 in
    subst (Stands (ever s.given) x.number) tree (is_kept.stand x.number entry.0.key at)

pub entry_of_key : (g : Given) (n : ℕ) (key : NodeKey) → ever g n ≡ Some key
    → (e : Numbered) × (given_entry g n ≡ Some e)
entry_of_key g n key is = elim (some_or_none (given_entry g n)) [
  | inl none ↦ absurd (none-some key (sym (ap (option_map (λ (e : Numbered). e.key)) none) ∙ is))
  | inr some ↦ some
]

module _ (s : NodesKept) (key : NodeKey) (r : Room) (is_kept : AreKept s)
    (there : slice_get s.rooms (room key) ≡ Some r) where
  abbrev pub list : List Numbered
  list = get_or s.given.rooms (room key) []

  pub within : room key < STORE_ROOMS
  within = let low = slice_get_within s.rooms (room key) r there in omega (arith, low, is_kept.count)

  pub list_there : slice_get s.given.rooms (room key) ≡ Some list
  list_there = slice_get-get_or s.given.rooms (room key) [] (omega (arith, within, is_kept.lists))

  abbrev pub longer : Given
  longer = with_last s.given (room key) (first_of key)

  abbrev pub number : ℕ
  number = STORE_ROOMS * (s.given.first + length list) + room key

  -- the tree stands under the new number
  pub new_stands : (t : Tree) (kids : List Stake) → IsOverStakes t kids key
      → HasStakes (stakes_of s.given) kids
      → Stands (ever longer) number t
  new_stands t kids over has =
      let each = λ (x : Stake) (among : Contains kids x).
      let before = staked_stands s x is_kept (omega (arith, has x, times_from_there x kids among)) in
      stands_still (ever s.given) (ever longer) (keys_kept s.given (room key) list key within list_there)
      x.number x.tree before in (
        key,
        numbers kids,
        key_of_new s.given (room key) list key within list_there,
        over.key_of,
        KidsStand-staked (ever longer) t.kids kids over.kids each,
      )

  pub sound_new : (n : ℕ) (q : Room) (others : List Stake) → HasKids s key → KeepsFor s others
      → Interns r key (Ok (New n)) q → AreKept (kept (slice_set s.rooms (room key) q) longer)
  sound_new n q others (t, kids, over, has) keeps (absent, below, is_number, is) =
      subst (λ (p : Room). AreKept (kept (slice_set s.rooms (room key) p) longer)) (sym is)
      (kept_with_new s.rooms s.given key r list t is_kept keeps.canonic there list_there absent below
      (new_stands t kids over has))

  module _ (n : ℕ) (q : Room) (others : List Stake) (keeps : KeepsFor s others)
      (interns : Interns r key (Ok (Known n)) q) where
    pub known_here : n % STORE_ROOMS ≡ room key
    known_here =
        let own = is_kept.room (room key) r list there list_there in
        (own.sound.placed n key interns.0 interns.1).number ∙ own.room

    pub known_node : node_in s.rooms n ≡ Some (let x : Stored = record { key = key; count = interns.0 } in x)
    known_node = node_in_room s.rooms (room key) n r there known_here ∙ interns.1

    pub known_key : ever s.given n ≡ Some key
    known_key = is_kept.keys n (record { key = key; count = interns.0 }) known_node

    pub known_entry : (e : Numbered) × (given_entry s.given n ≡ Some e)
    known_entry = entry_of_key s.given n key known_key

    pub staked_fits : staked_at s.given n + 1 < 2 ^ 64
    staked_fits =
        let most = staked_le s.rooms s.given others n (record { key = key; count = interns.0 }) keeps
        known_node in
        omega (arith, most, interns.2)

    pub sound_known : AreKept (kept (slice_set s.rooms (room key) q)
        (with_staked s.given n (staked_at s.given n + 1)))
    sound_known =
        let more = kept_with_node s.rooms s.given (room key) n key r interns.0 (interns.0 + 1) is_kept
        keeps.canonic
        there known_here interns.1 (omega arith) (omega (arith, interns.2)) in
        subst (λ (p : Room). AreKept (kept (slice_set s.rooms (room key) p)
        (with_staked s.given n (staked_at s.given n + 1)))) (sym interns.3)
        (kept_staked s.given n known_entry.0 (staked_at s.given n + 1) known_entry.1
        (slice_set s.rooms (room key) (with_node r n key (interns.0 + 1))) more)

  -- a refusal leaves all as it was
  room_again : (q : Room) → q ≡ r → slice_set s.rooms (room key) q ≡ s.rooms
  room_again q is =
      ap (slice_set s.rooms (room key)) (is ∙ sym (get_or_from_slice_get s.rooms (room key) r r there))
      ∙ set-get_or s.rooms (room key) r

  pub refused : (fault : ShardFault) (q : Room) (g : Given) → Interns r key (Err fault) q → g ≡ s.given
      → StoresKey s key (Err fault) (kept (slice_set s.rooms (room key) q) g)
  refused Memory q g (absent, below, is) same =
      let rooms = room_again q is in λ i. kept (rooms i) (same i)
  refused (Spent v) q g (spent, is) same =
      let rooms = room_again q is in ((r, there, spent), λ i. kept (rooms i) (same i))

-- ---- as the code has it

-- the room that was taken is the key's
pub key_room : (s : NodesKept) (key : NodeKey) (i : ℕ) (r : Room) → AreKept s → i ≡ room key
    → room key < STORE_ROOMS
    → r ≡ get_or s.rooms i r → slice_get s.rooms (room key) ≡ Some r
key_room s key i r is_kept at low is =
    slice_get_read s.rooms STORE_ROOMS (room key) r (sym is_kept.count) low
    (is ∙ ap (λ (j : ℕ). get_or s.rooms j r) at)

-- what the code knows where it stores a key: the view of its fields, the room of the key, and its answer
pub record IsAsked (s old : NodesKept) (key : NodeKey) (i : ℕ) (r : Room) : Type 0 where
  pub view : s ≡ old
  pub sound : AreKept s
  pub has : HasKids old key
  pub others : List Stake
  pub keeps : KeepsFor old others
  pub room_is : i ≡ room key
  pub room_at : r ≡ get_or s.rooms i r
  pub low : i < STORE_ROOMS

module _ {s old : NodesKept} {key : NodeKey} {i : ℕ} {r : Room} (asked : IsAsked s old key i r) (q : Room)
  where
    own_room : slice_get s.rooms (room key) ≡ Some r
    own_room = key_room s key i r asked.sound asked.room_is (omega (arith, asked.low, asked.room_is))
        asked.room_at

    has_now : HasKids s key
    has_now = subst (λ (p : NodesKept). HasKids p key) (sym asked.view) asked.has

    keeps_now : KeepsFor s asked.others
    keeps_now = subst (λ (p : NodesKept). KeepsFor p asked.others) (sym asked.view) asked.keeps

    at_room : (P : ℕ → Type 0) → P (room key) → P i
    at_room P = subst P (sym asked.room_is)

    pub old_room : slice_get old.rooms (room key) ≡ Some r
    old_room = ap (λ (p : NodesKept). slice_get p.rooms (room key)) (sym asked.view) ∙ own_room

    pub new_sound : (n : ℕ) (g : Given) → Interns r key (Ok (New n)) q → g ≡ with_last s.given i (first_of key)
        → AreKept (kept (slice_set s.rooms i q) g)
    new_sound n g interns is =
        subst (λ (h : Given). AreKept (kept (slice_set s.rooms i q) h)) (sym is)
        (at_room (λ j. AreKept (kept (slice_set s.rooms j q) (with_last s.given j (first_of key))))
        (sound_new s key r asked.sound own_room n q asked.others has_now keeps_now interns))

    pub new_stored : (n : ℕ) (g : Given) → Interns r key (Ok (New n)) q → g ≡ with_last s.given i
        (first_of key)
        → StoresIn old key (New n) (kept (slice_set s.rooms i q) g)
    new_stored n g interns is = record {
      before = r;
      after = q;
      there = old_room;
      interns = interns;
      rooms = (λ k. slice_set (asked.view k).rooms (asked.room_is k) q);
      given = is ∙ (λ k. with_last (asked.view k).given (asked.room_is k) (first_of key));
    }

    pub known_last : (n : ℕ) (g : Given) → Interns r key (Ok (Known n)) q → g ≡ with_last s.given i
        (first_of key)
        → (before : Given) × (e : Numbered) × (i < length before.rooms) × (g ≡ with_last before i e)
        × IsSome (given_entry before n) × (staked_at before n + 1 < 2 ^ 64)
    known_last n g interns is =
        let entry = known_entry s key r asked.sound own_room n q asked.others keeps_now interns in (
          s.given,
          first_of key,
          omega (arith, asked.low, asked.sound.lists),
          is,
          ap (is_some {T = Numbered}) entry.1,
          staked_fits s key r asked.sound own_room n q asked.others keeps_now interns,
        )

    pub known_sound : (n : ℕ) (g : Given) → Interns r key (Ok (Known n)) q
        → g ≡ with_staked s.given n (staked_at s.given n + 1) → AreKept (kept (slice_set s.rooms i q) g)
    known_sound n g interns is =
        subst (λ (h : Given). AreKept (kept (slice_set s.rooms i q) h)) (sym is)
        (at_room (λ j. AreKept (kept (slice_set s.rooms j q) (with_staked s.given n (staked_at s.given n + 1))))
        (sound_known s key r asked.sound own_room n q asked.others keeps_now interns))

    pub known_stored : (n : ℕ) (g : Given) → Interns r key (Ok (Known n)) q
        → g ≡ with_staked s.given n (staked_at s.given n + 1)
        → StoresIn old key (Known n) (kept (slice_set s.rooms i q) g)
    known_stored n g interns is = record {
      before = r;
      after = q;
      there = old_room;
      interns = interns;
      rooms = (λ k. slice_set (asked.view k).rooms (asked.room_is k) q);
      given = is ∙ (λ k. with_staked (asked.view k).given n (staked_at (asked.view k).given n + 1));
    }

    pub refused_so : (fault : ShardFault) (g : Given) → Interns r key (Err fault) q → g ≡ s.given
        → StoresKey old key (Err fault) (kept (slice_set s.rooms i q) g)
    refused_so fault g interns is =
        subst (λ (p : NodesKept). StoresKey p key (Err fault) (kept (slice_set s.rooms i q) g)) asked.view
        (at_room (λ j. StoresKey s key (Err fault) (kept (slice_set s.rooms j q) g))
        (refused s key r asked.sound own_room fault q g interns is))
