-- One of the owner's stakes on each kid of a key is given away, kid after kid.
use Rattle.std.proofs.Common.{◌≡◌, ℕ, ◌+◌, ◌<◌, ◌≤◌, List, [], ◌∷◌, drop, get_or, length, refl, sym, ap, ◌∙◌}
use Rattle.std.proofs.Common.{arith, subst}
use Rattle.node_key.specs.Stakes.{Exchanges, HasStakes, stake, times}
use Rattle.node_key.specs.declared.stake.Stake.{Stake}
use Rattle.node_key.specs.Stands.{KeyAt}
use Rattle.node_key.specs.Tree.{Tree}
use Rattle.node_key.specs.declared.key.Kid.{Kid}
use Rattle.node_key.proofs.StakeLaws.{first_taken, times-cons, times-one}
use Rattle.store_laws.specs.Store.{Store}
use Rattle.node_store.specs.Answering.{HasOther, HasStakeOn, TakesStake}
use Rattle.node_store.specs.Given.{ever, stakes_of}
use Rattle.node_store.specs.Kept.{AreKept, KeepsFor, NextNeverFalls, NodesKept}
use Rattle.node_store.specs.TreeUnder.{tree_under}
use Rattle.node_store.proofs.Dropping.{last_kid, next_kid, next_then, on_kids, rooms_same}

-- those on the kids from the i-th on are still there
pub record IsTaking (old now : NodesKept) (ks : List Kid) (i : ℕ) : Type 0 where
  pub numbers : ever now.given ≡ ever old.given
  pub taken : Exchanges (stakes_of old.given) (stakes_of now.given) (on_kids (ever old.given) ks)
      (on_kids (ever old.given) (drop i ks))

pub taking_begins : (old : NodesKept) (ks : List Kid) → IsTaking old old ks 0
taking_begins old ks = record { numbers = refl; taken = λ x. refl }

module _ (old now : NodesKept) (ks : List Kid) (i : ℕ) (d : Kid) (is : IsTaking old now ks i) (within
    : i < length ks)
    (has : HasStakes (stakes_of old.given) (on_kids (ever old.given) ks)) where
  abbrev at : KeyAt
  at = ever old.given

  abbrev here : Stake
  here = stake (get_or ks i d).node (tree_under at (get_or ks i d).node)

  next_times : (x : Stake) → times x (on_kids at (drop i ks))
      ≡ times x (here ∷ []) + times x (on_kids at (drop (i + 1) ks))
  next_times x =
      let next = ap (times x) (next_kid at ks i d within) in
      omega (arith, next, times-cons x here (on_kids at (drop (i + 1) ks)), times-one x here)

  has_here : HasStakes (stakes_of now.given) (here ∷ [])
  has_here x = omega (arith, has x, is.taken x, next_times x)

  pub has_kid : HasStakeOn now (get_or ks i d).node
  has_kid = (tree_under at (get_or ks i d).node, has_here)

  pub taking_goes_on : (then : NodesKept) → ever then.given ≡ ever now.given
      → TakesStake now (get_or ks i d).node then → IsTaking old then ks (i + 1)
  taking_goes_on then numbers takes = record {
    numbers = numbers ∙ is.numbers;
    taken = λ x. omega (
      arith,
      is.taken x,
      next_times x,
      takes (tree_under at (get_or ks i d).node) has_here
          x,
    );
  }

pub taking_ends : (old now : NodesKept) (ks : List Kid) (i : ℕ) → IsTaking old now ks i → length ks ≤ i
    → Exchanges (stakes_of old.given) (stakes_of now.given) (on_kids (ever old.given) ks) []
taking_ends old now ks i is past =
    subst (Exchanges (stakes_of old.given) (stakes_of now.given) (on_kids (ever old.given) ks))
    (last_kid (ever old.given) ks i past) is.taken

-- while the nodes go too
pub record IsReleasing (old now : NodesKept) (ks : List Kid) (i : ℕ) : Type 0 where
  pub sound : AreKept now
  pub taking : IsTaking old now ks i
  pub keeps : (others : List Stake) → KeepsFor old others → KeepsFor now others
  pub next : NextNeverFalls old now

pub same_next : (old new : NodesKept) → new.rooms ≡ old.rooms → NextNeverFalls old new
same_next old new same =
    subst (λ (rooms : Store). NextNeverFalls old (record { rooms = rooms; given = new.given })) (sym same)
    (rooms_same old.rooms)

pub releasing_begins : (old : NodesKept) (ks : List Kid) → AreKept old → IsReleasing old old ks 0
releasing_begins old ks sound = record {
  sound = sound;
  taking = taking_begins old ks;
  keeps = λ others keeps. keeps;
  next = same_next old old refl;
}

pub releasing_goes_on : (old now then : NodesKept) (ks : List Kid) (i : ℕ) (d : Kid)
    → IsReleasing old now ks i
    → i < length ks → HasStakes (stakes_of old.given) (on_kids (ever old.given) ks)
    → ever then.given ≡ ever now.given → TakesStake now (get_or ks i d).node then
    → ((others : List Stake) → KeepsFor now others → KeepsFor then others) → NextNeverFalls now then
    → AreKept then
    → IsReleasing old then ks (i + 1)
releasing_goes_on old now then ks i d is within has numbers takes keeps next sound = record {
  sound = sound;
  taking = taking_goes_on old now ks i d is.taking within has then numbers takes;
  keeps = λ others before. keeps others (is.keeps others before);
  next = next_then old now then is.next next;
}

-- ---- one stake of the owner

-- what was handed over is one of the others
pub other_from_stake : (old mid : NodesKept) (n : ℕ) → HasStakeOn old n
    → ((others : List Stake) × KeepsFor old others)
    → ((others : List Stake) (t : Tree) → HasStakes (stakes_of old.given) (stake n t ∷ [])
    → KeepsFor old others
    → KeepsFor mid (stake n t ∷ others)) → HasOther mid n
other_from_stake old mid n (t, has) (others, keeps) hands =
    (stake n t ∷ others, others, t, hands others t has keeps, first_taken (stake n t) others)

-- while the nodes stay
pub record IsHandingOn (old now : NodesKept) (ks : List Kid) (i : ℕ) : Type 0 where
  pub sound : AreKept now
  pub taking : IsTaking old now ks i
  pub rooms : now.rooms ≡ old.rooms

pub handing_begins : (old : NodesKept) (ks : List Kid) → AreKept old → IsHandingOn old old ks 0
handing_begins old ks sound = record { sound = sound; taking = taking_begins old ks; rooms = refl }

pub handing_goes_on : (old now then : NodesKept) (ks : List Kid) (i : ℕ) (d : Kid) → IsHandingOn old now ks i
    → i < length ks → HasStakes (stakes_of old.given) (on_kids (ever old.given) ks)
    → ever then.given ≡ ever now.given → TakesStake now (get_or ks i d).node then → then.rooms ≡ now.rooms
    → AreKept then → IsHandingOn old then ks (i + 1)
handing_goes_on old now then ks i d is within has numbers takes rooms sound = record {
  sound = sound;
  taking = taking_goes_on old now ks i d is.taking within has then numbers takes;
  rooms = rooms ∙ is.rooms;
}
