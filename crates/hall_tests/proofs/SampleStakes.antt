-- What the tests need of stakes that are exchanged one after the other.
use Rattle.std.proofs.Common.{◌≡◌, ℕ, ◌+◌, List, [], ◌∷◌, refl, ap, ◌∙◌, arith, Ok, subst, Contains, zero-lt-suc}
use Rattle.store_laws.proofs.SumsOfStakes.{among_held}
use Rattle.hall_trait.specs.Nodes.{StakesNode}
use Rattle.node_key.specs.Examples.{track_of_half}
use Rattle.hall_history.specs.Seat.{ExchangesStakes, Seat}
use Rattle.node_key.specs.Stakes.{HasStakes, stake, times}
use Rattle.node_key.specs.declared.stake.Stake.{Stake}
use Rattle.node_key.specs.Tree.{Tree}
use Rattle.node_key.specs.Trees.{tree}
use Rattle.node_key.specs.Bound.{bound, grouped}
use Rattle.node_key.specs.Calls.{outer_calls}
use Rattle.node_key.proofs.StakeLaws.{no_stakes}
use Rattle.shard_core.specs.declared.answers.Interned.{Interned}
use Rattle.shard_core.specs.declared.answers.Interned.TheVariants.{Known, New}
use Rattle.trace_base.specs.Examples.{two_calls}
use Rattle.plain_hall.proofs.Keeping.{times_first}

-- the track of main is its tree
pub two_calls_tree : tree two_calls ≡ track_of_half
unfolding tree bound grouped outer_calls
two_calls_tree = refl

pub has_none : (stakes : List Stake) → HasStakes stakes []
has_none stakes x = omega arith

-- a number that was known or new
pub known_node : (old new : Seat) (t : Tree) (kids : List Stake) (answer : Interned) (n : ℕ) → answer ≡ Known n
    → StakesNode old new t kids (Ok answer) → ExchangesStakes old new kids (stake n t ∷ [])
known_node old new t kids answer n is = subst (λ (i : Interned). StakesNode old new t kids (Ok i)) is

pub new_node : (old new : Seat) (t : Tree) (kids : List Stake) (answer : Interned) (n : ℕ) → answer ≡ New n
    → StakesNode old new t kids (Ok answer) → ExchangesStakes old new kids (stake n t ∷ [])
new_node old new t kids answer n is = subst (λ (i : Interned). StakesNode old new t kids (Ok i)) is

-- one stake more is there
pub has_one : (a b : Seat) (x : Stake) → ExchangesStakes a b [] (x ∷ []) → HasStakes b.stakes (x ∷ [])
has_one a b x one z = omega (arith, one.stakes z)

pub has_the_stake : (stakes : List Stake) (x : Stake) → HasStakes stakes (x ∷ []) → Contains stakes x
has_the_stake stakes x has = among_held stakes (x ∷ []) x has (0, zero-lt-suc 0, refl)

-- and it is given back
pub once : (a b c : Seat) (x : Stake) → a.stakes ≡ [] → ExchangesStakes a b [] (x ∷ [])
    → ExchangesStakes b c (x ∷ []) [] → c.stakes ≡ []
once a b c x none one two = no_stakes c.stakes (λ z. omega (arith, one.stakes z, two.stakes z, ap (times z) none))

-- a stake that was given is exchanged for one on what is over it
pub climbs : (a b c : Seat) (x y : Stake) → ExchangesStakes a b [] (x ∷ [])
    → ExchangesStakes b c (x ∷ []) (y ∷ []) → ExchangesStakes a c [] (y ∷ [])
climbs a b c x y one two = record {
  stakes = λ z. omega (arith, one.stakes z, two.stakes z);
  entries = record {
    seen = two.entries.seen ∙ one.entries.seen;
    places = two.entries.places ∙ one.entries.places;
  };
  pins = two.pins ∙ one.pins;
  passes = two.passes ∙ one.passes;
}

-- a seat has two stakes more
pub record HasTwoMore (old new : Seat) (m b : Stake) : Type 0 where
  pub two : (z : Stake) → times z new.stakes ≡ times z old.stakes + times z (m ∷ []) + times z (b ∷ [])

-- Two stakes on kids are given for one on their caller, which is given back after that on another kid.
module _ (s0 s1 s2 s3 s4 : Seat) (f a m b : Stake) (one : ExchangesStakes s0 s1 [] (f ∷ []))
    (two : ExchangesStakes s1 s2 [] (a ∷ [])) (three : ExchangesStakes s2 s3 (f ∷ a ∷ []) (m ∷ []))
    (four : ExchangesStakes s3 s4 [] (b ∷ [])) where
  pub has_caller : HasStakes s4.stakes (m ∷ [])
  has_caller z = omega
      (arith, one.stakes z, two.stakes z, three.stakes z, four.stakes z, times_first z f (a ∷ []))

  pub only_two : HasTwoMore s0 s4 m b
  only_two = record {
    two = λ z. omega
        (arith, one.stakes z, two.stakes z, three.stakes z, four.stakes z, times_first z f (a ∷ []));
  }

-- the caller goes, and the other kid is staked once more
module _ (s0 s4 s5 s6 : Seat) (m b t : Stake)
    (before : HasTwoMore s0 s4 m b)
    (five : ExchangesStakes s4 s5 (m ∷ []) []) (six : ExchangesStakes s5 s6 [] (t ∷ [])) where
  pub has_besides : HasStakes s6.stakes (b ∷ [])
  has_besides z = omega (arith, before.two z, five.stakes z, six.stakes z)

  pub has_still : (s7 : Seat) → ExchangesStakes s6 s7 (b ∷ []) [] → HasStakes s7.stakes (t ∷ [])
  has_still s7 seven z = omega (arith, before.two z, five.stakes z, six.stakes z, seven.stakes z)

  pub none_at_last : (s7 s8 : Seat) → s0.stakes ≡ [] → ExchangesStakes s6 s7 (b ∷ []) []
      → ExchangesStakes s7 s8 (t ∷ []) [] → s8.stakes ≡ []
  none_at_last s7 s8 none seven eight = no_stakes s8.stakes (λ z. omega (
    arith,
    before.two z,
    five.stakes z,
    six.stakes z,
    seven.stakes z,
    eight.stakes z,
    ap (times z) none,
  ))

-- a track is built from nothing
pub built : (s0 s1 s2 s3 s4 : Seat) (f a m r : Stake) → ExchangesStakes s0 s1 [] (f ∷ [])
    → ExchangesStakes s1 s2 [] (a ∷ []) → ExchangesStakes s2 s3 (f ∷ a ∷ []) (m ∷ [])
    → ExchangesStakes s3 s4 (m ∷ []) (r ∷ []) → ExchangesStakes s0 s4 [] (r ∷ [])
built s0 s1 s2 s3 s4 f a m r one two three four = climbs s0 s3 s4 m r (record {
  stakes = λ z. omega (arith, one.stakes z, two.stakes z, three.stakes z, times_first z f (a ∷ []));
  entries = record {
    seen = three.entries.seen ∙ two.entries.seen ∙ one.entries.seen;
    places = three.entries.places ∙ two.entries.places ∙ one.entries.places;
  };
  pins = three.pins ∙ two.pins ∙ one.pins;
  passes = three.passes ∙ two.passes ∙ one.passes;
}) four
