-- Exchanges of stakes, one after the other and among others.
use Rattle.std.proofs.Common.{◌≡◌, List, ◌++◌, refl, sym, subst, ◌∙◌, arith}
use Rattle.hall_history.specs.Seat.{ExchangesStakes, Seat}
use Rattle.node_key.specs.Stakes.{HasStakes}
use Rattle.node_key.specs.declared.stake.Stake.{Stake}
use Rattle.node_key.proofs.StakeLaws.{times-append}

-- nothing is exchanged
pub exchanges-none : (old new : Seat) (xs : List Stake) → new ≡ old → ExchangesStakes old new xs xs
exchanges-none old new xs e =
    subst (λ (s : Seat). ExchangesStakes old s xs xs) (sym e) (record {
      stakes = λ x. refl;
      entries = record { seen = refl; places = refl };
      pins = refl;
      passes = refl;
    })

-- what was given is taken again
pub exchanges-then : (a b c : Seat) (xs ys zs : List Stake) → ExchangesStakes a b xs ys
    → ExchangesStakes b c ys zs → ExchangesStakes a c xs zs
exchanges-then a b c xs ys zs e f = record {
  stakes = λ x. omega (arith, e.stakes x, f.stakes x);
  entries = record {
    seen = f.entries.seen ∙ e.entries.seen;
    places = f.entries.places ∙ e.entries.places;
  };
  pins = f.pins ∙ e.pins;
  passes = f.passes ∙ e.passes;
}

-- an exchange leaves other stakes as they are
pub exchanges-among : (a b : Seat) (before xs ys behind : List Stake) → ExchangesStakes a b xs ys
    → ExchangesStakes a b (before ++ (xs ++ behind)) (before ++ (ys ++ behind))
exchanges-among a b before xs ys behind e = record {
  stakes = λ x. omega (
    arith,
    e.stakes x,
    times-append x before (xs ++ behind),
    times-append x before (ys ++ behind),
    times-append x xs behind,
    times-append x ys behind,
  );
  entries = e.entries;
  pins = e.pins;
  passes = e.passes;
}

-- what was given is there
pub has-given : (a b : Seat) (xs ys : List Stake) → HasStakes a.stakes xs → ExchangesStakes a b xs ys
    → HasStakes b.stakes ys
has-given a b xs ys h e x = omega (arith, h x, e.stakes x)

-- some of the stakes that are there
pub has-among : (s before xs behind : List Stake) → HasStakes s (before ++ (xs ++ behind)) → HasStakes s xs
has-among s before xs behind h x =
    omega (arith, h x, times-append x before (xs ++ behind), times-append x xs behind)

-- the same at the end of others
pub exchanges-last : (a b : Seat) (before xs ys : List Stake) → ExchangesStakes a b xs ys
    → ExchangesStakes a b (before ++ xs) (before ++ ys)
exchanges-last a b before xs ys e = record {
  stakes = λ x. omega (arith, e.stakes x, times-append x before xs, times-append x before ys);
  entries = e.entries;
  pins = e.pins;
  passes = e.passes;
}

pub has-last : (s before xs : List Stake) → HasStakes s (before ++ xs) → HasStakes s xs
has-last s before xs h x = omega (arith, h x, times-append x before xs)
