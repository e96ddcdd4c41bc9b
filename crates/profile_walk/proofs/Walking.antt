-- Walks one after the other: the seat stays, and what is reached stays reached.
use Rattle.std.proofs.Common.{◌≡◌, ℕ, List, [], ◌∷◌, refl, ap, sym, subst}
use Rattle.std.proofs.Common.{◌∙◌}
use Rattle.std.specs.List.{AllZip}
use Rattle.hall_history.specs.Seat.{Seat}
use Rattle.hall_trait.proofs.Views.{nexts_same, nexts_then}
use Rattle.hall_trait.specs.Nodes.{ReadsNode}
use Rattle.hall_trait.specs.Reach.{HasSource, KeepsReach, Reaching, Source}
use Rattle.hall_trait.specs.View.{Account, HallView, KeepsSeat, with_account, with_fill, with_memo, with_read}
use Rattle.node_key.specs.Branches.{branches}
use Rattle.node_key.specs.Tree.{Tree}
use Rattle.node_key.specs.declared.key.NodeKey.{NodeKey}
use Rattle.node_key.specs.declared.tree.Branch.{Branch}
use Rattle.profile_walk.specs.Summed.{CanSum, CanWalk}
use Rattle.profile_laws.specs.Laws.{ProfileOf}
use Rattle.profile_walk.specs.Tracks.{CanAdd}
use Rattle.profile_walk.specs.Walks.{OnlyWalks}
use Rattle.trace_base.specs.declared.stream.TrackStream.{TrackStream}

-- nothing happens
pub walks_same : (v : HallView) → OnlyWalks v v
walks_same v = record {
  seat = refl;
  alone = refl;
  rooms = nexts_same v.rooms;
  used_up = refl;
  work = refl;
  weight = refl;
}

pub walks_none : (a b : HallView) → KeepsSeat a b → OnlyWalks a b
walks_none a b p = record {
  seat = p.seat;
  alone = p.rest.alone;
  rooms = p.rest.rooms;
  used_up = ap (λ (x : Account). x.used_up) p.rest.account;
  work = ap (λ (x : Account). x.work) p.rest.account;
  weight = ap (λ (x : Account). x.weight) p.rest.account;
}

-- one node is read
pub walks_read : (a b : HallView) → KeepsSeat (with_account with_read a) b → OnlyWalks a b
walks_read a b p = record {
  seat = p.seat;
  alone = p.rest.alone;
  rooms = p.rest.rooms;
  used_up = ap (λ (x : Account). x.used_up) p.rest.account;
  work = ap (λ (x : Account). x.work) p.rest.account;
  weight = ap (λ (x : Account). x.weight) p.rest.account;
}

-- one profile is filled in
pub walks_fill : (a b : HallView) → KeepsSeat (with_memo b.memo (with_account with_fill a)) b → OnlyWalks a b
walks_fill a b p = record {
  seat = p.seat;
  alone = p.rest.alone;
  rooms = p.rest.rooms;
  used_up = ap (λ (x : Account). x.used_up) p.rest.account;
  work = ap (λ (x : Account). x.work) p.rest.account;
  weight = ap (λ (x : Account). x.weight) p.rest.account;
}

-- two moments in a row
pub walks_then : (a b c : HallView) → OnlyWalks a b → OnlyWalks b c → OnlyWalks a c
walks_then a b c p q = record {
  seat = q.seat ∙ p.seat;
  alone = q.alone ∙ p.alone;
  rooms = nexts_then a.rooms b.rooms c.rooms p.rooms q.rooms;
  used_up = q.used_up ∙ p.used_up;
  work = q.work ∙ p.work;
  weight = q.weight ∙ p.weight;
}

-- ---- what is reached

-- a stake or a pin of a seat that stays
pub source_stays : (old new : Seat) (by_what : Source) → new ≡ old → HasSource old by_what
    → HasSource new by_what
source_stays old new by_what same has = subst (λ (s : Seat). HasSource s by_what) (sym same) has

-- two moments in a row, of which the later one keeps the seat
pub reach_on : (mid new : Seat) (a b c : Reaching) → new ≡ mid → KeepsReach mid a b → KeepsReach new b c
    → KeepsReach new a c
reach_on mid new a b c same first second by_what n t has r =
    second by_what n t has (first by_what n t (source_stays new mid by_what (sym same) has) r)

zip_mapped : {X Y : Type 0} (R S : X → Y → Type 0) → ((x : X) (y : Y) → R x y → S x y) → (xs : List X) (ys :
    List Y)
    → AllZip R xs ys → AllZip S xs ys
zip_mapped R S f [] [] all = tt
zip_mapped R S f [] (y ∷ ys) all = absurd all
zip_mapped R S f (x ∷ xs) [] all = absurd all
zip_mapped R S f (x ∷ xs) (y ∷ ys) all = (f x y all.0, zip_mapped R S f xs ys all.1)

-- what could be walked can be walked still
pub walk_on : (old new : Seat) (was now : Reaching) (by_what : Source) (t : Tree) (key : NodeKey)
    → new ≡ old → KeepsReach new was now → CanWalk old was by_what t key → CanWalk new now by_what t key
walk_on old new was now by_what t key same keeps can =
    let has : HasSource new by_what = source_stays old new by_what same can.has in record {
      has = has;
      read = (
        can.read.0,
        can.read.1,
        zip_mapped (λ (n : ℕ) (u : Branch). was by_what n u.tree) (λ (n : ℕ) (u : Branch). now by_what n
            u.tree)
            (λ n u led. keeps by_what n u.tree has led) can.read.0 (branches t.kids) can.read.2,
      );
      sums = can.sums;
    }

-- a node that was read
pub walk_read : (old new : Seat) (now : Reaching) (by_what : Source) (t : Tree) (key : NodeKey)
    → new ≡ old → HasSource old by_what → ReadsNode (now by_what) t key → CanSum t
    → CanWalk new now by_what t key
walk_read old new now by_what t key same has read sums = record {
  has = source_stays old new by_what same has;
  read = read;
  sums = sums;
}

-- what could be added can be added still
pub add_on : {X : Type 0} (profile : ProfileOf X) (old new : Seat) (was now : Reaching) (by_what : Source)
    (n : ℕ) (t : Tree) (at a b : ℕ) (base : List TrackStream) (sum : X) → new ≡ old → KeepsReach new was now
    → CanAdd profile old was by_what n t at a b base sum → CanAdd profile new now by_what n t at a b base sum
add_on profile old new was now by_what n t at a b base sum same keeps add =
    let has : HasSource new by_what = source_stays old new by_what same add.has in record {
      has = has;
      led = keeps by_what n t has add.led;
      sums = add.sums;
      in_time = add.in_time;
      is = add.is;
      fit = add.fit;
    }
