-- A new hall is good for no entries.
use Rattle.std.proofs.Common.{◌≡◌, ◌≤◌, ℕ, List, [], arith, false, refl, sym, ◌∙◌}
use Rattle.std.proofs.lemmas.Bool.{false≢true}
use Rattle.std.proofs.lemmas.List.Elements.{All-cons, All-nil}
use Rattle.hall_history.specs.History.{Entry, is_loading, is_open, opened_ids}
use Rattle.hall_world.specs.Passes.{IsGoodPass, IsPassOf}
use Rattle.hall_history.proofs.Legal.{legal_none}
use Rattle.hall_world.specs.Good.{IsGood, IsGoodSeat, IsSeenPin, SeesHistory}
use Rattle.hall_world.specs.Past.{Past}
use Rattle.hall_world.specs.World.{empty_seat, new_world}
use Rattle.list_lemmas.proofs.InOrder.{sorted-none}
use Rattle.std.specs.Ordering.{nat_cmp}
use Rattle.node_key.specs.declared.limits.TheConstants.{MAX_NUMBERS}
use Rattle.registry_core.proofs.StandsStarted.{stands-started}
use Rattle.registry_core.specs.Standing.{AreTrees}
use Rattle.store_laws.proofs.StepsFromNothing.{nothing}
use Rattle.store_laws.specs.Store.{empty_store, key_in}

abbrev nothing_yet : Past
nothing_yet = record { first = 0; entries = [] }

abbrev none : List Entry
none = []

-- no trace is loading
none_loading : (id : ℕ) → is_loading none id ≡ false
unfolding is_loading is_open opened_ids
none_loading id = refl

-- a seat without anything that has seen all there is
sees_nothing : SeesHistory nothing_yet (empty_seat 0)
sees_nothing = record {
  begun = omega arith;
  seen = omega arith;
  rising = sorted-none nat_cmp;
  own = All-nil (λ place. place ≤ 0);
  pins = All-nil (IsSeenPin nothing_yet 0);
  passes = All-nil (IsPassOf []);
}

pub new-good : (first : ℕ) → first ≤ MAX_NUMBERS → IsGood nothing_yet (new_world first)
new-good first few = record {
  nodes = record { roots = []; of_registry = λ n. refl; store = nothing first few };
  memos = refl;
  history = record {
    legal = legal_none;
    stands = stands-started (AreTrees (key_in (empty_store first))) 0 1 (omega arith) (omega arith) (omega arith);
  };
  users = record {
    users = λ k d lt. absurd (omega (arith, lt));
    kept = λ id named. absurd (omega (arith, named));
  };
  seats = All-cons (IsGoodSeat nothing_yet) (empty_seat 0) [] ((λ active. sees_nothing), (λ ended. absurd (false≢true ended)))
      (All-nil (IsGoodSeat nothing_yet));
  places = λ k. refl;
  passes = record {
    one_a_track = λ id track loading. absurd (false≢true (sym (none_loading id) ∙ loading));
    one_a_trace = λ id loading. absurd (false≢true (sym (none_loading id) ∙ loading));
    each = All-nil (IsGoodPass []);
  };
}
