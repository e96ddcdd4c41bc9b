-- What the tests need of loads of traces with one track, or two.
use Rattle.std.proofs.Common.{◌≡◌, ℕ, ◌≤◌, ◌<◌, zero, suc, List, [], ◌∷◌, ◌++◌, length, Some, refl, ap, ◌∙◌}
use Rattle.std.proofs.Common.{sym, ◌+◌, arith, Contains, eqb, subst, true}
use Rattle.std.specs.Prelude.{slice_get}
use Rattle.std.proofs.lemmas.Bool.{cond-true, eq-eqb}
use Rattle.trace_base.proofs.LegalTest.{IsLegal-from, two_calls-legal}
use Rattle.trace_base.specs.Examples.{two_calls}
use Rattle.trace_base.specs.Info.{Fits}
use Rattle.trace_base.specs.Stream.{IsLegal, stack_after}
use Rattle.trace_base.specs.declared.names.Track.{Track}
use Rattle.trace_base.specs.declared.names.TraceInfo.{TraceInfo}
use Rattle.trace_base.specs.declared.stream.Event.TheVariants.{Enter, Leave}
use Rattle.trace_base.specs.declared.stream.TrackStream.{TrackStream}
use Rattle.hall_trait.specs.Answers.{CoversAll, IsRootOf, MakesLoadEntry, OpensTrace, PublishesTree}
use Rattle.hall_trait.specs.Answers.{left_after}
use Rattle.hall_trait.specs.Pass.{IsNext, advanced, pass_view}
use Rattle.hall_history.specs.Passes.{state_after, state_at}
use Rattle.hall_trait.specs.declared.pass.LoadPass.{LoadPass}
use Rattle.hall_history.specs.History.{Entry, Published, PublishedTree, info_of, published_tree, tracks_of}
use Rattle.hall_history.specs.Seat.{Becomes, ExchangesStakes, IsAtRest, MakesEntry, Removes, Seat}
use Rattle.hall_history.specs.declared.asks.PassState.{PassState}
use Rattle.hall_history.specs.declared.asks.PassState.TheVariants.{Straight, Whole}
use Rattle.hall_history.specs.declared.seat.PassView.{PassView}
use Rattle.node_key.specs.Bound.{bound, grouped}
use Rattle.node_key.specs.Calls.{outer_calls}
use Rattle.node_key.specs.Stakes.{HasStakes, stake, times}
use Rattle.node_key.specs.Tree.{Tree}
use Rattle.node_key.specs.declared.stake.Stake.{Stake}
use Rattle.node_key.specs.Trees.{tree}
use Rattle.node_key.proofs.StakeLaws.{no_stakes}
use Rattle.test_keys.specs.Examples.{track_of_lone_main}
use Rattle.hall_tests.specs.OneTrack.{HasLoadAlone, HasOneTrack, HasTwoTracks, OpensOneTrack}
use Rattle.hall_tests.proofs.SampleStakes.{has_one}
use Rattle.hall_tests.proofs.SampleLoads.{covers_at_once, info_on, none_left, replaced_alone, replaces_has}
use Rattle.hall_tests.proofs.SampleLoads.{tracks_stay}

-- the functions that main and its calls of f have names
main_numbered : (i f t n : ℕ) → n ≡ 2 → slice_get two_calls.events i ≡ Some (Enter f t) → f ≤ n
main_numbered zero f t n two at = let e : 1 ≡ f = cc in omega (arith, two, e)
main_numbered (suc zero) f t n two at = let e : 2 ≡ f = cc in omega (arith, two, e)
main_numbered (suc (suc zero)) f t n two at = absurd cc
main_numbered (suc (suc (suc zero))) f t n two at = let e : 2 ≡ f = cc in omega (arith, two, e)
main_numbered (suc (suc (suc (suc zero)))) f t n two at = absurd cc
main_numbered (suc (suc (suc (suc (suc zero))))) f t n two at = absurd cc
main_numbered (suc (suc (suc (suc (suc (suc i)))))) f t n two at = absurd cc

main_fits_at : (info : TraceInfo) (track : ℕ) (t : Track) → slice_get info.names.tracks track ≡ Some t
    → t.container ≡ 0 → info.names.containers ≡ record { name = 48 ∷ []; start = 0; end = 500000000 } ∷ []
    → length info.names.functions ≡ 2 → Fits two_calls info track
main_fits_at info track t at first containers functions = record {
  legal = two_calls-legal;
  interval = (
    t,
    record { name = 48 ∷ []; start = 0; end = 500000000 },
    at,
    ap (slice_get info.names.containers) first ∙ ap (λ xs. slice_get xs 0) containers,
    (refl, refl),
  );
  numbered = λ i f t at. main_numbered i f t (length info.names.functions) functions at;
}

pub main_fits : (info : TraceInfo) → HasOneTrack info → Fits two_calls info 0
main_fits info has = main_fits_at info 0 (record { container = 0; kind = 0 })
    (ap (λ xs. slice_get xs 0) has.tracks) refl has.containers has.functions

-- they fit both tracks of a trace with two
pub first_fits : (info : TraceInfo) → HasTwoTracks info → Fits two_calls info 0
first_fits info has = main_fits_at info 0 (record { container = 0; kind = 0 })
    (ap (λ xs. slice_get xs 0) has.tracks) refl has.containers has.functions

pub second_fits : (info : TraceInfo) → HasTwoTracks info → Fits two_calls info 1
second_fits info has = main_fits_at info 1 (record { container = 0; kind = 1 })
    (ap (λ xs. slice_get xs 1) has.tracks) refl has.containers has.functions

-- main calls nothing
abbrev pub one_call : TrackStream
one_call = record { start = 0; end = 500000000; events = Enter 1 0 ∷ Leave 500000000 ∷ [] }

one_call-legal : IsLegal one_call
unfolding stack_after
one_call-legal = IsLegal-from one_call
    (record { in_time = refl; in_order = refl; each = refl; all_closed = refl; depth = refl; calls = refl })

pub one_call_tree : tree one_call ≡ track_of_lone_main
unfolding tree bound grouped outer_calls
one_call_tree = refl

lone_numbered : (i f t n : ℕ) → n ≡ 2 → slice_get one_call.events i ≡ Some (Enter f t) → f ≤ n
lone_numbered zero f t n two at = let e : 1 ≡ f = cc in omega (arith, two, e)
lone_numbered (suc zero) f t n two at = absurd cc
lone_numbered (suc (suc i)) f t n two at = absurd cc

pub lone_fits : (info : TraceInfo) → HasOneTrack info → Fits one_call info 0
lone_fits info has = record {
  legal = one_call-legal;
  interval = (
    record { container = 0; kind = 0 },
    record { name = 48 ∷ []; start = 0; end = 500000000 },
    ap (λ xs. slice_get xs 0) has.tracks,
    ap (λ xs. slice_get xs 0) has.containers,
    (refl, refl),
  );
  numbered = λ i f t at. lone_numbered i f t (length info.names.functions) has.functions at;
}

-- the root of a tree that fits a track may be published
root_at : (s : TrackStream) (t : Tree) (seat : Seat) (info : TraceInfo) (id track n : ℕ) → tree s ≡ t
    → 0 ≡ s.start → Fits s info track → info_of seat.seen id ≡ Some info → track < length info.names.tracks
    → HasStakes seat.stakes (stake n t ∷ []) → IsRootOf seat id track 0 n s
root_at s t seat info id track n is begins fits told within has = record {
  fits = (info, told, within, fits);
  begins = begins;
  staked = subst (λ (u : Tree). HasStakes seat.stakes (stake n u ∷ [])) (sym is) has;
}

-- what a trace was opened with is told still when stakes are exchanged
told_on : (old new : Seat) (taken given : List Stake) (id : ℕ) (info : TraceInfo)
    → ExchangesStakes old new taken given → info_of old.seen id ≡ Some info → info_of new.seen id ≡ Some info
told_on old new taken given id info swap told =
    ap (λ (es : List Entry). info_of es id) swap.entries.seen ∙ told

-- A seat at rest that opens such a trace, and stakes the root of a tree that fits its track, has no more.
pub load_alone : (s : TrackStream) (t : Tree) (old opened built : Seat) (pass : LoadPass) (root : ℕ)
    → tree s ≡ t → ((info : TraceInfo) → HasOneTrack info → Fits s info 0) → 0 ≡ s.start → IsAtRest old
    → OpensOneTrack old opened pass → ExchangesStakes opened built [] (stake root t ∷ [])
    → HasLoadAlone built pass root
load_alone s t old opened built pass root is fits begins was (info, admitted, has) swap =
    let one = ap length has.tracks in record {
      stream = s;
      track = 0;
      next = admitted.fresh.state ∙ ap (state_at 0) one;
      last = admitted.fresh.to ∙ one;
      covers = subst (λ (es : List Entry). CoversAll es pass) (sym swap.entries.seen)
          (covers_at_once true old opened info pass admitted);
      root = root_at s t built info pass.id 0 root is begins (fits info has)
          (told_on opened built [] (stake root t ∷ []) pass.id info swap admitted.opened) (omega (arith, one))
          (has_one opened built (stake root t) swap);
      stakes = λ z. omega (
        arith,
        swap.stakes z,
        ap (times z) admitted.stakes,
        ap (times z) was.no_stakes,
        ap (λ (u : Tree). times z (stake root u ∷ [])) is,
      );
      passes = swap.passes ∙ admitted.passes ∙ ap (λ ps. ps ++ pass_view pass ∷ []) was.no_passes;
      pins = swap.pins ∙ admitted.pins ∙ was.no_pins;
    }

-- a pass is whole when no track is left
whole_at : (n : ℕ) → state_at n n ≡ Whole
whole_at n = cond-true (eqb n n) Whole (Straight n) (eq-eqb n n refl)

-- a pass that covers all tracks covers them when one is published
covers_more : (old new : Seat) (pass now : LoadPass) (track place : ℕ) (what : PublishedTree)
    → CoversAll old.seen pass → MakesEntry true old new (Published pass.id track what) place
    → now ≡ advanced pass → CoversAll new.seen now
covers_more old new pass now track place what covers made on =
    let seen = made.seen ∙ ap (λ (es : List Entry). es ++ Published pass.id track what ∷ []) made.lone in
    let id : now.id ≡ pass.id = ap (λ (p : LoadPass). p.id) on in
    record {
      from = ap (λ (p : LoadPass). p.from) on ∙ covers.from;
      to = ap (λ (p : LoadPass). p.to) on ∙ covers.to
          ∙ sym (tracks_stay old.seen new.seen pass.id track pass.id what seen)
          ∙ ap (tracks_of new.seen) (sym id);
    }

-- Its track is published.
module _ (built new : Seat) (pass now : LoadPass) (root place : ℕ) (load : HasLoadAlone built pass root)
    (published : PublishesTree true built new pass load.track root load.stream place)
    (on : now ≡ advanced pass) where
  pub has_pass : Contains new.passes (pass_view now)
  has_pass =
      subst (λ (p : LoadPass). Contains new.passes (pass_view p)) (sym on)
      (replaces_has _ _ _ _ published.entered.passes)

  pub covers_after : CoversAll new.seen now
  covers_after = covers_more built new pass now load.track place (published_tree load.stream) load.covers
      published.entered.entered on

  pub is_whole : now.state ≡ Whole
  is_whole = ap (λ (p : LoadPass). p.state) on ∙ ap (λ (st : PassState). state_after st pass.to) load.next
      ∙ ap (state_at (load.track + 1)) load.last ∙ whole_at (load.track + 1)

  -- when the load has ended the seat is at rest again
  pub at_rest_again : (ended : Seat) (last : ℕ) (e : Entry) → MakesLoadEntry true new ended now e last
      → ended.stakes ≡ new.stakes → left_after now e ≡ [] → IsAtRest ended
  at_rest_again ended last e made stakes gone =
      let removes : Removes new.passes ended.passes (pass_view (advanced pass)) =
      subst (λ (p : LoadPass). Removes new.passes ended.passes (pass_view p)) on
      (subst (λ (ps : List PassView). Becomes new.passes ended.passes (pass_view now) ps) gone made.passes) in
      record {
        no_stakes = no_stakes ended.stakes
            (λ z. omega (arith, ap (times z) stakes, published.stakes z, load.stakes z));
        no_pins = made.pins ∙ published.entered.pins ∙ load.pins;
        no_passes = none_left [] built.passes new.passes ended.passes _ _ refl load.passes
            published.entered.passes removes;
      }

-- A seat opens a trace of two tracks, and stakes the root of a tree that fits the first one.
module _ (s : TrackStream) (t : Tree) (old opened b1 : Seat) (info : TraceInfo) (pass : LoadPass) (r1 : ℕ)
    (is : tree s ≡ t) (begins : 0 ≡ s.start) (admitted : OpensTrace true old opened info pass)
    (two : length info.names.tracks ≡ 2) (one : ExchangesStakes opened b1 [] (stake r1 t ∷ [])) where
  pub first_next : IsNext pass 0
  first_next = admitted.fresh.state ∙ ap (state_at 0) two

  pub first_root : Fits s info 0 → IsRootOf b1 pass.id 0 0 r1 s
  first_root fits =
      root_at s t b1 info pass.id 0 r1 is begins fits
      (told_on opened b1 [] (stake r1 t ∷ []) pass.id info one admitted.opened) (omega (arith, two))
      (has_one opened b1 (stake r1 t) one)

  -- that track is published, and the root of a tree that fits the second one is staked
  pub second_alone : (n1 b2 : Seat) (now : LoadPass) (r2 place : ℕ) → Fits s info 1 → IsAtRest old
      → PublishesTree true b1 n1 pass 0 r1 s place → now ≡ advanced pass
      → ExchangesStakes n1 b2 [] (stake r2 t ∷ []) → HasLoadAlone b2 now r2
  second_alone n1 b2 now r2 place fits was published on again =
      let id : now.id ≡ pass.id = ap (λ (p : LoadPass). p.id) on in
      let covers = subst (λ (es : List Entry). CoversAll es pass) (sym one.entries.seen)
      (covers_at_once true old opened info pass admitted) in
      let told = info_on b1 n1 (Published pass.id 0 (published_tree s)) place pass.id info
      published.entered.entered (told_on opened b1 [] (stake r1 t ∷ []) pass.id info one admitted.opened) in
      record {
        stream = s;
        track = 1;
        next = ap (λ (p : LoadPass). p.state) on
            ∙ ap (λ (st : PassState). state_after st pass.to) first_next
            ∙ ap (state_at 1) (admitted.fresh.to ∙ two);
        last = ap (λ (p : LoadPass). p.to) on ∙ admitted.fresh.to ∙ two;
        covers = subst (λ (es : List Entry). CoversAll es now) (sym again.entries.seen)
            (covers_more b1 n1 pass now 0 place (published_tree s) covers published.entered.entered on);
        root = root_at s t b2 info now.id 1 r2 is begins fits
            (told_on n1 b2 [] (stake r2 t ∷ []) now.id info again (ap (info_of n1.seen) id ∙ told))
            (omega (arith, two)) (has_one n1 b2 (stake r2 t) again);
        stakes = λ z. omega (
          arith,
          again.stakes z,
          published.stakes z,
          one.stakes z,
          ap (times z) admitted.stakes,
          ap (times z) was.no_stakes,
          ap (λ (u : Tree). times z (stake r1 u ∷ [])) is,
          ap (λ (u : Tree). times z (stake r2 u ∷ [])) is,
        );
        passes = again.passes
            ∙ replaced_alone b1.passes n1.passes (pass_view pass) (pass_view (advanced pass)) (pass_view pass)
            (one.passes ∙ admitted.passes ∙ ap (λ ps. ps ++ pass_view pass ∷ []) was.no_passes)
            published.entered.passes
            ∙ ap (λ (p : LoadPass). pass_view p ∷ []) (sym on);
        pins = again.pins ∙ published.entered.pins ∙ one.pins ∙ admitted.pins ∙ was.no_pins;
      }
