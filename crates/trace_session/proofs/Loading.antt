-- A load under way: so many tracks are published.
use Rattle.std.proofs.Common.{◌≡◌, ℕ, ◌+◌, ◌<◌, suc, Bool, false, eqb, List, [], ◌∷◌, ◌++◌, length, take}
use Rattle.std.proofs.Common.{slice_get, Option, None, Some, refl, sym, ap, ◌∙◌, subst, arith}
use Rattle.std.proofs.Common.{length-append, zero-add}
use Rattle.std.proofs.lemmas.Bool.Decides.{nat_tests}
use Rattle.std.proofs.Math.Seq.{take-append_seam}
use Rattle.list_lemmas.proofs.Fronts.{replaced_whole}
use Rattle.hall_history.specs.declared.asks.PassState.{PassState}
use Rattle.hall_history.specs.declared.asks.PassState.TheVariants.{Straight}
use Rattle.trace_base.specs.declared.names.TraceInfo.{TraceInfo}
use Rattle.trace_base.specs.declared.stream.TrackStream.{TrackStream}
use Rattle.hall_trait.specs.Answers.{MakesLoadEntry, left_after}
use Rattle.hall_history.specs.History.{Entry, Published, Sealed, Dropped, FitsTrack, info_of, info_opened}
use Rattle.hall_history.specs.History.{published_tree}
use Rattle.node_key.specs.declared.stake.Stake.{Stake}
use Rattle.hall_trait.specs.Pass.{pass_view, advanced, IsNext, IsFresh}
use Rattle.hall_history.specs.Passes.{state_at, state_after}
use Rattle.hall_history.specs.Seat.{Begins, IsAtRest, Becomes, ExchangesStakes, MakesEntry}
use Rattle.hall_trait.specs.View.{HallView}
use Rattle.hall_history.specs.declared.seat.PassView.{PassView}
use Rattle.hall_trait.specs.declared.pass.LoadPass.{LoadPass}
use Rattle.std.specs.List.{filter_map, cons_option}
use Rattle.trace_session.specs.Load.{AreTracksOf, PublishesAll, GivesUp}
use Rattle.trace_session.specs.Served.{published_from}
use Rattle.trace_session.specs.Serving.{Grows}
use Rattle.trace_session.proofs.Grow.{grows_none, Grows-more, Grows-still, Begins-trans}

pub Becomes-one : {X : Type 0} (x : X) (ys stead : List X) → Becomes (x ∷ []) ys x stead → ys ≡ stead
Becomes-one x ys stead b = replaced_whole x ys stead b.front b.back b.was b.now

-- what a trace was opened with stays
first_option : (o : Option TraceInfo) (is more : List TraceInfo) (info : TraceInfo)
    → (slice_get is 0 ≡ Some info → slice_get more 0 ≡ Some info) → slice_get (cons_option o is) 0 ≡ Some info
    → slice_get (cons_option o more) 0 ≡ Some info
first_option None is more info f at = f at
first_option (Some i) is more info f at = at

first-more : (f : Entry → Option TraceInfo) (xs ys : List Entry) (info : TraceInfo)
    → slice_get (filter_map f xs) 0 ≡ Some info → slice_get (filter_map f (xs ++ ys)) 0 ≡ Some info
first-more f [] ys info is = absurd (cc)
first-more f (x ∷ xs) ys info is = first_option (f x) (filter_map f xs) (filter_map f (xs ++ ys)) info
    (first-more f xs ys info) is

pub info_of-more : (entries more : List Entry) (id : ℕ) (info : TraceInfo) → info_of entries id ≡ Some info
    → info_of (entries ++ more) id ≡ Some info
unfolding info_of
info_of-more entries more id info is = first-more (info_opened id) entries more info is

pub AreTracksOf-more : (old new : List Entry) (id : ℕ) (tracks : List TrackStream) → Begins old new
    → AreTracksOf old id tracks → AreTracksOf new id tracks
AreTracksOf-more old new id tracks b t = record {
  info = t.info;
  opened = subst (λ (h : List Entry). info_of h id ≡ Some t.info) (sym b.1)
      (info_of-more old b.0 id t.info t.opened);
  count = t.count;
  fit = t.fit;
}

-- the entries of one track more
pub published_from-push : (id track : ℕ) (ss : List TrackStream) (s : TrackStream)
    → published_from id track (ss ++ s ∷ []) ≡ published_from id track ss
    ++ Published id (track + length ss) (published_tree s) ∷ []
published_from-push id track [] s =
    let here : track + 0 ≡ track = omega arith in ap (λ (t : ℕ). Published id t (published_tree s) ∷ [])
    (sym here)
published_from-push id track (x ∷ xs) s =
    let next : track + 1 + length xs ≡ track + suc (length xs) = omega arith in
    ap (λ (l : List Entry). Published id track (published_tree x) ∷ l)
    (published_from-push id (track + 1) xs s ∙ ap (λ (t : ℕ). published_from id (track + 1) xs
    ++ Published id t (published_tree s) ∷ []) next)

-- the first tracks, those of `done`, are published, and the seat has the one pass
pub record Loading (old now : HallView) (id : ℕ) (tracks finished : List TrackStream) (pass : LoadPass)
    : Type 0 where
  pub block : List ℕ
  pub alone : now.alone ≡ old.alone
  pub grows : Grows old.alone old.seat now.seat block (published_from id 0 finished)
  pub passes : now.seat.passes ≡ pass_view pass ∷ []
  pub pins : now.seat.pins ≡ []
  pub same : pass.id ≡ id
  pub from : pass.from ≡ 0
  pub to : pass.to ≡ length tracks
  pub state : pass.state ≡ state_at (length finished) (length tracks)
  pub tracks_of : AreTracksOf now.seat.seen id tracks

-- none is published yet
pub Loading-start : (old : HallView) (pass : LoadPass) (tracks : List TrackStream)
    → old.seat.passes ≡ pass_view pass ∷ [] → old.seat.pins ≡ [] → IsFresh pass (length tracks)
    → AreTracksOf old.seat.seen pass.id tracks → Loading old old pass.id tracks [] pass
Loading-start old pass tracks passes pins fresh of = record {
  block = [];
  alone = refl;
  grows = grows_none old.alone old.seat;
  passes = passes;
  pins = pins;
  same = refl;
  from = fresh.from;
  to = fresh.to;
  state = fresh.state;
  tracks_of = of;
}

-- the next of the tracks, which may be published
pub Loading-next : (old now : HallView) (id : ℕ) (tracks finished rest : List TrackStream) (s : TrackStream)
    (pass : LoadPass) → Loading old now id tracks finished pass → finished ++ s ∷ rest ≡ tracks
    → IsNext pass (length finished) × FitsTrack now.seat.seen pass.id (length finished) s
Loading-next old now id tracks finished rest s pass l whole =
    let count : length finished < length tracks =
    omega (arith, ap length whole, length-append finished (s ∷ rest)) in
    let differ : eqb (length finished) (length tracks) ≡ false = grind (arith, nat_tests) in
    let straight : state_at (length finished) (length tracks) ≡ Straight (length finished) = rw differ refl in
    let at : slice_get tracks (length finished) ≡ Some s =
    subst (λ (xs : List TrackStream). slice_get xs (length finished) ≡ Some s) whole
    (slice_get-seam finished rest s) in
    let of = l.tracks_of in
    let known : info_of now.seat.seen pass.id ≡ Some of.info = rw l.same of.opened in
    let within : length finished < length of.info.names.tracks = omega (arith, of.count) in
    (l.state ∙ straight, (of.info, known, within, of.fit (length finished) s at))
  where
    slice_get-seam : (xs ys : List TrackStream) (x : TrackStream)
        → slice_get (xs ++ x ∷ ys) (length xs) ≡ Some x
    slice_get-seam [] ys x = refl
    slice_get-seam (y ∷ xs) ys x = slice_get-seam xs ys x

-- it was published
pub Loading-more : (old now new : HallView) (id : ℕ) (tracks finished : List TrackStream) (s : TrackStream)
    (was pass : LoadPass) (place : ℕ) → Loading old now id tracks finished was → IsNext was (length finished)
    → MakesLoadEntry now.alone now.seat new.seat was (Published was.id (length finished) (published_tree s))
    place
    → new.alone ≡ now.alone → pass ≡ advanced was → Loading old new id tracks (finished ++ s ∷ []) pass
Loading-more old now new id tracks finished s was pass place l next k alone same =
    let e = subst (λ (a : Bool). MakesEntry a now.seat new.seat
    (Published was.id (length finished) (published_tree s)) place) l.alone k.entered in
    let count : length (finished ++ s ∷ []) ≡ length finished
    + 1 = omega (arith, length-append finished (s ∷ [])) in
    let begins : Begins now.seat.seen new.seat.seen = Begins-trans now.seat.seen e.before new.seat.seen e.grown
    (Published was.id (length finished) (published_tree s) ∷ [], e.seen) in
    let more = Grows-more old.alone old.seat now.seat new.seat l.block (published_from id 0 finished)
    (Published was.id (length finished) (published_tree s)) place l.grows e in
    let own : published_from id 0 finished ++ Published was.id (length finished) (published_tree s)
    ∷ [] ≡ published_from id 0 (finished ++ s ∷ []) =
    ap (λ (i : ℕ). published_from id 0 finished ++ Published i (length finished)
    (published_tree s) ∷ []) l.same ∙ sym
    (published_from-push id 0 finished s ∙ ap (λ (t : ℕ). published_from id 0 finished ++ Published id t
    (published_tree s)
    ∷ []) (zero-add (length finished))) in
    record {
      block = l.block ++ place ∷ [];
      alone = alone ∙ l.alone;
      grows = subst (λ (es : List Entry). Grows old.alone old.seat new.seat (l.block ++ place ∷ []) es) own
          more;
      passes = Becomes-one (pass_view was) new.seat.passes (pass_view (advanced was) ∷ [])
          (subst (λ (ps : List PassView). Becomes ps new.seat.passes (pass_view was) (pass_view (advanced was)
          ∷ []))
          l.passes k.passes) ∙ ap (λ (p : LoadPass). pass_view p ∷ []) (sym same);
      pins = k.pins ∙ l.pins;
      same = ap (λ (p : LoadPass). p.id) same ∙ l.same;
      from = ap (λ (p : LoadPass). p.from) same ∙ l.from;
      to = ap (λ (p : LoadPass). p.to) same ∙ l.to;
      state = ap (λ (p : LoadPass). p.state) same ∙ ap (λ (st : PassState). state_after st was.to) next
          ∙ ap (λ (t : ℕ). state_at (length finished + 1) t) l.to
          ∙ ap (λ (n : ℕ). state_at n (length tracks)) (sym count);
      tracks_of = AreTracksOf-more now.seat.seen new.seat.seen id tracks begins l.tracks_of;
    }

-- the load ended with this entry, and nothing is left of the pass
ended_load : (old now new : HallView) (id : ℕ) (tracks finished : List TrackStream) (pass : LoadPass)
    (e : Entry) (place : ℕ) → (l : Loading old now id tracks finished pass) → now.seat.stakes ≡ []
    → new.seat.stakes ≡ now.seat.stakes → left_after pass e ≡ []
    → MakesLoadEntry now.alone now.seat new.seat pass e place
    → Grows old.alone old.seat new.seat (l.block ++ place ∷ []) (published_from id 0 finished ++ e ∷ [])
    × IsAtRest new.seat
ended_load old now new id tracks finished pass e place l no_stakes same none m = (
  Grows-more old.alone old.seat now.seat new.seat l.block (published_from id 0 finished) e place l.grows
      (subst (λ (a : Bool). MakesEntry a now.seat new.seat e place) l.alone m.entered),
  record {
    no_stakes = same ∙ no_stakes;
    no_pins = m.pins ∙ l.pins;
    no_passes = Becomes-one (pass_view pass) new.seat.passes (left_after pass e)
        (subst (λ (ps : List PassView). Becomes ps new.seat.passes (pass_view pass) (left_after pass e)) l.passes
        m.passes) ∙ none;
  },
)

-- a call that changed the stakes alone
pub Loading-still : (old now new : HallView) (id : ℕ) (tracks finished : List TrackStream) (pass : LoadPass)
    (taken given : List Stake) → ExchangesStakes now.seat new.seat taken given → new.alone ≡ now.alone
    → Loading old now id tracks finished pass → Loading old new id tracks finished pass
Loading-still old now new id tracks finished pass taken given e alone l = record {
  block = l.block;
  alone = alone ∙ l.alone;
  grows = Grows-still old.alone old.seat now.seat new.seat l.block (published_from id 0 finished) l.grows
      e.entries;
  passes = e.passes ∙ l.passes;
  pins = e.pins ∙ l.pins;
  same = l.same;
  from = l.from;
  to = l.to;
  state = l.state;
  tracks_of = subst (λ (h : List Entry). AreTracksOf h id tracks) (sym e.entries.seen) l.tracks_of;
}

-- it was given up behind the tracks that are published
pub Loading-dropped : (old now new : HallView) (id : ℕ) (tracks finished rest : List TrackStream)
    (pass : LoadPass) (place : ℕ) → Loading old now id tracks finished pass → now.seat.stakes ≡ []
    → new.seat.stakes ≡ now.seat.stakes → finished ++ rest ≡ tracks
    → MakesLoadEntry now.alone now.seat new.seat pass (Dropped pass.id) place → GivesUp old new id tracks
Loading-dropped old now new id tracks finished rest pass place l none same whole m =
    let end = ended_load old now new id tracks finished pass (Dropped pass.id) place l none same refl m
    in
    let front : take (length finished) tracks ≡ finished =
    ap (λ (ts : List TrackStream). take (length finished) ts) (sym whole) ∙ take-append_seam finished rest
    in
    let own : published_from id 0 finished ++ Dropped pass.id
    ∷ [] ≡ published_from id 0 (take (length finished) tracks) ++ Dropped id ∷ [] =
    ap (λ (i : ℕ). published_from id 0 finished ++ Dropped i ∷ []) l.same ∙ ap
    (λ (ts : List TrackStream). published_from id 0 ts ++ Dropped id ∷ []) (sym front) in
    record {
      count = length finished;
      block = l.block ++ place ∷ [];
      grows = subst (λ (es : List Entry). Grows old.alone old.seat new.seat (l.block ++ place ∷ []) es) own
          end.0;
      rest = end.1;
    }

-- it was sealed behind all of them
pub Loading-sealed : (old now new : HallView) (id : ℕ) (tracks finished : List TrackStream) (pass : LoadPass)
    (place : ℕ) → Loading old now id tracks finished pass → now.seat.stakes ≡ []
    → new.seat.stakes ≡ now.seat.stakes → finished ≡ tracks
    → MakesLoadEntry now.alone now.seat new.seat pass (Sealed pass.id) place
    → PublishesAll old new id tracks place
Loading-sealed old now new id tracks finished pass place l none same all m =
    let end = ended_load old now new id tracks finished pass (Sealed pass.id) place l none same refl m
    in
    let own : published_from id 0 finished ++ Sealed pass.id ∷ [] ≡ published_from id 0 tracks ++ Sealed id
    ∷ [] =
    ap (λ (i : ℕ). published_from id 0 finished ++ Sealed i ∷ []) l.same ∙ ap
    (λ (ts : List TrackStream). published_from id 0 ts ++ Sealed id ∷ []) all in
    record {
      before = l.block;
      grows = subst (λ (es : List Entry). Grows old.alone old.seat new.seat (l.block ++ place ∷ []) es) own
          end.0;
      rest = end.1;
    }
