-- The answers of a plain hall's calls, as its seat before and after tells them.
use Rattle.std.proofs.Common.{◌≡◌, ℕ, ◌+◌, ◌-◌, ◌≤◌, Bool, true, false, cond, eqb, List, [], ◌∷◌, ◌++◌}
use Rattle.std.proofs.Common.{length, Ok, refl, sym, ap, ap₂, ◌∙◌, subst, arith, length-append, Contains}
use Rattle.std.specs.Option.{option_map_or}
use Rattle.std.proofs.lemmas.Bool.{eq-eqb, eqb-true}
use Rattle.list_lemmas.proofs.Options.{or_None}
use Rattle.hall_history.specs.declared.asks.PassState.TheVariants.{Straight, Whole}
use Rattle.trace_base.specs.declared.names.TraceInfo.{TraceInfo}
use Rattle.hall_trait.specs.Answers.{HasRoom, places_of_load, Admits, MakesLoadEntry, left_after}
use Rattle.hall_history.specs.History.{Entry, Opened, Published, Asked, opened_ids}
use Rattle.hall_history.specs.History.{is_loading, tracks_of, published_count, PublishedTree}
use Rattle.plain_hall.specs.Loading.{pass_of, passes_of}
use Rattle.plain_hall.specs.Orderly.{IsOrderly}
use Rattle.hall_trait.specs.Pass.{pass_view, advanced, IsFresh, IsNext}
use Rattle.hall_history.specs.Passes.{state_at, left_in, state_after}
use Rattle.plain_hall.specs.PlainSeat.{plain_seat}
use Rattle.hall_history.specs.Seat.{Becomes}
use Rattle.hall_history.specs.declared.seat.PinView.{PinView}
use Rattle.hall_history.specs.declared.seat.PassView.{PassView}
use Rattle.node_key.specs.declared.stake.Stake.{Stake}
use Rattle.hall_trait.specs.declared.pass.LoadPass.{LoadPass}
use Rattle.hall_history.proofs.HistoryMore.{count_more, info_more}
use Rattle.plain_hall.proofs.Passes.{Opens, asked_keeps, published_goes_on, opened_opens, has_loading}
use Rattle.plain_hall.proofs.Steps.{makes}

-- a pass of the seat, and its trace
pub record IsPassOf (entries : List Entry) (pass : LoadPass) : Type 0 where
  pub loading : is_loading entries pass.id ≡ true
  pub view : pass_of entries pass.id ≡ pass_view pass
  pub from : pass.from ≡ 0
  pub to : tracks_of entries pass.id ≡ pass.to
  pub state : state_at (published_count entries pass.id) (tracks_of entries pass.id) ≡ pass.state
  pub counted : published_count entries pass.id ≤ tracks_of entries pass.id

pub pass_facts : (entries : List Entry) (pass : LoadPass)
    → IsOrderly entries → Contains (passes_of entries) (pass_view pass) → IsPassOf entries pass
pass_facts entries pass orderly has =
    let facts = has_loading entries (pass_view pass) has in
    record {
      loading = facts.0;
      view = facts.1;
      from = sym (ap (λ (p : PassView). p.from) facts.1);
      to = ap (λ (p : PassView). p.to) facts.1;
      state = ap (λ (p : PassView). p.state) facts.1;
      counted = orderly.counted pass.id;
    }

-- the state tells how many tracks are published
straight_at : (n to track : ℕ) → state_at n to ≡ Straight track → n ≡ track
straight_at n to track e = go (eqb n to) e
  where
    go : (b : Bool) → cond b Whole (Straight n) ≡ Straight track → n ≡ track
    go true e = absurd cc
    go false e = cc

whole_at : (n to : ℕ) → state_at n to ≡ Whole → n ≡ to
whole_at n to e = go (eqb n to) refl e
  where
    go : (b : Bool) → eqb n to ≡ b → cond b Whole (Straight n) ≡ Whole → n ≡ to
    go true at e = eqb-true n to at
    go false at e = absurd cc

pub next_is_count : (entries : List Entry) (pass : LoadPass) (track : ℕ) → IsPassOf entries pass
    → IsNext pass track → track ≡ published_count entries pass.id
next_is_count entries pass track facts next = sym (straight_at _ _ track (facts.state ∙ next))

pub whole_is_all : (entries : List Entry) (pass : LoadPass) → IsPassOf entries pass → pass.state ≡ Whole
    → published_count entries pass.id ≡ tracks_of entries pass.id
whole_is_all entries pass facts whole = whole_at _ _ (facts.state ∙ whole)

-- a view by its parts
same_view : (p q : PassView) → p.id ≡ q.id → p.from ≡ q.from → p.to ≡ q.to → p.state ≡ q.state → p ≡ q
same_view p q id from to state = λ i. record { id = id i; from = from i; to = to i; state = state i }

pub opened_answer : (stakes : List Stake) (old new : List Entry) (pins : List PinView) (pass : LoadPass)
    (info : TraceInfo) → new ≡ old ++ Opened pass.id info ∷ [] → pass.id ≡ length (opened_ids old) + 1
    → pass.place ≡ length new → IsFresh pass (length info.names.tracks) → HasRoom old (places_of_load info)
    → IsOrderly old → Admits true (plain_seat stakes old pins) (plain_seat stakes new pins) info (Ok pass)
opened_answer stakes old new pins pass info seen next last fresh room orderly =
    let more : Opens old new pass.id info = subst (λ (es : List Entry). Opens old es pass.id info) (sym seen)
    (opened_opens old pass.id info orderly next) in
    let tracks : tracks_of new pass.id ≡ length info.names.tracks =
    ap (λ o. option_map_or (λ (i : TraceInfo). length i.names.tracks) o 0) more.told in
    let view : pass_of new pass.id ≡ pass_view pass = same_view _ _ refl (sym fresh.from)
    (tracks ∙ sym fresh.to) (ap₂ state_at more.count tracks ∙ sym fresh.state) in
    record {
      entered = makes stakes stakes old new pins pins (Opened pass.id info) pass.place seen last;
      next = omega (arith, next, ap length more.ids, length-append (opened_ids old) (pass.id ∷ []));
      opened = more.told;
      fresh = fresh;
      passes = more.passes ∙ ap (λ p. passes_of old ++ p ∷ []) view;
      pins = refl;
      stakes = refl;
      room = room;
    }

-- an entry of a load, by what it leaves of the pass of its trace
pub load_entry : (stakes left_stakes : List Stake) (old new : List Entry) (pins : List PinView) (pass : LoadPass) (e : Entry) (place : ℕ)
    → new ≡ old ++ e ∷ [] → place ≡ length new → IsPassOf old pass
    → Becomes (passes_of old) (passes_of (old ++ e ∷ [])) (pass_of old pass.id) (left_after pass e)
    → MakesLoadEntry true (plain_seat stakes old pins) (plain_seat left_stakes new pins) pass e place
load_entry stakes left_stakes old new pins pass e place seen last facts left = record {
  entered = makes stakes left_stakes old new pins pins e place seen last;
  passes = subst (λ (view : PassView). Becomes (passes_of old) (passes_of new) view (left_after pass e))
      facts.view (subst (λ (es : List Entry). Becomes (passes_of old) (passes_of es) (pass_of old pass.id)
      (left_after pass e)) (sym seen) left);
  pins = refl;
}

-- the pass of a trace of which one track more is published
pub published_left : (old : List Entry) (pass : LoadPass) (track : ℕ) (s : PublishedTree) → IsOrderly old
    → IsNext pass track → IsPassOf old pass → Becomes (passes_of old)
    (passes_of (old ++ Published pass.id track s ∷ [])) (pass_of old pass.id)
    (left_after pass (Published pass.id track s))
published_left old pass track s orderly next facts =
    let new = old ++ Published pass.id track s ∷ [] in
    let more = published_goes_on old pass.id track s orderly facts.loading in
    let count : published_count new pass.id ≡ track + 1 = count_more old (Published pass.id track s) pass.id ∙
    ap (λ b. published_count old pass.id + cond b 1 0) (eq-eqb pass.id pass.id refl) ∙ omega
    (arith, next_is_count old pass track facts next) in
    let tracks : tracks_of new pass.id ≡ pass.to =
    ap (λ o. option_map_or (λ (i : TraceInfo). length i.names.tracks) o 0)
    (info_more old (Published pass.id track s) pass.id ∙ or_None _) ∙ facts.to in
    let view : pass_of new pass.id ≡ pass_view (advanced pass) = same_view _ _ refl (sym facts.from) tracks
    (ap₂ state_at count tracks ∙ sym (ap (λ st. state_after st pass.to) next)) in
    subst (λ (view : PassView). Becomes (passes_of old) (passes_of new) (pass_of old pass.id) (view ∷ []))
    view more

-- a question leaves the passes as they are
pub asked_passes : (old new : List Entry) → new ≡ old ++ Asked ∷ [] → passes_of new ≡ passes_of old
asked_passes old new seen = ap passes_of seen ∙ (asked_keeps old).passes
