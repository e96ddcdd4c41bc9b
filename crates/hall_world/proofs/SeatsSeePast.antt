-- What a history tells up to a place, and in it all that was seen, stays where it goes on.
use Rattle.std.proofs.Common.{◌≡◌, ◌≤◌, ℕ, ◌-◌, List, [], ◌∷◌, ◌++◌, All, ap, ◌∙◌, arith, drop}
use Rattle.std.proofs.Common.{length-append, subst, sym, take}
use Rattle.std.proofs.lemmas.List.{append-nil, take-append-drop, take-append-le, take-take, take_all}
use Rattle.std.proofs.lemmas.List.Elements.{All-weaker}
use Rattle.hall_history.specs.Asks.{AreOpen}
use Rattle.hall_history.specs.History.{Entry, info_of, info_opened}
use Rattle.hall_history.specs.declared.seat.PassView.{PassView}
use Rattle.hall_history.specs.declared.seat.PinView.{PinView}
use Rattle.hall_world.specs.Good.{IsGoodSeat, IsSeenPin, SeesHistory}
use Rattle.hall_world.specs.Passes.{IsPassOf}
use Rattle.hall_world.specs.Past.{Past, last_place, next_place, up_to, with_entries}
use Rattle.hall_world.specs.declared.world.SeatView.{SeatView}
use Rattle.list_lemmas.proofs.Found.{first-append}
use Rattle.list_lemmas.proofs.Options.{or_stays}

-- ---- up to a place

-- no entries more are the history
pub no_entries : (past : Past) → with_entries past [] ≡ past
no_entries past = ap (λ es. record past { entries = es }) (append-nil past.entries)

-- more entries leave what stands up to a place of the history
pub up_to-later : (past : Past) (more : List Entry) (place : ℕ) → place ≤ last_place past
    → up_to (with_entries past more) place ≡ up_to past place
up_to-later past more place seen =
    take-append-le (place - past.first) past.entries more (omega (arith, seen))

-- up to its last place the history is all its entries
pub up_to-all : (past : Past) → up_to past (last_place past) ≡ past.entries
up_to-all past = take_all (last_place past - past.first) past.entries (omega arith)

-- one entry more has the next place
pub up_to-next : (past : Past) (e : Entry)
    → up_to (with_entries past (e ∷ [])) (next_place past) ≡ past.entries ++ e ∷ []
up_to-next past e =
    take_all (next_place past - past.first) (past.entries ++ e ∷ []) (omega (
      arith,
      length-append past.entries (e ∷ []),
    ))

-- ---- passes

-- a pass of a trace that was opened is one in each history that goes on
pub pass_stays : (entries more : List Entry) (p : PassView) → IsPassOf entries p
    → IsPassOf (entries ++ more) p
unfolding info_of
pass_stays entries more p is = record {
  info = is.info;
  opened = first-append (info_opened p.id) entries more ∙ or_stays _ _ is.info is.opened;
  order = is.order;
  within = is.within;
}

-- so is one of the first entries
pub pass_of_all : (entries : List Entry) (n : ℕ) (p : PassView) → IsPassOf (take n entries) p
    → IsPassOf entries p
pass_of_all entries n p is =
    subst (λ es. IsPassOf es p) (take-append-drop n entries)
    (pass_stays (take n entries) (drop n entries) p is)

-- and one that was seen up to a place is seen up to each later one
pub pass_seen : (past : Past) (place later : ℕ) (p : PassView) → place ≤ later → IsPassOf (up_to past place) p
    → IsPassOf (up_to past later) p
pass_seen past place later p behind is =
    pass_of_all (up_to past later) (place - past.first) p
    (subst (λ es. IsPassOf es p)
    (sym (take-take (place - past.first) (later - past.first) past.entries (omega (arith, behind)))) is)

-- passes that a seat has seen are passes after one entry more
pub passes_next : (past : Past) (e : Entry) (seen : ℕ) (passes : List PassView)
    → All (IsPassOf (up_to past seen)) passes → All (IsPassOf (past.entries ++ e ∷ [])) passes
passes_next past e seen passes all =
    All-weaker (IsPassOf (up_to past seen)) (IsPassOf (past.entries ++ e ∷ []))
    (λ p is. pass_stays past.entries (e ∷ []) p (pass_of_all past.entries (seen - past.first) p is))
    passes all

-- ---- pins

-- a pin that was seen is seen later, too
pub pin_later : (past : Past) (last later : ℕ) (p : PinView) → last ≤ later → IsSeenPin past last p
    → IsSeenPin past later p
pin_later past last later p behind is = record {
  made = is.made;
  seen = omega (arith, is.seen, behind);
  open_there = is.open_there;
}

-- and where the history goes on
pub pin_stays : (past : Past) (more : List Entry) (last : ℕ) (p : PinView) → last ≤ last_place past
    → IsSeenPin past last p → IsSeenPin (with_entries past more) last p
pin_stays past more last p seen is = record {
  made = is.made;
  seen = is.seen;
  open_there = subst (λ (es : List Entry). AreOpen es p.ids)
      (sym (up_to-later past more p.place (omega (arith, is.seen, seen)))) is.open_there;
}

-- pins that a seat has seen are seen after one entry more
pub pins_next : (past : Past) (e : Entry) (seen : ℕ) (pins : List PinView) → seen ≤ last_place past
    → All (IsSeenPin past seen) pins → All (IsSeenPin (with_entries past (e ∷ [])) (next_place past)) pins
pins_next past e seen pins behind all =
    All-weaker (IsSeenPin past seen) (IsSeenPin (with_entries past (e ∷ [])) (next_place past))
    (λ p is. pin_later (with_entries past (e ∷ [])) seen (next_place past) p (omega (arith, behind))
    (pin_stays past (e ∷ []) seen p behind is)) pins all

-- ---- seats

-- a seat that has seen a part of the history has seen it where it goes on
pub sees_later : (past : Past) (more : List Entry) (s : SeatView) → SeesHistory past s
    → SeesHistory (with_entries past more) s
sees_later past more s sees = record {
  begun = sees.begun;
  seen = omega (arith, sees.seen, length-append past.entries more);
  rising = sees.rising;
  own = sees.own;
  pins = All-weaker (IsSeenPin past s.seen) (IsSeenPin (with_entries past more) s.seen)
      (λ p is. pin_stays past more s.seen p sees.seen is) s.pins sees.pins;
  passes = subst (λ es. All (IsPassOf es) s.passes) (sym (up_to-later past more s.seen sees.seen))
      sees.passes;
}

-- so a good seat stays one
pub seat_later : (past : Past) (more : List Entry) (s : SeatView) → IsGoodSeat past s
    → IsGoodSeat (with_entries past more) s
seat_later past more s (sees, ended) = ((λ active. sees_later past more s (sees active)), ended)

pub seats_later : (past : Past) (more : List Entry) (seats : List SeatView) → All (IsGoodSeat past) seats
    → All (IsGoodSeat (with_entries past more)) seats
seats_later past more seats good =
    All-weaker (IsGoodSeat past) (IsGoodSeat (with_entries past more)) (λ s is. seat_later past more s is)
    seats
    good
