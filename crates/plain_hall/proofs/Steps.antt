-- An entry that a plain hall makes, and the tracks that an info has.
use Rattle.std.proofs.Common.{◌≡◌, ℕ, ◌+◌, true, List, [], ◌∷◌, ◌++◌, length, Option, Some, refl, sym, ap, ◌∙◌}
use Rattle.std.proofs.Common.{arith, length-append}
use Rattle.std.specs.List.{range_with_len}
use Rattle.std.specs.Option.{option_map_or}
use Rattle.std.proofs.lemmas.List.{append-nil}
use Rattle.list_lemmas.proofs.Ranges.{range_with_len-more}
use Rattle.trace_base.specs.declared.names.TraceInfo.{TraceInfo}
use Rattle.hall_history.specs.History.{Entry}
use Rattle.hall_history.specs.Seat.{MakesEntry}
use Rattle.hall_history.specs.declared.seat.PinView.{PinView}
use Rattle.node_key.specs.declared.stake.Stake.{Stake}
use Rattle.plain_hall.specs.PlainSeat.{plain_seat}

-- an entry is made
pub makes : (stakes left : List Stake) (old new : List Entry) (pins now : List PinView) (e : Entry) (place : ℕ) → new ≡ old ++ e ∷ []
    → place ≡ length new → MakesEntry true (plain_seat stakes old pins) (plain_seat left new now) e place
makes stakes left old new pins now e place seen last =
    let n : length new ≡ length old + 1 = ap length seen ∙ length-append old (e ∷ []) in
    let next : place ≡ 1 + length old = omega arith in
    record {
      before = old;
      grown = ([], sym (append-nil old));
      lone = refl;
      seen = seen;
      last = last;
      places = ap (range_with_len 1) n ∙ sym ((sym (range_with_len-more 1 (length old) (1 + (length old))
          refl))) ∙ ap
          (λ p. range_with_len 1 (length old) ++ p ∷ []) (sym next);
    }

-- the tracks that the info has
pub told_tracks : (o : Option TraceInfo) (info : TraceInfo) → o ≡ Some info
    → option_map_or (λ (i : TraceInfo). length i.names.tracks) o 0 ≡ length info.names.tracks
told_tracks o info e = ap (λ o. option_map_or (λ (i : TraceInfo). length i.names.tracks) o 0) e
