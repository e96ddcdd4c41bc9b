-- What the tests need of their small traces and of a load that is alone.
use Rattle.std.proofs.Common.{◌≡◌, ℕ, ◌+◌, List, [], ◌∷◌, ◌++◌, length, get_or, Some, true}
use Rattle.std.proofs.Common.{ap, sym}
use Rattle.std.proofs.Common.{◌∙◌, arith, length-append, Contains}
use Rattle.std.specs.Option.{option_map_or}
use Rattle.std.proofs.lemmas.List.{nil_from_length}
use Rattle.std.proofs.Math.Seq.{get_or-append_seam}
use Rattle.list_lemmas.proofs.Options.{or_None, or_stays}
use Rattle.trace_base.specs.declared.names.TraceInfo.{TraceInfo}
use Rattle.hall_trait.specs.Answers.{CoversAll, OpensTrace}
use Rattle.hall_trait.specs.declared.pass.LoadPass.{LoadPass}
use Rattle.hall_history.specs.History.{Entry, Published, PublishedTree, info_of, tracks_of}
use Rattle.hall_history.specs.Seat.{Adds, Becomes, MakesEntry, Removes, Replaces, Seat}
use Rattle.hall_trait.specs.Pass.{IsFresh}
use Rattle.hall_history.proofs.HistoryMore.{info_more}

-- an added pass is there, and one in place of another
pub adds_has : {X : Type 0} (old new : List X) (x : X) → Adds old new x → Contains new x
adds_has old new x adds = (
  length old,
  omega (arith, ap length adds, length-append old (x ∷ [])),
  ap (λ xs. get_or xs (length old) x) adds ∙ get_or-append_seam old x [] x,
)

pub replaces_has : {X : Type 0} (old new : List X) (x y : X) → Replaces old new x y → Contains new y
replaces_has old new x y r = (
  length r.front,
  omega (arith, ap length r.now, length-append r.front (y ∷ r.back)),
  ap (λ xs. get_or xs (length r.front) y) r.now ∙ get_or-append_seam r.front y r.back y,
)

-- what is there in the stead of an item, with the others
stead_length : {X : Type 0} (old new : List X) (x : X) (stead : List X) → Becomes old new x stead
    → length new + 1 ≡ length old + length stead
stead_length old new x stead r = omega (
  arith,
  ap length r.was,
  ap length r.now,
  length-append r.front (x ∷ r.back),
  length-append r.front (stead ++ r.back),
  length-append stead r.back,
)

-- an only pass that is gone leaves none
pub none_left : {X : Type 0} (none one now rest : List X) (x y : X) → none ≡ [] → Adds none one x
    → Replaces one now x y → Removes now rest y → rest ≡ []
none_left none one now rest x y empty adds replaces removes =
    nil_from_length rest (omega (
      arith,
      ap length empty,
      ap length adds,
      length-append none (x ∷ []),
      stead_length one now x (y ∷ []) replaces,
      stead_length now rest y [] removes,
    ))

-- an only item for which another stands leaves that one
pub replaced_alone : {X : Type 0} (old new : List X) (x y z : X) → old ≡ z ∷ [] → Replaces old new x y
    → new ≡ y ∷ []
replaced_alone old new x y z alone r =
    let lengths : 1 ≡ length r.front + (length r.back + 1) =
    sym (ap length alone) ∙ ap length r.was ∙ length-append r.front (x ∷ r.back) ∙ omega arith in
    let front : r.front ≡ [] = nil_from_length r.front (omega (arith, lengths)) in
    let back : r.back ≡ [] = nil_from_length r.back (omega (arith, lengths)) in
    r.now ∙ ap (λ f. f ++ (y ∷ r.back)) front ∙ ap (λ b. y ∷ b) back

pub none_left_at_once : {X : Type 0} (none one rest : List X) (x : X) → none ≡ [] → Adds none one x
    → Removes one rest x → rest ≡ []
none_left_at_once none one rest x empty adds removes =
    nil_from_length rest (omega (
      arith,
      ap length empty,
      ap length adds,
      length-append none (x ∷ []),
      stead_length one rest x [] removes,
    ))

-- a publication leaves the number of tracks
pub tracks_stay : (old new : List Entry) (id track other : ℕ) (s : PublishedTree)
    → new ≡ old ++ Published id track s ∷ [] → tracks_of new other ≡ tracks_of old other
tracks_stay old new id track other s seen =
    ap (λ o. option_map_or (λ (i : TraceInfo). length i.names.tracks) o 0)
    (ap (λ es. info_of es other) seen ∙ info_more old (Published id track s) other
    ∙ or_None (info_of old other))

-- a pass that was just given covers its trace
pub covers_at_once : (alone : _) (old new : Seat) (info : TraceInfo) (pass : LoadPass)
    → OpensTrace alone old new info pass → CoversAll new.seen pass
covers_at_once alone old new info pass opened = record {
  from = opened.fresh.from;
  to = opened.fresh.to
      ∙ sym (ap (λ o. option_map_or (λ (i : TraceInfo). length i.names.tracks) o 0) opened.opened);
}

-- what a trace was opened with stays told
pub info_on : (old new : Seat) (e : Entry) (place id : ℕ) (info : TraceInfo) → MakesEntry true old new e place
    → info_of old.seen id ≡ Some info → info_of new.seen id ≡ Some info
info_on old new e place id info made told =
    ap (λ (es : List Entry). info_of es id) (made.seen ∙ ap (λ (es : List Entry). es ++ e ∷ []) made.lone)
    ∙ info_more old.seen e id ∙ or_stays (info_of old.seen id) _ info told

-- so a pass that covers all its trace goes on to
pub covers_on : (entries : List Entry) (info : TraceInfo) (pass : LoadPass)
    → IsFresh pass (length info.names.tracks) → info_of entries pass.id ≡ Some info → CoversAll entries pass
covers_on entries info pass fresh told = record {
  from = fresh.from;
  to = fresh.to ∙ sym (ap (λ o. option_map_or (λ (i : TraceInfo). length i.names.tracks) o 0) told);
}
