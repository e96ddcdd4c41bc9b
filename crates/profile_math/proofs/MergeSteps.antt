-- One step of merging two lists of rows, by which of the first rows stands first.
use Rattle.std.proofs.Common.{◌≡◌, ℕ, ◌+◌, ◌<◌, ◌≤◌, ◌≢◌, suc, List, [], ◌∷◌, ◌++◌, length}
use Rattle.std.proofs.Common.{take, drop}
use Rattle.std.proofs.Common.{get_or, set, refl, ap, sym, subst, ◌∙◌, arith}
use Rattle.std.proofs.Common.{All}
use Rattle.std.proofs.Common.{length-append, length-drop, length-set, append_assoc, add-zero}
use Rattle.std.proofs.lemmas.List.{drop_more, drop_all, drop-drop, get_or-drop, length-take-le}
use Rattle.std.proofs.lemmas.List.{take-append-drop}
use Rattle.std.proofs.lemmas.List.{take_more_set, drop-set-lt, get_or_at, nil_from_length}
use Rattle.std.proofs.lemmas.List.Elements.{All-get_or}
use Rattle.std.specs.declared.cmp.Ordering.{Ordering}
use Rattle.std.specs.declared.cmp.Ordering.TheVariants.{Less, Equal, Greater}
use Rattle.profile_math.specs.Merging.{pick, merged, turn_of}

-- a row that both lists have at one place, or that one of them has first
pub merged-less : {R : Type 0} (place : R → R → Ordering) (plus : R → R → R) (zs : List R) (y : R)
    (ys : List R)
    (d : R) → turn_of place zs y ≡ Less
    → (0 < length zs) × (merged place plus zs (y ∷ ys) ≡ get_or zs 0 d
    ∷ merged place plus (drop 1 zs) (y ∷ ys))
unfolding merged turn_of
merged-less place plus [] y ys d e = cc
merged-less place plus (x ∷ xs) y ys d e = (
  omega arith,
  ap (λ (o : Ordering). pick o (x ∷ merged place plus xs (y ∷ ys))
      (plus x y ∷ merged place plus xs ys)
      (y ∷ merged place plus (x ∷ xs) ys)) e,
)

pub merged-equal : {R : Type 0} (place : R → R → Ordering) (plus : R → R → R) (zs : List R) (y : R)
    (ys : List R)
    (d : R) → turn_of place zs y ≡ Equal
    → (0 < length zs) × (merged place plus zs (y ∷ ys) ≡ plus (get_or zs 0 d) y
    ∷ merged place plus (drop 1 zs) ys)
unfolding merged turn_of
merged-equal place plus [] y ys d e = cc
merged-equal place plus (x ∷ xs) y ys d e = (
  omega arith,
  ap (λ (o : Ordering). pick o (x ∷ merged place plus xs (y ∷ ys))
      (plus x y ∷ merged place plus xs ys)
      (y ∷ merged place plus (x ∷ xs) ys)) e,
)

pub merged-greater : {R : Type 0} (place : R → R → Ordering) (plus : R → R → R) (zs : List R) (y : R)
    (ys : List R)
    → turn_of place zs y ≡ Greater
    → merged place plus zs (y ∷ ys) ≡ y ∷ merged place plus zs ys
unfolding merged turn_of
merged-greater place plus [] y ys e = refl
merged-greater place plus (x ∷ xs) y ys e =
    ap (λ (o : Ordering). pick o (x ∷ merged place plus xs (y ∷ ys)) (plus x y ∷ merged place plus xs ys)
    (y ∷ merged place plus (x ∷ xs) ys)) e

pub merged-none : {R : Type 0} (place : R → R → Ordering) (plus : R → R → R) (zs : List R)
    → merged place plus zs [] ≡ zs
unfolding merged
merged-none place plus [] = refl
merged-none place plus (x ∷ xs) = refl

-- the merged list is no shorter than either
pub merged-longer : {R : Type 0} (place : R → R → Ordering) (plus : R → R → R) (zs ys : List R)
    → length zs ≤ length (merged place plus zs ys)
unfolding merged
merged-longer {R} place plus [] ys = omega arith
merged-longer {R} place plus (x ∷ xs) ys = go ys (λ zs. merged-longer place plus xs zs)
  where
    go : (zs : List R) → ((ws : List R) → length xs ≤ length (merged place plus xs ws))
        → length (x ∷ xs) ≤ length (merged place plus (x ∷ xs) zs)
    go [] h = omega arith
    go (y ∷ ws) h =
        elim (place x y) as (λ o. length (x ∷ xs) ≤ length (pick o (x ∷ merged place plus xs (y ∷ ws))
        (plus x y ∷ merged place plus xs ws) (y ∷ merged place plus (x ∷ xs) ws))) [
          | Less ↦ omega (arith, h (y ∷ ws))
          | Equal ↦ omega (arith, h ws)
          | Greater ↦ omega (arith, go ws h)
        ]

-- the same at places of the two lists, where y is the next row of the second
pub turn_of-at : {R : Type 0} (place : R → R → Ordering) (zs : List R) (at : ℕ) (x y : R) → at < length zs
    → x ≡ get_or zs at x → turn_of place (drop at zs) y ≡ place x y
unfolding turn_of
turn_of-at place zs at x y h e = ap (λ ws. turn_of place ws y) (drop_more zs at x h) ∙ ap (λ w. place w y)
    (sym e)

pub turn_of-past : {R : Type 0} (place : R → R → Ordering) (zs : List R) (at : ℕ) (y : R) → length zs ≤ at
    → turn_of place (drop at zs) y ≡ Greater
unfolding turn_of
turn_of-past place zs at y h = ap (λ ws. turn_of place ws y) (drop_all at zs h)

pub step-less : {R : Type 0} (place : R → R → Ordering) (plus : R → R → R) (zs ys : List R) (at next : ℕ)
    (y d : R)
    → next < length ys → y ≡ get_or ys next y → turn_of place (drop at zs) y ≡ Less
    → (at < length zs) × (merged place plus (drop at zs) (drop next ys) ≡ get_or zs at d
    ∷ merged place plus (drop (at + 1) zs) (drop next ys))
step-less {R} place plus zs ys at next y d h e t =
    let front : drop next ys ≡ y ∷ drop (next + 1) ys = drop_more ys next y h ∙ ap
    (λ (w : R). w ∷ drop (next + 1) ys)
    (sym e) in
    let step = merged-less place plus (drop at zs) y (drop (next + 1) ys) d t in
    let inside : at < length zs = omega (arith, step.0, length-drop at zs) in (
      inside,
      ap (merged place plus (drop at zs)) front ∙ step.1
          ∙ ap (λ (w : R). w ∷ merged place plus (drop 1 (drop at zs)) (y ∷ drop (next + 1) ys))
          (get_or-drop-first zs at d)
          ∙ ap (λ (ws : List R). get_or zs at d ∷ merged place plus ws (y ∷ drop (next + 1) ys))
          (drop-drop 1 at zs)
          ∙ ap (λ (ws : List R). get_or zs at d ∷ merged place plus (drop (at + 1) zs) ws) (sym front),
    )
  where
    get_or-drop-first : (ws : List R) (n : ℕ) (w : R) → get_or (drop n ws) 0 w ≡ get_or ws n w
    get_or-drop-first ws n w = get_or-drop n ws 0 w ∙ ap (λ k. get_or ws k w) (add-zero n)

pub step-equal : {R : Type 0} (place : R → R → Ordering) (plus : R → R → R) (zs ys : List R) (at next : ℕ)
    (y d : R)
    → next < length ys → y ≡ get_or ys next y → turn_of place (drop at zs) y ≡ Equal
    → (at < length zs) × (merged place plus (drop at zs) (drop next ys) ≡ plus (get_or zs at d) y
    ∷ merged place plus (drop (at + 1) zs) (drop (next + 1) ys))
step-equal {R} place plus zs ys at next y d h e t =
    let front : drop next ys ≡ y ∷ drop (next + 1) ys = drop_more ys next y h ∙ ap
    (λ (w : R). w ∷ drop (next + 1) ys)
    (sym e) in
    let step = merged-equal place plus (drop at zs) y (drop (next + 1) ys) d t in
    let inside : at < length zs = omega (arith, step.0, length-drop at zs) in (
      inside,
      ap (merged place plus (drop at zs)) front ∙ step.1
          ∙ ap (λ (w : R). plus w y ∷ merged place plus (drop 1 (drop at zs)) (drop (next + 1) ys))
          (get_or-drop at zs 0 d ∙ ap (λ k. get_or zs k d) (add-zero at))
          ∙ ap (λ (ws : List R). plus (get_or zs at d) y ∷ merged place plus ws (drop (next + 1) ys))
          (drop-drop 1 at zs),
    )

pub step-greater : {R : Type 0} (place : R → R → Ordering) (plus : R → R → R) (zs ys : List R) (at next : ℕ)
    (y : R)
    → next < length ys → y ≡ get_or ys next y → turn_of place (drop at zs) y ≡ Greater
    → merged place plus (drop at zs) (drop next ys) ≡ y ∷ merged place plus (drop at zs) (drop (next + 1) ys)
step-greater {R} place plus zs ys at next y h e t =
    ap (merged place plus (drop at zs)) (drop_more ys next y h ∙ ap (λ (w : R). w ∷ drop (next + 1) ys)
    (sym e))
    ∙ merged-greater place plus (drop at zs) y (drop (next + 1) ys) t

-- The pass that writes the merged rows: those before `spot` are written, those of the first list are read
-- from `at` on, those of the second from `next` on.
pub record Merges {R : Type 0} (place : R → R → Ordering) (plus : R → R → R) (whole zs ys : List R)
    (at next spot : ℕ)
    : Type 0 where
  pub at_in : at ≤ length zs
  pub next_in : next ≤ length ys
  pub spot_in : spot ≤ at
  pub room : length zs ≡ length whole
  pub same : take spot zs ++ merged place plus (drop at zs) (drop next ys) ≡ whole

-- there is room for the next row, and one of the first list isn't written over before it is read
pub merges-room : {R : Type 0} (place : R → R → Ordering) (plus : R → R → R) (whole zs ys : List R)
    (at next spot at' next' : ℕ) (h : R) → Merges place plus whole zs ys at next spot → at' ≤ length zs
    → merged place plus (drop at zs) (drop next ys) ≡ h ∷ merged place plus (drop at' zs) (drop next' ys)
    → (spot < at') × (spot < length zs)
merges-room place plus whole zs ys at next spot at' next' h m k e =
    let far : spot + suc (length (merged place plus (drop at' zs) (drop next' ys))) ≡ length zs =
    ap (λ n. n + suc (length (merged place plus (drop at' zs) (drop next' ys))))
    (sym (length-take-le spot zs (omega (arith, m.spot_in, m.at_in))))
    ∙ sym (length-append (take spot zs) (h ∷ merged place plus (drop at' zs) (drop next' ys)))
    ∙ ap (λ ws. length (take spot zs ++ ws)) (sym e)
    ∙ ap length m.same ∙ sym m.room in
    let long = merged-longer place plus (drop at' zs) (drop next' ys) in
    (omega (arith, far, long, length-drop at' zs), omega (arith, far))

pub merges-step : {R : Type 0} (place : R → R → Ordering) (plus : R → R → R) (whole zs ys : List R)
    (at next spot at' next' : ℕ) (h : R) → Merges place plus whole zs ys at next spot → at' ≤ length zs
    → next' ≤ length ys
    → merged place plus (drop at zs) (drop next ys) ≡ h ∷ merged place plus (drop at' zs) (drop next' ys)
    → Merges place plus whole (set zs spot h) ys at' next' (spot + 1)
merges-step {R} place plus whole zs ys at next spot at' next' h m k l e =
    let room = merges-room place plus whole zs ys at next spot at' next' h m k e in
    record {
      at_in = omega (arith, length-set zs spot h);
      next_in = l;
      spot_in = omega (arith, room.0);
      room = length-set zs spot h ∙ m.room;
      same =
          ap (λ (ws : List R). ws ++ merged place plus (drop at' (set zs spot h)) (drop next' ys))
          (take_more_set zs spot h room.1)
          ∙ ap (λ (ws : List R). (take spot zs ++ h ∷ []) ++ merged place plus ws (drop next' ys))
          (drop-set-lt at' zs spot h room.0)
          ∙ append_assoc (take spot zs) (h ∷ []) (merged place plus (drop at' zs) (drop next' ys))
          ∙ ap (λ (ws : List R). take spot zs ++ ws) (sym e)
          ∙ m.same;
    }

-- the row that is written is one of the merged rows
pub merges-fits : {R : Type 0} (P : R → Type 0) (place : R → R → Ordering) (plus : R → R → R)
    (whole zs ys : List R)
    (at next spot : ℕ) (h : R) (rest : List R) → Merges place plus whole zs ys at next spot → All P whole
    → merged place plus (drop at zs) (drop next ys) ≡ h ∷ rest → P h
merges-fits {R} P place plus whole zs ys at next spot h rest m all e =
    let is : take spot zs ++ h ∷ rest ≡ whole = ap (λ (ws : List R). take spot zs ++ ws) (sym e) ∙ m.same in
    let short : length (take spot zs) ≡ spot = length-take-le spot zs (omega (arith, m.spot_in, m.at_in)) in
    let inside : spot < length whole = omega (
      arith,
      ap length is,
      length-append (take spot zs) (h ∷ rest),
      short,
    ) in
    subst P (ap (λ (ws : List R). get_or ws spot h) (sym is) ∙ get_or_at (take spot zs) h rest h spot short)
    (All-get_or P whole spot h inside all)

pub merges-end : {R : Type 0} (place : R → R → Ordering) (plus : R → R → R) (whole zs ys : List R)
    (at next spot : ℕ)
    → Merges place plus whole zs ys at next spot → length ys ≤ next → zs ≡ whole
merges-end {R} place plus whole zs ys at next spot m k =
    let is : take spot zs ++ drop at zs ≡ whole = ap (λ (ws : List R). take spot zs ++ ws)
    (sym (ap (merged place plus (drop at zs)) (drop_all next ys k) ∙ merged-none place plus (drop at zs))) ∙
    m.same in
    let short : length (take spot zs) ≡ spot = length-take-le spot zs (omega (arith, m.spot_in, m.at_in)) in
    let met : spot ≡ at = omega (
      arith,
      ap length is,
      m.room,
      short,
      length-append (take spot zs)
          (drop at zs),
      length-drop at zs,
      m.at_in,
      m.spot_in,
    ) in
    sym (take-append-drop spot zs) ∙ ap (λ n. take spot zs ++ drop n zs) met ∙ is

-- The pass that counts: so many rows of the second list, up to `next`, weren't in the first up to `at`.
pub record Counts {R : Type 0} (place : R → R → Ordering) (plus : R → R → R) (zs ys : List R)
    (at next missing : ℕ)
    : Type 0 where
  pub at_in : at ≤ length zs
  pub next_in : next ≤ length ys
  pub few : missing ≤ next
  pub same : missing + at + length (merged place plus (drop at zs) (drop next ys)) ≡ length
      (merged place plus zs ys)

pub counts-end : {R : Type 0} (place : R → R → Ordering) (plus : R → R → R) (zs ys : List R)
    (at next missing : ℕ)
    → Counts place plus zs ys at next missing → length ys ≤ next
    → missing + length zs ≡ length (merged place plus zs ys)
counts-end place plus zs ys at next missing c k =
    omega (
      arith,
      c.same,
      c.at_in,
      length-drop at zs,
      ap length (ap (merged place plus (drop at zs)) (drop_all next ys k) ∙ merged-none place plus
          (drop at zs)),
    )

pub counts-less : {R : Type 0} (place : R → R → Ordering) (plus : R → R → R) (zs ys : List R)
    (at next missing : ℕ)
    (y : R) → Counts place plus zs ys at next missing → next < length ys → y ≡ get_or ys next y
    → Less ≡ turn_of place (drop at zs) y → (at < length zs) × Counts place plus zs ys (at + 1) next missing
counts-less place plus zs ys at next missing y c h e t =
    let step = step-less place plus zs ys at next y y h e (sym t) in (
      step.0,
      record {
        at_in = omega (arith, step.0);
        next_in = c.next_in;
        few = c.few;
        same = omega (arith, c.same, ap length step.1);
      },
    )

pub counts-equal : {R : Type 0} (place : R → R → Ordering) (plus : R → R → R) (zs ys : List R)
    (at next missing : ℕ)
    (y : R) → Counts place plus zs ys at next missing → next < length ys → y ≡ get_or ys next y
    → Equal ≡ turn_of place (drop at zs) y → (at < length zs) × Counts place plus zs ys (at + 1) (next + 1)
    missing
counts-equal place plus zs ys at next missing y c h e t =
    let step = step-equal place plus zs ys at next y y h e (sym t) in (
      step.0,
      record {
        at_in = omega (arith, step.0);
        next_in = omega arith;
        few = omega (arith, c.few);
        same = omega (arith, c.same, ap length step.1);
      },
    )

pub counts-greater : {R : Type 0} (place : R → R → Ordering) (plus : R → R → R) (zs ys : List R)
    (at next missing : ℕ) (y : R) → Counts place plus zs ys at next missing → next < length ys
    → y ≡ get_or ys next y → Greater ≡ turn_of place (drop at zs) y
    → Counts place plus zs ys at (next + 1) (missing + 1)
counts-greater place plus zs ys at next missing y c h e t =
    let step = step-greater place plus zs ys at next y h e (sym t) in
    record {
      at_in = c.at_in;
      next_in = omega arith;
      few = omega (arith, c.few);
      same = omega (arith, c.same, ap length step);
    }

-- One turn of the pass, by which row is written. The rows are read in lists that equal the one that is
-- written.
pub writes-less : {R : Type 0} (place : R → R → Ordering) (plus : R → R → R) (whole zs ys ws vs : List R)
    (at next spot : ℕ) (x y : R) → Merges place plus whole zs ys at next spot → ws ≡ zs → vs ≡ zs
    → next < length ys
    → y ≡ get_or ys next y → Less ≡ turn_of place (drop at ws) y → x ≡ get_or vs at x
    → (at < length zs) × (spot < length zs) × ((zs' : List R) (at' next' : ℕ) → zs' ≡ set zs spot x
    → at' ≡ at + 1
    → next' ≡ next → Merges place plus whole zs' ys at' next' (spot + 1))
writes-less {R} place plus whole zs ys ws vs at next spot x y m ew ev h e t k =
    let turn : turn_of place (drop at zs) y ≡ Less = ap (λ (us : List R). turn_of place (drop at us) y)
    (sym ew) ∙ sym t
    in
    let step = step-less place plus zs ys at next y x h e turn in
    let own : merged place plus (drop at zs) (drop next ys) ≡ x ∷ merged place plus (drop (at + 1) zs)
    (drop next ys) =
    step.1 ∙ ap (λ (w : R). w ∷ merged place plus (drop (at + 1) zs) (drop next ys))
    (sym (k ∙ ap (λ (us : List R). get_or us at x) ev)) in (
      step.0,
      (merges-room place plus whole zs ys at next spot (at + 1) next x m (omega (arith, step.0))
          own).1,
      λ zs' at' next' ez ea en. rw (ez, ea, en) (merges-step place plus whole zs ys at next spot (at + 1) next
          x
          m
          (omega (arith, step.0)) m.next_in own),
    )

pub writes-equal : {R : Type 0} (P : R → Type 0) (place : R → R → Ordering) (plus : R → R → R)
    (whole zs ys ws vs : List R) (at next spot : ℕ) (x y : R) → All P whole
    → Merges place plus whole zs ys at next spot → ws ≡ zs → vs ≡ zs → next < length ys
    → y ≡ get_or ys next y → Equal ≡ turn_of place (drop at ws) y → x ≡ get_or vs at x
    → (at < length zs) × (spot < length zs) × P (plus x y) × ((zs' : List R) (at' next' : ℕ)
    → zs' ≡ set zs spot (plus x y) → at' ≡ at + 1 → next' ≡ next + 1
    → Merges place plus whole zs' ys at' next' (spot + 1))
writes-equal {R} P place plus whole zs ys ws vs at next spot x y all m ew ev h e t k =
    let turn : turn_of place (drop at zs) y ≡ Equal = ap (λ (us : List R). turn_of place (drop at us) y)
    (sym ew)
    ∙ sym t in
    let step = step-equal place plus zs ys at next y x h e turn in
    let own : merged place plus (drop at zs) (drop next ys)
    ≡ plus x y ∷ merged place plus (drop (at + 1) zs) (drop (next + 1) ys) =
    step.1 ∙ ap (λ (w : R). plus w y ∷ merged place plus (drop (at + 1) zs) (drop (next + 1) ys))
    (sym (k ∙ ap (λ (us : List R). get_or us at x) ev)) in (
      step.0,
      (merges-room place plus whole zs ys at next spot (at + 1) (next + 1) (plus x y) m
          (omega (arith, step.0))
          own).1,
      merges-fits P place plus whole zs ys at next spot (plus x y)
          (merged place plus (drop (at + 1) zs) (drop (next + 1) ys)) m all own,
      λ zs' at' next' ez ea en. rw (ez, ea, en) (merges-step place plus whole zs ys at next spot (at + 1)
          (next + 1)
          (plus x y) m (omega (arith, step.0)) (omega arith) own),
    )

pub writes-greater : {R : Type 0} (place : R → R → Ordering) (plus : R → R → R) (whole zs ys ws : List R)
    (at next spot : ℕ) (y : R) → Merges place plus whole zs ys at next spot → ws ≡ zs → next < length ys
    → y ≡ get_or ys next y → Greater ≡ turn_of place (drop at ws) y
    → (spot < length zs) × ((zs' : List R) (at' next' : ℕ) → zs' ≡ set zs spot y → at' ≡ at
    → next' ≡ next + 1 → Merges place plus whole zs' ys at' next' (spot + 1))
writes-greater {R} place plus whole zs ys ws at next spot y m ew h e t =
    let turn : turn_of place (drop at zs) y ≡ Greater = ap (λ (us : List R). turn_of place (drop at us) y)
    (sym ew)
    ∙ sym t in
    let own = step-greater place plus zs ys at next y h e turn in (
      (merges-room place plus whole zs ys at next spot at (next + 1) y m m.at_in own).1,
      λ zs' at' next' ez ea en. rw (ez, ea, en) (merges-step place plus whole zs ys at next spot at (next + 1)
          y
          m m.at_in
          (omega arith) own),
    )

-- a row that isn't behind all rows has one at its index
not_past : {R : Type 0} (place : R → R → Ordering) (zs : List R) (y : R) → turn_of place zs y ≢ Greater
    → 0 < length zs
unfolding turn_of
not_past place [] y n = absurd (n refl)
not_past place (x ∷ xs) y n = omega arith

pub inside-less : {R : Type 0} (place : R → R → Ordering) (zs : List R) (at : ℕ) (y : R)
    → Less ≡ turn_of place (drop at zs) y → at < length zs
inside-less place zs at y t = omega (arith, not_past place (drop at zs) y (λ e. cc), length-drop at zs)

pub inside-equal : {R : Type 0} (place : R → R → Ordering) (zs : List R) (at : ℕ) (y : R)
    → Equal ≡ turn_of place (drop at zs) y → at < length zs
inside-equal place zs at y t = omega (arith, not_past place (drop at zs) y (λ e. cc), length-drop at zs)

-- nothing to add
pub merged-empty : {R : Type 0} (place : R → R → Ordering) (plus : R → R → R) (zs ys : List R) → length ys ≡ 0
    → zs ≡ merged place plus zs ys
merged-empty place plus zs ys e = sym (ap (merged place plus zs) (nil_from_length ys e) ∙ merged-none place
    plus zs)
