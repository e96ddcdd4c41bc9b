-- A seat that makes entries, one after another.
use Rattle.std.proofs.Common.{◌≡◌, ℕ, ◌<◌, zero, suc, Bool, List, [], ◌∷◌, ◌++◌, length, map}
use Rattle.std.proofs.Common.{slice_get, Option, Some, refl, sym, ap, ◌∙◌, subst, arith, append_assoc}
use Rattle.std.proofs.Common.{length-append, append-nil}
use Rattle.std.proofs.lemmas.List.{length-map}
use Rattle.list_lemmas.proofs.Booleans.{OnTrue-all, OnTrue-both, OnTrue-by}
use Rattle.list_lemmas.proofs.Positions.{slice_get-more}
use Rattle.hall_history.specs.History.{Entry}
use Rattle.hall_history.specs.Seat.{Seat, Begins, MakesEntry, MakesNoEntry}
use Rattle.trace_session.specs.Replies.{entry_at}
use Rattle.trace_session.specs.Served.{AreAt, Rise, last_place}
use Rattle.trace_session.specs.Serving.{Grows}
use Rattle.trace_session.proofs.Rising.{Rise-push, Rise-append}

-- so does an entry at its place
pub entry_at-more : (history more : List Entry) (k : ℕ) (e : Entry) → entry_at history k ≡ Some e
    → entry_at (history ++ more) k ≡ Some e
entry_at-more history more zero e is = absurd (cc)
entry_at-more history more (suc i) e is = slice_get-more history more i e is

-- and so do the entries of a block
pub AreAt-more : (history more : List Entry) (block : List ℕ) (entries : List Entry)
    → AreAt history block entries → AreAt (history ++ more) block entries
AreAt-more history more [] [] at = refl
AreAt-more history more [] (e ∷ es) at = absurd (cc)
AreAt-more history more (k ∷ ks) [] at = absurd (cc)
AreAt-more history more (k ∷ ks) (e ∷ es) at =
    let here : entry_at history k ≡ Some e = cc in
    let rest : map (entry_at history) ks ≡ map Some es = cc in
    let here' : entry_at (history ++ more) k ≡ Some e = entry_at-more history more k e here in
    let rest' : map (entry_at (history ++ more)) ks ≡ map Some es = AreAt-more history more ks es rest in
    cc

-- one more entry of the block
pub AreAt-push : (history : List Entry) (block : List ℕ) (entries : List Entry) (k : ℕ) (e : Entry)
    → AreAt history block entries → entry_at history k ≡ Some e
    → AreAt history (block ++ k ∷ []) (entries ++ e ∷ [])
AreAt-push history [] [] k e at is = ap (λ (o : Option Entry). o ∷ []) is
AreAt-push history [] (d ∷ ds) k e at is = absurd (cc)
AreAt-push history (j ∷ js) [] k e at is = absurd (cc)
AreAt-push history (j ∷ js) (d ∷ ds) k e at is =
    let here : entry_at history j ≡ Some d = cc in
    let rest : map (entry_at history) js ≡ map Some ds = cc in
    let rest' : map (entry_at history) (js ++ k ∷ []) ≡ map Some (ds ++ e ∷ []) = AreAt-push history js ds k e
    rest is in
    cc

-- two blocks, one behind the other
pub AreAt-append : (history : List Entry) (block block' : List ℕ) (entries entries' : List Entry)
    → AreAt history block entries → AreAt history block' entries'
    → AreAt history (block ++ block') (entries ++ entries')
AreAt-append history [] block' [] entries' at at' = at'
AreAt-append history [] block' (d ∷ ds) entries' at at' = absurd (cc)
AreAt-append history (j ∷ js) block' [] entries' at at' = absurd (cc)
AreAt-append history (j ∷ js) block' (d ∷ ds) entries' at at' =
    let here : entry_at history j ≡ Some d = cc in
    let rest : map (entry_at history) js ≡ map Some ds = cc in
    let rest' : map (entry_at history) (js ++ block') ≡ map Some (ds ++ entries') =
    AreAt-append history js block' ds entries' rest at' in
    cc

-- a block has a place for each entry
pub AreAt-length : (history : List Entry) (block : List ℕ) (entries : List Entry)
    → AreAt history block entries → length block ≡ length entries
AreAt-length history block entries at = sym (length-map block (entry_at history)) ∙ ap length at ∙ length-map
    entries Some

-- the last entry stands at the last place
pub entry_at_last : (before : List Entry) (e : Entry)
    → entry_at (before ++ e ∷ []) (length (before ++ e ∷ [])) ≡ Some e
entry_at_last before e =
    let count : length (before ++ e ∷ []) ≡ suc (length before) = omega (arith, length-append before (e ∷ []))
    in
    rw count (at_end before)
  where
    at_end : (xs : List Entry) → slice_get (xs ++ e ∷ []) (length xs) ≡ Some e
    at_end [] = refl
    at_end (x ∷ xs) = at_end xs

pub entry_at_place : (before history : List Entry) (e : Entry) (k : ℕ) → history ≡ before ++ e ∷ []
    → k ≡ length history → entry_at history k ≡ Some e
entry_at_place before history e k is last =
    let at : entry_at (before ++ e ∷ []) (length (before ++ e ∷ [])) ≡ Some e = entry_at_last before e in
    rw (last, is) at

pub last_place-push : (block : List ℕ) (k : ℕ) → last_place (block ++ k ∷ []) ≡ k
last_place-push [] k = refl
last_place-push (j ∷ []) k = refl
last_place-push (j ∷ i ∷ block) k = last_place-push (i ∷ block) k

pub Begins-trans : {X : Type 0} (xs ys zs : List X) → Begins xs ys → Begins ys zs → Begins xs zs
Begins-trans xs ys zs a b = (a.0 ++ b.0, b.1 ∙ ap (λ l. l ++ b.0) a.1 ∙ append_assoc xs a.0 b.0)

-- nothing was made
pub grows_none : (alone : Bool) (s : Seat) → Grows alone s s [] []
grows_none alone s = record {
  at = refl;
  rises = omega arith;
  places = sym (append-nil s.places);
  seen = ([], sym (append-nil s.seen));
  lone = OnTrue-all alone (sym (append-nil s.seen));
}

-- one entry more
pub Grows-more : (alone : Bool) (a b c : Seat) (block : List ℕ) (entries : List Entry) (e : Entry) (k : ℕ)
    → Grows alone a b block entries → MakesEntry alone b c e k
    → Grows alone a c (block ++ k ∷ []) (entries ++ e ∷ [])
Grows-more alone a b c block entries e k g m =
    let stays : AreAt m.before block entries = subst (λ (h : List Entry). AreAt h block entries)
    (sym m.grown.1) (AreAt-more b.seen m.grown.0 block entries g.at) in
    let kept : AreAt c.seen block entries = subst (λ (h : List Entry). AreAt h block entries) (sym m.seen)
    (AreAt-more m.before (e ∷ []) block entries stays) in
    let last : entry_at c.seen k ≡ Some e = entry_at_place m.before c.seen e k m.seen m.last in
    let below : length b.seen < k = omega (
      arith,
      m.last,
      ap length m.seen,
      length-append m.before (e ∷ []),
      ap length m.grown.1,
      length-append b.seen m.grown.0,
    ) in
    record {
      at = AreAt-push c.seen block entries k e kept last;
      rises = subst (λ (n : ℕ). Rise (length a.seen) (block ++ k ∷ []) n) m.last
          (Rise-push (length a.seen) (length b.seen) block k g.rises below);
      places = m.places ∙ ap (λ (l : List ℕ). l ++ k ∷ []) g.places ∙ append_assoc a.places block (k ∷ []);
      seen = Begins-trans a.seen b.seen c.seen g.seen
          (Begins-trans b.seen m.before c.seen m.grown (e ∷ [], m.seen));
      lone = OnTrue-both alone (λ (old : b.seen ≡ a.seen ++ entries) (same : m.before ≡ b.seen).
          m.seen ∙ ap (λ (l : List Entry). l ++ e ∷ []) (same ∙ old) ∙ append_assoc a.seen entries (e ∷ []))
          g.lone m.lone;
    }

-- the seat is the same, but for its pins and passes
pub Grows-still : (alone : Bool) (a b c : Seat) (block : List ℕ) (entries : List Entry)
    → Grows alone a b block entries → MakesNoEntry b c → Grows alone a c block entries
Grows-still alone a b c block entries g m = record {
  at = rw m.seen g.at;
  rises = subst (λ (h : List Entry). Rise (length a.seen) block (length h)) (sym m.seen) g.rises;
  places = m.places ∙ g.places;
  seen = (g.seen.0, m.seen ∙ g.seen.1);
  lone = OnTrue-by alone (λ (old : b.seen ≡ a.seen ++ entries). m.seen ∙ old) g.lone;
}

-- more entries
pub Grows-trans : (alone : Bool) (a b c : Seat) (block block' : List ℕ) (entries entries' : List Entry)
    → Grows alone a b block entries → Grows alone b c block' entries'
    → Grows alone a c (block ++ block') (entries ++ entries')
Grows-trans alone a b c block block' entries entries' g h =
    let kept : AreAt c.seen block entries = subst (λ (l : List Entry). AreAt l block entries) (sym h.seen.1)
    (AreAt-more b.seen h.seen.0 block entries g.at) in
    record {
      at = AreAt-append c.seen block block' entries entries' kept h.at;
      rises = Rise-append (length a.seen) (length b.seen) (length c.seen) block block' g.rises h.rises;
      places = h.places ∙ ap (λ (l : List ℕ). l ++ block') g.places ∙ append_assoc a.places block block';
      seen = Begins-trans a.seen b.seen c.seen g.seen h.seen;
      lone = OnTrue-both alone (λ (old : b.seen ≡ a.seen ++ entries) (new : c.seen ≡ b.seen ++ entries').
          new ∙ ap (λ (l : List Entry). l ++ entries') old ∙ append_assoc a.seen entries entries') g.lone
          h.lone;
    }

-- one entry alone
pub Grows-one : (alone : Bool) (a b : Seat) (e : Entry) (k : ℕ) → MakesEntry alone a b e k
    → Grows alone a b (k ∷ []) (e ∷ [])
Grows-one alone a b e k m = Grows-more alone a a b [] [] e k (grows_none alone a) m
