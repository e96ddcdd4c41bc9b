-- A registry that stands for a history still does after a track was published.
use Rattle.std.proofs.Common.{◌≡◌, ℕ, ◌+◌, ◌-◌, ◌<◌, inl, inr, false, ◌&&◌, cond, eqb, List, [], ◌∷◌}
use Rattle.std.proofs.Common.{◌++◌, length, take, set, None, Some, refl, sym, ap, ap₂, ◌∙◌, subst, arith}
use Rattle.std.proofs.Common.{length-append, take_all, IsTrue}
use Rattle.std.specs.Prelude.{slice_get}
use Rattle.std.specs.Option.{option_or}
use Rattle.std.proofs.lemmas.Bool.{eq-eqb}
use Rattle.std.proofs.lemmas.Bool.Decides.{eqb_tells}
use Rattle.std.proofs.lemmas.List.{length-set}
use Rattle.std.proofs.lemmas.Option.{same_Some, slice_get_within}
use Rattle.std.proofs.Math.Seq.{take-append_seam}
use Rattle.list_lemmas.proofs.All.{All-found}
use Rattle.list_lemmas.proofs.Filters.{count-filled}
use Rattle.list_lemmas.proofs.Options.{or_None}
use Rattle.list_lemmas.proofs.Positions.{slice_get-set_other, slice_get-set_within}
use Rattle.hall_history.proofs.HistoryMore.{count_more, info_more, published_more}
use Rattle.hall_history.specs.History.{EntryOf, Published, info_of, is_loading, published_count, published_of}
use Rattle.registry_core.proofs.KeepsMore.{KeepsTrack-more}
use Rattle.registry_core.proofs.KeptTraces.{kept_id}
use Rattle.registry_core.proofs.LawEntries.{loading_published}
use Rattle.registry_core.proofs.SoundLoads.{promise-published}
use Rattle.registry_core.proofs.StandsPromised.{IsPromised, IsPromised-from, stands-promised}
use Rattle.registry_core.specs.Loading.{AwaitsTrack, with_published}
use Rattle.registry_core.specs.Registry.{IsSoundRegistry, RegistryValue, has_id, kept_trace}
use Rattle.registry_core.specs.Standing.{IsPublishedBy, KeepsTrace, KeepsTrack, RootsAre, StandsFor, Start}
use Rattle.registry_core.specs.Trace.{IsSoundTrace, Trace, with_root}
use Rattle.registry_core.specs.declared.track_root.TrackRoot.{TrackRoot}

-- what is told of the trace after the publication
record IsOneMore {X : Type 0} (entries : List (EntryOf X)) (id track : ℕ) (what : X) : Type 0 where
  info : info_of (entries ++ Published id track what ∷ []) id ≡ info_of entries id
  count : published_count (entries ++ Published id track what ∷ []) id ≡ published_count entries id + 1
  this : published_of entries id track ≡ None
      → published_of (entries ++ Published id track what ∷ []) id track ≡ Some what
  others : (other : ℕ) → eqb track other ≡ false
      → published_of (entries ++ Published id track what ∷ []) id other ≡ published_of entries id other
  loading : is_loading (entries ++ Published id track what ∷ []) id ≡ is_loading entries id

-- all of that is told
one_more : {X : Type 0} (entries : List (EntryOf X)) (id track : ℕ) (what : X)
    → IsOneMore entries id track what
one_more entries id track what =
    let this = eq-eqb id id refl in
    record {
      info = info_more entries (Published id track what) id ∙ or_None _;
      count = count_more entries (Published id track what) id ∙ ap
          (λ b. published_count entries id + cond b 1 0) this;
      this = λ none. published_more entries (Published id track what) id track ∙ ap₂
          (λ o b. option_or o (cond (b && eqb track track) (Some what) None)) none this ∙ ap
          (λ b. cond b (Some what) None) (eq-eqb track track refl);
      others = λ other ne. published_more entries (Published id track what) id other ∙ ap₂
          (λ a b. option_or (published_of entries id other) (cond (a && b) (Some what) None)) this ne ∙
          or_None _;
      loading = loading_published entries id track what id;
    }

-- it was published by this entry
published_here : {X : Type 0} (entries : List (EntryOf X)) (id track n : ℕ) (what : X)
    → published_of entries id track ≡ None → n ≡ length entries + 1
    → IsPublishedBy (entries ++ Published id track what ∷ []) id track n what
published_here entries id track n what none last =
    let new = entries ++ Published id track what ∷ [] in
    let count : length new ≡ length entries + 1 = length-append entries (Published id track what ∷ []) in
    let before : n - 1 ≡ length entries = omega arith in
    record {
      least = omega arith;
      most = omega arith;
      before = ap (λ es. published_of es id track) (ap (λ k. take k new) before ∙
          take-append_seam entries (Published id track what ∷ [])) ∙ none;
      from = ap (λ es. published_of es id track) (take_all n new (omega arith)) ∙
          (one_more entries id track what).this none;
    }

-- the trace keeps what is told of it
keeps_published : {X : Type 0} (are : RootsAre X) (start : Start) (entries : List (EntryOf X)) (t : Trace)
    (track : ℕ) (root : TrackRoot) (what : X) → slice_get t.tracks track ≡ Some None
    → are root.start root.root what → root.place ≡ start.place + length entries + 1
    → KeepsTrace are start entries t
    → KeepsTrace are start (entries ++ Published t.id track what ∷ []) (with_root track root t)
keeps_published are start entries t track root what empty is place keeps =
    let id = t.id in
    let new = entries ++ Published id track what ∷ [] in
    let more = one_more entries id track what in
    let none : published_of entries id track ≡ None = keeps.tracks track None empty in
    let within : track < length t.tracks = slice_get_within t.tracks track None empty in
    let this : KeepsTrack are start new id track (Some root) =
    let n = root.place - start.place in
    (what, is, omega arith, published_here entries id track n what none (omega arith)) in
    record {
      info = more.info ∙ keeps.info;
      loading = keeps.loading ∙ sym more.loading;
      count = omega (arith, (count-filled t.tracks track root empty).0, keeps.count, more.count);
      tracks = λ other slot at.
          elim (eqb_tells track other) [
            | inl same ↦
                let filled : Some root ≡ slot = same_Some (Some root) slot
                (sym (slice_get-set_within t.tracks track (Some root) within) ∙
                ap (slice_get (set t.tracks track (Some root))) same.1 ∙ at) in
                subst (λ i. KeepsTrack are start new id i slot) same.1
                (subst (KeepsTrack are start new id track) filled this)
            | inr off ↦ KeepsTrack-more are start entries (Published id track what) id other slot
                (more.others other off.0)
                (keeps.tracks other slot (sym (slice_get-set_other t.tracks track other (Some root) off.1)
                ∙ at))
          ];
    }

-- a publication is promised
published_promised : {X : Type 0} (are : RootsAre X) (start : Start) (r : RegistryValue)
    (entries : List (EntryOf X)) (t : Trace) (track from root : ℕ) (what : X) → StandsFor are start r entries
    → kept_trace r.traces t.id ≡ Some t → IsTrue t.loading → slice_get t.tracks track ≡ Some None
    → are from root what
    → IsPromised are start entries (Published t.id track what)
    (with_root track (record { start = from; root = root; place = r.place + 1 })) t
published_promised are start r entries t track from root what was kept loading empty is =
    let id = t.id in
    let made : TrackRoot = record { start = from; root = root; place = r.place + 1 } in
    let slots = (All-found (IsSoundTrace r.place) (has_id id) r.traces t was.sound.each kept).tracks in
    IsPromised-from are start r entries (Published id track what) (with_root track made) t was kept loading
    refl refl (λ other. refl) (λ t. refl) (λ t. refl) (promise-published track made t loading empty)
    (length-set t.tracks track (Some made) ∙ slots)
    (keeps_published are start entries t track made what empty is (omega (arith, was.place))
    (was.traces id t kept))

-- a track more is published
pub stands-published : {X : Type 0} (are : RootsAre X) (start : Start) (r : RegistryValue)
    (entries : List (EntryOf X)) (id track from root : ℕ) (what : X) → StandsFor are start r entries
    → AwaitsTrack r id track → are from root what → IsSoundRegistry (with_published r id track from root)
    → StandsFor are start (with_published r id track from root) (entries ++ Published id track what ∷ [])
stands-published are start r entries id track from root what was (t, kept, loading, empty) is sound =
    let here : id ≡ t.id = sym (kept_id r.traces id t kept) in
    let f = with_root track (record { start = from; root = root; place = r.place + 1 }) in
    let promised = published_promised are start r entries t track from root what was
    (subst (λ i. kept_trace r.traces i ≡ Some t) here kept) loading empty is in
    stands-promised are start r entries (Published id track what) f t was kept
    (subst (λ i. IsPromised are start entries (Published i track what) f t) (sym here) promised) sound
