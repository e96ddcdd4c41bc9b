-- The ends of the containers of a canonical text, and that no line that destroys one is refused.
use Rattle.std.proofs.Common.{◌≡◌, ℕ, suc, ◌+◌, ◌<◌, ◌≤◌, ◌==◌, List, [], ◌∷◌, ◌++◌, drop, filter}
use Rattle.std.proofs.Common.{length, map, slice_get, Bool, true, false, cond, Some, None}
use Rattle.std.proofs.Common.{refl, sym, ◌∙◌, ap, subst, arith, ◌&&◌}
use Rattle.std.specs.List.{All, AllByRecursion, last_or}
use Rattle.std.specs.Option.{option_and_then, option_map, option_map_or, option_or}
use Rattle.std.proofs.lemmas.Bool.{eqb-false, eqb-true, le-ltb, ne_eqb}
use Rattle.std.proofs.lemmas.List.{length_push}
use Rattle.std.proofs.lemmas.List.Elements.{All-from_recursion, recursion_from_All}
use Rattle.std.proofs.lemmas.Option.{same_Some, slice_get_within}
use Rattle.list_lemmas.proofs.Each.{all_append, all_at, all_mapped}
use Rattle.list_lemmas.proofs.Maps.{enumerate-item}
use Rattle.list_lemmas.proofs.Options.{cond_unless, option_map-or_stays}
use Rattle.list_lemmas.proofs.Sums.{greatest_within}
use Rattle.trace_base.specs.declared.names.Container.{Container}
use Rattle.trace_base.specs.declared.names.Track.{Track}
use Rattle.trace_base.specs.declared.text.TraceText.{TraceText}
use Rattle.paje_defs.specs.declared.role.Role.TheVariants as roles
use Rattle.paje_defs.specs.Refusals.{Placed, placed_behind, when}
use Rattle.paje_lines.specs.declared.model_fault.ModelFault.TheVariants.{TimeBack, WrongKind}
use Rattle.paje_lines.specs.Containers.{container_named, container_start, destruction}
use Rattle.paje_lines.specs.Containers.{ends_container}
use Rattle.paje_lines.specs.EventLine.{EventLine, creates, destroys, is_state_event, text_of}
use Rattle.paje_lines.specs.Examples.{from}
use Rattle.paje_lines.specs.Found.{distinct_by}
use Rattle.paje_lines.specs.Reasons.{back_reason, container_reason, destroyed_reason, destruction_reason}
use Rattle.paje_lines.specs.Reasons.{event_reason, event_reason_at}
use Rattle.paje_lines.specs.States.{container_tracks, is_on, is_same, last_time, latest, states_of, track_at}
use Rattle.paje_lines.specs.States.{track_named, tracks_in}
use Rattle.paje_print.specs.Canonical.{IsCanonical, StartsBeforeItsEnd}
use Rattle.paje_print.specs.CanonicalText.{placed_containers}
use Rattle.paje_print.specs.WrittenNumbers.{container_alias}
use Rattle.paje_lines.proofs.Containers.{destruction-more}
use Rattle.paje_read_back.specs.ToldLines.{declarations_told, destroy_told, ends_told}
use Rattle.paje_read_back.proofs.DeclaredContainers.{containers-same, of-container}
use Rattle.paje_read_back.proofs.DeclaredLines.{NoneIs, Step, chosen-same, none-found}
use Rattle.paje_read_back.proofs.DeclaredLines.{told-same, walk}
use Rattle.paje_read_back.proofs.DeclaredUnrefused.{Declares, Unrefused, declarations-each, declared}
use Rattle.paje_read_back.proofs.FindsNames.{EndsInTime}
use Rattle.paje_read_back.proofs.LineKinds.{IsLinkLine, IsStateLine, links-declare_nothing}
use Rattle.paje_read_back.proofs.LineKinds.{links-destroy_none, links-no_states, states-declare_nothing}
use Rattle.paje_read_back.proofs.LineKinds.{states-destroy_none}
use Rattle.paje_read_back.proofs.NamesFound.{container-at, declares-kept, no-container, start-found}
use Rattle.paje_read_back.proofs.NoReasons.{all_none}

-- ---- the last times of the tracks

-- no state event of a track comes behind the end of its container
abbrev pub LastTimesWithin : TraceText → List EventLine → Type 0
LastTimesWithin t before = All (EndsInTime t before) (tracks_in before)

-- lines that are no state events and create no container
last_time-same : (before more : List EventLine) (track : Track) → NoneIs (λ l. is_state_event l.event) more
    → NoneIs (λ l. creates l.event) more → last_time (before ++ more) track ≡ last_time before track
last_time-same before more track states containers =
    ap (λ ps. option_map_or (λ p. p.line.time) (last_or None ps)
    (container_start (before ++ more) track.container))
    (chosen-same (is_on track) (λ l. is_state_event l.event)
    (λ before line never. ap (λ o. option_map_or (is_same track) o false)
    (cond_unless (is_state_event line.event) (track_named before line) never)) before more states)
    ∙ ap (λ cs. option_map_or (λ p. p.line.time) (last_or None (states_of before track))
    (option_map_or (λ c. c.start) (slice_get cs track.container) 0)) (containers-same before more containers)

times-kept : (t : TraceText) (before more : List EventLine) → NoneIs (λ l. is_state_event l.event) more
    → NoneIs (λ l. creates l.event) more → AllByRecursion (EndsInTime t before) (tracks_in before)
    → AllByRecursion (EndsInTime t (before ++ more)) (tracks_in (before ++ more))
times-kept t before more states containers times =
    subst (AllByRecursion (EndsInTime t (before ++ more)))
    (sym (ap (distinct_by is_same) (told-same track_at (λ l. is_state_event l.event)
    (λ before line never. cond_unless (is_state_event line.event) (track_named before line) never)
    before more states)))
    (all_mapped (EndsInTime t before) (EndsInTime t (before ++ more))
    (λ track ends c at. subst (λ n. n ≤ c.end) (sym (last_time-same before more track states containers))
    (ends c at)) (tracks_in before) times)

-- ---- the latest that happened in a container

of-one : (f : Track → ℕ) (k end : ℕ) (ts : List Track)
    → AllByRecursion (λ track. track.container ≡ k → f track ≤ end) ts
    → AllByRecursion (λ n. n ≤ end) (map f (filter (λ track. track.container == k) ts))
of-one f k end [] all = tt
of-one f k end (track ∷ ts) all = by (track.container == k) refl (of-one f k end ts all.1)
  where
    by : (b : Bool) → (track.container == k) ≡ b
        → AllByRecursion (λ n. n ≤ end) (map f (filter (λ track. track.container == k) ts))
        → AllByRecursion (λ n. n ≤ end) (map f (cond b (track ∷ filter (λ track. track.container == k) ts)
        (filter (λ track. track.container == k) ts)))
    by true e later = (all.0 (eqb-true track.container k e), later)
    by false e later = later

latest-within : (t : TraceText) (before : List EventLine) (k : ℕ) (c : Container) → IsCanonical t
    → Declares t before → AllByRecursion (EndsInTime t before) (tracks_in before)
    → slice_get t.names.containers k ≡ Some c → latest before k ≤ c.end
latest-within t before k c is are times at =
    let start = start-found t before is are k c at in
    let interval : StartsBeforeItsEnd c = all_at StartsBeforeItsEnd t.names.containers k c
    (recursion_from_All StartsBeforeItsEnd t.names.containers is.intervals) at in
    greatest_within (container_start before k) c.end (map (last_time before) (container_tracks before k))
    (omega (arith, start, interval))
    (of-one (last_time before) k c.end (tracks_in before)
    (all_mapped (EndsInTime t before) (λ track. track.container ≡ k → last_time before track ≤ c.end)
    (λ track ends same. ends c (ap (slice_get t.names.containers) same ∙ at)) (tracks_in before) times))

-- ---- the ends so far

-- behind the lines that destroy these containers, each ended when the line says, and no other did
pub record EndsAre (t : TraceText) (done : List (ℕ × Container)) (before : List EventLine) : Type 0 where
  pub declares : Declares t before
  pub ended : (i : ℕ) (c : Container) → slice_get t.names.containers i ≡ Some c → 0 < i → i < length done + 1
      → option_map (λ l. l.time) (destruction before i) ≡ Some c.end
  pub root : destruction before 0 ≡ None
  pub there : (i : ℕ) → length done < i → destruction before i ≡ None

-- the line destroys the container that it names
ends-this : (before : List EventLine) (p : ℕ × Container) (n i : ℕ)
    → container_named before (container_alias p.0) ≡ Some p.0
    → ends_container i (record { before = before; line = destroy_told p n }) ≡ (p.0 == i)
ends-this before p n i named = ap (λ o. option_map_or (λ c. c == i) o false) named

destroyed : (before : List EventLine) (p : ℕ × Container) (n i : ℕ)
    → container_named before (container_alias p.0) ≡ Some p.0 → destruction before i ≡ None
    → destruction (before ++ destroy_told p n ∷ []) i ≡ cond (p.0 == i) (Some (destroy_told p n)) None
destroyed before p n i named none = destruction-more before (destroy_told p n) i
    ∙ (ap (λ b. option_or (destruction before i) (cond b (Some (destroy_told p n)) None))
    (ends-this before p n i named)
    ∙ ap (λ o. option_or o (cond (p.0 == i) (Some (destroy_told p n)) None)) none)

not_destroyed : (before : List EventLine) (p : ℕ × Container) (n i : ℕ)
    → container_named before (container_alias p.0) ≡ Some p.0 → destruction before i ≡ None
    → (p.0 ≡ i → ⊥) → destruction (before ++ destroy_told p n ∷ []) i ≡ None
not_destroyed before p n i named none other = destroyed before p n i named none
    ∙ ap (λ b. cond b (Some (destroy_told p n)) None) (ne_eqb p.0 i other)

ended-more : (t : TraceText) (done : List (ℕ × Container)) (p : ℕ × Container) (n : ℕ)
    (before : List EventLine) → EndsAre t done before → p.0 ≡ 1 + length done
    → slice_get t.names.containers p.0 ≡ Some p.1
    → container_named before (container_alias p.0) ≡ Some p.0 → (i : ℕ) (c : Container)
    → slice_get t.names.containers i ≡ Some c → 0 < i → i < length done + 1 + 1
    → option_map (λ l. l.time) (destruction (before ++ destroy_told p n ∷ []) i) ≡ Some c.end
ended-more t done p n before are at item named i c is above below = by (p.0 == i) refl
  where
    by : (b : Bool) → (p.0 == i) ≡ b
        → option_map (λ l. l.time) (destruction (before ++ destroy_told p n ∷ []) i) ≡ Some c.end
    by true e =
        let same : p.0 ≡ i = eqb-true p.0 i e in
        let container : p.1 ≡ c = same_Some p.1 c (sym item
        ∙ (ap (slice_get t.names.containers) same ∙ is)) in
        ap (option_map (λ l. l.time)) (destroyed before p n i named (are.there i (omega (arith, at, same))))
        ∙ (ap (λ b. option_map (λ l. l.time) (cond b (Some (destroy_told p n)) None)) e
        ∙ ap (λ c. Some c.end) container)
    by false e =
        ap (option_map (λ l. l.time)) (destruction-more before (destroy_told p n) i)
        ∙ option_map-or_stays (λ l. l.time) (destruction before i) _ c.end
        (are.ended i c is above (earlier (eqb-false p.0 i e)))
      where
        earlier : (p.0 ≡ i → ⊥) → i < length done + 1
        earlier other = omega (arith, at, below, other)

-- the items of the list of placed containers are those of the trace
behind-root : (cs : List Container) (k i : ℕ) → i ≡ 1 + k → slice_get (drop 1 cs) k ≡ slice_get cs i
behind-root [] k i is = refl
behind-root (c ∷ cs) k i is = ap (slice_get (c ∷ cs)) (next k i is)
  where
    next : (k i : ℕ) → i ≡ 1 + k → suc k ≡ i
    next k i is = omega (arith, is)

record IsItem (t : TraceText) (done : List (ℕ × Container)) (p : ℕ × Container) : Type 0 where
  at : p.0 ≡ 1 + length done
  container : slice_get t.names.containers p.0 ≡ Some p.1

is-item : (t : TraceText) (done left : List (ℕ × Container)) (p : ℕ × Container)
    → done ++ p ∷ left ≡ placed_containers t → IsItem t done p
is-item t done left p is =
    let item = enumerate-item done left p 1 (drop 1 t.names.containers) is in
    record {
      at = item.0;
      container = sym (behind-root t.names.containers (length done) p.0 item.0) ∙ item.1;
    }

named-item : (t : TraceText) (before : List EventLine) (done : List (ℕ × Container)) (p : ℕ × Container)
    → IsCanonical t → Declares t before → IsItem t done p
    → container_named before (container_alias p.0) ≡ Some p.0
named-item t before done p is are item = container-at t before p.0 is are
    (slice_get_within t.names.containers p.0 p.1 item.container)

ends-more : (t : TraceText) → IsCanonical t → (done : List (ℕ × Container)) (p : ℕ × Container) (n : ℕ)
    (before : List EventLine) → IsItem t done p → EndsAre t done before
    → EndsAre t (done ++ p ∷ []) (before ++ destroy_told p n ∷ [])
ends-more t is done p n before item are =
    let named = named-item t before done p is are.declares item in
    let at = item.at in
    let count = length_push done p in
    record {
      declares = declares-kept t before (destroy_told p n ∷ []) (refl, tt) are.declares;
      ended = λ i c found above below. ended-more t done p n before are item.at item.container named i c found
          above (omega (arith, below, count));
      root = not_destroyed before p n 0 named are.root (λ same. omega (arith, at, same));
      there = λ i above. not_destroyed before p n i named (are.there i (omega (arith, above, count)))
          (λ same. omega (arith, at, same, above, count));
    }

-- ---- none is refused

destruction_unrefused : (t : TraceText) → IsCanonical t → (done : List (ℕ × Container)) (p : ℕ × Container)
    (n : ℕ) (before : List EventLine) → IsItem t done p → EndsAre t done before
    → AllByRecursion (EndsInTime t before) (tracks_in before)
    → destruction_reason before (destroy_told p n) p.0 ≡ None
destruction_unrefused t is done p n before item are times =
    let at = item.at in
    all_none (when (p.0 == 0) (WrongKind roles.Name) ∷ destroyed_reason (destruction before p.0)
    ∷ back_reason p.1.end (latest before p.0) ∷ []) (
      ap (λ b. when b (WrongKind roles.Name)) (ne_eqb p.0 0 (λ same. omega (arith, at, same))),
      (
        ap destroyed_reason (are.there p.0 (omega (arith, at))),
        (
          ap (λ b. when b (TimeBack (latest before p.0))) (le-ltb p.1.end (latest before p.0)
              (latest-within t before p.0 p.1 is are.declares times item.container)),
          tt,
        ),
      ),
    )

end_unrefused : (t : TraceText) → IsCanonical t → (done : List (ℕ × Container)) (p : ℕ × Container)
    (n : ℕ) (before : List EventLine) → IsItem t done p → EndsAre t done before
    → AllByRecursion (EndsInTime t before) (tracks_in before)
    → event_reason before (destroy_told p n) ≡ None
end_unrefused t is done p n before item are times =
    let named = named-item t before done p is are.declares item in
    all_none (container_reason before (destroy_told p n) roles.Name
    ∷ option_and_then (destruction_reason before (destroy_told p n))
    (container_named before (container_alias p.0)) ∷ []) (
      of-container before (destroy_told p n) roles.Name p.0 named,
      (
        ap (option_and_then (destruction_reason before (destroy_told p n))) named
            ∙ destruction_unrefused t is done p n before item are times,
        tt,
      ),
    )

-- ---- all of them

abbrev Nothing : Placed EventLine → Type 0
Nothing p = Unit {0}

ends_step : (t : TraceText) → IsCanonical t → Step destroy_told (EndsAre t) Nothing (placed_containers t)
ends_step t is done p left n before at are =
    (tt, ends-more t is done p n before (is-item t done left p at) are)

-- the ends, and the last times of the tracks
abbrev EndAndTimes : TraceText → List (ℕ × Container) → List EventLine → Type 0
EndAndTimes t done before = EndsAre t done before × AllByRecursion (EndsInTime t before) (tracks_in before)

unrefused_step : (t : TraceText) → IsCanonical t
    → Step destroy_told (EndAndTimes t) Unrefused (placed_containers t)
unrefused_step t is done p left n before at (are, times) =
    let item = is-item t done left p at in (
      end_unrefused t is done p n before item are times,
      (
        ends-more t is done p n before item are,
        times-kept t before (destroy_told p n ∷ []) (refl, tt) (refl, tt) times,
      ),
    )

-- behind the declarations, the state events and the link events
ends-first : (t : TraceText) → IsCanonical t → (states links : List EventLine)
    → AllByRecursion IsStateLine states → AllByRecursion IsLinkLine links
    → EndsAre t [] (declarations_told t ++ states ++ links)
ends-first t is states links are_states are_links =
    let none : NoneIs (λ l. destroys l.event) (declarations_told t ++ states ++ links) =
    all_append (λ l. destroys l.event ≡ false) (declarations_told t ++ states) links
    (all_append (λ l. destroys l.event ≡ false) (declarations_told t) states
    (declarations-each t (λ l. destroys l.event ≡ false) (λ n. refl) (λ k n. refl) (λ k n. refl)
    (λ c n. refl)) (states-destroy_none states are_states)) (links-destroy_none links are_links) in
    let gone = λ (i : ℕ). ap (option_map (λ (p : Placed EventLine). p.line)) (none-found (ends_container i)
    (λ l. destroys l.event)
    (λ before line never. ap (λ b. b && option_map_or (λ c. c == i)
    (container_named before (text_of line roles.Name)) false) never) []
    (declarations_told t ++ states ++ links) none) in
    record {
      declares = declares-kept t (declarations_told t ++ states) links
          (links-declare_nothing links are_links)
          (declares-kept t (declarations_told t) states (states-declare_nothing states are_states)
          (declared t is).declares);
      ended = λ i c at above below. absurd (omega (arith, above, below));
      root = gone 0;
      there = λ i above. gone i;
    }

pub ends-walked : (t : TraceText) → IsCanonical t → (states links : List EventLine)
    → AllByRecursion IsStateLine states → AllByRecursion IsLinkLine links → (n : ℕ)
    → EndsAre t (placed_containers t) (declarations_told t ++ states ++ links ++ from n (ends_told t))
ends-walked t is states links are_states are_links n =
    (walk destroy_told (EndsAre t) Nothing (placed_containers t) (ends_step t is) n
    (declarations_told t ++ states ++ links) (ends-first t is states links are_states are_links)).1

-- no line that destroys a container is refused behind the link events, where no state event comes too late
pub ends-unrefused : (t : TraceText) → IsCanonical t → (states links : List EventLine)
    → All IsStateLine states → All IsLinkLine links → LastTimesWithin t (declarations_told t ++ states)
    → (n : ℕ) → All (λ p. event_reason_at p ≡ None) (placed_behind (declarations_told t ++ states ++ links)
    (from n (ends_told t)))
ends-unrefused t is states links are_states are_links times n =
    let each_state = recursion_from_All IsStateLine states are_states in
    let each_link = recursion_from_All IsLinkLine links are_links in
    All-from_recursion Unrefused
    (placed_behind (declarations_told t ++ states ++ links) (from n (ends_told t)))
    (walk destroy_told (EndAndTimes t) Unrefused (placed_containers t) (unrefused_step t is) n
    (declarations_told t ++ states ++ links) (
      ends-first t is states links each_state each_link,
      times-kept t (declarations_told t ++ states) links (links-no_states links each_link)
          (no-container links (links-declare_nothing links each_link))
          (recursion_from_All (EndsInTime t (declarations_told t ++ states))
          (tracks_in (declarations_told t ++ states)) times),
    )).0
