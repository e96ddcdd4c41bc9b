-- What a question for traces, and traces that are given back, leave of a sound registry.
use Rattle.std.proofs.Common.{◌≡◌, ℕ, ◌+◌, ◌-◌, ◌<◌, ◌≤◌, true, false, not, cond, List}
use Rattle.std.proofs.Common.{filter, length, get_or, None, Some, nat_cmp, arith, sym, ◌∙◌, subst}
use Rattle.std.specs.List.Sorted.{IsStrictlySortedBy}
use Rattle.std.proofs.lemmas.List.Elements.{All-filter, All-map, filter_passes}
use Rattle.list_lemmas.proofs.All.{All-found}
use Rattle.list_lemmas.proofs.Numbers.{pos_unless_both}
use Rattle.hall_history.specs.declared.asks.AskIds.{AskIds}
use Rattle.trace_base.specs.declared.limits.TheConstants.{MAX_TRACKS}
use Rattle.registry_core.specs.Asking.{AreUsed, after_unpin, first_unknown, times_asked, with_users}
use Rattle.registry_core.specs.Asking.{without_users}
use Rattle.registry_core.specs.Registry.{FitsPlaces, IsSoundRegistry, RegistryValue, after_entry, has_id}
use Rattle.registry_core.specs.Registry.{is_open_trace, kept_trace, open_count}
use Rattle.registry_core.specs.Trace.{IsSoundTrace, Trace, is_over, promise_of, used_less, used_more}
use Rattle.registry_core.proofs.FilteredLists.{rising-filter, sum_by-filter_zero}
use Rattle.registry_core.proofs.Users.{ids-users, open_count-users, over_closing, over_unpromised}
use Rattle.registry_core.proofs.Users.{promises-users, times_asked-le}

-- ---- one trace

-- a kept trace of a sound registry has no more tracks than a trace may have
pub few_tracks : (r : RegistryValue) (id : ℕ) (t : Trace) → IsSoundRegistry r
    → kept_trace r.traces id ≡ Some t → length t.tracks ≤ MAX_TRACKS
few_tracks r id t was kept =
    let sound = All-found (IsSoundTrace r.place) (has_id id) r.traces t was.each kept in
    omega (arith, sound.tracks, sound.legal.tracks)

-- ---- questions

-- a trace stays sound that gets two users at most by one more entry
pub sound_trace-used : (place n : ℕ) (t : Trace) → n ≤ 2 → IsSoundTrace place t
    → IsSoundTrace (place + 1) (used_more n t)
sound_trace-used place n t few was = record {
  legal = was.legal;
  tracks = was.tracks;
  users = omega (arith, was.users);
  used = λ closing. omega (arith, was.used closing);
  ended = was.ended;
}

-- as many traces are open when some have more users
pub open_count-asked : (ids : AskIds) (traces : List Trace)
    → open_count (with_users ids traces) ≡ open_count traces
open_count-asked ids traces = open_count-users (λ t. t.users + times_asked ids t.id) traces

-- a question for open traces leaves the registry sound
pub sound-asked : (r : RegistryValue) (ids : AskIds) → IsSoundRegistry r → FitsPlaces r 1
    → first_unknown r ids ≡ None
    → IsSoundRegistry (record (after_entry r) { traces = with_users ids r.traces })
sound-asked r ids was fits known = record {
  rising = subst (IsStrictlySortedBy nat_cmp) (sym (ids-users (λ t. t.users + times_asked ids t.id) r.traces))
      was.rising;
  given = All-map (λ (t : Trace). t.id < r.next_id) (λ t. used_more (times_asked ids t.id) t) r.traces
      was.given;
  first_id = was.first_id;
  last_id = omega (arith, was.last_id);
  few = omega (arith, was.few, open_count-asked ids r.traces);
  promises = was.promises ∙ sym (promises-users (λ t. t.users + times_asked ids t.id) r.traces);
  room = omega (arith, fits);
  each = All-map (IsSoundTrace (r.place + 1)) (λ t. used_more (times_asked ids t.id) t) r.traces
      (λ k d lt. sound_trace-used r.place _ _ (times_asked-le ids _) (was.each k d lt));
}

-- ---- traces that are given back

-- a trace stays sound that has fewer users and isn't over
pub sound_trace-left : (place n : ℕ) (t : Trace) → IsSoundTrace place t
    → not (is_over (used_less n t)) ≡ true → IsSoundTrace place (used_less n t)
sound_trace-left place n t was left = record {
  legal = was.legal;
  tracks = was.tracks;
  users = omega (arith, was.users);
  used = λ closing. pos_unless_both t.closing (t.users - n) left closing;
  ended = was.ended;
}

-- as many traces are open when some were given back
pub open_count-unpinned : (ids : AskIds) (traces : List Trace)
    → open_count (filter (λ t. not (is_over t)) (without_users ids traces)) ≡ open_count traces
open_count-unpinned ids traces = sum_by-filter_zero (λ t. cond (is_open_trace t) 1 0) (λ t. not (is_over t))
    (without_users ids traces) (λ k d lt. over_closing (get_or (without_users ids traces) k d))
    ∙ open_count-users (λ t. t.users - times_asked ids t.id) traces

-- traces that are given back leave the registry sound
pub sound-unpinned : (r : RegistryValue) (ids : AskIds) → IsSoundRegistry r → AreUsed r ids
    → IsSoundRegistry (after_unpin r ids)
sound-unpinned r ids was used =
    let users = λ (t : Trace). t.users - times_asked ids t.id in
    let less = λ (t : Trace). used_less (times_asked ids t.id) t in
    let left = λ (t : Trace). not (is_over t) in
    let lowered = without_users ids r.traces in
    record {
      rising = rising-filter (λ (t : Trace). t.id) left lowered
          (subst (IsStrictlySortedBy nat_cmp) (sym (ids-users users r.traces)) was.rising);
      given = All-filter left (λ (t : Trace). t.id < r.next_id) lowered
          (All-map (λ (t : Trace). t.id < r.next_id) less r.traces was.given);
      first_id = was.first_id;
      last_id = was.last_id;
      few = omega (arith, was.few, open_count-unpinned ids r.traces);
      promises = was.promises ∙ sym (sum_by-filter_zero promise_of left lowered
          (All-map (λ t. left t ≡ false → promise_of t ≡ 0) less r.traces
          (λ k d lt. over_unpromised r.place _ _ (was.each k d lt))) ∙ promises-users users r.traces);
      room = was.room;
      each = λ k d lt. All-filter left (λ t. left t ≡ true → IsSoundTrace r.place t) lowered
          (All-map (λ t. left t ≡ true → IsSoundTrace r.place t) less r.traces
          (λ k d lt. sound_trace-left r.place _ _ (was.each k d lt)))
          k d lt (filter_passes left lowered k d lt);
    }
