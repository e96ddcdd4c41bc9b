-- A test that shows a written-out trace to have a canonical text, by computing.
use Rattle.std.proofs.Common.{◌≡◌, ◌+◌, Bool, true, ◌&&◌, nat_le, nat_lt, nat_eq}
use Rattle.std.proofs.Common.{length, slice_get, fold, max, sum_by, Some}
use Rattle.std.specs.List.{AllByRecursion, list_all, range_with_len, zip}
use Rattle.std.proofs.lemmas.Bool.{and_parts, leb-true, ltb-true}
use Rattle.std.proofs.lemmas.List.Elements.{All-from_recursion}
use Rattle.std.proofs.lemmas.Slice.Eq.{bytes_eq-Decides}
use Rattle.std.specs.Str.{bytes_eq}
use Rattle.list_lemmas.proofs.Distinct.{AreApart, one_place}
use Rattle.list_lemmas.proofs.Each.{all_by_test}
use Rattle.trace_base.specs.Info.{NamesExisting}
use Rattle.trace_base.specs.Stream.{IsLegal}
use Rattle.trace_base.specs.declared.limits.TheConstants.{MAX_CONTAINERS, MAX_FUNCTIONS, MAX_LINK_EVENTS}
use Rattle.trace_base.specs.declared.limits.TheConstants.{MAX_STATE_EVENTS, MAX_TEXT, MAX_TIME}
use Rattle.trace_base.specs.declared.limits.TheConstants.{MAX_TRACE_LINE}
use Rattle.trace_base.specs.declared.limits.TheConstants.{MAX_TRACKS, MAX_TYPES}
use Rattle.trace_base.specs.declared.messages.LinkEvent.{LinkEvent}
use Rattle.trace_base.specs.declared.names.Container.{Container}
use Rattle.trace_base.specs.declared.names.Track.{Track}
use Rattle.trace_base.specs.declared.names.TraceNames.{TraceNames}
use Rattle.trace_base.specs.declared.text.TraceText.{TraceText}
use Rattle.paje_lines.specs.Found.{distinct_by}
use Rattle.paje_lines.specs.States.{is_same}
use Rattle.paje_lines.proofs.Tracks.{tells_track}
use Rattle.paje_print.specs.Canonical.{FitsOnLine, HasCanonicalSize, IsBelowRoot, IsCanonical, IsQuotable}
use Rattle.paje_print.specs.Canonical.{KeepsLimits, LinksExisting, SpansItsContainer, StartsBeforeItsEnd}
use Rattle.paje_print.specs.Canonical.{functions_called, last_moments, root_until, size_limit, state_lines_of}
use Rattle.paje_print.specs.Canonical.{texts_in}
use Rattle.paje_print.specs.CanonicalText.{canonical_lines, canonical_text}
use Rattle.paje_print.specs.WrittenWords.{WrittenLine, line_text}
use Rattle.paje_print.proofs.GeneratedQuotes.{is_plain, quotable}

-- ---- the parts of the test

abbrev pub starts_before_its_end : Container → Bool
starts_before_its_end c = nat_le c.start c.end

abbrev pub names_existing : TraceNames → Track → Bool
names_existing names track =
    nat_lt track.container (length names.containers) && nat_lt track.kind (length names.kinds)

abbrev pub is_below_root : Track → Bool
is_below_root track = nat_lt 0 track.container

abbrev pub links_existing : TraceNames → LinkEvent → Bool
links_existing names l = nat_lt l.container (length names.containers) && nat_lt l.kind
    (length names.link_kinds)

abbrev pub has_canonical_size : LinkEvent → Bool
has_canonical_size l = nat_lt l.size (size_limit l.starts)

abbrev pub fits_on_line : WrittenLine → Bool
fits_on_line line = nat_le (length (line_text line)) MAX_TRACE_LINE

abbrev pub keeps_limits : TraceText → Bool
keeps_limits t = nat_le t.names.end MAX_TIME && (nat_le (length t.names.containers) MAX_CONTAINERS
    && (nat_le (1 + length t.names.kinds + length t.names.link_kinds) MAX_TYPES
    && (nat_le (length t.names.tracks) MAX_TRACKS && (nat_le (length t.names.functions) MAX_FUNCTIONS
    && (nat_le (sum_by state_lines_of t.tracks) MAX_STATE_EVENTS
    && (nat_le (length t.links) MAX_LINK_EVENTS && (list_all fits_on_line (canonical_lines t)
    && nat_le (length (canonical_text t)) MAX_TEXT)))))))

-- of all that can be computed as true or false
abbrev pub passes : TraceText → Bool
passes t = list_all (list_all is_plain) (texts_in t) && (list_all starts_before_its_end t.names.containers
    && (list_all (names_existing t.names) t.names.tracks && (list_all is_below_root t.names.tracks
    && (list_all (links_existing t.names) t.links && (list_all has_canonical_size t.links
    && keeps_limits t)))))

-- and of what it has in order
pub record PassesTest (t : TraceText) : Type 0 where
  pub test : passes t ≡ true
  pub root : slice_get t.names.containers 0 ≡ Some (root_until t.names.end)
  pub streams : length t.tracks ≡ length t.names.tracks
  pub numbered : distinct_by nat_eq (functions_called t) ≡ range_with_len 1 (length t.names.functions)
  pub end : t.names.end ≡ fold max 0 (last_moments t)

-- ---- what they tell

limits_kept : (t : TraceText) → keeps_limits t ≡ true → KeepsLimits t
limits_kept t e =
    let time = and_parts (nat_le t.names.end MAX_TIME) _ e in
    let containers = and_parts (nat_le (length t.names.containers) MAX_CONTAINERS) _ time.1 in
    let types = and_parts (nat_le (1 + length t.names.kinds + length t.names.link_kinds) MAX_TYPES) _
    containers.1 in
    let tracks = and_parts (nat_le (length t.names.tracks) MAX_TRACKS) _ types.1 in
    let functions = and_parts (nat_le (length t.names.functions) MAX_FUNCTIONS) _ tracks.1 in
    let states = and_parts (nat_le (sum_by state_lines_of t.tracks) MAX_STATE_EVENTS) _ functions.1 in
    let links = and_parts (nat_le (length t.links) MAX_LINK_EVENTS) _ states.1 in
    let lines = and_parts (list_all fits_on_line (canonical_lines t)) _ links.1 in
    record {
      time = leb-true t.names.end MAX_TIME time.0;
      containers = leb-true (length t.names.containers) MAX_CONTAINERS containers.0;
      types = leb-true (1 + length t.names.kinds + length t.names.link_kinds) MAX_TYPES types.0;
      tracks = leb-true (length t.names.tracks) MAX_TRACKS tracks.0;
      functions = leb-true (length t.names.functions) MAX_FUNCTIONS functions.0;
      states = leb-true (sum_by state_lines_of t.tracks) MAX_STATE_EVENTS states.0;
      links = leb-true (length t.links) MAX_LINK_EVENTS links.0;
      lines = All-from_recursion FitsOnLine (canonical_lines t)
          (all_by_test fits_on_line FitsOnLine (λ line e. leb-true (length (line_text line)) MAX_TRACE_LINE e)
          (canonical_lines t) lines.0);
      text = leb-true (length (canonical_text t)) MAX_TEXT lines.1;
    }

pub IsCanonical-from : (t : TraceText) → PassesTest t → AreApart is_same t.names.tracks
    → AllByRecursion (SpansItsContainer t.names) (zip t.names.tracks t.tracks)
    → AllByRecursion IsLegal t.tracks → AreApart bytes_eq t.names.functions → IsCanonical t
IsCanonical-from t tests distinct spans legal different =
    let texts = and_parts (list_all (list_all is_plain) (texts_in t)) _ tests.test in
    let intervals = and_parts (list_all starts_before_its_end t.names.containers) _ texts.1 in
    let existing = and_parts (list_all (names_existing t.names) t.names.tracks) _ intervals.1 in
    let below_root = and_parts (list_all is_below_root t.names.tracks) _ existing.1 in
    let links = and_parts (list_all (links_existing t.names) t.links) _ below_root.1 in
    let sizes = and_parts (list_all has_canonical_size t.links) _ links.1 in
    record {
      texts = All-from_recursion IsQuotable (texts_in t)
          (all_by_test (list_all is_plain) IsQuotable quotable (texts_in t) texts.0);
      root = tests.root;
      intervals = All-from_recursion StartsBeforeItsEnd t.names.containers
          (all_by_test starts_before_its_end StartsBeforeItsEnd (λ c e. leb-true c.start c.end e)
          t.names.containers
          intervals.0);
      streams = tests.streams;
      existing = All-from_recursion (NamesExisting t.names) t.names.tracks
          (all_by_test (names_existing t.names) (NamesExisting t.names) exists t.names.tracks existing.0);
      below_root = All-from_recursion IsBelowRoot t.names.tracks
          (all_by_test is_below_root IsBelowRoot (λ track e. ltb-true 0 track.container e) t.names.tracks
          below_root.0);
      distinct = one_place is_same tells_track t.names.tracks distinct;
      spans = All-from_recursion (SpansItsContainer t.names) (zip t.names.tracks t.tracks) spans;
      legal = All-from_recursion IsLegal t.tracks legal;
      different = one_place bytes_eq bytes_eq-Decides t.names.functions different;
      numbered = tests.numbered;
      linked = All-from_recursion (LinksExisting t.names) t.links
          (all_by_test (links_existing t.names) (LinksExisting t.names) linked t.links links.0);
      sizes = All-from_recursion HasCanonicalSize t.links
          (all_by_test has_canonical_size HasCanonicalSize (λ l e. ltb-true l.size (size_limit l.starts) e)
          t.links
          sizes.0);
      end = tests.end;
      limits = limits_kept t sizes.1;
    }
  where
    exists : (track : Track) → names_existing t.names track ≡ true → NamesExisting t.names track
    exists track e =
        let both = and_parts (nat_lt track.container (length t.names.containers)) _ e in (
          ltb-true track.container (length t.names.containers) both.0,
          ltb-true track.kind (length t.names.kinds) both.1,
        )

    linked : (l : LinkEvent) → links_existing t.names l ≡ true → LinksExisting t.names l
    linked l e =
        let both = and_parts (nat_lt l.container (length t.names.containers)) _ e in (
          ltb-true l.container (length t.names.containers) both.0,
          ltb-true l.kind (length t.names.link_kinds) both.1,
        )
