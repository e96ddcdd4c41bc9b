-- Streams over an interval and others over another one, where time and calls are alike: their profiles are
-- the same.
use Rattle.std.proofs.Common.{◌≡◌, ℕ, ◌<◌, zero, suc, Bool, false, true, List, sum_by, filter, map, ap}
use Rattle.std.proofs.Common.{sym, ◌∙◌, inl, arith, refl}
use Rattle.std.specs.List.{Contains}
use Rattle.std.specs.List.Sorted.{IsStrictlySortedBy}
use Rattle.std.specs.Ordering.{nat_cmp}
use Rattle.std.proofs.lemmas.Cmp.{nat_list_cmp_total}
use Rattle.std.proofs.lemmas.List.Kept.{IsStrictlySortedBy-filter}
use Rattle.list_lemmas.proofs.InOrder.{rising-unique}
use Rattle.list_lemmas.proofs.Maps.{map_agree}
use Rattle.list_lemmas.proofs.Members.{filter-has, filter-keeps}
use Rattle.list_lemmas.proofs.Numbers.{either_pos-same}
use Rattle.profile_math.proofs.FlatLaws.{flat-bare, flat-rows, row-func, row-past}
use Rattle.profile_math.proofs.FlatRows.{at-any, kept, standing, standing-climbs, standing-out}
use Rattle.profile_math.proofs.Keyed.{at, one_list}
use Rattle.profile_math.proofs.PathLaws.{paths-bare, paths-told}
use Rattle.profile_math.proofs.PathMerging.{lex}
use Rattle.profile_math.proofs.RowSums.{func_of, row_totals}
use Rattle.trace_base.proofs.CallPaths.{call_paths-rising}
use Rattle.trace_base.specs.Flat.{calls_in, flat, greatest_function, is_bare, is_innermost_in, is_open_in}
use Rattle.trace_base.specs.Flat.{row_of, stands, time_with}
use Rattle.trace_base.specs.Paths.{call_paths, calls_making, is_path, is_under, path_row, path_stands, paths}
use Rattle.trace_base.specs.declared.profile.PathProfile.{PathProfile}
use Rattle.trace_base.specs.declared.profile.Profile.{Profile}
use Rattle.trace_base.specs.declared.profile.Row.{Row}
use Rattle.trace_base.specs.declared.stream.TrackStream.{TrackStream}

-- the streams over [a, b) have as much time and as many calls as the others over [c, d)
pub record AreAlike (ss : List TrackStream) (a b : ℕ) (ts : List TrackStream) (c d : ℕ) : Type 0 where
  pub time : (has : List ℕ → Bool) → sum_by (time_with has a b) ss ≡ sum_by (time_with has c d) ts
  pub calls : (f : ℕ) → sum_by (calls_in f a b) ss ≡ sum_by (calls_in f c d) ts
  pub making : (has : List ℕ → Bool) → sum_by (calls_making has a b) ss ≡ sum_by (calls_making has c d) ts

-- ---- flat

row-alike : (ss ts : List TrackStream) (a b c d : ℕ) → AreAlike ss a b ts c d → (f : ℕ)
    → row_of ss a b f ≡ row_of ts c d f
unfolding row_of
row-alike ss ts a b c d h f = rw (h.calls f, h.time (is_open_in f), h.time (is_innermost_in f)) refl

-- the same rows, where none stands past those that each list has
standing-alike : (r s : ℕ → Row) (n m : ℕ) → ((k : ℕ) → (r k).func ≡ k) → ((k : ℕ) → (s k).func ≡ k)
    → ((k : ℕ) → r k ≡ s k) → ((k : ℕ) → n < k → stands (r k) ≡ false)
    → ((k : ℕ) → m < k → stands (s k) ≡ false) → standing r n ≡ standing s m
standing-alike r s n m own_r own_s same past_r past_s = one_list nat_cmp row_totals.order func_of
    (standing r n) (standing s m) (standing-climbs r own_r n) (standing-climbs s own_s m) at-each
  where
    at-each : (k : ℕ) → at nat_cmp func_of k (standing r n) ≡ at nat_cmp func_of k (standing s m)
    at-each zero = standing-out r own_r n 0 (inl refl) ∙ sym (standing-out s own_s m 0 (inl refl))
    at-each (suc k) = at-any r own_r n (suc k) (omega arith) (past_r (suc k))
        ∙ ap kept (same (suc k))
        ∙ sym (at-any s own_s m (suc k) (omega arith) (past_s (suc k)))

profile_same : (p q : Profile) → p.bare ≡ q.bare → p.rows ≡ q.rows → p ≡ q
profile_same p q e g = ap (λ n. let x : Profile = record { bare = n; rows = p.rows } in x) e
    ∙ ap (λ us. let x : Profile = record { bare = q.bare; rows = us } in x) g

pub flat-alike : (ss ts : List TrackStream) (a b c d : ℕ) → AreAlike ss a b ts c d → flat ss a b ≡ flat ts c d
flat-alike ss ts a b c d h = profile_same (flat ss a b) (flat ts c d)
    (flat-bare ss a b ∙ h.time is_bare ∙ sym (flat-bare ts c d))
    (flat-rows ss a b
    ∙ standing-alike (row_of ss a b) (row_of ts c d) (greatest_function ss) (greatest_function ts)
    (row-func ss a b) (row-func ts c d) (row-alike ss ts a b c d h) (row-past ss a b) (row-past ts c d)
    ∙ sym (flat-rows ts c d))

-- ---- by call paths

path_row-alike : (ss ts : List TrackStream) (a b c d : ℕ) → AreAlike ss a b ts c d → (k : List ℕ)
    → path_row ss a b k ≡ path_row ts c d k
unfolding path_row
path_row-alike ss ts a b c d h k = rw (h.making (is_path k), h.time (is_under k), h.time (is_path k)) refl

stands-alike : (ss ts : List TrackStream) (a b c d : ℕ) → AreAlike ss a b ts c d → (k : List ℕ)
    → path_stands ss a b k ≡ path_stands ts c d k
unfolding path_stands
stands-alike ss ts a b c d h k = either_pos-same
    (sum_by (calls_making (is_under k) a b) ss) (sum_by (calls_making (is_under k) c d) ts)
    (sum_by (time_with (is_under k) a b) ss) (sum_by (time_with (is_under k) c d) ts)
    (h.making (is_under k)) (h.time (is_under k))

-- the paths of the streams that stand
standing_paths : List TrackStream → ℕ → ℕ → List (List ℕ)
standing_paths ss a b = filter (path_stands ss a b) (call_paths ss)

-- a path stands where alike streams have it, too
also-stands : (ss ts : List TrackStream) (a b c d : ℕ) → AreAlike ss a b ts c d → (k : List ℕ)
    → Contains (standing_paths ss a b) k → Contains (standing_paths ts c d) k
unfolding standing_paths
also-stands ss ts a b c d h k has =
    let here = filter-has (path_stands ss a b) (call_paths ss) k has in
    let there : path_stands ts c d k ≡ true = sym (stands-alike ss ts a b c d h k) ∙ here.1 in
    filter-keeps (path_stands ts c d) (call_paths ts) k
    ((paths-told ts c d).known k ((paths-told ss a b).some k here.0) there) there

standing-rise : (ss : List TrackStream) (a b : ℕ) → IsStrictlySortedBy lex (standing_paths ss a b)
unfolding standing_paths
standing-rise ss a b = IsStrictlySortedBy-filter lex (path_stands ss a b) (call_paths ss)
    (call_paths-rising ss).rises

turned_alike : (ss ts : List TrackStream) (a b c d : ℕ) → AreAlike ss a b ts c d → AreAlike ts c d ss a b
turned_alike ss ts a b c d h = record {
  time = λ has. sym (h.time has);
  calls = λ f. sym (h.calls f);
  making = λ has. sym (h.making has);
}

path_rows-alike : (ss ts : List TrackStream) (a b c d : ℕ) → AreAlike ss a b ts c d
    → (paths ss a b).rows ≡ (paths ts c d).rows
unfolding paths standing_paths
path_rows-alike ss ts a b c d h =
    ap (map (path_row ss a b)) (rising-unique lex nat_list_cmp_total (standing_paths ss a b)
    (standing_paths ts c d) (standing-rise ss a b) (standing-rise ts c d) (also-stands ss ts a b c d h)
    (also-stands ts ss c d a b (turned_alike ss ts a b c d h)))
    ∙ map_agree (path_row ss a b) (path_row ts c d) (path_row-alike ss ts a b c d h) (standing_paths ts c d)

path_profile_same : (p q : PathProfile) → p.bare ≡ q.bare → p.rows ≡ q.rows → p ≡ q
path_profile_same p q e g = ap (λ n. let x : PathProfile = record { bare = n; rows = p.rows } in x) e
    ∙ ap (λ us. let x : PathProfile = record { bare = q.bare; rows = us } in x) g

pub paths-alike : (ss ts : List TrackStream) (a b c d : ℕ) → AreAlike ss a b ts c d
    → paths ss a b ≡ paths ts c d
paths-alike ss ts a b c d h = path_profile_same (paths ss a b) (paths ts c d)
    (paths-bare ss a b ∙ h.time is_bare ∙ sym (paths-bare ts c d)) (path_rows-alike ss ts a b c d h)
