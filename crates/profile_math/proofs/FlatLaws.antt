-- The flat profile of several streams, and of two intervals one after the other.
use Rattle.std.proofs.Common.{◌≡◌, ℕ, ◌+◌, ◌<◌, ◌≤◌, false, List, ◌++◌, sum_by, refl, ap, sym}
use Rattle.std.proofs.Common.{◌∙◌, arith}
use Rattle.std.proofs.lemmas.List.Sums.{sum_by-append}
use Rattle.std.proofs.lemmas.List.Sums.{sum_by-le-sum_by}
use Rattle.list_lemmas.proofs.Sums.{sum_by-plus}
use Rattle.trace_base.specs.Flat.{stands, is_bare, is_open_in, is_innermost_in, time_with, calls_in, row_of}
use Rattle.trace_base.specs.Flat.{greatest_function, flat}
use Rattle.trace_base.specs.declared.profile.Profile.{Profile}
use Rattle.trace_base.specs.declared.profile.Row.{Row}
use Rattle.trace_base.specs.declared.stream.TrackStream.{TrackStream}
use Rattle.profile_math.specs.Sum.{row_plus, sum_of, by_function, RisesByFunction}
use Rattle.profile_math.proofs.FlatRows.{standing, standing-is, standing-rises, standing-sum, IsWithin}
use Rattle.profile_math.proofs.FlatRows.{no-stands}
use Rattle.profile_math.proofs.Times.{time-plus, calls-plus, time-le, past-calls, past-time}
use Rattle.profile_math.proofs.Times.{innermost-open}
use Rattle.profile_math.proofs.Times.{greatest-append}

pub flat-rows : (ss : List TrackStream) (a b : ℕ) → (flat ss a b).rows ≡ standing (row_of ss a b)
    (greatest_function ss)
unfolding flat
flat-rows ss a b = sym (standing-is (row_of ss a b) (greatest_function ss))

pub flat-bare : (ss : List TrackStream) (a b : ℕ) → (flat ss a b).bare ≡ sum_by (time_with is_bare a b) ss
unfolding flat
flat-bare ss a b = refl

pub row-func : (ss : List TrackStream) (a b k : ℕ) → (row_of ss a b k).func ≡ k
unfolding row_of
row-func ss a b k = refl

pub row-within : (ss : List TrackStream) (a b k : ℕ) → IsWithin (row_of ss a b k)
unfolding row_of
row-within ss a b k = sum_by-le-sum_by (time_with (is_innermost_in k) a b) (time_with (is_open_in k) a b) ss
    (time-le (is_innermost_in k) (is_open_in k) (innermost-open k) a b)

pub row-past : (ss : List TrackStream) (a b k : ℕ) → greatest_function ss < k
    → stands (row_of ss a b k) ≡ false
unfolding row_of
row-past ss a b k l = no-stands (row_of ss a b k) (past-calls ss k a b l) (past-time ss k a b l)

pub flat-rises : (ss : List TrackStream) (a b : ℕ) → RisesByFunction (flat ss a b).rows
flat-rises ss a b = rw (flat-rows ss a b)
    (standing-rises (row_of ss a b) (row-func ss a b) (greatest_function ss))

row_same : (f c1 c2 i1 i2 e1 e2 : ℕ) → c1 ≡ c2 → i1 ≡ i2 → e1 ≡ e2
    → (let r : Row = record { func = f; calls = c1; incl = i1; excl = e1 } in
    let s : Row = record { func = f; calls = c2; incl = i2; excl = e2 } in r ≡ s)
row_same f c1 c2 i1 i2 e1 e2 ec ei ee = rw (ec, ei, ee) refl

row-streams : (ss ts : List TrackStream) (a b k : ℕ) → row_of (ss ++ ts) a b k ≡ row_plus (row_of ss a b k)
    (row_of ts a b k)
unfolding row_of
row-streams ss ts a b k = row_same k (sum_by (calls_in k a b) (ss ++ ts))
    (sum_by (calls_in k a b) ss + sum_by (calls_in k a b) ts)
    (sum_by (time_with (is_open_in k) a b) (ss ++ ts))
    (sum_by (time_with (is_open_in k) a b) ss + sum_by (time_with (is_open_in k) a b) ts)
    (sum_by (time_with (is_innermost_in k) a b) (ss ++ ts))
    (sum_by (time_with (is_innermost_in k) a b) ss + sum_by (time_with (is_innermost_in k) a b) ts)
    (sum_by-append (calls_in k a b) ss ts)
    (sum_by-append (time_with (is_open_in k) a b) ss ts)
    (sum_by-append (time_with (is_innermost_in k) a b) ss ts)

row-times : (ss : List TrackStream) (a b c k : ℕ) → a ≤ b → b ≤ c
    → row_of ss a c k ≡ row_plus (row_of ss a b k)
    (row_of ss b c k)
unfolding row_of
row-times ss a b c k h g = row_same k (sum_by (calls_in k a c) ss)
    (sum_by (calls_in k a b) ss + sum_by (calls_in k b c) ss)
    (sum_by (time_with (is_open_in k) a c) ss)
    (sum_by (time_with (is_open_in k) a b) ss + sum_by (time_with (is_open_in k) b c) ss)
    (sum_by (time_with (is_innermost_in k) a c) ss)
    (sum_by (time_with (is_innermost_in k) a b) ss + sum_by (time_with (is_innermost_in k) b c) ss)
    (sum_by-plus (calls_in k a c) (calls_in k a b) (calls_in k b c) (calls-plus k a b c h g) ss)
    (sum_by-plus (time_with (is_open_in k) a c) (time_with (is_open_in k) a b) (time_with (is_open_in k) b c)
    (time-plus (is_open_in k) a b c h g) ss)
    (sum_by-plus (time_with (is_innermost_in k) a c) (time_with (is_innermost_in k) a b)
    (time_with (is_innermost_in k) b c) (time-plus (is_innermost_in k) a b c h g) ss)

profile_same : (p q s : Profile) → p.bare ≡ q.bare + s.bare → p.rows ≡ by_function (q.rows ++ s.rows)
    → p ≡ sum_of q s
unfolding sum_of
profile_same p q s e g = ap (λ n. let x : Profile = record { bare = n; rows = p.rows } in x) e
    ∙ ap (λ us. let x : Profile = record { bare = q.bare + s.bare; rows = us } in x) g

-- the profile of several streams is the sum of each one's
pub flat-streams : (ss ts : List TrackStream) (a b : ℕ) → flat (ss ++ ts) a b ≡ sum_of (flat ss a b)
    (flat ts a b)
flat-streams ss ts a b = profile_same (flat (ss ++ ts) a b) (flat ss a b) (flat ts a b)
    (flat-bare (ss ++ ts) a b ∙ sum_by-append (time_with is_bare a b) ss ts
    ∙ sym (ap (λ n. n + (flat ts a b).bare) (flat-bare ss a b)
    ∙ ap (λ n. sum_by (time_with is_bare a b) ss + n) (flat-bare ts a b)))
    (flat-rows (ss ++ ts) a b
    ∙ standing-sum (row_of (ss ++ ts) a b) (row_of ss a b) (row_of ts a b) (greatest_function (ss ++ ts))
    (greatest_function ss) (greatest_function ts) (row-func ss a b) (row-func ts a b) (row-streams ss ts a b)
    (row-within ss a b) (row-within ts a b) (row-past ss a b) (row-past ts a b) (greatest-append ss ts).0
    (greatest-append ss ts).1
    ∙ sym (ap (λ (us : List Row). by_function (us ++ (flat ts a b).rows)) (flat-rows ss a b)
    ∙ ap (λ (us : List Row). by_function (standing (row_of ss a b) (greatest_function ss) ++ us))
    (flat-rows ts a b)))

-- the profile of two intervals one after the other is the sum of theirs
pub flat-times : (ss : List TrackStream) (a b c : ℕ) → a ≤ b → b ≤ c
    → flat ss a c ≡ sum_of (flat ss a b) (flat ss b c)
flat-times ss a b c h g = profile_same (flat ss a c) (flat ss a b) (flat ss b c)
    (flat-bare ss a c ∙ sum_by-plus (time_with is_bare a c) (time_with is_bare a b) (time_with is_bare b c)
    (time-plus is_bare a b c h g) ss
    ∙ sym (ap (λ n. n + (flat ss b c).bare) (flat-bare ss a b)
    ∙ ap (λ n. sum_by (time_with is_bare a b) ss + n) (flat-bare ss b c)))
    (flat-rows ss a c
    ∙ standing-sum (row_of ss a c) (row_of ss a b) (row_of ss b c) (greatest_function ss)
    (greatest_function ss) (greatest_function ss) (row-func ss a b) (row-func ss b c)
    (λ k. row-times ss a b c k h g)
    (row-within ss a b) (row-within ss b c) (row-past ss a b) (row-past ss b c) (omega arith) (omega arith)
    ∙ sym (ap (λ (us : List Row). by_function (us ++ (flat ss b c).rows)) (flat-rows ss a b)
    ∙ ap (λ (us : List Row). by_function (standing (row_of ss a b) (greatest_function ss) ++ us))
    (flat-rows ss b c)))

pub ruleset laws = (flat-streams, flat-times, flat-rises)
