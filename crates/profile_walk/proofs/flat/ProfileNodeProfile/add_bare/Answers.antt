use Rattle.std.proofs.Common.{◌≡◌, ◌+◌, ◌<◌, ◌^◌, ◌∙◌, ℕ, List, [], ◌∷◌, ap, refl, sym, subst, rules}
use Rattle.profile_math.proofs.RowSums.{by_function-rises, sum-bare, sum_is, sum_rows}
use Rattle.profile_math.specs.InOrder.{in_order}
use Rattle.profile_math.specs.Merging.{merged}
use Rattle.profile_math.specs.Sum.{RisesByFunction, by_function, row_place, row_plus}
use Rattle.trace_base.specs.declared.profile.Profile.{Profile}
use Rattle.trace_base.specs.declared.profile.Row.{Row}
use Rattle.profile_walk.proofs.flat.ProfileNodeProfile.add_bare.Goals as goal

merged-nil : (rows : List Row) → merged row_place row_plus rows [] ≡ rows
unfolding merged
merged-nil [] = refl
merged-nil (r ∷ rows) = refl

no-rows : RisesByFunction []
unfolding by_function in_order
no-rows = by_function-rises []

-- time in which no call is open
bare : ℕ → Profile
bare time = record { bare = time; rows = [] }

pub overflow_add-self : goal.overflow_add-self
unfolding bare
overflow_add-self c =
    let small : c.args.self.now.bare + c.args.time < 2 ^ 128 =
    subst (λ (n : ℕ). n < 2 ^ 128) (sum-bare c.args.self.now (bare c.args.time)) c.requires.fits.0 in
    search rules

pub returns : goal.returns
unfolding bare
returns c =
    let p = c.args.self.now in
    ap (λ (n : ℕ). let q : Profile = record { bare = p.bare + n; rows = p.rows } in q) c.from.ensures
    ∙ sum_is p (bare c.args.time) p.rows
    (sym (merged-nil p.rows) ∙ sum_rows p (bare c.args.time) c.requires.ordered no-rows)
