use Rattle.std.proofs.Common.{◌≡◌, ◌∙◌, ◌<◌, ◌^◌, ◌+◌, All, length, subst, sym, ap, rules}
use Rattle.std.proofs.lemmas.Bool.{false≢true}
use Rattle.profile_math.specs.Merging.{merged}
use Rattle.profile_math.specs.Sum.{row_place, row_plus, sum_of, RowFits, RisesByFunction}
use Rattle.profile_math.proofs.RowSums.{sum_rows, sum_is, sum-rises, sum-bare}
use Rattle.profile_math.proofs.flat.ProfileSums.add.Goals as goal
use Rattle.profile_math.proofs.flat.ProfileSums.add.Goals.{After-as_slice}

-- the rows of both, merged, are those of the sum
summed : (c : After-as_slice)
    → merged row_place row_plus c.args.self.now.rows c.as_slice.result.now
    ≡ (sum_of c.args.self.now c.args.other.now).rows
summed c = ap (merged row_place row_plus c.args.self.now.rows) c.as_slice.ensures
    ∙ sum_rows c.args.self.now c.args.other.now c.requires.ordered c.requires.other_ordered

pub add_rows-requires : goal.add_rows-requires
add_rows-requires c =
    subst (All RowFits) (sym (summed (goal.at.add_rows-requires c).After-as_slice)) c.requires.fits.1

pub returns-in_err-add_rows-clause-in_place : goal.returns-in_err-add_rows-clause-in_place
returns-in_err-add_rows-clause-in_place c = λ e.
    let t = (goal.at.returns-in_err-add_rows-clause-in_place c).After-as_slice in
    absurd (false≢true (c.in_err-add_rows.ensures.in_place (ap length (summed t) ∙ e)))

pub overflow_add-self : goal.overflow_add-self
overflow_add-self c = let small : c.args.self.now.bare + c.args.other.now.bare < 2 ^ 128 =
    subst (λ n. n < 2 ^ 128) (sum-bare c.args.self.now c.args.other.now) c.requires.fits.0 in search rules

pub returns-clause-ok : goal.returns-clause-ok
returns-clause-ok c =
    let t = (goal.at.returns-clause-ok c).After-as_slice in
    sum_is c.args.self.now c.args.other.now c.add_rows.new.rows (c.in_ok-add_rows.ensures.ok ∙ summed t)

pub returns-clause-ordered : goal.returns-clause-ordered
returns-clause-ordered c =
    let t = (goal.at.returns-clause-ordered c).After-as_slice in
    subst RisesByFunction (sym (c.in_ok-add_rows.ensures.ok ∙ summed t))
    (sum-rises c.args.self.now c.args.other.now)
