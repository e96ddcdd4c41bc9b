-- The kids of a key: those that it is made over, and none behind them.
use Rattle.std.proofs.Common.{◌≡◌, ℕ, ◌+◌, ◌-◌, ◌≤◌, List, ◌++◌, length, drop, replicate, sum_by, arith}
use Rattle.std.proofs.Common.{◌∙◌, ap}
use Rattle.std.proofs.lemmas.List.{drop-replicate}
use Rattle.std.proofs.lemmas.List.Folds.{sum_by-replicate}
use Rattle.std.proofs.lemmas.List.Sums.{sum_by-append}
use Rattle.std.proofs.Math.Seq.{drop-append_seam}
use Rattle.node_key.specs.declared.key.Kid.{Kid}

abbrev pub no_kid : Kid
no_kid = record { gap = 0; span = 0; node = 0 }

-- eight kids, of which these are the first
abbrev pub filled : List Kid → List Kid
filled kids = kids ++ drop (length kids) (replicate 8 no_kid)

pub filled-behind : (kids : List Kid) → drop (length kids) (filled kids) ≡ replicate (8 - length kids) no_kid
filled-behind kids = drop-append_seam kids (drop (length kids) (replicate 8 no_kid))
    ∙ drop-replicate (length kids) 8 no_kid

-- they take no longer than those in front
pub filled-within : (kids : List Kid) (dur : ℕ) → sum_by (λ (k : Kid). k.gap + k.span) kids ≤ dur
    → sum_by (λ (k : Kid). k.gap + k.span) (filled kids) ≤ dur
filled-within kids dur within =
    let f = λ (k : Kid). k.gap + k.span in
    omega (
      arith,
      within,
      sum_by-append f kids (drop (length kids) (replicate 8 no_kid)),
      ap (sum_by f) (drop-replicate (length kids) 8 no_kid),
      sum_by-replicate f (8 - length kids) no_kid,
    )
