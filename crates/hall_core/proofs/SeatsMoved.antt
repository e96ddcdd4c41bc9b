-- Seats of which two have changed.
use Rattle.std.proofs.Common.{◌≡◌, ◌≢◌, ℕ, ◌<◌, List, [], ◌++◌, Some, sym, ap}
use Rattle.std.proofs.Common.{◌∙◌, arith, length, get_or, set, slice_get}
use Rattle.std.proofs.lemmas.List.{get_or-set_other, get_or-set_same, length-set, set-get_or}
use Rattle.std.proofs.lemmas.Option.{get_or_from_slice_get}
use Rattle.list_lemmas.proofs.Positions.{set_twice}
use Rattle.node_key.specs.declared.stake.Stake.{Stake}
use Rattle.hall_core.specs.declared.world.SeatView.{SeatView}

-- the seat with these stakes
abbrev pub with_stakes : List Stake → SeatView → SeatView
with_stakes stakes seat = record seat { stakes = stakes }

-- Each of two seats is read and written, and then once more.
module _ (xs : List SeatView) (i j : ℕ) (x x' y y' : SeatView) (p q r s : List Stake) (apart : i ≢ j)
    (there : i < length xs) (there' : j < length xs)
    (is-x : x ≡ get_or xs i x) (is-y : y ≡ get_or (set xs i (with_stakes p x)) j y)
    (is-y' : y' ≡ get_or (set (set xs i (with_stakes p x)) j (with_stakes q y)) j y')
    (is-x' : x' ≡ get_or (set (set (set xs i (with_stakes p x)) j (with_stakes q y)) j (with_stakes r y'))
    i x')
  where
    -- the seats after the first write
    abbrev pub once : List SeatView
    once = set xs i (with_stakes p x)

    -- the seats after the second one
    abbrev pub twice : List SeatView
    twice = set once j (with_stakes q y)

    -- the seats in the end
    abbrev pub all : List SeatView
    all = set (set twice j (with_stakes r y')) i (with_stakes s x')

    -- what is read of the second seat is what stood there
    read-second : y ≡ get_or xs j y
    read-second = is-y ∙ get_or-set_other xs i j (with_stakes p x) y (λ e. apart (sym e))

    -- what is read of it once more is what was written
    second-again : y' ≡ with_stakes q y
    second-again =
        let within : j < length once = omega (arith, length-set xs i (with_stakes p x)) in
        is-y' ∙ get_or-set_same once j (with_stakes q y) y' within

    -- what is read of the first seat once more is what was written
    first-again : x' ≡ with_stakes p x
    first-again =
        is-x'
        ∙ get_or-set_other twice j i (with_stakes r y') x' apart
        ∙ get_or-set_other once j i (with_stakes q y) x' apart
        ∙ get_or-set_same xs i (with_stakes p x) x' there

    -- the stakes that were written last
    written : all ≡ set (set xs i (with_stakes s x)) j (with_stakes r y)
    written =
        ap (λ z. set (set twice j (with_stakes r y')) i (with_stakes s z)) first-again
        ∙ ap (λ z. set (set twice j (with_stakes r z)) i (with_stakes s x)) second-again
        ∙ set_twice xs i j (with_stakes p x) (with_stakes q y) (with_stakes r y) (with_stakes s x) apart

    -- where they went from one seat to the other
    pub moved : (a b : SeatView) → slice_get xs i ≡ Some a → slice_get xs j ≡ Some b → s ≡ []
        → r ≡ y.stakes ++ x.stakes
        → all ≡ set (set xs i (with_stakes [] a)) j (with_stakes (b.stakes ++ a.stakes) b)
    moved a b at at' none both =
        let is-a : x ≡ a = is-x ∙ get_or_from_slice_get xs i a x at in
        let is-b : y ≡ b = read-second ∙ get_or_from_slice_get xs j b y at' in
        written
        ∙ ap (λ z. set (set xs i (with_stakes z x)) j (with_stakes r y)) none
        ∙ ap (λ z. set (set xs i (with_stakes [] x)) j (with_stakes z y)) both
        ∙ ap (λ z. set (set xs i (with_stakes [] z)) j (with_stakes (y.stakes ++ z.stakes) y)) is-a
        ∙ ap (λ z. set (set xs i (with_stakes [] a)) j (with_stakes (z.stakes ++ a.stakes) z)) is-b

    -- where each seat kept its own
    pub stayed : s ≡ x.stakes → r ≡ y.stakes → all ≡ xs
    stayed own own' =
        written
        ∙ ap (λ z. set (set xs i (with_stakes z x)) j (with_stakes r y)) own
        ∙ ap (λ z. set (set xs i x) j (with_stakes z y)) own'
        ∙ ap (λ z. set (set xs i z) j y) is-x
        ∙ ap (λ zs. set zs j y) (set-get_or xs i x)
        ∙ ap (λ z. set xs j z) read-second
        ∙ set-get_or xs j y
