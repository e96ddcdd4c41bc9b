use Rattle.std.proofs.Common.{◌≡◌, [], ◌∷◌, List, refl, arith, ℕ, ◌<◌}
use Rattle.std.specs.Prelude.{IsSome}
use Rattle.hall_history.specs.History.{Entry, Opened, Published, Sealed, Dropped, Closed, Asked, opened_ids}
use Rattle.hall_history.specs.History.{info_of, published_of, is_open, is_loading, open_ids}
use Rattle.hall_history.specs.History.{MayFollow}
use Rattle.hall_history.specs.History.{tracks_of}
use Rattle.hall_history.specs.Examples.{lone, bare, quiet, quiet_tree}
use Rattle.hall_history.proofs.Legal.{legal_more, legal_none}
use Rattle.hall_history.proofs.Samples.{quiet_fits, lone_legal, bare_legal}
use Rattle.hall_history.proofs.examples.small_history_is_legal.Goals as goal

-- each entry of the small history may come after those before it
after_none : MayFollow [] (Opened 1 lone)
unfolding opened_ids open_ids
after_none = (refl, lone_legal, omega arith)

one : List Entry
one = Opened 1 lone ∷ []

after_one : MayFollow one (Published 1 0 quiet_tree)
unfolding one opened_ids info_of published_of is_open is_loading
after_one =
    (refl, refl, (quiet, (lone, refl, omega arith, quiet_fits lone quiet (48 ∷ []) refl refl refl), refl))

two : List Entry
two = Opened 1 lone ∷ Published 1 0 quiet_tree ∷ []

three : List Entry
three = Opened 1 lone ∷ Published 1 0 quiet_tree ∷ Asked ∷ []

published : (track : ℕ) → track < tracks_of three 1 → IsSome (published_of three 1 track)
unfolding three info_of published_of
published track below = let first : track ≡ 0 = omega arith in rw first refl

after_three : MayFollow three (Sealed 1)
unfolding three opened_ids is_open is_loading
after_three = (refl, published)

four : List Entry
four = Opened 1 lone ∷ Published 1 0 quiet_tree ∷ Asked ∷ Sealed 1 ∷ []

after_four : MayFollow four (Opened 2 bare)
unfolding four opened_ids is_open open_ids
after_four = (refl, bare_legal, omega arith)

five : List Entry
five = Opened 1 lone ∷ Published 1 0 quiet_tree ∷ Asked ∷ Sealed 1 ∷ Opened 2 bare ∷ []

after_five : MayFollow five (Closed 1)
unfolding five opened_ids is_open is_loading
after_five = (refl, refl)

six : List Entry
six = Opened 1 lone ∷ Published 1 0 quiet_tree ∷ Asked ∷ Sealed 1 ∷ Opened 2 bare ∷ Closed 1 ∷ []

after_six : MayFollow six (Dropped 2)
unfolding six opened_ids is_open is_loading
after_six = refl

pub returns : goal.returns
unfolding one two three four five six
returns c = legal_more six (Dropped 2) (legal_more five (Closed 1) (legal_more four (Opened 2 bare)
    (legal_more three (Sealed 1) (legal_more two Asked (legal_more one (Published 1 0 quiet_tree)
    (legal_more [] (Opened 1 lone) legal_none after_none) after_one) tt) after_three) after_four) after_five)
    after_six
